-- WHERE AN EARLY REFUSAL POINTS TO (C-11): a refusal about an edge names the first bad edge of its kind, the logical list first; every other names none. The words are those of
-- findings/specs/Places.antt.
use Rattle.std.specs.Prelude.{◌≡◌, Bool, not, ℕ, ltb, length, Err}
use Rattle.laws.specs.Words.{one_f}
use Rattle.board.specs.Hits.{EdgeList, Board}
use Rattle.refusals.specs.declared.Refusal.{Refusal}
use Rattle.refusals.specs.declared.ListName.{ListName}
use Rattle.refusals.specs.declared.ListName.TheVariants as list
use Rattle.checks.specs.Checks.{origin_bad}
use Rattle.ranges.specs.Ranges.{in_range, transforms_bad}
use Rattle.findings.specs.Findings.{joined, room_findings, list_findings, settings_findings}
use Rattle.findings.specs.Places.{two_lists, one_list, no_likelihoods, unlikely_in, counted, bad_in, PlaceRight}
use Rattle.findings.proofs.PlacesLaws.{of-refusal, of-found, each-joined, each-room, each-settings, each-lists, each-likelihoods, each-list}
use Rattle.admission.specs.Calls.{HardCall, SoftCall}
use Rattle.admission.specs.Refusals.{tables_bad, room_short, soft_room_short, both_lists, soft_likelihoods, soft_settings_bad, hard_admission, soft_admission, stats_admission}

-- how many edges each list of a call has, and which edges are bad in the way of a number
abbrev pub hard_count : HardCall → ListName → ℕ
hard_count call = counted (two_lists call.logical call.physical)

abbrev pub hard_bad : HardCall → ℕ → ListName → ℕ → Bool
hard_bad call = bad_in (two_lists call.logical call.physical) no_likelihoods

abbrev pub soft_bad : SoftCall → ℕ → ListName → ℕ → Bool
soft_bad call = bad_in (two_lists call.hard.logical call.hard.physical) (unlikely_in call.likelihoods.matches call.likelihoods.mismatches)

abbrev pub stats_count : EdgeList → ListName → ℕ
stats_count E = counted (one_list E)

abbrev pub stats_bad : EdgeList → ℕ → ListName → ℕ → Bool
stats_bad E = bad_in (one_list E) no_likelihoods

-- HARD
pub hard-place : (call : HardCall) (m n : ℕ) (r : Refusal) → hard_admission call m n ≡ Err r → PlaceRight (hard_count call) (hard_bad call) r
unfolding hard_admission
hard-place call m n r h =
    let P = PlaceRight (hard_count call) (hard_bad call) in
    let s = settings_findings (transforms_bad call.transforms) (tables_bad call.board) (not (in_range one_f call.error_limit)) in
    of-refusal P _ r (of-found P _ (each-joined P (room_findings (room_short (length call.board.h) m n)) (joined (both_lists call) s) (each-room (hard_count call) (hard_bad call) (room_short (length call.board.h) m n))
    (each-joined P (both_lists call) s (each-lists call.logical call.physical no_likelihoods) (each-settings (hard_count call) (hard_bad call) (transforms_bad call.transforms) (tables_bad call.board) (not (in_range one_f call.error_limit)))))) h

-- SOFT
pub soft-place : (call : SoftCall) (m n k : ℕ) (r : Refusal) → soft_admission call m n k ≡ Err r → PlaceRight (hard_count call.hard) (soft_bad call) r
unfolding soft_admission
soft-place call m n k r h =
    let P = PlaceRight (hard_count call.hard) (soft_bad call) in
    let s = settings_findings (transforms_bad call.hard.transforms) (tables_bad call.hard.board) (soft_settings_bad call) in
    let lists = each-lists call.hard.logical call.hard.physical (unlikely_in call.likelihoods.matches call.likelihoods.mismatches) in
    let likelihoods = each-likelihoods call.hard.logical call.hard.physical call.likelihoods.matches call.likelihoods.mismatches in
    of-refusal P _ r (of-found P _ (each-joined P (room_findings (soft_room_short (length call.hard.board.h) m n k)) (joined (joined (both_lists call.hard) (soft_likelihoods call)) s) (each-room (hard_count call.hard) (soft_bad call) (soft_room_short (length call.hard.board.h) m n k))
    (each-joined P (joined (both_lists call.hard) (soft_likelihoods call)) s (each-joined P (both_lists call.hard) (soft_likelihoods call) lists likelihoods)
    (each-settings (hard_count call.hard) (soft_bad call) (transforms_bad call.hard.transforms) (tables_bad call.hard.board) (soft_settings_bad call))))) h

-- MATCH STATISTICS
pub stats-place : (E : EdgeList) (t row col : ℕ) (B : Board) (r : Refusal) → stats_admission E t row col B ≡ Err r → PlaceRight (stats_count E) (stats_bad E) r
unfolding stats_admission
stats-place E t row col B r h =
    let P = PlaceRight (stats_count E) (stats_bad E) in
    of-refusal P _ r (of-found P _ (each-joined P (list_findings 0 list.Only E) (settings_findings (ltb 7 t) (tables_bad B) (origin_bad (length B.h) row col)) (each-list E no_likelihoods)
    (each-settings (stats_count E) (stats_bad E) (ltb 7 t) (tables_bad B) (origin_bad (length B.h) row col)))) h
