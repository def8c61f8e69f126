-- The first of the parts, by rank, is the earliest of all that is found.
use Rattle.std.specs.Prelude.{◌≡◌, Bool, not, ℕ, ltb, length, Err}
use Rattle.std.proofs.Common.{ap, ap₂, ◌∙◌}
use Rattle.laws.specs.Words.{one_f}
use Rattle.board.specs.Hits.{EdgeList, Board, size}
use Rattle.refusals.specs.declared.Refusal.{Refusal}
use Rattle.refusals.specs.Admission.{Admission}
use Rattle.refusals.specs.declared.ListName.TheVariants as list
use Rattle.refusals.specs.Numbers.{edge_refusal}
use Rattle.refusals.specs.Numbers as why
use Rattle.refusals.specs.Order.{earlier}
use Rattle.checks.specs.Checks.{origin_bad}
use Rattle.ranges.specs.Ranges.{in_range, transforms_bad}
use Rattle.findings.specs.Findings.{refused_if, Findings, first_found, joined, room_findings, list_findings, settings_findings}
use Rattle.findings.specs.FindingsLaws.{room-found}
use Rattle.findings.specs.Joined.{Sorted, sorted-joined, first-joined, found_early, sorted-room, sorted-list, sorted-likelihoods, sorted-settings}
use Rattle.admission.specs.Calls.{HardCall, SoftCall}
use Rattle.admission.specs.Refusals.{tables_bad, room_short, soft_room_short, both_lists, soft_likelihoods, soft_settings_bad, hard_admission, soft_admission, stats_admission}

-- the lent room, and then the rest
with-room : (short : Bool) (f : Findings) (a : Admission) → Sorted f → a ≡ first_found f → earlier (refused_if short why.room_too_short) a ≡ first_found (joined (room_findings short) f)
with-room short f a s e = ap₂ earlier (room-found short) e ∙ first-joined (room_findings short) f (sorted-room short) s

-- the two lists
two-lists : (call : HardCall) → earlier (first_found (list_findings 1 list.Logical call.logical)) (first_found (list_findings 1 list.Physical call.physical)) ≡ first_found (both_lists call)
two-lists call = first-joined (list_findings 1 list.Logical call.logical) (list_findings 1 list.Physical call.physical) (sorted-list 1 list.Logical call.logical) (sorted-list 1 list.Physical call.physical)

sorted-both : (call : HardCall) → Sorted (both_lists call)
sorted-both call = sorted-joined (list_findings 1 list.Logical call.logical) (list_findings 1 list.Physical call.physical) (sorted-list 1 list.Logical call.logical) (sorted-list 1 list.Physical call.physical)

pub hard-parts : (call : HardCall) (m n : ℕ)
    → earlier (refused_if (room_short (length call.board.h) m n) why.room_too_short) (earlier (earlier (first_found (list_findings 1 list.Logical call.logical)) (first_found (list_findings 1 list.Physical call.physical))) (first_found (settings_findings (transforms_bad call.transforms) (tables_bad call.board) (not (in_range one_f call.error_limit)))))
    ≡ hard_admission call m n
unfolding hard_admission
hard-parts call m n =
    let s = settings_findings (transforms_bad call.transforms) (tables_bad call.board) (not (in_range one_f call.error_limit)) in
    let k = sorted-settings (transforms_bad call.transforms) (tables_bad call.board) (not (in_range one_f call.error_limit)) in
    with-room (room_short (length call.board.h) m n) (joined (both_lists call) s) _ (sorted-joined (both_lists call) s (sorted-both call) k)
    (ap (λ (x : Admission). earlier x (first_found s)) (two-lists call) ∙ first-joined (both_lists call) s (sorted-both call) k)

pub soft-parts : (call : SoftCall) (m n k : ℕ)
    → earlier (refused_if (soft_room_short (length call.hard.board.h) m n k) why.room_too_short) (earlier (earlier (earlier (first_found (list_findings 1 list.Logical call.hard.logical)) (first_found (list_findings 1 list.Physical call.hard.physical))) (first_found (soft_likelihoods call))) (first_found (settings_findings (transforms_bad call.hard.transforms) (tables_bad call.hard.board) (soft_settings_bad call))))
    ≡ soft_admission call m n k
unfolding soft_admission
soft-parts call m n k =
    let s = settings_findings (transforms_bad call.hard.transforms) (tables_bad call.hard.board) (soft_settings_bad call) in
    let t = sorted-settings (transforms_bad call.hard.transforms) (tables_bad call.hard.board) (soft_settings_bad call) in
    let l = sorted-likelihoods (size call.hard.physical) call.likelihoods.matches call.likelihoods.mismatches in
    let b = sorted-joined (both_lists call.hard) (soft_likelihoods call) (sorted-both call.hard) l in
    with-room (soft_room_short (length call.hard.board.h) m n k) (joined (joined (both_lists call.hard) (soft_likelihoods call)) s) _ (sorted-joined (joined (both_lists call.hard) (soft_likelihoods call)) s b t)
    (ap (λ (x : Admission). earlier x (first_found s)) (ap (λ (x : Admission). earlier x (first_found (soft_likelihoods call))) (two-lists call.hard) ∙ first-joined (both_lists call.hard) (soft_likelihoods call) (sorted-both call.hard) l)
    ∙ first-joined (joined (both_lists call.hard) (soft_likelihoods call)) s b t)

pub stats-parts : (E : EdgeList) (t row col : ℕ) (B : Board) → earlier (first_found (list_findings 0 list.Only E)) (first_found (settings_findings (ltb 7 t) (tables_bad B) (origin_bad (length B.h) row col))) ≡ stats_admission E t row col B
unfolding stats_admission
stats-parts E t row col B = first-joined (list_findings 0 list.Only E) (settings_findings (ltb 7 t) (tables_bad B) (origin_bad (length B.h) row col)) (sorted-list 0 list.Only E) (sorted-settings (ltb 7 t) (tables_bad B) (origin_bad (length B.h) row col))

-- ---- refused early means by one of 1 to 9, 16 and 17
pub hard-early : (call : HardCall) (m n : ℕ) (r : Refusal) → hard_admission call m n ≡ Err r → why.Early r.number
unfolding hard_admission
hard-early call m n r =
    let s = settings_findings (transforms_bad call.transforms) (tables_bad call.board) (not (in_range one_f call.error_limit)) in
    let k = sorted-settings (transforms_bad call.transforms) (tables_bad call.board) (not (in_range one_f call.error_limit)) in
    found_early (joined (room_findings (room_short (length call.board.h) m n)) (joined (both_lists call) s)) r (sorted-joined (room_findings (room_short (length call.board.h) m n)) (joined (both_lists call) s) (sorted-room (room_short (length call.board.h) m n)) (sorted-joined (both_lists call) s (sorted-both call) k))

pub soft-early : (call : SoftCall) (m n k : ℕ) (r : Refusal) → soft_admission call m n k ≡ Err r → why.Early r.number
unfolding soft_admission
soft-early call m n k r =
    let s = settings_findings (transforms_bad call.hard.transforms) (tables_bad call.hard.board) (soft_settings_bad call) in
    let t = sorted-settings (transforms_bad call.hard.transforms) (tables_bad call.hard.board) (soft_settings_bad call) in
    let l = joined (both_lists call.hard) (soft_likelihoods call) in
    let b = sorted-joined (both_lists call.hard) (soft_likelihoods call) (sorted-both call.hard) (sorted-likelihoods (size call.hard.physical) call.likelihoods.matches call.likelihoods.mismatches) in
    found_early (joined (room_findings (soft_room_short (length call.hard.board.h) m n k)) (joined l s)) r (sorted-joined (room_findings (soft_room_short (length call.hard.board.h) m n k)) (joined l s) (sorted-room (soft_room_short (length call.hard.board.h) m n k)) (sorted-joined l s b t))

pub stats-early : (E : EdgeList) (t row col : ℕ) (B : Board) (r : Refusal) → stats_admission E t row col B ≡ Err r → why.Early r.number
unfolding stats_admission
stats-early E t row col B r =
    let s = settings_findings (ltb 7 t) (tables_bad B) (origin_bad (length B.h) row col) in
    found_early (joined (list_findings 0 list.Only E) s) r (sorted-joined (list_findings 0 list.Only E) s (sorted-list 0 list.Only E) (sorted-settings (ltb 7 t) (tables_bad B) (origin_bad (length B.h) row col)))
