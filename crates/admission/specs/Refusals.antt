-- The early refusals of each entry point: all that is found wrong with a call, the logical list before the physical one, and of it the earliest kind in the order (Findings.antt).
use Rattle.std.specs.Prelude.{Bool, not, ◌||◌, cond, ℕ, ltb, length}
use Rattle.laws.specs.Words.{one_f}
use Rattle.board.specs.Hits.{EdgeList, Board, size}
use Rattle.refusals.specs.Admission.{Admission}
use Rattle.refusals.specs.declared.ListName.TheVariants as list
use Rattle.room.specs.Room.{tables_for, sums_for}
use Rattle.checks.specs.Checks.{origin_bad}
use Rattle.ranges.specs.Ranges.{in_range, margin_top, transforms_bad, pole_length, horizontal_bad, vertical_bad}
use Rattle.findings.specs.Findings.{Findings, first_found, joined, room_findings, list_findings, likelihood_findings, settings_findings}
use Rattle.admission.specs.Calls.{HardCall, SoftCall, HardRoom, SoftRoom}

-- one of the two pattern tables is bad
abbrev pub tables_bad : Board → Bool
tables_bad B = horizontal_bad B.h || vertical_bad B.v

-- C-13: "1 still comes first, by the smallest allowed size when L is bad"
unfoldable pub asked_length : ℕ → ℕ
asked_length L = cond (pole_length L) L 4

-- the room of a call with L horizontal patterns is too short
unfoldable pub room_short : ℕ → ℕ → ℕ → Bool
room_short L counts weights = ltb counts (tables_for (asked_length L)) || ltb weights (tables_for (asked_length L))

unfoldable pub soft_room_short : ℕ → ℕ → ℕ → ℕ → Bool
soft_room_short L counts weights sums = room_short L counts weights || ltb sums (sums_for (asked_length L))

-- "logical list first": what is found in the two lists of a hard call
abbrev pub both_lists : HardCall → Findings
both_lists call = joined (list_findings 1 list.Logical call.logical) (list_findings 1 list.Physical call.physical)

-- a hard call, with the lengths of the lent room
unfoldable pub hard_admission : HardCall → ℕ → ℕ → Admission
hard_admission call counts weights =
    first_found
    (joined (room_findings (room_short (length call.board.h) counts weights)) (joined (both_lists call) (settings_findings (transforms_bad call.transforms) (tables_bad call.board) (not (in_range one_f call.error_limit)))))

-- one of the settings of a soft call is bad
abbrev pub soft_settings_bad : SoftCall → Bool
soft_settings_bad call = not (in_range one_f call.hard.error_limit) || not (in_range margin_top call.soft-margin)

-- the likelihoods of the physical list
abbrev pub soft_likelihoods : SoftCall → Findings
soft_likelihoods call = likelihood_findings (size call.hard.physical) call.likelihoods.matches call.likelihoods.mismatches

-- a soft call: the physical list has likelihoods besides, and there is a soft margin
unfoldable pub soft_admission : SoftCall → ℕ → ℕ → ℕ → Admission
soft_admission call counts weights sums =
    first_found
    (joined (room_findings (soft_room_short (length call.hard.board.h) counts weights sums)) (joined (joined (both_lists call.hard) (soft_likelihoods call)) (settings_findings (transforms_bad call.hard.transforms) (tables_bad call.hard.board) (soft_settings_bad call))))

-- "Match statistics use 2 to 5 and 7 to 9 and no room": one list, which may be empty, one transform number and one origin
unfoldable pub stats_admission : EdgeList → ℕ → ℕ → ℕ → Board → Admission
stats_admission E t row col B = first_found (joined (list_findings 0 list.Only E) (settings_findings (ltb 7 t) (tables_bad B) (origin_bad (length B.h) row col)))

-- what the checks say of a call with its room
abbrev pub hard_checked : HardCall → HardRoom → Admission
hard_checked call room = hard_admission call (length room.counts) (length room.weights)

abbrev pub soft_checked : SoftCall → SoftRoom → Admission
soft_checked call room = soft_admission call (length room.counts) (length room.weights) (length room.sums)
