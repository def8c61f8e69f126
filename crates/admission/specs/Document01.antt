-- DOCUMENT 01'S NUMBERS, which C-11 refined: "coordinate, orientation code or bit outside its range" was one number, 4, and no refusal had a place. Read 16 and 17 as 4 and forget the place,
-- and its rule comes out: "1 to 9 come first, lowest number over all lists".
use Rattle.std.specs.Prelude.{Bool, not, cond, ◌||◌, ℕ, ltb, eqb, length, Err, Ok}
use Rattle.laws.specs.Words.{one_f}
use Rattle.board.specs.Hits.{EdgeList, Board, size}
use Rattle.refusals.specs.Admission.{Admission, accepted}
use Rattle.refusals.specs.Numbers.{numbered, edge_refusal}
use Rattle.refusals.specs.Numbers as why
use Rattle.checks.specs.Checks.{lengths_differ, size_bad, likelihoods_differ, first_bad_coordinate, first_bad_likelihood, origin_bad}
use Rattle.ranges.specs.Ranges.{in_range, first_bad_byte, first_bad_confidence, transforms_bad}
use Rattle.admission.specs.Calls.{HardCall, SoftCall}
use Rattle.admission.specs.Refusals.{tables_bad, room_short, soft_room_short, soft_settings_bad}

-- 16 and 17 read as 4
abbrev pub number01 : ℕ → ℕ
number01 n = cond (eqb n why.bad_orientation || eqb n why.bad_bit) why.bad_coordinate n

-- a refusal as document 01 knew it
abbrev pub admission01 : Admission → Admission
admission01 (Ok _) = accepted
admission01 (Err r) = Err (numbered (number01 r.number))

-- "coordinate, orientation code or bit outside its range"; "confidence NaN, below 0 or above 1"
abbrev pub fields_bad : EdgeList → Bool
fields_bad E =
    ltb (first_bad_coordinate E.rows E.cols) (size E) || (ltb (first_bad_byte 1 E.orientations) (length E.orientations) || ltb (first_bad_byte 1 E.bits) (length E.bits))

abbrev pub confidences_bad : EdgeList → Bool
confidences_bad E = ltb (first_bad_confidence E.confidences) (length E.confidences)

-- the table of document 01, of a hard call
unfoldable pub hard_numbers01 : HardCall → ℕ → ℕ → Admission
hard_numbers01 call counts weights =
    cond (room_short (length call.board.h) counts weights) (Err (numbered 1))
    (cond (lengths_differ call.logical || lengths_differ call.physical) (Err (numbered 2))
    (cond (size_bad 1 (size call.logical) || size_bad 1 (size call.physical)) (Err (numbered 3))
    (cond (fields_bad call.logical || fields_bad call.physical) (Err (numbered 4))
    (cond (confidences_bad call.logical || confidences_bad call.physical) (Err (numbered 5))
    (cond (transforms_bad call.transforms) (Err (numbered 7))
    (cond (tables_bad call.board) (Err (numbered 8))
    (cond (not (in_range one_f call.error_limit)) (Err (numbered 9)) accepted)))))))

-- of a soft call
unfoldable pub soft_numbers01 : SoftCall → ℕ → ℕ → ℕ → Admission
soft_numbers01 call counts weights sums =
    let h = call.hard in
    let ms = call.likelihoods.matches in
    let us = call.likelihoods.mismatches in
    cond (soft_room_short (length h.board.h) counts weights sums) (Err (numbered 1))
    (cond ((lengths_differ h.logical || lengths_differ h.physical) || likelihoods_differ (size h.physical) ms us) (Err (numbered 2))
    (cond (size_bad 1 (size h.logical) || size_bad 1 (size h.physical)) (Err (numbered 3))
    (cond (fields_bad h.logical || fields_bad h.physical) (Err (numbered 4))
    (cond (confidences_bad h.logical || confidences_bad h.physical) (Err (numbered 5))
    (cond (ltb (first_bad_likelihood ms us) (length ms)) (Err (numbered 6))
    (cond (transforms_bad h.transforms) (Err (numbered 7))
    (cond (tables_bad h.board) (Err (numbered 8))
    (cond (soft_settings_bad call) (Err (numbered 9)) accepted))))))))

-- of match statistics
unfoldable pub stats_numbers01 : EdgeList → ℕ → ℕ → ℕ → Board → Admission
stats_numbers01 E t row col B =
    cond (lengths_differ E) (Err (numbered 2))
    (cond (size_bad 0 (size E)) (Err (numbered 3))
    (cond (fields_bad E) (Err (numbered 4))
    (cond (confidences_bad E) (Err (numbered 5))
    (cond (ltb 7 t) (Err (numbered 7))
    (cond (tables_bad B) (Err (numbered 8))
    (cond (origin_bad (length B.h) row col) (Err (numbered 9)) accepted))))))
