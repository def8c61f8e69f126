-- What is refused when one placing is tested against the error limit. C-18: "Refusals: 2, 3 (over 8,192 only), 7, 8 and 9 first, in that order; then a bad edge field by its number when reached."
use Rattle.std.specs.Prelude.{◌≡◌, Bool, true, not, ◌||◌, cond, ℕ, ◌*◌, ◌≤◌, ◌<◌, ltb, get_or, length, Float}
use Rattle.std.specs.Float.{nan}
use Rattle.laws.specs.Words.{one_f}
use Rattle.board.specs.declared.edge.Edge.{Edge}
use Rattle.board.specs.Hits.{EdgeList, Board, size, edge_at}
use Rattle.board.specs.Domain.{BoardOk}
use Rattle.refusals.specs.Admission.{Admission}
use Rattle.refusals.specs.Numbers as why
use Rattle.checks.specs.Checks.{far, lengths_differ, size_bad, origin_bad}
use Rattle.ranges.specs.Ranges.{in_range}
use Rattle.findings.specs.Findings.{refused_if, or_else, first_found, settings_findings}
use Rattle.admission.specs.Refusals.{tables_bad}

-- the number of the first field of an edge that is out of range, in the order of every entry point: 4, 16, 17, 5; 0 where none is
unfoldable pub fault_of : Edge → Float → ℕ
fault_of e w =
    cond (far e.row || far e.col) why.bad_coordinate
    (cond (ltb 1 e.orientation) why.bad_orientation
    (cond (ltb 1 e.bit) why.bad_bit
    (cond (not (in_range one_f w)) why.bad_confidence 0)))

-- of edge i of a list
abbrev pub fault_at : EdgeList → ℕ → ℕ
fault_at E i = fault_of (edge_at E i) (get_or E.confidences i nan)

-- 9 is of the origin and of the limit: "a given origin", and "the error limit as hard decode's"
abbrev pub setting_bad : ℕ → ℕ → ℕ → Float → Bool
setting_bad L row col limit = origin_bad L row col || not (in_range one_f limit)

-- the early refusals: no field of an edge is looked at
unfoldable pub within_admission : EdgeList → ℕ → ℕ → ℕ → Board → Float → Admission
within_admission E t row col B limit =
    or_else (refused_if (lengths_differ E) why.lengths_differ)
    (or_else (refused_if (size_bad 0 (size E)) why.list_size)
    (first_found (settings_findings (ltb 7 t) (tables_bad B) (setting_bad (length B.h) row col limit))))

-- the columns of a list are equally long, and not over 8,192; their fields may be anything
pub record Columns (E : EdgeList) : Type 0 where
  pub few : size E ≤ 8192
  pub cols : length E.cols ≡ size E
  pub orientations : length E.orientations ≡ size E
  pub bits : length E.bits ≡ size E
  pub confidences : length E.confidences ≡ size E

-- an accepted call, whose edges may still be bad
pub record WithinAccepted (E : EdgeList) (t row col : ℕ) (B : Board) (limit : Float) : Type 0 where
  pub columns : Columns E
  pub transform : t < 8
  pub board : BoardOk B
  pub origin : (row < 3 * length B.h) × (col ≤ 500)
  pub limited : in_range one_f limit ≡ true
