-- THE DOMAIN: the conditions on a call before any work is done, as plain facts, each with its number of document 01's 'Refusal numbers' and C-11's 16 and 17, in their order. The bounds are
-- those of 'Numbers that bound the domain'. DomainLaws.antt proves that a call is accepted exactly when all are met, and else refused by the number of the first that is not.
use Rattle.std.specs.Prelude.{◌≡◌, cond, List, [], ◌∷◌, ℕ, ◌*◌, ◌%◌, ◌≤◌, ◌<◌, get_or, length, pos, nat_abs, Float}
use Rattle.std.specs.Float.{nan, inf, fin}
use Rattle.std.specs.Float.Ieee.{up, down}
use Rattle.board.specs.Hits.{EdgeList, Board, size}
use Rattle.room.specs.Room.{tables_for, sums_for}
use Rattle.admission.specs.Calls.{HardCall, SoftCall, HardRoom, SoftRoom}
use Rattle.admission.specs.Conditions.{Condition}

-- no number of a column is above `most`
abbrev pub AtMost : ℕ → List ℕ → Type 0
AtMost most xs = (i : ℕ) → i < length xs → get_or xs i 0 ≤ most

-- a finite float from -below to above, by its value: `fin s m e` is m * up e / down e, negative where s is true. So -0 counts as 0
abbrev pub Between : ℕ → ℕ → Float → Type 0
Between below above nan = ⊥
Between below above (inf s) = ⊥
Between below above (fin s m e) = m * up e ≤ cond s below above * down e

-- C-13: "L is from 4 to 500 and not a multiple of 3", the length of a horizontal pattern table; that of the flat board is 167
abbrev pub PoleLength : ℕ → Type 0
PoleLength L = (4 ≤ L) × (L ≤ 500) × (L % 3 ≡ 0 → ⊥)

-- n places are room enough: as many as L asks for, and "by the smallest allowed size when L is bad", that of 4
abbrev pub Lent : (ℕ → ℕ) → ℕ → ℕ → Type 0
Lent asked L n = (asked 4 ≤ n) × (PoleLength L → asked L ≤ n)

-- the conditions on every call: `each P` says P of each list, of `least` edges or more; `long` is about the horizontal table's length, `columns` the likelihoods' lengths, `settings` limit, margin, origin
unfoldable pub early : ((EdgeList → Type 0) → Type 0) → ℕ → List ℕ → (ℕ → Type 0) → Board → (room columns likelihoods settings : Type 0) → List Condition
early each least transforms long board room columns likelihoods settings =
    (1, room)
    ∷ (2, each (λ E. (length E.cols ≡ size E) × (length E.orientations ≡ size E) × (length E.bits ≡ size E) × (length E.confidences ≡ size E)) × columns)
    ∷ (3, each (λ E. (least ≤ size E) × (size E ≤ 8192)))
    ∷ (4, each (λ E. (i : ℕ) → i < size E → (nat_abs (get_or E.rows i (pos 0)) ≤ 1000000) × (nat_abs (get_or E.cols i (pos 0)) ≤ 1000000)))
    ∷ (16, each (λ E. AtMost 1 E.orientations)) ∷ (17, each (λ E. AtMost 1 E.bits))
    ∷ (5, each (λ E. (i : ℕ) → i < length E.confidences → Between 0 1 (get_or E.confidences i nan))) ∷ (6, likelihoods)
    ∷ (7, (1 ≤ length transforms) × (length transforms ≤ 8) × AtMost 7 transforms)
    ∷ (8, long (length board.h) × AtMost 7 board.h × (length board.v ≡ 167) × AtMost 7 board.v)
    ∷ (9, settings) ∷ []

-- a hard call with its room: "9L+1,503 u32 and f32", "Error limit: f32 from 0 to 1"
unfoldable pub hard_early : HardCall → HardRoom → List Condition
hard_early call room =
    early (λ P. P call.logical × P call.physical) 1 call.transforms PoleLength call.board
    (Lent tables_for (length call.board.h) (length room.counts) × Lent tables_for (length call.board.h) (length room.weights)) (Unit {0}) (Unit {0}) (Between 0 1 call.error_limit)

-- a soft call: "15L+2,505 i64", "Each log likelihood is a finite f32 from -65,536 to 65,536", "Soft margin: f32 from 0 to 65,536"
unfoldable pub soft_early : SoftCall → SoftRoom → List Condition
soft_early call room =
    early (λ P. P call.hard.logical × P call.hard.physical) 1 call.hard.transforms PoleLength call.hard.board
    (Lent tables_for (length call.hard.board.h) (length room.counts) × Lent tables_for (length call.hard.board.h) (length room.weights) × Lent sums_for (length call.hard.board.h) (length room.sums))
    ((length call.likelihoods.matches ≡ size call.hard.physical) × (length call.likelihoods.mismatches ≡ size call.hard.physical))
    ((i : ℕ) → i < size call.hard.physical → Between 65536 65536 (get_or call.likelihoods.matches i nan) × Between 65536 65536 (get_or call.likelihoods.mismatches i nan))
    (Between 0 1 call.hard.error_limit × Between 0 65536 call.soft-margin)

-- match statistics, which have no room and also take no edges: "one row below 3L, the bound for a given origin's row too; columns stay 501"
unfoldable pub stats_early : EdgeList → ℕ → ℕ → ℕ → Board → List Condition
stats_early list transform row col board = early (λ P. P list) 0 (transform ∷ []) PoleLength board (Unit {0}) (Unit {0}) (Unit {0}) ((row < 3 * length board.h) × (col ≤ 500))
