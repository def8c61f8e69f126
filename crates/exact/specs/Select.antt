-- C-15, one list: its values built for each transform in the list's order, and what the exact selection comes to.
use Rattle.std.specs.Prelude.{◌≡◌, Bool, true, false, cond, List, ℕ, zero, suc, ◌+◌, ◌≤◌, ◌<◌, eqb, get_or, length, Float, Err}
use Rattle.std.specs.Float.{nan}
use Rattle.laws.specs.Words.{fold, all, Weight}
use Rattle.refusals.specs.Numbers.{numbered}
use Rattle.refusals.specs.Numbers as why
use Rattle.board.specs.Hits.{EdgeList, Board, size}
use Rattle.board.specs.Sides.{period_of}
use Rattle.board.specs.Domain.{ListOk, BoardOk}
use Rattle.room.specs.Room.{tables_room}
use Rattle.unit_terms.specs.Values.{unit_of}
use Rattle.units.specs.Units.{values_of, UnitsBuilt}
use Rattle.exact_scan.specs.Exact.{ValueTables, value_tables, exact_scanned, finished}
use Rattle.exact_scan.specs.declared.kept.ExactScan.{ExactScan}
use Rattle.exact_scan.specs.Kinds.{ExactSelection}

-- the units of the first n confidences, added up
unfoldable pub units_to : List Float → ℕ → ℕ
units_to cs n = fold ◌+◌ 0 n all (λ i. unit_of (get_or cs i nan))

-- the list has no confidence: its unit sum is 0
unfoldable pub no_units : EdgeList → Bool
no_units E = eqb (units_to E.confidences (length E.confidences)) 0

-- confidences that can be added up: of a list's length, each from 0 to 1
pub record UnitsToReady (cs : List Float) : Type 0 where
  pub few : length cs ≤ 8192
  pub confidence : (i : ℕ) → i < length cs → Weight (get_or cs i nan) 1

-- the two tables of the transform t
unfoldable pub value_tables_of : Board → EdgeList → ℕ → ValueTables
value_tables_of B E t = value_tables (values_of B E t true) (values_of B E t false)

-- the transform whose values are built for list position p
abbrev pub built_at : List ℕ → ℕ → ℕ
built_at ts p = get_or ts p 0

-- the scan over the first n transforms of the list ts
unfoldable pub exact_scan_of : Board → EdgeList → List ℕ → ℕ → ExactScan
exact_scan_of B E ts n = exact_scanned (period_of B true) (period_of B false) (λ p. get_or ts p 0) (λ p. value_tables_of B E (built_at ts p)) n

-- the selection on one list: refused without confidence, then where the kept placing is over the limit, else the winner with its runner-up
unfoldable pub exact_selection : Board → EdgeList → List ℕ → Float → ExactSelection
exact_selection B E ts limit = cond (no_units E) (Err (numbered why.no_confidence)) (finished (size E) limit (exact_scan_of B E ts (length ts)))

-- ---- what an exact selection asks, and what it leaves in the room
pub record ExactSelectReady (B : Board) (E : EdgeList) (ts : List ℕ) (a : List ℕ) : Type 0 where
  pub list : ListOk E
  pub some : 0 < size E
  pub board : BoardOk B
  pub transforms : (0 < length ts) × (length ts ≤ 8)
  pub small : (p : ℕ) → p < length ts → get_or ts p 0 < 8
  pub room : tables_room B ≤ length a

-- after n transforms the room holds the values of the last of them, as built in the room that was lent; before the first it is as it was
unfoldable pub ValueRoom : Board → EdgeList → List ℕ → ℕ → List ℕ → List ℕ → Type 0
ValueRoom B E ts zero a a' = a' ≡ a
ValueRoom B E ts (suc p) a a' = UnitsBuilt B E (built_at ts p) a a'

-- how many transforms' values are built
unfoldable pub values_to : EdgeList → List ℕ → ℕ
values_to E ts = cond (no_units E) 0 (length ts)

-- what an exact selection did: its answer is the definition's, and the room holds the values of the last transform that was built
pub record ExactDone (B : Board) (E : EdgeList) (ts : List ℕ) (limit : Float) (a a' : List ℕ) (r : ExactSelection) : Type 0 where
  pub answer : r ≡ exact_selection B E ts limit
  pub room : ValueRoom B E ts (values_to E ts) a a'
