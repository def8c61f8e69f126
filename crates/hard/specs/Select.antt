-- Document 01, 'Hard selection': one list, its tables built for each transform in the list's order, and what the selection comes to.
use Rattle.std.specs.Prelude.{◌≡◌, Bool, true, false, List, ℕ, zero, suc, ◌≤◌, ◌<◌, get_or, length, Float, Err, None, Ok, Some}
use Rattle.refusals.specs.Numbers.{numbered}
use Rattle.refusals.specs.Numbers as why
use Rattle.board.specs.Hits.{EdgeList, Board, size}
use Rattle.figures.specs.Figures.{total_confidence, no_confidence}
use Rattle.board.specs.Sides.{period_of}
use Rattle.board.specs.Domain.{ListOk, BoardOk}
use Rattle.cells.specs.Cells.{counts_of, weights_of}
use Rattle.room.specs.Room.{used}
use Rattle.tables.specs.Built.{TablesBuilt}
use Rattle.best.specs.CellTables.{CellTables, cells}
use Rattle.scan.specs.Scan.{chosen}
use Rattle.folding.specs.Transform.{selected}
use Rattle.scan.specs.declared.scan.HardScan.{HardScan}
use Rattle.scan.specs.Kinds.{Choice}
use Rattle.hard.specs.Kinds.{Selection}

-- the four tables of the transform t
unfoldable pub tables_of : Board → EdgeList → ℕ → CellTables
tables_of B E t = cells (counts_of B E t true) (weights_of B E t true) (counts_of B E t false) (weights_of B E t false)

-- the scan over the first n transforms of the list ts
unfoldable pub scan_of : Board → EdgeList → List ℕ → Float → ℕ → HardScan
scan_of B E ts limit n =
    selected (period_of B true) (period_of B false) (size E) (total_confidence E) limit (λ p. get_or ts p 0) (λ p. tables_of B E (get_or ts p 0)) n

-- refused where no transform offered a candidate
abbrev pub of_choice : Choice → Selection
of_choice None = Err (numbered why.none_within_limit)
of_choice (Some (winner, runner-up)) = Ok (winner, runner-up)

abbrev pub or_refused : Bool → Choice → Selection
or_refused true c = Err (numbered why.no_confidence)
or_refused false c = of_choice c

-- the selection on one list: refused without confidence, then without a candidate, else the winner with its runner-up
unfoldable pub selection : Board → EdgeList → List ℕ → Float → Selection
selection B E ts limit = or_refused (no_confidence E) (chosen (scan_of B E ts limit (length ts)))

-- ---- what a selection asks, and what it leaves in the room
pub record SelectReady (B : Board) (E : EdgeList) (ts : List ℕ) (c : List ℕ) (w : List Float) : Type 0 where
  pub list : ListOk E
  pub some : 0 < size E
  pub board : BoardOk B
  pub transforms : (0 < length ts) × (length ts ≤ 8)
  pub small : (p : ℕ) → p < length ts → get_or ts p 0 < 8
  pub room : (used (period_of B) 1 ≤ length c) × (used (period_of B) 1 ≤ length w)

-- after n transforms the room holds the tables of the last of them, as built in the room that was lent; before the first it is as it was
unfoldable pub Rooms : Board → EdgeList → List ℕ → ℕ → List ℕ → List ℕ → List Float → List Float → Type 0
Rooms B E ts zero c c' w w' = (c' ≡ c) × (w' ≡ w)
Rooms B E ts (suc p) c c' w w' = TablesBuilt B E (get_or ts p 0) c c' w w'

-- how many transforms' tables are built
unfoldable pub built_to : EdgeList → List ℕ → ℕ
built_to E ts = stop (no_confidence E)
  where
    stop : Bool → ℕ
    stop true = 0
    stop false = length ts

-- what a selection did: its answer is the definition's, and the room holds the tables of the last transform that was built
pub record SelectDone (B : Board) (E : EdgeList) (ts : List ℕ) (limit : Float) (c c' : List ℕ) (w w' : List Float) (r : Selection) : Type 0 where
  pub answer : r ≡ selection B E ts limit
  pub rooms : Rooms B E ts (built_to E ts) c c' w w'
