-- Document 01, 'Soft selection': one list, its likelihood sums built for each transform in the list's order.
use Rattle.std.specs.Prelude.{◌≡◌, true, false, List, ℕ, zero, suc, ◌≤◌, ◌<◌, get_or, length, ℤ}
use Rattle.board.specs.Hits.{EdgeList, Board}
use Rattle.board.specs.Sides.{period_of}
use Rattle.board.specs.Domain.{ListOk, BoardOk}
use Rattle.room.specs.Room.{used}
use Rattle.sums.specs.Sums.{Likelihoods, LikelihoodsOk, sums_of}
use Rattle.sums.specs.SumsRoom.{SumsBuilt}
use Rattle.level.specs.Sums.{SumTables, sums}
use Rattle.margin.specs.Choice.{soft_chosen}
use Rattle.soft.specs.Scan.{soft_selected}
use Rattle.margin.specs.declared.slots.SoftScan.{SoftScan}
use Rattle.margin.specs.Kinds.{SoftChoice}

-- the two tables of the transform t
unfoldable pub sum_tables : Board → EdgeList → Likelihoods → ℕ → SumTables
sum_tables B E X t = sums (sums_of B E X t true) (sums_of B E X t false)

-- the scan over the first n transforms of the list ts
unfoldable pub soft_scan_of : Board → EdgeList → Likelihoods → List ℕ → ℕ → SoftScan
soft_scan_of B E X ts n = soft_selected (period_of B true) (period_of B false) (λ p. sum_tables B E X (get_or ts p 0)) n

-- both best candidates of the list
abbrev pub soft_selection : Board → EdgeList → Likelihoods → List ℕ → SoftChoice
soft_selection B E X ts = soft_chosen (soft_scan_of B E X ts (length ts))

-- ---- what a soft selection asks, and what it leaves in the room
pub record SoftReady (B : Board) (E : EdgeList) (X : Likelihoods) (ts : List ℕ) (a : List ℤ) : Type 0 where
  pub list : ListOk E
  pub likelihoods : LikelihoodsOk E X
  pub board : BoardOk B
  pub transforms : (0 < length ts) × (length ts ≤ 8)
  pub small : (p : ℕ) → p < length ts → get_or ts p 0 < 8
  pub room : used (period_of B) 2 ≤ length a

-- after n transforms the room holds the sums of the last of them, as built in the room that was lent; before the first it is as it was
unfoldable pub SumRoom : Board → EdgeList → Likelihoods → List ℕ → ℕ → List ℤ → List ℤ → Type 0
SumRoom B E X ts zero a a' = a' ≡ a
SumRoom B E X ts (suc p) a a' = SumsBuilt B E X (get_or ts p 0) a a'

-- what a scan of the first n transforms did: its record is the definition's, and the room holds the sums of the last of them
pub record SoftScanned (B : Board) (E : EdgeList) (X : Likelihoods) (ts : List ℕ) (n : ℕ) (a a' : List ℤ) (r : SoftScan) : Type 0 where
  pub answer : r ≡ soft_scan_of B E X ts n
  pub room : SumRoom B E X ts n a a'
