-- The groups of both sides in one row, filled in list order.
use Rattle.std.specs.Prelude.{◌≡◌, List, ℕ, ◌+◌, ◌≤◌, ◌<◌, eqb, length, Float}
use Rattle.std.specs.Float.{nan, binary32}
use Rattle.std.specs.Float.Ieee.{add}
use Rattle.laws.specs.Words.{fold, one, zero_f}
use Rattle.laws.specs.Zone.{Zone}
use Rattle.board.specs.Hits.{EdgeList, seen, look}
use Rattle.board.specs.Domain.{ListOk}
use Rattle.groups.specs.Groups.{confidence_at, place_of}
use Rattle.room.specs.Room.{PeriodsOk, row_length}
use Rattle.terms.specs.Terms.{places_n, places_f}

-- where edge i's group stands in that row
abbrev pub place_at : ℕ → ℕ → EdgeList → ℕ → ℕ → ℕ
place_at L M E t i = place_of L M (look E t i) (seen E i)

-- what the first n edges add to place k, f i each
abbrev pub row_sum : {A : Type 0} → (A → A → A) → A → (ℕ → A) → ℕ → ℕ → EdgeList → ℕ → ℕ → ℕ → A
row_sum op z f L M E t n k = fold op z n (λ i. eqb (place_at L M E t i) k) f

-- the list and the transform are accepted, and the row stands from `base` on, cleared
pub record FillReady (L M : ℕ) (E : EdgeList) (t base : ℕ) (c : List ℕ) (w : List Float) : Type 0 where
  pub list : ListOk E
  pub transform : t < 8
  pub periods : PeriodsOk (record { h = L; v = M })
  pub room : (base + row_length L M ≤ length c) × (base + row_length L M ≤ length w)
  pub counts : (k : ℕ) → k < row_length L M → places_n base c k ≡ 0
  pub weights : (k : ℕ) → k < row_length L M → places_f base w k ≡ zero_f

-- the first n edges are in: each place has the count of its edges and their confidences, and nothing else changed
pub record Filled (L M : ℕ) (E : EdgeList) (t base n : ℕ) (c c' : List ℕ) (w w' : List Float) : Type 0 where
  pub counts : Zone 0 (row_sum ◌+◌ 0 one L M E t n) base (row_length L M) c c'
  pub weights : Zone nan (row_sum (add binary32) zero_f (confidence_at E) L M E t n) base (row_length L M) w w'
