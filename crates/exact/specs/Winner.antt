-- C-15: the weight of a placing, counted edge by edge, and the winner of a list, in terms of placings alone. No table occurs.
use Rattle.std.specs.Prelude.{◌≡◌, List, ℕ, ◌+◌, ◌≤◌, get_or}
use Rattle.laws.specs.Words.{fold}
use Rattle.board.specs.declared.edge.Placing.{Placing}
use Rattle.board.specs.Hits.{EdgeList, Board, size, hit, hits_at}
use Rattle.units.specs.Units.{unit_at}
use Rattle.demand.specs.Demand.{OnBoard}

-- the weight of the square at (row, col) under the transform t, in units: the units of the edges that are hits there
abbrev pub weight_of_square : Board → EdgeList → ℕ → ℕ → ℕ → ℕ
weight_of_square B E t row col = fold ◌+◌ 0 (size E) (hit B E t row col) (unit_at E)

-- the weight of a placing: that of its square
abbrev pub weight_at : Board → EdgeList → List ℕ → Placing → ℕ
weight_at B E ts P = weight_of_square B E (get_or ts P.listed 0) P.row P.col

-- the winner of a list: the placing, over all list positions and all origins, with most hits, then most weight, then the earliest list position, then row, then column
pub record IsWinner (B : Board) (E : EdgeList) (ts : List ℕ) (P : Placing) : Type 0 where
  pub on-board : OnBoard B ts P
  pub most_hits : (Q : Placing) → OnBoard B ts Q → hits_at B E ts Q ≤ hits_at B E ts P
  pub most_weight : (Q : Placing) → OnBoard B ts Q → hits_at B E ts Q ≡ hits_at B E ts P → weight_at B E ts Q ≤ weight_at B E ts P
  pub earliest : (Q : Placing) → OnBoard B ts Q → hits_at B E ts Q ≡ hits_at B E ts P → weight_at B E ts Q ≡ weight_at B E ts P → P.listed ≤ Q.listed
  pub first_row : (Q : Placing) → OnBoard B ts Q → hits_at B E ts Q ≡ hits_at B E ts P → weight_at B E ts Q ≡ weight_at B E ts P → Q.listed ≡ P.listed → P.row ≤ Q.row
  pub first-col : (Q : Placing) → OnBoard B ts Q → hits_at B E ts Q ≡ hits_at B E ts P → weight_at B E ts Q ≡ weight_at B E ts P → Q.listed ≡ P.listed → Q.row ≡ P.row → P.col ≤ Q.col
