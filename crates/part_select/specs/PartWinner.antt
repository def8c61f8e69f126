-- C-20: "Placings, winner and gate all range over that rectangle": the winner of a list over a part, and its runner-up, in terms of placings alone. No table and no number occurs.
use Rattle.std.specs.Prelude.{◌≡◌, List, ℕ, ◌≤◌}
use Rattle.board.specs.declared.edge.Placing.{Placing}
use Rattle.board.specs.Hits.{EdgeList, Board, hits_at}
use Rattle.exact.specs.Winner.{weight_at}
use Rattle.demand.specs.Demand.{Same}
use Rattle.part.specs.declared.Part.{Part}
use Rattle.part.specs.Part.{OnPart}

-- P stands no later than Q: by list position, then row number, then column number, not by distance from the part's start
pub record NoLater (P Q : Placing) : Type 0 where
  pub listed : P.listed ≤ Q.listed
  pub row : Q.listed ≡ P.listed → P.row ≤ Q.row
  pub col : Q.listed ≡ P.listed → Q.row ≡ P.row → P.col ≤ Q.col

-- the winner: the placing of the part with most hits, then most weight, then the earliest
pub record IsPartWinner (B : Board) (E : EdgeList) (ts : List ℕ) (part : Part) (P : Placing) : Type 0 where
  pub on_part : OnPart ts part P
  pub most_hits : (Q : Placing) → OnPart ts part Q → hits_at B E ts Q ≤ hits_at B E ts P
  pub most_weight : (Q : Placing) → OnPart ts part Q → hits_at B E ts Q ≡ hits_at B E ts P → weight_at B E ts Q ≤ weight_at B E ts P
  pub earliest : (Q : Placing) → OnPart ts part Q → hits_at B E ts Q ≡ hits_at B E ts P → weight_at B E ts Q ≡ weight_at B E ts P → NoLater P Q

-- the runner-up behind P: another placing of the part with hits no third exceeds, and the earliest of those
pub record IsPartNext (B : Board) (E : EdgeList) (ts : List ℕ) (part : Part) (P Q : Placing) : Type 0 where
  pub on_part : OnPart ts part Q
  pub other : Same Q P → ⊥
  pub no_third : (R : Placing) → OnPart ts part R → (Same R P → ⊥) → hits_at B E ts R ≤ hits_at B E ts Q
  pub earliest : (R : Placing) → OnPart ts part R → (Same R P → ⊥) → hits_at B E ts R ≡ hits_at B E ts Q → NoLater Q R
