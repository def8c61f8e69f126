-- What customers are promised of a found answer over a part (request C-20: "Demand 3 reads with the rectangle's origins, and in that one case with a lead over 0 hits and no runner-up"): by hits and
-- weights, edge by edge. No selection and no table occurs.
use Rattle.std.specs.Prelude.{◌≡◌, true, false, List, ℕ, ◌+◌, ◌-◌, ◌<◌, length, Float, None, Some}
use Rattle.board.specs.declared.edge.Placing.{Placing}
use Rattle.board.specs.Hits.{EdgeList, Board, size, hits_at}
use Rattle.scan.specs.Scan.{over_limit}
use Rattle.admission.specs.Calls.{HardCall}
use Rattle.figures.specs.Figures.{rate_of}
use Rattle.demand.specs.Demand.{Same, Names}
use Rattle.demand.specs.Late.{SameSquare}
use Rattle.exact.specs.Winner.{weight_at}
use Rattle.exact_core.specs.ExactCore.{total_units}
use Rattle.part.specs.declared.Part.{Part}
use Rattle.part.specs.Part.{OnPart}
use Rattle.part_select.specs.PartWinner.{IsPartWinner, IsPartNext}
use Rattle.part_answer.specs.Answers.{PartRunnerUp}
use Rattle.part_answer.specs.declared.PartDecoded.{PartDecoded}

-- "that one case": "one origin and one transform", so that the part has one placing
pub record OnePlacing (ts : List ℕ) (part : Part) : Type 0 where
  pub transform : length ts ≡ 1
  pub row : part.rows ≡ 1
  pub col : part.cols ≡ 1

-- a placing of the part is within the error limit
abbrev pub WithinPart : Board → EdgeList → List ℕ → Part → Float → Placing → Type 0
WithinPart B E ts part limit P = OnPart ts part P × (over_limit (size E) limit (hits_at B E ts P) ≡ false)

-- none is
abbrev pub NoneOfPartWithin : Board → EdgeList → List ℕ → Part → Float → Type 0
NoneOfPartWithin B E ts part limit = (Q : Placing) → OnPart ts part Q → over_limit (size E) limit (hits_at B E ts Q) ≡ true

-- a placing of the part "is within the error limit, beats the hits of every other" of the part "by more than its own misses"; where there is no other, it beats 0 hits so
pub record PartLeads (B : Board) (E : EdgeList) (ts : List ℕ) (part : Part) (limit : Float) (P : Placing) : Type 0 where
  pub on_part : OnPart ts part P
  pub within : over_limit (size E) limit (hits_at B E ts P) ≡ false
  pub ahead : (Q : Placing) → OnPart ts part Q → (Same Q P → ⊥) → hits_at B E ts Q + (size E - hits_at B E ts P) < hits_at B E ts P
  pub alone : OnePlacing ts part → 0 + (size E - hits_at B E ts P) < hits_at B E ts P

-- none of the part leads
abbrev pub NoneOfPartLeads : Board → EdgeList → List ℕ → Part → Float → Type 0
NoneOfPartLeads B E ts part limit = (Q : Placing) → PartLeads B E ts part limit Q → ⊥

-- P has the transform and the origin of a list's winner over the part: its placing with most hits, then most weight, then the earliest list position, row number and column number
pub record PartWins (B : Board) (E : EdgeList) (ts : List ℕ) (part : Part) (P : Placing) : Type 0 where
  pub winner : Placing
  pub wins : IsPartWinner B E ts part winner
  pub square : SameSquare ts winner P

-- what is shown beside the placing P: none in that one case, and else "a runner-up that is another placing" of the part "with hits no third exceeds", the earliest of those, with its hits and weight
abbrev pub Beside : Board → EdgeList → List ℕ → Part → Placing → PartRunnerUp → Type 0
Beside B E ts part P None = OnePlacing ts part
Beside B E ts part P (Some (square, hits, weight)) = (Q : Placing) × IsPartNext B E ts part P Q × Names ts Q square × (hits ≡ hits_at B E ts Q) × (weight ≡ weight_at B E ts Q)

-- "one placing of the logical list" leads over the part "and agrees with the winner of the physical list" over the part; the answer gives that placing and what is shown beside it; hits, weights
-- and rate are those of the placings and of the list, edge by edge
pub record PartAnswered (call : HardCall) (part : Part) (d : PartDecoded) : Type 0 where
  pub square : Placing
  pub leads : PartLeads call.board call.logical call.transforms part call.error_limit square
  pub agrees : PartWins call.board call.physical call.transforms part square
  pub names : Names call.transforms square d.square
  pub hits : d.hits ≡ hits_at call.board call.logical call.transforms square
  pub edges : d.edges ≡ size call.logical
  pub weight : d.weight ≡ weight_at call.board call.logical call.transforms square
  pub total : d.total ≡ total_units call.logical
  pub rate : d.error_rate ≡ rate_of (size call.logical) (hits_at call.board call.logical call.transforms square)
  pub beside : Beside call.board call.logical call.transforms part square d.runner_up
