-- What customers are promised of a found exact answer (request C-15, demand 3 "with its own physical winner"): by hits and weights, edge by edge. No selection and no table occurs.
use Rattle.std.specs.Prelude.{◌≡◌, List, ℕ}
use Rattle.board.specs.declared.edge.Placing.{Placing}
use Rattle.board.specs.Hits.{EdgeList, Board, size, hits_at}
use Rattle.admission.specs.Calls.{HardCall}
use Rattle.figures.specs.Figures.{rate_of}
use Rattle.demand.specs.Demand.{Leads, RunsUp, Tells}
use Rattle.demand.specs.Late.{SameSquare}
use Rattle.exact.specs.Winner.{weight_at, IsWinner}
use Rattle.exact_answer.specs.declared.ExactDecoded.{ExactDecoded}
use Rattle.exact_core.specs.ExactCore.{total_units}

-- P has the transform and the origin of a list's winner: the placing with most hits, then most weight, then the earliest list position, row and column
pub record ExactWins (B : Board) (E : EdgeList) (ts : List ℕ) (P : Placing) : Type 0 where
  pub winner : Placing
  pub wins : IsWinner B E ts winner
  pub square : SameSquare ts winner P

-- "one placing of the logical list" leads "and agrees with the winner of the physical list; it gives that placing and a runner-up that is another placing with hits no third exceeds"; and the answer's
-- weights and rate are those of the two placings and of the list, edge by edge
pub record ExactAnswered (call : HardCall) (d : ExactDecoded) : Type 0 where
  pub square : Placing
  pub runner-up : Placing
  pub leads : Leads call.board call.logical call.transforms call.error_limit square
  pub agrees : ExactWins call.board call.physical call.transforms square
  pub runs_up : RunsUp call.board call.logical call.transforms square runner-up
  pub tells : Tells call.board call.logical call.logical call.transforms square runner-up d.square d.hits d.edges d.runner_up d.runner_up_hits
  pub weight : d.weight ≡ weight_at call.board call.logical call.transforms square
  pub total : d.total ≡ total_units call.logical
  pub runner_up_weight : d.runner_up_weight ≡ weight_at call.board call.logical call.transforms runner-up
  pub rate : d.error_rate ≡ rate_of (size call.logical) (hits_at call.board call.logical call.transforms square)
