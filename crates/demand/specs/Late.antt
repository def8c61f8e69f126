-- Words of the late refusals, for both decoders.
use Rattle.std.specs.Prelude.{◌≡◌, List, ℕ, get_or, Ok}
use Rattle.board.specs.declared.edge.Placing.{Placing}
use Rattle.admission.specs.Calls.{HardCall}
use Rattle.hard.specs.Select.{selection}
use Rattle.scan.specs.declared.scan.Candidate.{Candidate}
use Rattle.scan.specs.declared.scan.RunnerUp.{RunnerUp}

-- one thing is so exactly when another is
abbrev pub Exactly : Type 0 → Type 0 → Type 0
Exactly this that = (this → that) × (that → this)

-- the winner that hard selection keeps on the logical list
pub record LogicalKept (call : HardCall) : Type 0 where
  pub winner : Candidate
  pub runner-up : RunnerUp
  pub chosen : selection call.board call.logical call.transforms call.error_limit ≡ Ok (winner, runner-up)

-- two placings have the same transform and origin
abbrev pub SameSquare : List ℕ → Placing → Placing → Type 0
SameSquare transforms one other = (get_or transforms one.listed 0 ≡ get_or transforms other.listed 0) × (one.row ≡ other.row) × (one.col ≡ other.col)
