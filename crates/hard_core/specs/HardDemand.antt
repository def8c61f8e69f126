-- What customers are promised of a found hard answer (demand 3), by hits, edge by edge; of tables only the physical list's winner speaks.
use Rattle.board.specs.declared.edge.Placing.{Placing}
use Rattle.admission.specs.Calls.{HardCall}
use Rattle.answer.specs.declared.Decoded.{Decoded}
use Rattle.demand.specs.Demand.{Leads, RunsUp, AgreesPhysical, Tells}

-- "one placing of the logical list" leads "and agrees with the winner of the physical list; it gives that placing and a runner-up that is another placing with hits no third exceeds"
pub record HardAnswered (call : HardCall) (d : Decoded) : Type 0 where
  pub square : Placing
  pub runner-up : Placing
  pub leads : Leads call.board call.logical call.transforms call.error_limit square
  pub agrees : AgreesPhysical call.board call.physical call.transforms square
  pub runs_up : RunsUp call.board call.logical call.transforms square runner-up
  pub tells : Tells call.board call.logical call.logical call.transforms square runner-up d.square d.hits d.edges d.runner_up d.runner_up_hits
