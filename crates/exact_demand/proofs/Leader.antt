-- Who leads the logical list wins it.
use Rattle.std.specs.Prelude.{ℕ, get_or}
use Rattle.std.proofs.Common.{sym, ap}
use Rattle.board.specs.declared.edge.Placing.{Placing}
use Rattle.admission.specs.Calls.{HardCall}
use Rattle.demand.specs.Demand.{Leads}
use Rattle.exact_demand.specs.ExactDemand.{ExactWins}
use Rattle.exact_demand.proofs.ExactSelections.{leads-wins}
use Rattle.exact_demand.proofs.ExactEnds.{BothWin}

pub leader : (call : HardCall) (b : BothWin call) (Q : Placing) → Leads call.board call.logical call.transforms call.error_limit Q → ExactWins call.board call.logical call.transforms Q
leader call b Q l =
    let s = leads-wins call.board call.logical call.transforms call.error_limit Q b.logical l b.logical_wins in
    record { winner = b.logical; wins = b.logical_wins; square = (ap (λ (i : ℕ). get_or call.transforms i 0) (sym s.0), sym s.1, sym s.2) }
