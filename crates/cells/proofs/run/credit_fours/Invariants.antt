-- After i turns the first 4 i classes are done; each turn adds four rows, neighbours together.
use Prim.Native.Nat.{◌*◌, ◌-◌, ◌/◌, ◌≤◌}
use Rattle.cells.specs.Credit.{CountsIn, WeightsIn}
use Rattle.cells.proofs.run.credit_fours.Given as goal

abbrev pub invariant-loop-i : goal.invariant-loop-i
invariant-loop-i l = (l.i ≤ l.n / 4) × CountsIn l.terms l.part l.at 1 l.across (l.i * 4 * 3) l.initial.counts l.counts × WeightsIn l.terms l.part l.at 1 l.across (l.i * 4 * 3) l.initial.weights l.weights

abbrev pub decreases-loop-i : goal.decreases-loop-i
decreases-loop-i l = l.n / 4 - l.i
