-- After i turns the first i classes are done; class i adds its row to its own three cells, which are as they were.
use Prim.Native.Nat.{◌*◌, ◌-◌, ◌≤◌}
use Rattle.cells.specs.Credit.{CountsIn, WeightsIn}
use Rattle.cells.proofs.run.credit_singles.Given as goal

abbrev pub invariant-loop-i : goal.invariant-loop-i
invariant-loop-i l = (l.i ≤ l.n) × CountsIn l.terms l.part l.at l.stride l.across (l.i * 3) l.initial.counts l.counts × WeightsIn l.terms l.part l.at l.stride l.across (l.i * 3) l.initial.weights l.weights

abbrev pub decreases-loop-i : goal.decreases-loop-i
decreases-loop-i l = l.n - l.i
