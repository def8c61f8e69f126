-- After i turns the first 2 i classes are done; each turn adds two rows to six neighbouring cells, first the counts and then the weights.
use Prim.Native.Nat.{◌*◌, ◌-◌, ◌/◌, ◌≤◌}
use Rattle.cells.specs.Credit.{CountsIn, WeightsIn}
use Rattle.cells.proofs.run.credit_pairs.Given as goal

abbrev pub invariant-loop-i : goal.invariant-loop-i
invariant-loop-i l = (l.i ≤ l.n / 2) × CountsIn l.terms l.part l.at 3 1 (l.i * 2 * 3) l.initial.counts l.counts × WeightsIn l.terms l.part l.at 3 1 (l.i * 2 * 3) l.initial.weights l.weights

abbrev pub decreases-loop-i : goal.decreases-loop-i
decreases-loop-i l = l.n / 2 - l.i
