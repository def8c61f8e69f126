use Prim.Native.Nat.{◌*◌, ◌-◌, ◌≤◌}
use Rattle.sums.specs.SumParts.{RunCellsZ}
use Rattle.sums.proofs.sums.credit_sum_run.Given as goal

abbrev pub invariant-loop-i : goal.invariant-loop-i
invariant-loop-i l = (l.i ≤ l.n) × RunCellsZ l.terms l.part l.at l.stride l.across (l.i * 3) l.initial.sums l.sums

abbrev pub decreases-loop-i : goal.decreases-loop-i
decreases-loop-i l = l.n - l.i
