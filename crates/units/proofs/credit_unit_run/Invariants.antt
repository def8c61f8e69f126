-- After i turns the cells of the first i classes have their terms added. A turn adds three terms, each at a place that no earlier turn reached.
use Prim.Native.Nat.{◌*◌, ◌-◌, ◌≤◌}
use Rattle.units.specs.UnitParts.{RunCellsU}
use Rattle.units.proofs.credit_unit_run.Given as goal

abbrev pub invariant-loop-i : goal.invariant-loop-i
invariant-loop-i l = (l.i ≤ l.n) × RunCellsU l.terms l.part l.at l.stride l.across (l.i * 3) l.initial.units l.units

abbrev pub decreases-loop-i : goal.decreases-loop-i
decreases-loop-i l = l.n - l.i
