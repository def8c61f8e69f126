-- After i turns the first i edges are in their groups. The invariant speaks of the periods by the moduli that hold them.
use Prim.Native.Nat.{◌-◌, ◌≤◌}
use lib.ListN.{length}
use Rattle.units.specs.UnitParts.{UnitsFilled}
use Rattle.units.proofs.fill_units.Given as goal
use Rattle.board.specs.Given.{list_of}

abbrev pub invariant-loop-i : goal.invariant-loop-i
invariant-loop-i l =
    (l.i ≤ length l.list.edges.rows.now) × UnitsFilled l.h.n l.v.n (list_of l.list) l.t l.base l.i l.initial.units l.units

abbrev pub decreases-loop-i : goal.decreases-loop-i
decreases-loop-i l =
    l.i-end - l.i
