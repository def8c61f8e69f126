-- After i turns the first i edges are in their groups. The invariant speaks of the periods by the moduli that hold them.
use Prim.Native.Nat.{◌-◌, ◌≤◌}
use lib.ListN.{length}
use Rattle.groups.specs.Fill.{Filled}
use Rattle.groups.proofs.groups.fill_groups.Given as goal
use Rattle.board.specs.Given.{list_of}

abbrev pub invariant-loop-i : goal.invariant-loop-i
invariant-loop-i l =
    (l.i ≤ length l.list.edges.rows.now) × Filled l.h.n l.v.n (list_of l.list) l.t l.base l.i l.initial.counts l.counts l.initial.weights l.weights

abbrev pub decreases-loop-i : goal.decreases-loop-i
decreases-loop-i l =
    l.i-end - l.i
