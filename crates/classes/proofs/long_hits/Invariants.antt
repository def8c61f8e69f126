use mathlib.Core.Path.{◌≡◌}
use mathlib.Core.List.{[]}
use Prim.Native.Nat.{◌≤◌, ◌-◌}
use lib.ListN.{length}
use Rattle.classes.specs.ClassesLaws.{so_far}
use Rattle.classes.proofs.long_hits.Given as goal
use Rattle.board.specs.Given.{board_of, edges_of}

abbrev pub invariant-loop-i : goal.invariant-loop-i
invariant-loop-i l =
    (l.i ≤ length l.edges.rows.now) × (l.sum ≡ so_far (board_of l.tables) (edges_of l.edges) l.t l.horizontal l.long l.i)

abbrev pub decreases-loop-i : goal.decreases-loop-i
decreases-loop-i l = l.i-end - l.i
