use mathlib.Core.Path.{◌≡◌}
use mathlib.Core.List.{[]}
use Prim.Native.Nat.{◌*◌, ◌-◌, ◌≤◌}
use Rattle.classes.specs.Classes.{class_hits}
use Rattle.tops.specs.Tops.{top_to}
use Rattle.tops.proofs.side_top.Given as goal
use Rattle.board.specs.Given.{board_of, edges_of}

abbrev pub invariant-loop-long : goal.invariant-loop-long
invariant-loop-long l =
    (l.long ≤ l.period) × (l.top ≡ top_to (class_hits (board_of l.tables) (edges_of l.edges) l.t l.horizontal) (l.long * 3))

abbrev pub decreases-loop-long : goal.decreases-loop-long
decreases-loop-long l = l.period - l.long
