use mathlib.Core.Path.{◌≡◌}
use mathlib.Core.List.{[]}
use Prim.Native.Nat.{◌-◌, ◌≤◌}
use Rattle.tops.specs.Tops.{short_tops}
use Rattle.tops.proofs.short_tops.Given as goal
use Rattle.board.specs.Given.{board_of, edges_of}

abbrev pub invariant-loop-long : goal.invariant-loop-long
invariant-loop-long l =
    (l.long ≤ l.period) × (l.top ≡ short_tops (board_of l.tables) (edges_of l.edges) l.t l.long)

abbrev pub decreases-loop-long : goal.decreases-loop-long
decreases-loop-long l = l.period - l.long
