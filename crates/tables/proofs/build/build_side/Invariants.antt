-- Before turn n the cells hold the first n - 1 families, added by rising long residue; the turn adds family n - 1 to them.
use Prim.Native.Nat.{◌-◌, ◌≤◌}
use Rattle.tables.specs.Side.{SideCells}
use Rattle.tables.proofs.build.build_side.Given as goal
use Rattle.board.specs.Given.{board_of}

abbrev pub invariant-loop-nth : goal.invariant-loop-nth
invariant-loop-nth l =
    (1 ≤ l.nth) × (l.nth ≤ l.nth-end)
    × SideCells (board_of l.tables) l.side (l.nth - 1) l.initial.counts l.counts l.initial.weights l.weights

abbrev pub decreases-loop-nth : goal.decreases-loop-nth
decreases-loop-nth l = l.nth-end - l.nth
