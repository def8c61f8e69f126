-- After each turn one family more is in the side's cells.
use Prim.Native.Nat.{◌-◌, ◌≤◌}
use Rattle.sums.specs.SumParts.{SideCellsZ}
use Rattle.sums.proofs.sums.build_sum_side.Given as goal
use Rattle.board.specs.Given.{board_of}

abbrev pub invariant-loop-family : goal.invariant-loop-family
invariant-loop-family l = (l.family ≤ l.period) × SideCellsZ (board_of l.tables) l.side l.also l.family l.initial.sums l.sums

abbrev pub decreases-loop-family : goal.decreases-loop-family
decreases-loop-family l = l.period - l.family
