-- After each turn one family more is in the side's cells.
use Prim.Native.Nat.{◌-◌, ◌≤◌}
use Rattle.units.specs.UnitParts.{SideCellsU}
use Rattle.units.proofs.build_unit_side.Given as goal
use Rattle.board.specs.Given.{board_of}

abbrev pub invariant-loop-family : goal.invariant-loop-family
invariant-loop-family l = (l.family ≤ l.period) × SideCellsU (board_of l.tables) l.side l.family l.initial.units l.units

abbrev pub decreases-loop-family : goal.decreases-loop-family
decreases-loop-family l = l.period - l.family
