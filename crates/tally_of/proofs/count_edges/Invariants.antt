use Prim.Native.Nat.{◌-◌}
use Rattle.tally_of.specs.BegunLaws.{Counting}
use Rattle.tally_of.proofs.count_edges.Given as goal
use Rattle.board.specs.Given.{board_of, list_of}

abbrev pub invariant-loop-i : goal.invariant-loop-i
invariant-loop-i l = Counting (list_of l.list) l.square (board_of l.tables) l.tally l.i

abbrev pub decreases-loop-i : goal.decreases-loop-i
decreases-loop-i l = l.i-end - l.i
