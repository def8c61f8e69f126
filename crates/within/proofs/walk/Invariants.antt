-- Before edge i reading has not stopped, and the hits are those of the first i edges.
use Prim.Native.Nat.{◌-◌}
use lib.ListN.{length}
use Rattle.within.specs.WithinLaws.{Walking}
use Rattle.within.proofs.walk.Given as goal
use Rattle.board.specs.Given.{board_of, list_of}

abbrev pub invariant-loop-i : goal.invariant-loop-i
invariant-loop-i l =
    Walking (list_of l.list) l.square.transform l.square.row l.square.col (board_of l.tables) l.error_limit l.i l.hits

abbrev pub decreases-loop-i : goal.decreases-loop-i
decreases-loop-i l = length l.list.edges.rows.now - l.i
