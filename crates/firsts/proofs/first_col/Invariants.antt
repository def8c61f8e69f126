use mathlib.Core.List.{[]}
use Prim.Native.Nat.{◌*◌, ◌-◌}
use lib.ListN.{length}
use Rattle.laws.specs.First.{Searching}
use Rattle.firsts.specs.Firsts.{has}
use Rattle.firsts.proofs.first_col.Given as goal
use Rattle.board.specs.Given.{board_of, edges_of}

abbrev pub invariant-loop-col : goal.invariant-loop-col
invariant-loop-col l = Searching (has (board_of l.tables) (edges_of l.edges) l.t l.wanted l.row) (3 * length l.tables.v.now) l.col

abbrev pub decreases-loop-col : goal.decreases-loop-col
decreases-loop-col l = 3 * l.period - l.col
