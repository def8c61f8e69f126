use mathlib.Core.List.{[]}
use Prim.Native.Nat.{◌*◌, ◌-◌, ◌≤◌}
use lib.ListN.{length}
use Rattle.laws.specs.First.{Searching}
use Rattle.firsts.specs.Firsts.{key_has}
use Rattle.firsts.proofs.first_key.Given as goal
use Rattle.board.specs.Given.{board_of, edges_of}

abbrev pub invariant-loop-row : goal.invariant-loop-row
invariant-loop-row l =
    (l.row ≤ 3 * length l.tables.h.now) × Searching (key_has (board_of l.tables) (edges_of l.edges) l.t l.wanted) (3 * length l.tables.h.now * (3 * length l.tables.v.now)) (l.row * (3 * length l.tables.v.now))

abbrev pub decreases-loop-row : goal.decreases-loop-row
decreases-loop-row l = 3 * length l.tables.h.now - l.row
