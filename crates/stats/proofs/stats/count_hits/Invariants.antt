-- After i turns the sum is that of the first i edges; each turn adds one hit and its confidence, or nothing.
use mathlib.Core.Path.{◌≡◌}
use Prim.Native.Nat.{◌≤◌, ◌-◌}
use lib.ListN.{length}
use Rattle.stats.specs.StatsLaws.{so_far}
use Rattle.stats.proofs.stats.count_hits.Given as goal
use Rattle.board.specs.Given.{board_of, list_of}

abbrev pub invariant-loop-i : goal.invariant-loop-i
invariant-loop-i l =
    (l.i ≤ length l.list.edges.rows.now) × (l.sum ≡ so_far (list_of l.list) l.square.transform l.square.row l.square.col (board_of l.tables) l.i)

abbrev pub decreases-loop-i : goal.decreases-loop-i
decreases-loop-i l = l.i-end - l.i
