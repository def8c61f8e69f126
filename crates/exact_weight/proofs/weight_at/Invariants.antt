-- After i turns the sum is the weight of the first i edges; each turn adds a hit's units, or nothing.
use mathlib.Core.Path.{◌≡◌}
use Prim.Native.Nat.{◌≤◌, ◌-◌}
use lib.ListN.{length}
use Rattle.exact_weight.specs.WeightLaws.{weight_to}
use Rattle.exact_weight.proofs.weight_at.Given as goal
use Rattle.board.specs.Given.{board_of, list_of}

abbrev pub invariant-loop-i : goal.invariant-loop-i
invariant-loop-i l =
    (l.i ≤ length l.list.edges.rows.now) × (l.sum ≡ weight_to (board_of l.tables) (list_of l.list) l.square.transform l.square.row l.square.col l.i)

abbrev pub decreases-loop-i : goal.decreases-loop-i
decreases-loop-i l = l.i-end - l.i
