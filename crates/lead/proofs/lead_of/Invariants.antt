use mathlib.Core.Path.{◌≡◌}
use mathlib.Core.List.{[]}
use Prim.Native.Nat.{◌-◌, ◌≤◌, ◌<◌}
use lib.ListN.{length}
use Rattle.lead.specs.Lead.{lead_after, peaks}
use Rattle.lead.proofs.lead_of.Given as goal
use Rattle.board.specs.Given.{board_of, edges_of}

abbrev pub invariant-loop-p : goal.invariant-loop-p
invariant-loop-p l =
    (0 < l.p) × (l.p ≤ length l.transforms) × (l.lead ≡ lead_after (peaks (board_of l.tables) (edges_of l.edges) l.transforms) (l.p - 1))

abbrev pub decreases-loop-p : goal.decreases-loop-p
decreases-loop-p l = length l.transforms - l.p
