use Prim.Native.Nat.{◌-◌, ◌≤◌}
use lib.ListN.{length}
use Rattle.hard.specs.SelectLaws.{ScanDone}
use Rattle.hard.proofs.select.scan_transforms.Given as goal
use Rattle.board.specs.Given.{board_of, list_of}

abbrev pub invariant-loop-i : goal.invariant-loop-i
invariant-loop-i l =
    (l.i ≤ length l.transforms) × ScanDone (board_of l.tables) (list_of l.list) l.transforms l.confidence l.error_limit l.i l.initial.counts l.counts l.initial.weights l.weights l.scan

abbrev pub decreases-loop-i : goal.decreases-loop-i
decreases-loop-i l =
    l.i-end - l.i
