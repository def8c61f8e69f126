use Prim.Native.Nat.{◌-◌, ◌≤◌}
use lib.ListN.{length}
use Rattle.exact.specs.SelectLaws.{ExactScanDone}
use Rattle.exact.proofs.select.scan_values.Given as goal
use Rattle.board.specs.Given.{board_of, list_of}

abbrev pub invariant-loop-i : goal.invariant-loop-i
invariant-loop-i l =
    (l.i ≤ length l.transforms) × ExactScanDone (board_of l.tables) (list_of l.list) l.transforms l.i l.initial.units l.units l.scan

abbrev pub decreases-loop-i : goal.decreases-loop-i
decreases-loop-i l = l.i-end - l.i
