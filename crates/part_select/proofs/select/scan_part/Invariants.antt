use Prim.Native.Nat.{◌-◌, ◌≤◌}
use lib.ListN.{length}
use Rattle.part_select.specs.Select.{PartScanDone}
use Rattle.part_select.proofs.select.scan_part.Given as goal
use Rattle.board.specs.Given.{board_of, list_of}

abbrev pub invariant-loop-i : goal.invariant-loop-i
invariant-loop-i l =
    (l.i ≤ length l.transforms) × PartScanDone (board_of l.tables) (list_of l.list) l.transforms l.down l.across l.i l.initial.units l.units l.kept

abbrev pub decreases-loop-i : goal.decreases-loop-i
decreases-loop-i l = l.i-end - l.i
