use Prim.Native.Nat.{◌-◌, ◌≤◌}
use lib.ListN.{length}
use Rattle.sums.specs.Sums.{likelihoods}
use Rattle.soft.specs.Select.{SoftScanned}
use Rattle.soft.proofs.select.scan_transforms.Given as goal
use Rattle.board.specs.Given.{board_of, list_of}
use Rattle.likelihood.specs.Given.{likelihoods_of}

abbrev pub invariant-loop-i : goal.invariant-loop-i
invariant-loop-i l =
    (l.i ≤ length l.transforms) × SoftScanned (board_of l.tables) (list_of l.list) (likelihoods_of l.likelihoods) l.transforms l.i l.initial.sums l.sums l.scan

abbrev pub decreases-loop-i : goal.decreases-loop-i
decreases-loop-i l =
    l.i-end - l.i
