-- `count_differences`: no more differ than were compared.
use Rattle.std.proofs.Common.{◌≤◌}
use Rattle.poletables.proofs.compared.count_differences.Given as goal

abbrev pub invariant-loop-cell : goal.invariant-loop-cell
invariant-loop-cell g l = l.differ ≤ l.cell-index
