-- `put_window`: the columns hold no more edges than they have places.
use Rattle.std.proofs.Common.{◌≤◌}
use Rattle.runs.proofs.cut.put_window.Given as goal

abbrev pub invariant-loop-row : goal.invariant-loop-row
invariant-loop-row l = l.count ≤ 8193
