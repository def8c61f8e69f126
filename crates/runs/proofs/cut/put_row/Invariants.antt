-- `put_row`: the columns hold no more edges than they have places.
use Rattle.std.proofs.Common.{◌≤◌}
use Rattle.runs.proofs.cut.put_row.Given as goal

abbrev pub invariant-loop-col : goal.invariant-loop-col
invariant-loop-col l = l.count ≤ 8193
