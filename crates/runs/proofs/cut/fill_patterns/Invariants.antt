-- `fill_patterns`: what lies below the place that has been reached is patterns.
use Rattle.std.proofs.Common.{length}
use Rattle.runs.specs.Made.{Made}
use Rattle.runs.proofs.cut.fill_patterns.Given as goal

abbrev pub invariant-loop-i : goal.invariant-loop-i
invariant-loop-i l = Made l.table (length l.fn.table) l.i
