use mathlib.Core.Path.{◌≡◌}
use Rattle.scan.specs.Scan.{runner_up_of}
use Rattle.scan.proofs.record.runner_up.Given as goal

abbrev pub invariant-loop-i : goal.invariant-loop-i
invariant-loop-i l = l.r ≡ runner_up_of l.scan.summaries l.winner l.i
