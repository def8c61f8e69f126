-- `Millionths`: what is left to write is less than 1.
use Rattle.std.proofs.Common.{◌<◌}
use Rattle.console.proofs.number.MillionthsDisplay.fmt.Given as goal

abbrev pub invariant-loop : goal.invariant-loop
invariant-loop g l = l.left < 1000000
