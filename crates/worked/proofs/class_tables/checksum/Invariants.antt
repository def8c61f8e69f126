-- `checksum`: the sum stays below its modulus.
use Rattle.std.proofs.Common.{◌<◌}
use Rattle.worked.proofs.class_tables.checksum.Given as goal

abbrev pub invariant-loop-count : goal.invariant-loop-count
invariant-loop-count l = l.sum < 1000000007
