use lib.Ieee.{of_bits}
use Rattle.ranges.specs.Ranges.{in_range}
use Rattle.ranges.proofs.in_range.Goals as goal

pub returns-then-x : goal.returns-then-x
unfolding in_range of_bits
returns-then-x c = simp c.if-x.true

pub returns-else-x : goal.returns-else-x
unfolding in_range of_bits
returns-else-x c = simp c.if-x.false
