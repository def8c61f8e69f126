-- `bits_of`: what differs from itself is a NaN, and what does not has bits.
use Rattle.console.specs.Bits.{bits-nan, no_nan, bits-some}
use Rattle.console.proofs.number.bits_of.Goals as goal

pub returns-then-x : goal.returns-then-x
returns-then-x c = bits-nan c.args.x c.if-x.true

pub float_to_bits-result : goal.float_to_bits-result
float_to_bits-result c = no_nan c.args.x c.if-x.false

pub returns : goal.returns
returns c = bits-some c.args.x (no_nan c.args.x c.if-x.false)
