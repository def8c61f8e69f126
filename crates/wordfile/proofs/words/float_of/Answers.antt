-- `float_of`: such bits are no NaN's, and a float's.
use Rattle.wordfile.specs.Bits.{real-bits, float-real}
use Rattle.wordfile.proofs.words.float_of.Goals as goal

pub float_from_bits-result : goal.float_from_bits-result
float_from_bits-result c = real-bits c.args.x c.requires

pub returns : goal.returns
returns c = float-real c.args.x c.requires
