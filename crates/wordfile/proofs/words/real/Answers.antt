-- `real`: the test is the definition.
use mathlib.Core.Path.{refl}
use Rattle.wordfile.specs.Bits.{real_bits}
use Rattle.wordfile.proofs.words.real.Goals as goal

pub returns : goal.returns
unfolding real_bits
returns c = refl
