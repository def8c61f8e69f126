-- `float`: what passed the test has no NaN's bits.
use mathlib.Core.Path.{sym, ◌∙◌}
use lib.Ieee.{div}
use Rattle.wordfile.specs.Bits.{float-nan}
use Rattle.wordfile.proofs.words.float.Goals as goal

pub float_of-requires : goal.float_of-requires
float_of-requires c = sym c.real.ensures ∙ c.if-real.true

pub returns-else-real : goal.returns-else-real
unfolding div lib.Ieee.of_bits
returns-else-real c = float-nan _ (sym c.real.ensures ∙ c.if-real.false)
