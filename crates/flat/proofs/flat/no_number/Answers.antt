use mathlib.Core.Path.{refl}
use Rattle.flat.proofs.flat.no_number.Goals as goal

pub returns : goal.returns
unfolding lib.Ieee.of_bits lib.Ieee.div
returns c = refl
