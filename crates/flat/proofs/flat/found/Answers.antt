use mathlib.Core.Path.{refl}
use Rattle.flat.proofs.flat.found.Goals as goal

pub returns : goal.returns
returns c = refl
