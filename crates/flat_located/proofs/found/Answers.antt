-- Each field is the answer's.
use mathlib.Core.Path.{refl}
use Rattle.flat_located.proofs.found.Goals as goal

pub returns : goal.returns
returns c = refl
