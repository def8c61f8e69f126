use mathlib.Core.Path.{refl}
use Rattle.soft.specs.Scan.{soft_empty}
use Rattle.soft.proofs.record.empty.Goals as goal

pub returns : goal.returns
unfolding soft_empty
returns c = refl
