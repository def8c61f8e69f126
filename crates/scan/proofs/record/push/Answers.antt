use mathlib.Core.Path.{refl}
use Rattle.scan.specs.Scan.{pushed}
use Rattle.scan.proofs.record.push.Goals as goal

pub returns : goal.returns
unfolding pushed
returns c = refl
