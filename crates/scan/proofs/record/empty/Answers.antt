use mathlib.Core.Path.{refl}
use Rattle.scan.specs.Scan.{empty_scan}
use Rattle.scan.proofs.record.empty.Goals as goal

pub returns : goal.returns
unfolding empty_scan
returns c = refl
