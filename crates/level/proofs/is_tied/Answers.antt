use mir.Syntax.{w64}
use Rattle.laws.specs.Signed.{said-eq}
use Rattle.level.proofs.is_tied.Goals as goal

pub returns : goal.returns
returns c = said-eq w64 c.args.sum c.args.top c.ranges.sum c.ranges.top
