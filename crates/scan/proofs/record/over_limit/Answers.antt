use Rattle.scan.specs.Scan.{over_limit}
use Rattle.scan.proofs.record.over_limit.Goals as goal

pub returns : goal.returns
unfolding over_limit
returns c = rw c.rate.ensures
