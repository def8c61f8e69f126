use Rattle.within.specs.Within.{allowed}
use Rattle.within.proofs.allowed.Goals as goal

pub returns : goal.returns
unfolding allowed
returns c = rw c.rate.ensures
