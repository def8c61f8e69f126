use Rattle.soft.specs.Scan.{yields}
use Rattle.soft.proofs.record.takes.Goals as goal

pub returns-in-None : goal.returns-in-None
unfolding yields
returns-in-None c = rw c.in-None.is

pub returns-in-Some : goal.returns-in-Some
unfolding yields
returns-in-Some c = rw c.in-Some.is
