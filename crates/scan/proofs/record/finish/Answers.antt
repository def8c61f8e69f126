use Rattle.scan.specs.Scan.{chosen}
use Rattle.scan.proofs.record.finish.Goals as goal

pub runner_up-runner_up-requires : goal.runner_up-runner_up-requires
runner_up-runner_up-requires c = (c.requires.0, rw c.in-Some.is at c.requires.1)

pub returns-in-None : goal.returns-in-None
unfolding chosen
returns-in-None c = rw c.in-None.is

pub returns-in-Some : goal.returns-in-Some
unfolding chosen
returns-in-Some c = rw (c.in-Some.is, c.runner_up-runner_up.ensures)
