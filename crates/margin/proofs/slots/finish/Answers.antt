use Rattle.margin.specs.Choice.{soft_chosen}
use Rattle.margin.proofs.slots.finish.Goals as goal

pub returns-in-None : goal.returns-in-None
unfolding soft_chosen
returns-in-None c = rw c.in-None.is

pub returns-in-None-b : goal.returns-in-None-b
unfolding soft_chosen
returns-in-None-b c = rw (c.in-Some.is, c.in-None-b.is)

pub returns-in-Some-b : goal.returns-in-Some-b
unfolding soft_chosen
returns-in-Some-b c = rw (c.in-Some.is, c.in-Some-b.is)
