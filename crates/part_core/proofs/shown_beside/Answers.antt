use Rattle.part_core.proofs.shown_beside.Goals as goal

pub bounds-transforms-at : goal.bounds-transforms-at
bounds-transforms-at c = rw c.in-Some.is at c.requires

pub returns-in-Some : goal.returns-in-Some
returns-in-Some c = rw c.in-Some.is
