use Rattle.tally.proofs.more_if.Goals as goal

pub returns-then-chosen : goal.returns-then-chosen
returns-then-chosen c = simp c.if-chosen.true
