use Rattle.classes.proofs.period_of.Goals as goal

pub returns-then-horizontal : goal.returns-then-horizontal
returns-then-horizontal c = simp c.if-horizontal.true

pub returns : goal.returns
returns c = simp c.if-horizontal.false
