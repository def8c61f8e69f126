use Rattle.tally.proofs.less_if.Goals as goal

pub returns-then-count-eq0 : goal.returns-then-count-eq0
returns-then-count-eq0 c = simp (c.if-chosen.true, c.if-count-eq0.true)

pub returns-then-chosen : goal.returns-then-chosen
returns-then-chosen c = simp c.if-chosen.true
