use Rattle.stats.proofs.stats.add_edge.Goals as goal

pub returns-then-hit : goal.returns-then-hit
returns-then-hit c = simp c.if-hit.true

pub returns : goal.returns
returns c = simp c.if-hit.false
