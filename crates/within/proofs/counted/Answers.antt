use Rattle.within.proofs.counted.Goals as goal

pub returns-then-hit : goal.returns-then-hit
returns-then-hit c = simp c.if-hit.true
