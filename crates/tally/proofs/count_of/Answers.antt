use borrow.Author.Tests.{eq-eqb, ne_eqb}
use Rattle.tally.specs.Tally.{count_of}
use Rattle.tally.proofs.count_of.Goals as goal

pub returns-then-hit : goal.returns-then-hit
unfolding count_of
returns-then-hit c = simp (eq-eqb _ _ c.if-orientation-eq0.true, c.if-hit.true)

pub returns-then-orientation-eq0 : goal.returns-then-orientation-eq0
unfolding count_of
returns-then-orientation-eq0 c = simp (eq-eqb _ _ c.if-orientation-eq0.true, c.if-hit.false)

pub returns-then-hit-2 : goal.returns-then-hit-2
unfolding count_of
returns-then-hit-2 c = simp (ne_eqb _ _ c.if-orientation-eq0.false, c.if-hit-2.true)

pub returns : goal.returns
unfolding count_of
returns c = simp (ne_eqb _ _ c.if-orientation-eq0.false, c.if-hit-2.false)
