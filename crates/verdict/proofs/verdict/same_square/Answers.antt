use borrow.Author.Tests.{eq-eqb, ne_eqb}
use Rattle.verdict.specs.Verdict.{agreed}
use Rattle.verdict.proofs.verdict.same_square.Goals as goal

pub returns-then-a-b : goal.returns-then-a-b
unfolding agreed
returns-then-a-b c = simp (eq-eqb _ _ c.if-t-s.true, eq-eqb _ _ c.if-a-b.true)

pub returns-else-a-b : goal.returns-else-a-b
unfolding agreed
returns-else-a-b c = simp (eq-eqb _ _ c.if-t-s.true, ne_eqb _ _ c.if-a-b.false)

pub returns-else-t-s : goal.returns-else-t-s
unfolding agreed
returns-else-t-s c = simp (ne_eqb _ _ c.if-t-s.false)
