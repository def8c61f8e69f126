use borrow.Author.Tests.{eq-eqb, ne_eqb}
use Rattle.firsts.proofs.pick.Goals as goal

pub returns-then-i-eq0 : goal.returns-then-i-eq0
returns-then-i-eq0 c = simp (eq-eqb _ _ c.if-i-eq0.true)

pub returns-then-i-eq1 : goal.returns-then-i-eq1
returns-then-i-eq1 c = simp (ne_eqb _ _ c.if-i-eq0.false, eq-eqb _ _ c.if-i-eq1.true)

pub returns : goal.returns
returns c = simp (ne_eqb _ _ c.if-i-eq0.false, ne_eqb _ _ c.if-i-eq1.false)
