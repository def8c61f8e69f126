use borrow.Author.Tests.{eq-eqb, ne_eqb}
use Rattle.classes.proofs.is_on.Goals as goal

pub returns-then-orientation-eq0 : goal.returns-then-orientation-eq0
returns-then-orientation-eq0 c = simp (eq-eqb _ _ c.if-orientation-eq0.true)

pub returns : goal.returns
returns c = simp (ne_eqb _ _ c.if-orientation-eq0.false)
