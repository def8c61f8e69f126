use borrow.Author.Tests.{eq-eqb, ne_eqb}
use Rattle.tally.proofs.belongs.Goals as goal

pub returns-then-wanted : goal.returns-then-wanted
returns-then-wanted c = simp (eq-eqb _ _ c.if-orientation-side.true, c.if-wanted.true)

pub returns-then-orientation-side : goal.returns-then-orientation-side
returns-then-orientation-side c = simp (eq-eqb _ _ c.if-orientation-side.true, c.if-wanted.false)

pub returns : goal.returns
returns c = simp (ne_eqb _ _ c.if-orientation-side.false)
