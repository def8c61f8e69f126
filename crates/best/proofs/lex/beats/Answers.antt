use borrow.Author.Tests.{lt-ltb, le-ltb, ne_eqb, eq-eqb}
use Rattle.best.proofs.lex.beats.Goals as goal

pub returns-then-c-d : goal.returns-then-c-d
returns-then-c-d c = simp (lt-ltb _ _ c.if-c-d.true)

pub returns-then-c-d-2 : goal.returns-then-c-d-2
returns-then-c-d-2 c = simp (le-ltb _ _ c.if-c-d.false, eq-eqb _ _ c.if-c-d-2.true)

pub returns-else-c-d-2 : goal.returns-else-c-d-2
returns-else-c-d-2 c = simp (le-ltb _ _ c.if-c-d.false, ne_eqb _ _ c.if-c-d-2.false)
