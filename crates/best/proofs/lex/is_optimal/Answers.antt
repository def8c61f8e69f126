use borrow.Author.Tests.{ne_eqb, eq-eqb}
use Rattle.best.proofs.lex.is_optimal.Goals as goal

pub returns-then-c-top : goal.returns-then-c-top
returns-then-c-top c = simp (eq-eqb _ _ c.if-c-top.true)

pub returns-else-c-top : goal.returns-else-c-top
returns-else-c-top c = simp (ne_eqb _ _ c.if-c-top.false)
