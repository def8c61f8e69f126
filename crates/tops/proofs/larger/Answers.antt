use borrow.Author.Tests.{lt-ltb, le-ltb}
use Rattle.tops.specs.Tops.{larger}
use Rattle.tops.proofs.larger.Goals as goal

pub returns-then-a-b : goal.returns-then-a-b
unfolding larger
returns-then-a-b c = simp (lt-ltb _ _ c.if-a-b.true)

pub returns : goal.returns
unfolding larger
returns c = simp (le-ltb _ _ c.if-a-b.false)
