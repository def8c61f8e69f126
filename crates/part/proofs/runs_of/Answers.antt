use borrow.Author.Tests.{le-leb, lt-leb}
use Rattle.part.specs.Part.{runs_of}
use Rattle.part.proofs.runs_of.Goals as goal

pub returns-then-end-le501 : goal.returns-then-end-le501
unfolding runs_of
returns-then-end-le501 c = simp (le-leb _ _ c.if-end-le501.true)

pub returns : goal.returns
unfolding runs_of
returns c = simp (lt-leb _ _ c.if-end-le501.false)
