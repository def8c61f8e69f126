use borrow.Author.Tests.{le-leb, lt-leb}
use Rattle.tally_checks.specs.Judged.{full}
use Rattle.tally_checks.proofs.is_full.Goals as goal

pub returns-then-n-edges : goal.returns-then-n-edges
unfolding full
returns-then-n-edges c = simp (le-leb _ _ c.if-n-edges.true)

pub returns : goal.returns
unfolding full
returns c = simp (lt-leb _ _ c.if-n-edges.false)
