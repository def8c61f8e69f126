use borrow.Author.Tests.{lt-ltb, le-ltb}
use Rattle.tally_checks.specs.Judged.{record_bad}
use Rattle.tally_checks.proofs.record_bad.Goals as goal

pub returns-then-n-tally : goal.returns-then-n-tally
unfolding record_bad
returns-then-n-tally c = simp (lt-ltb _ _ c.if-n-tally.true)

pub returns : goal.returns
unfolding record_bad
returns c = simp (le-ltb _ _ c.if-n-tally.false)
