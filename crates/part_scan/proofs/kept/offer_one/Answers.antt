use borrow.Author.Tests.{lt-ltb, le-ltb}
use Rattle.part_scan.specs.Kept.{offered_one}
use Rattle.part_scan.proofs.kept.offer_one.Goals as goal

pub returns-then-w-c : goal.returns-then-w-c
unfolding offered_one
returns-then-w-c c = simp (lt-ltb _ _ c.if-w-c.true)

pub returns : goal.returns
unfolding offered_one
returns c = simp (le-ltb _ _ c.if-w-c.false)
