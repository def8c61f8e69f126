use borrow.Author.Tests.{lt-ltb, le-ltb}
use Rattle.part_scan.specs.Kept.{offered_two}
use Rattle.part_scan.proofs.kept.offer_two.Goals as goal

pub returns-then-w-c : goal.returns-then-w-c
unfolding offered_two
returns-then-w-c c = simp (lt-ltb _ _ c.if-w-c.true, c.second_of-s.ensures)

pub returns : goal.returns
unfolding offered_two
returns c = simp (le-ltb _ _ c.if-w-c.false, c.next_of-s.ensures)
