use borrow.Author.Rules.{rules}
use Rattle.part_select.proofs.finish.finish_part.Goals as goal

pub finish_with-requires : goal.finish_with-requires
finish_with-requires c = rw c.in-One.is at c.requires

pub winner_of-other-requires : goal.winner_of-other-requires
winner_of-other-requires c = let p = rw c.in-Two.is at c.requires in search (rules, p)

pub finish_with-requires-in-Two : goal.finish_with-requires-in-Two
finish_with-requires-in-Two c = (rw c.in-Two.is at c.requires).0

pub returns-in-One : goal.returns-in-One
returns-in-One c = rw (c.in-One.is, c.finish_with.ensures)

pub returns-in-Two : goal.returns-in-Two
returns-in-Two c = rw (c.in-Two.is, c.finish_with-in-Two.ensures, c.winner_of-other.ensures)
