use Rattle.part_scan.proofs.kept.keep.Goals as goal

pub returns-in-Nobody : goal.returns-in-Nobody
returns-in-Nobody c = rw c.in-Nobody.is

pub returns-in-One : goal.returns-in-One
returns-in-One c = rw (c.in-One.is, c.offer_one.ensures)

pub returns-in-Two : goal.returns-in-Two
returns-in-Two c = rw (c.in-Two.is, c.offer_two.ensures)
