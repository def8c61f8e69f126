use mir.Facts.{to_z-of_z}
use Rattle.checks.specs.Checks.{far}
use Rattle.checks.proofs.check.is_far.Goals as goal

pub returns-then-x-lt-LEAST : goal.returns-then-x-lt-LEAST
unfolding far
returns-then-x-lt-LEAST c = let h = c.ranges.x in simp (to_z-of_z, simp to_z-of_z at c.if-x-lt-LEAST.true)

pub returns-else-x-lt-LEAST : goal.returns-else-x-lt-LEAST
unfolding far
returns-else-x-lt-LEAST c = let h = c.ranges.x in simp (to_z-of_z, simp to_z-of_z at c.if-x-lt-LEAST.false)
