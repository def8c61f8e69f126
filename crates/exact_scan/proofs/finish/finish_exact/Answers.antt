use Rattle.exact_scan.specs.Exact.{finished}
use Rattle.exact_scan.proofs.finish.finish_exact.Goals as goal

pub finish_one-requires : goal.finish_one-requires
finish_one-requires c = rw c.in-Some.is at c.requires

pub returns-in-None : goal.returns-in-None
unfolding finished
returns-in-None c = rw (c.in-None.is, c.none_within.ensures)

pub returns-in-Some : goal.returns-in-Some
unfolding finished
returns-in-Some c = rw (c.in-Some.is, c.finish_one.ensures)
