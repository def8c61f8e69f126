use Rattle.scan.specs.Scan.{replaced}
use Rattle.scan.proofs.record.offer.Goals as goal

pub returns-then-takes_over : goal.returns-then-takes_over
unfolding replaced
returns-then-takes_over c = rw (← c.takes_over.ensures, c.if-takes_over.true)

pub returns : goal.returns
unfolding replaced
returns c = rw (← c.takes_over.ensures, c.if-takes_over.false)
