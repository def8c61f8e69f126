-- Each way out is the line of the definition whose cases the matches and the test told.
use Rattle.refusals.specs.OrderLaws.{left-accepted, right-accepted, right-first, left-first}
use Rattle.refusals.proofs.first_of.Goals as goal

pub returns-then-rank : goal.returns-then-rank
returns-then-rank c = right-first _ _ _ _ c.in-Err.is c.in-Err-b.is _ _ c.rank.ensures c.rank-in-Err-b.ensures c.if-rank.true

pub returns-in-Ok : goal.returns-in-Ok
returns-in-Ok c = left-accepted _ _ c.in-Ok.is

pub returns-in-Ok-b : goal.returns-in-Ok-b
returns-in-Ok-b c = right-accepted _ _ _ c.in-Err.is c.in-Ok-b.is

pub returns-else-rank : goal.returns-else-rank
returns-else-rank c = left-first _ _ _ _ c.in-Err.is c.in-Err-b.is _ _ c.rank.ensures c.rank-in-Err-b.ensures c.if-rank.false
