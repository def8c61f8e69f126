-- Each way out is the line of the definition whose tests were answered so.
use Rattle.refusals.specs.OrderLaws.{rank-orientation, rank-bit, rank-after, rank-before}
use Rattle.refusals.proofs.rank.Goals as goal

pub returns-then-number-eq-BAD_ORIENTATION : goal.returns-then-number-eq-BAD_ORIENTATION
returns-then-number-eq-BAD_ORIENTATION c = rank-orientation _ c.if-number-eq-BAD_ORIENTATION.true

pub returns-then-number-eq-BAD_BIT : goal.returns-then-number-eq-BAD_BIT
returns-then-number-eq-BAD_BIT c = rank-bit _ c.if-number-eq-BAD_ORIENTATION.false c.if-number-eq-BAD_BIT.true

pub returns-then-number-gt-BAD_COORDINATE : goal.returns-then-number-gt-BAD_COORDINATE
returns-then-number-gt-BAD_COORDINATE c = rank-after _ c.if-number-eq-BAD_ORIENTATION.false c.if-number-eq-BAD_BIT.false c.if-number-gt-BAD_COORDINATE.true

pub returns : goal.returns
returns c = rank-before _ c.if-number-eq-BAD_ORIENTATION.false c.if-number-eq-BAD_BIT.false c.if-number-gt-BAD_COORDINATE.false
