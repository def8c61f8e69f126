-- Yes or no as a number; the other field is the answer's.
use Rattle.flat_within.specs.FlatWithin.{judged_with}
use Rattle.flat_within.proofs.judged.Goals as goal

pub returns : goal.returns
returns c = λ i. judged_with (c.yes_or_no.ensures i) c.args.test.read
