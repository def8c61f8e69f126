-- The place is read off first; each other field is what no judged answer has.
use Rattle.flat_within.specs.FlatWithin.{unjudged_with}
use Rattle.flat_within.proofs.refused.Goals as goal

pub returns : goal.returns
returns c = λ i. unjudged_with c.args.refusal.number (c.list_of-list.ensures i) (c.position_of-position.ensures i)
