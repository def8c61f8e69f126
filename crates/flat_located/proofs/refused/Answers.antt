-- The place is read off first; each other field is what no found answer has.
use Rattle.flat_located.specs.FlatLocated.{located_refused_with}
use Rattle.flat_located.proofs.refused.Goals as goal

pub returns : goal.returns
returns c = λ i. located_refused_with c.args.refusal.number (c.list_of-list.ensures i) (c.position_of-position.ensures i)
