-- The place is read off first; each other field is what no found answer has.
use Rattle.flat.specs.FlatSoft.{soft_refused_with}
use Rattle.flat.proofs.flat_soft.refused.Goals as goal

pub returns : goal.returns
returns c = λ i. soft_refused_with c.args.refusal.number (c.list_of-list.ensures i) (c.position_of-position.ensures i) (c.no_number-none.ensures i)
