-- The place is read off first; each other field is what no found answer has.
use Rattle.flat.specs.Flat.{refused_with}
use Rattle.flat.proofs.flat.refused.Goals as goal

pub returns : goal.returns
returns c = λ i. refused_with c.args.refusal.number (c.list_of-list.ensures i) (c.position_of-position.ensures i) (c.no_number-none.ensures i)
