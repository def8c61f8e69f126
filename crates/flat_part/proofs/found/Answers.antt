-- What is said of the runner-up is told first; each other field is the answer's.
use Rattle.flat_part.specs.FlatPart.{part_found_with}
use Rattle.flat_part.proofs.found.Goals as goal

pub returns : goal.returns
returns c = λ i. part_found_with c.args.d (c.next_of-next.ensures i)
