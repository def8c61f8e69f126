use Rattle.part_select.specs.Select.{winner_of, placing_of}
use Rattle.part_select.proofs.finish.winner_of.Goals as goal

pub returns : goal.returns
unfolding winner_of placing_of
returns c = simp (c.hits_of-hits.ensures, c.weight_of-weight.ensures)
