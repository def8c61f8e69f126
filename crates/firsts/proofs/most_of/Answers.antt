use Rattle.firsts.specs.Firsts.{most_of}
use Rattle.firsts.proofs.most_of.Goals as goal

pub returns : goal.returns
unfolding most_of
returns c = rw (c.larger-2.ensures, c.larger.ensures)
