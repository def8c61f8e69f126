use Rattle.tops.specs.Tops.{raised}
use Rattle.tops.proofs.raise.Goals as goal

pub returns : goal.returns
unfolding raised
returns c = rw (c.larger-c.ensures, c.larger-b.ensures, c.larger-a.ensures)
