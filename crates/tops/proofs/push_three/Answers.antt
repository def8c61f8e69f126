use Rattle.tops.specs.Tops.{pushed_three}
use Rattle.tops.proofs.push_three.Goals as goal

pub returns : goal.returns
unfolding pushed_three
returns c = rw (c.push.ensures, c.push-b.ensures, c.push-a.ensures)
