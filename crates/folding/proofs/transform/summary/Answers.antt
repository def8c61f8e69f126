use Rattle.folding.specs.Transform.{summary_of}
use Rattle.folding.proofs.transform.summary.Goals as goal

pub returns : goal.returns
unfolding summary_of
returns c = rw (c.competitor-best.ensures, c.competitor-within.ensures)
