use Rattle.figures.proofs.passes.Goals as goal

pub returns : goal.returns
returns c = rw (c.margin.ensures, c.margin-2.ensures)
