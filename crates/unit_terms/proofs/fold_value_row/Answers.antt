-- Three terms, one for each short class.
use Rattle.unit_terms.proofs.fold_value_row.Goals as goal

pub returns : goal.returns
returns c = cc (c.fold_value-a.ensures, c.fold_value-b.ensures, c.fold_value-c.ensures)
