use mathlib.Core.Path.{sym, ap, ◌∙◌}
use Rattle.flat.specs.FlatSoft.{flat_soft}
use Rattle.flat.proofs.flat_soft.flattened_soft.Goals as goal

pub returns-in-Ok : goal.returns-in-Ok
returns-in-Ok c = c.found.ensures ∙ ap flat_soft (sym c.in-Ok.is)

pub returns-in-Err : goal.returns-in-Err
returns-in-Err c = c.refused.ensures ∙ ap flat_soft (sym c.in-Err.is)
