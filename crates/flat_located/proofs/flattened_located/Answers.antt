use mathlib.Core.Path.{sym, ap, ◌∙◌}
use Rattle.flat_located.specs.FlatLocated.{flat_located}
use Rattle.flat_located.proofs.flattened_located.Goals as goal

pub returns-in-Ok : goal.returns-in-Ok
returns-in-Ok c = c.found.ensures ∙ ap flat_located (sym c.in-Ok.is)

pub returns-in-Err : goal.returns-in-Err
returns-in-Err c = c.refused.ensures ∙ ap flat_located (sym c.in-Err.is)
