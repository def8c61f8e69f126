use mathlib.Core.Path.{sym, ap, ◌∙◌}
use Rattle.flat.specs.Flat.{flat}
use Rattle.flat.proofs.flat.flattened.Goals as goal

pub returns-in-Ok : goal.returns-in-Ok
returns-in-Ok c = c.found.ensures ∙ ap flat (sym c.in-Ok.is)

pub returns-in-Err : goal.returns-in-Err
returns-in-Err c = c.refused.ensures ∙ ap flat (sym c.in-Err.is)
