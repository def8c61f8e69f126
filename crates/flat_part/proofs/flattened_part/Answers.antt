use mathlib.Core.Path.{sym, ap, ◌∙◌}
use Rattle.flat_part.specs.FlatPart.{flat_part}
use Rattle.flat_part.proofs.flattened_part.Goals as goal

pub returns-in-Ok : goal.returns-in-Ok
returns-in-Ok c = c.found.ensures ∙ ap flat_part (sym c.in-Ok.is)

pub returns-in-Err : goal.returns-in-Err
returns-in-Err c = c.refused.ensures ∙ ap flat_part (sym c.in-Err.is)
