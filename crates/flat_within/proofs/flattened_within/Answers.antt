use mathlib.Core.Path.{sym, ap, ◌∙◌}
use Rattle.flat_within.specs.FlatWithin.{flat_within}
use Rattle.flat_within.proofs.flattened_within.Goals as goal

pub returns-in-Ok : goal.returns-in-Ok
returns-in-Ok c = c.judged.ensures ∙ ap flat_within (sym c.in-Ok.is)

pub returns-in-Err : goal.returns-in-Err
returns-in-Err c = c.refused.ensures ∙ ap flat_within (sym c.in-Err.is)
