use mathlib.Core.Path.{sym, ap, ◌∙◌}
use Rattle.flat_exact.specs.FlatExact.{flat_exact}
use Rattle.flat_exact.proofs.flattened_exact.Goals as goal

pub returns-in-Ok : goal.returns-in-Ok
returns-in-Ok c = c.found.ensures ∙ ap flat_exact (sym c.in-Ok.is)

pub returns-in-Err : goal.returns-in-Err
returns-in-Err c = c.refused.ensures ∙ ap flat_exact (sym c.in-Err.is)
