use mathlib.Core.Path.{sym, ap, ◌∙◌}
use Rattle.flat.specs.Flat.{flat_stats}
use Rattle.flat.proofs.flat_stats.flattened_stats.Goals as goal

pub returns-in-Ok : goal.returns-in-Ok
returns-in-Ok c = c.counted.ensures ∙ ap flat_stats (sym c.in-Ok.is)

pub returns-in-Err : goal.returns-in-Err
returns-in-Err c = c.uncounted.ensures ∙ ap flat_stats (sym c.in-Err.is)
