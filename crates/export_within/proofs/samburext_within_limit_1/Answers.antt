use mathlib.Core.Path.{ap, ◌∙◌}
use Rattle.flat_within.specs.FlatWithin.{flat_within}
use Rattle.export_within.specs.NarrowLaws.{within-narrowed}
use Rattle.export_within.proofs.samburext_within_limit_1.Goals as goal

pub returns : goal.returns
returns c = c.flattened_within.ensures ∙ ap flat_within (within-narrowed _ _ _ _ _ _ _ _ c.narrowed.ensures c.within_limit-answer.ensures)
