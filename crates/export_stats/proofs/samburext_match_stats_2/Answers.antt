use mathlib.Core.Path.{ap, ◌∙◌}
use Rattle.flat.specs.Flat.{flat_stats}
use Rattle.export_stats.specs.NarrowLaws.{stats-narrowed}
use Rattle.export_stats.proofs.samburext_match_stats_2.Goals as goal

pub returns : goal.returns
returns c = c.flattened_stats.ensures ∙ ap flat_stats (stats-narrowed _ _ _ _ _ _ _ c.narrowed.ensures c.match_stats-answer.ensures)
