use mathlib.Core.Bool.{Bool}
use mathlib.Core.Path.{ap₂, ◌∙◌}
use Rattle.refusals.specs.Order.{earlier}
use Rattle.findings.specs.Findings.{first_found, settings_findings}
use Rattle.admission.specs.RefusalLaws.{stats-parts}
use lib.Dec.{ltb}
use Rattle.stats_admission.proofs.stats_admission.Goals as goal

pub returns : goal.returns
returns c =
    c.first_of.ensures
    ∙ ap₂ earlier c.list_admission-list.ensures (c.settings_admission-settings.ensures ∙ ap₂ (λ (x y : Bool). first_found (settings_findings (ltb 7 c.args.square.transform) x y)) c.tables_bad.ensures c.origin_bad.ensures)
    ∙ stats-parts _ _ _ _ _
