use mathlib.Core.Path.{ap, ap₂, ◌∙◌}
use mathlib.Core.Bool.{Bool}
use Rattle.refusals.specs.Order.{earlier}
use Rattle.refusals.specs.Numbers as why
use Rattle.findings.specs.Findings.{refused_if, first_found, settings_findings}
use Rattle.admission.specs.RefusalLaws.{soft-parts}
use Rattle.soft_admission.proofs.soft_admission.Goals as goal

pub returns : goal.returns
returns c =
    c.first_of-4.ensures
    ∙ ap₂ earlier (c.refused_if-room.ensures ∙ ap (λ (b : Bool). refused_if b why.room_too_short) c.soft_room_short.ensures)
    (c.first_of-3.ensures
    ∙ ap₂ earlier (c.first_of-2.ensures ∙ ap₂ earlier (c.first_of.ensures ∙ ap₂ earlier c.list_admission-logical.ensures c.list_admission-physical.ensures) c.likelihood_admission-likelihoods.ensures)
    (c.settings_admission-settings.ensures ∙ (λ i. first_found (settings_findings (c.transforms_bad.ensures i) (c.tables_bad.ensures i) (c.limits_bad.ensures i)))))
    ∙ soft-parts _ _ _ _
