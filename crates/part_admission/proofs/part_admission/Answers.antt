use mathlib.Core.Path.{ap, ap₂, ◌∙◌}
use mathlib.Core.Bool.{Bool}
use Rattle.refusals.specs.Order.{earlier}
use Rattle.refusals.specs.Numbers as why
use Rattle.findings.specs.Findings.{refused_if, first_found, settings_findings}
use Rattle.part_admission.proofs.PartAdmissionLaws.{part-parts}
use Rattle.part_admission.proofs.part_admission.Goals as goal

pub returns : goal.returns
returns c =
    c.first_of-3.ensures
    ∙ ap₂ earlier (c.refused_if-room.ensures ∙ ap (λ (b : Bool). refused_if b why.room_too_short) c.room_short.ensures)
    (c.first_of-2.ensures
    ∙ ap₂ earlier (c.first_of.ensures ∙ ap₂ earlier c.list_admission-logical.ensures c.list_admission-physical.ensures)
    (c.settings_admission-settings.ensures ∙ (λ i. first_found (settings_findings (c.transforms_bad.ensures i) (c.flat_tables_bad.ensures i) (c.settings_bad.ensures i)))))
    ∙ part-parts _ _ _ _
