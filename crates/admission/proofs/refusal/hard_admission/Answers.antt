use mathlib.Core.Path.{ap, ap₂, ◌∙◌}
use mathlib.Core.Bool.{Bool, not}
use lib.Ieee.{of_bits}
use Rattle.refusals.specs.Order.{earlier}
use Rattle.refusals.specs.Numbers as why
use Rattle.findings.specs.Findings.{refused_if, first_found, settings_findings}
use Rattle.admission.specs.RefusalLaws.{hard-parts}
use Rattle.admission.proofs.refusal.hard_admission.Goals as goal

pub returns : goal.returns
unfolding of_bits
returns c =
    c.first_of-3.ensures
    ∙ ap₂ earlier (c.refused_if-room.ensures ∙ ap (λ (b : Bool). refused_if b why.room_too_short) c.room_short.ensures)
    (c.first_of-2.ensures
    ∙ ap₂ earlier (c.first_of.ensures ∙ ap₂ earlier c.list_admission-logical.ensures c.list_admission-physical.ensures)
    (c.settings_admission-settings.ensures ∙ (λ i. first_found (settings_findings (c.transforms_bad.ensures i) (c.tables_bad.ensures i) (not (c.in_range.ensures i))))))
    ∙ hard-parts _ _ _
