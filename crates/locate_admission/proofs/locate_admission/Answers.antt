use mathlib.Core.Path.{ap₂, ◌∙◌}
use mathlib.Core.Bool.{not}
use lib.Ieee.{of_bits}
use Rattle.refusals.specs.Order.{earlier}
use Rattle.findings.specs.Findings.{first_found, settings_findings}
use Rattle.locate_admission.specs.LocateAdmissionLaws.{locate-parts}
use Rattle.locate_admission.proofs.locate_admission.Goals as goal

pub returns : goal.returns
unfolding of_bits
returns c =
    c.first_of.ensures
    ∙ ap₂ earlier c.list_admission-list.ensures
    (c.settings_admission-settings.ensures ∙ (λ i. first_found (settings_findings (c.transforms_bad.ensures i) (c.tables_bad.ensures i) (not (c.in_range.ensures i)))))
    ∙ locate-parts _ _ _ _
