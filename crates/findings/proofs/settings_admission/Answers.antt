-- Three findings, put together in the order.
use mathlib.Core.Path.{ap₂, ◌∙◌}
use Rattle.findings.specs.Findings.{or_else}
use Rattle.findings.specs.FindingsLaws.{settings-found}
use Rattle.findings.proofs.settings_admission.Goals as goal

pub returns : goal.returns
returns c =
    c.or_else-2.ensures ∙ ap₂ or_else c.refused_if-transform.ensures (c.or_else.ensures ∙ ap₂ or_else c.refused_if-table.ensures c.refused_if-setting.ensures) ∙ settings-found _ _ _
