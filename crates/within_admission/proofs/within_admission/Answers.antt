-- The lengths, the size, and then the settings, as the definition has them.
use Rattle.std.specs.Prelude.{Err}
use mathlib.Core.Path.{ap, sym, ◌∙◌}
use Rattle.within_admission.specs.WithinAdmissionLaws.{call-lengths, call-size, call-settings}
use Rattle.within_admission.proofs.within_admission.Goals as goal

pub returns-then-lengths_differ : goal.returns-then-lengths_differ
returns-then-lengths_differ c = ap Err c.numbered.ensures ∙ call-lengths _ _ _ _ _ _ (sym c.lengths_differ.ensures ∙ c.if-lengths_differ.true)

pub returns-then-size_bad : goal.returns-then-size_bad
returns-then-size_bad c = ap Err c.numbered-then-size_bad.ensures ∙ call-size _ _ _ _ _ _ (sym c.lengths_differ.ensures ∙ c.if-lengths_differ.false) (sym c.size_bad.ensures ∙ c.if-size_bad.true)

pub returns : goal.returns
returns c =
    c.settings_admission.ensures
    ∙ call-settings _ _ _ _ _ _ c.tables_bad.result c.setting_bad.result c.tables_bad.ensures c.setting_bad.ensures (sym c.lengths_differ.ensures ∙ c.if-lengths_differ.false) (sym c.size_bad.ensures ∙ c.if-size_bad.false)
