use mathlib.Core.Path.{sym, ◌∙◌}
use Rattle.admission.proofs.refusal.tables_bad.Goals as goal

pub returns-then-horizontal_bad : goal.returns-then-horizontal_bad
returns-then-horizontal_bad c = simp (sym c.horizontal_bad.ensures ∙ c.if-horizontal_bad.true, c.if-horizontal_bad.true)

pub returns-else-horizontal_bad : goal.returns-else-horizontal_bad
returns-else-horizontal_bad c = simp (sym c.horizontal_bad.ensures ∙ c.if-horizontal_bad.false, c.vertical_bad.ensures)
