use mathlib.Core.Path.{sym, ◌∙◌}
use Rattle.part_admission.proofs.flat_tables_bad.Goals as goal

pub returns-then-vertical_bad : goal.returns-then-vertical_bad
returns-then-vertical_bad c = simp (sym c.vertical_bad.ensures ∙ c.if-vertical_bad.true, c.if-vertical_bad.true)

pub returns-else-vertical_bad : goal.returns-else-vertical_bad
returns-else-vertical_bad c = simp (sym c.vertical_bad.ensures ∙ c.if-vertical_bad.false, c.vertical_bad-else-vertical_bad.ensures)
