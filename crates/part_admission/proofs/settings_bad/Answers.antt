use mathlib.Core.Path.{sym, ◌∙◌}
use lib.Ieee.{of_bits}
use Rattle.part_admission.proofs.settings_bad.Goals as goal

pub returns-then-in_range : goal.returns-then-in_range
unfolding of_bits
returns-then-in_range c = simp (sym c.in_range.ensures ∙ c.if-in_range.true, c.part_bad.ensures)

pub returns : goal.returns
unfolding of_bits
returns c = simp (sym c.in_range.ensures ∙ c.if-in_range.false)
