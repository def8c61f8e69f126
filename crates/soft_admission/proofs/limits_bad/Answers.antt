use mathlib.Core.Path.{sym, ap, ◌∙◌}
use mathlib.Core.Bool.{not}
use lib.Ieee.{of_bits}
use Rattle.soft_admission.proofs.limits_bad.Goals as goal

pub returns-then-in_range : goal.returns-then-in_range
unfolding of_bits
returns-then-in_range c = simp (sym c.in_range.ensures ∙ c.if-in_range.true) (ap not c.in_range-then-in_range.ensures)

pub returns : goal.returns
unfolding of_bits
returns c = simp (sym c.in_range.ensures ∙ c.if-in_range.false)
