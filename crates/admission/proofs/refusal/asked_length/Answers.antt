use mathlib.Core.Path.{sym, ◌∙◌}
use native.Mathlib.Omega.{arith}
use Rattle.admission.specs.Refusals.{asked_length}
use Rattle.admission.specs.Accepted.{of-pole-length, asked-own}
use Rattle.admission.proofs.refusal.asked_length.Goals as goal

pub returns-then-pole_length : goal.returns-then-pole_length
returns-then-pole_length c = let h = sym c.pole_length.ensures ∙ c.if-pole_length.true in (sym (asked-own _ h), (of-pole-length _ h).1)

pub returns-else-pole_length : goal.returns-else-pole_length
unfolding asked_length
returns-else-pole_length c = (simp (sym c.pole_length.ensures ∙ c.if-pole_length.false), omega arith)
