-- By the cases of the selection, and of the gate.
use mathlib.Core.Path.{sym, ◌∙◌}
use Rattle.decide.proofs.ask_gate.Goals as goal

pub returns-then-passes : goal.returns-then-passes
returns-then-passes c = rw (c.in-Ok.is, sym c.passes.ensures ∙ c.if-passes.true)

pub returns-in-Err : goal.returns-in-Err
returns-in-Err c = rw c.in-Err.is

pub returns-else-passes : goal.returns-else-passes
returns-else-passes c = rw (c.in-Ok.is, sym c.passes.ensures ∙ c.if-passes.false)
