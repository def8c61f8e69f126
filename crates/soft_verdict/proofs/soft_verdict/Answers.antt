use mathlib.Core.Path.{sym, ◌∙◌}
use borrow.Author.Tests.{eq-eqb, ne_eqb}
use Rattle.soft_verdict.specs.SoftVerdict.{soft_verdict}
use Rattle.soft_verdict.proofs.soft_verdict.Goals as goal

pub returns-then-passes : goal.returns-then-passes
unfolding soft_verdict
returns-then-passes c = simp (eq-eqb _ _ c.if-t-s.true, eq-eqb _ _ c.if-best-w.true, eq-eqb _ _ c.if-best-w-2.true, sym c.passes.ensures ∙ c.if-passes.true)

pub returns-then-best-w-2 : goal.returns-then-best-w-2
unfolding soft_verdict
returns-then-best-w-2 c = simp (eq-eqb _ _ c.if-t-s.true, eq-eqb _ _ c.if-best-w.true, eq-eqb _ _ c.if-best-w-2.true, sym c.passes.ensures ∙ c.if-passes.false)

pub returns-else-best-w-2 : goal.returns-else-best-w-2
unfolding soft_verdict
returns-else-best-w-2 c = simp (eq-eqb _ _ c.if-t-s.true, eq-eqb _ _ c.if-best-w.true, ne_eqb _ _ c.if-best-w-2.false)

pub returns-else-best-w : goal.returns-else-best-w
unfolding soft_verdict
returns-else-best-w c = simp (eq-eqb _ _ c.if-t-s.true, ne_eqb _ _ c.if-best-w.false)

pub returns-else-t-s : goal.returns-else-t-s
unfolding soft_verdict
returns-else-t-s c = simp (ne_eqb _ _ c.if-t-s.false)
