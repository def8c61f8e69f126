use Rattle.std.specs.Prelude.{Ok}
use mathlib.Core.Path.{sym, ap, ◌∙◌}
use borrow.Author.Tests.{eq-eqb, ne_eqb}
use Rattle.figures.specs.Gate.{passed}
use Rattle.part_verdict.specs.PartVerdict.{part_judged}
use Rattle.part_verdict.proofs.judge_part.Goals as goal

pub returns-then-passes : goal.returns-then-passes
unfolding part_judged
returns-then-passes c = let a = c.args in ap Ok c.decoded_part-found.ensures ∙ sym (simp (eq-eqb _ _ c.if-t-s.true, eq-eqb _ _ c.if-w-p.true, eq-eqb _ _ c.if-w-p-2.true, ap (passed a.edges a.w.hits) (sym c.hits_shown-behind.ensures) ∙ sym c.passes.ensures ∙ c.if-passes.true))

pub returns-then-w-p-2 : goal.returns-then-w-p-2
unfolding part_judged
returns-then-w-p-2 c = let a = c.args in simp (eq-eqb _ _ c.if-t-s.true, eq-eqb _ _ c.if-w-p.true, eq-eqb _ _ c.if-w-p-2.true, ap (passed a.edges a.w.hits) (sym c.hits_shown-behind.ensures) ∙ sym c.passes.ensures ∙ c.if-passes.false)

pub returns-else-w-p-2 : goal.returns-else-w-p-2
unfolding part_judged
returns-else-w-p-2 c = simp (eq-eqb _ _ c.if-t-s.true, eq-eqb _ _ c.if-w-p.true, ne_eqb _ _ c.if-w-p-2.false)

pub returns-else-w-p : goal.returns-else-w-p
unfolding part_judged
returns-else-w-p c = simp (eq-eqb _ _ c.if-t-s.true, ne_eqb _ _ c.if-w-p.false)

pub returns-else-t-s : goal.returns-else-t-s
unfolding part_judged
returns-else-t-s c = simp (ne_eqb _ _ c.if-t-s.false)
