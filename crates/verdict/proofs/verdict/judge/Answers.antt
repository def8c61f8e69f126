use Rattle.std.specs.Prelude.{Ok}
use mathlib.Core.Path.{sym, ap, ◌∙◌}
use Rattle.verdict.specs.Verdict.{judged}
use Rattle.verdict.proofs.verdict.judge.Goals as goal

pub returns-then-not-same_square : goal.returns-then-not-same_square
unfolding judged
returns-then-not-same_square c = c.refuse.ensures ∙ sym (simp (sym c.same_square.ensures ∙ c.if-not-same_square.true))

pub returns-then-not-passes : goal.returns-then-not-passes
unfolding judged
returns-then-not-passes c = c.refuse-then-not-passes.ensures ∙ sym (simp (sym c.same_square.ensures ∙ c.if-not-same_square.false, sym c.passes.ensures ∙ c.if-not-passes.true))

pub returns : goal.returns
unfolding judged
returns c = ap Ok c.decoded.ensures ∙ sym (simp (sym c.same_square.ensures ∙ c.if-not-same_square.false, sym c.passes.ensures ∙ c.if-not-passes.false))
