use mathlib.Core.Path.{sym, ◌∙◌}
use lib.Ieee.{of_bits}
use borrow.Author.Tests.{eq-eqb, ne_eqb}
use Rattle.stats.specs.Stats.{stats_rate}
use Rattle.stats.proofs.stats.rate.Goals as goal

pub returns-then-edges-eq0 : goal.returns-then-edges-eq0
unfolding stats_rate of_bits
returns-then-edges-eq0 c = simp (eq-eqb _ _ c.if-edges-eq0.true)

pub returns : goal.returns
unfolding stats_rate
returns c = c.rate.ensures ∙ sym (simp (ne_eqb _ _ c.if-edges-eq0.false))
