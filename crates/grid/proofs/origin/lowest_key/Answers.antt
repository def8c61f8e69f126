use borrow.Author.Tests.{leb-true}
use mathlib.Core.Path.{refl, sym, ◌∙◌}
use Rattle.grid.specs.RowMajor.{lowest}
use Rattle.grid.specs.RowMajorLaws.{lowest-no, lowest-yes}
use Rattle.grid.specs.RowFloor.{floor-stays}
use Rattle.grid.proofs.origin.lowest_key.Goals as goal
use Rattle.grid.proofs.origin.lowest_key.Goals.{then-passes, else-passes}

pub returns-then-clears_row : goal.returns-then-clears_row
returns-then-clears_row g c q told =
    let a = c.args in
    floor-stays a.periods.h a.periods.v _ a.h a.start _ c.requires.period.0 c.requires.period.2 (leb-true _ _ (sym c.clears_row.ensures ∙ c.if-clears_row.true))

pub loop-v-init : goal.loop-v-init
unfolding lowest
loop-v-init g c q told = refl

pub loop-v-preserved : goal.loop-v-preserved
loop-v-preserved g c q told =
    let said = told c.loop-v.v c.passes.result c.loop-v-test.true c.passes.ensures in
    elim c.if-passes.branch [
      | then-passes w ↦ w.best-is ∙ w.lower_key-best.ensures ∙ lowest-yes _ _ _ _ _ (c.loop-v.invariant q told) (sym said ∙ w.if-passes.true)
      | else-passes w ↦ w.best-is ∙ lowest-no _ _ _ _ _ (c.loop-v.invariant q told) (sym said ∙ w.if-passes.false)
    ]
