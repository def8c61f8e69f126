use native.Mathlib.Nat.{mul-le-mul}
use Prim.Native.Nat.{◌*◌}
use mathlib.Core.Path.{refl, sym, ◌∙◌}
use Rattle.grid.specs.RowMajor.{row_major}
use Rattle.grid.specs.RowMajorLaws.{major-no, major-yes}
use native.Mathlib.Omega.{arith}
use Rattle.grid.proofs.origin.row_major_first.Goals as goal
use Rattle.grid.proofs.origin.row_major_first.Goals.{then-across, else-across}

pub overflow_mul-best-3 : goal.overflow_mul-best-3
overflow_mul-best-3 g c =
    let s = c in
    record { fits = omega (arith, mul-le-mul {n₁ = 3 * s.args.periods.h} {m₁ = 3 * s.args.periods.v} {n₂ = 1500} {m₂ = 1500} (omega (arith, s.requires.period.0.few)) (omega (arith, s.requires.period.1.few))) }

pub loop-h-init : goal.loop-h-init
unfolding row_major
loop-h-init g c p q told said = refl

pub loop-h-preserved : goal.loop-h-preserved
loop-h-preserved g c p q across down =
    let said = across c.loop-h.h c.across.result c.loop-h-test.true c.across.ensures in
    elim c.if-across.branch [
      | then-across w ↦ w.best-is ∙ w.lowest_key-best.ensures q down ∙ major-yes _ _ _ _ _ _ (c.loop-h.invariant p q across down) (sym said ∙ w.if-across.true)
      | else-across w ↦ w.best-is ∙ major-no _ _ _ _ _ _ (c.loop-h.invariant p q across down) (sym said ∙ w.if-across.false)
    ]
