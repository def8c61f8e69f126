use mathlib.Core.Path.{◌≡◌, refl, subst}
use Prim.Native.Nat.{ℕ, ◌+◌, ◌*◌}
use native.Mathlib.Omega.{arith}
use lib.Ieee.{nan, binary32, add}
use Rattle.cells.specs.Spread.{spread_none}
use Rattle.cells.specs.Credit.{RunCells}
use Rattle.cells.specs.CreditLaws.{cell_in, counts-fit, counts-more, weights-fit, weights-more}
use Rattle.cells.proofs.run.credit_singles.Goals as goal

pub loop-i-init : goal.loop-i-init
loop-i-init c = (omega arith, spread_none 0 ◌+◌ _ _ _, spread_none nan (add binary32) _ _ _)

pub overflow_cast-pattern : goal.overflow_cast-pattern
overflow_cast-pattern c = omega (arith, c.requires.places.small _ c.loop-i-test.true)

pub offset_bounds-terms-pattern : goal.offset_bounds-terms-pattern
offset_bounds-terms-pattern c = omega (arith, c.requires.places.small _ c.loop-i-test.true)

pub bounds-terms-pattern : goal.bounds-terms-pattern
bounds-terms-pattern c = omega (arith, c.requires.places.small _ c.loop-i-test.true)

pub overflow_mul-k : goal.overflow_mul-k
overflow_mul-k c = omega (arith, cell_in c.args.terms c.args.part.now c.args.n c.args.at c.args.stride c.args.across c.args.counts.now c.args.weights.now c.requires _ _ c.loop-i-test.true refl)

pub overflow_add-k : goal.overflow_add-k
overflow_add-k c = omega (arith, cell_in c.args.terms c.args.part.now c.args.n c.args.at c.args.stride c.args.across c.args.counts.now c.args.weights.now c.requires _ _ c.loop-i-test.true refl)

pub add_class_counts-requires : goal.add_class_counts-requires
add_class_counts-requires c = counts-fit c.args.terms c.args.part.now c.args.n c.args.at c.args.stride c.args.across c.args.counts.now c.args.weights.now c.requires _ _ c.loop-i-test.true refl _ c.loop-i.invariant.1

pub add_class_weights-requires : goal.add_class_weights-requires
add_class_weights-requires c = weights-fit c.args.terms c.args.part.now c.args.n c.args.at c.args.stride c.args.across c.args.counts.now c.args.weights.now c.requires _ _ c.loop-i-test.true refl _ c.loop-i.invariant.2

pub loop-i-preserved : goal.loop-i-preserved
loop-i-preserved c =
    let l = c.loop-i in
    let t = c.loop-i-test.true in (
      omega (arith, t),
      counts-more c.args.terms c.args.part.now c.args.n c.args.at c.args.stride c.args.across c.args.counts.now c.args.weights.now c.requires _ _ t refl _ l.invariant.1 _ refl _ c.add_class_counts.ensures,
      weights-more c.args.terms c.args.part.now c.args.n c.args.at c.args.stride c.args.across c.args.counts.now c.args.weights.now c.requires _ _ t refl _ l.invariant.2 _ refl _ c.add_class_weights.ensures,
    )

pub shape_of-counts : goal.shape_of-counts
shape_of-counts c = c.loop-i.invariant.1.len

pub shape_of-weights : goal.shape_of-weights
shape_of-weights c = c.loop-i.invariant.2.len

pub returns : goal.returns
returns c =
    let a = c.args in
    let l = c.loop-i in
    let e : l.i ≡ a.n = omega arith in
    subst (λ (m : ℕ). RunCells a.terms a.part.now a.at a.stride a.across (m * 3) a.counts.now l.counts a.weights.now l.weights) e (record { counts = l.invariant.1; weights = l.invariant.2 })
