use mathlib.Core.Path.{◌≡◌, refl, subst}
use Prim.Native.Nat.{ℕ, ◌+◌, ◌*◌, ◌/◌, ◌<◌}
use native.Mathlib.Omega.{arith}
use lib.Ieee.{nan, binary32, add}
use Rattle.cells.specs.Spread.{spread_none}
use Rattle.cells.specs.Credit.{RunCells}
use Rattle.cells.specs.CreditLaws.{cell_in, counts-fit, counts-more, weights-fit, weights-more}
use Rattle.cells.proofs.run.credit_pairs.Goals as goal

pub loop-i-init : goal.loop-i-init
loop-i-init c = (omega arith, spread_none 0 ◌+◌ _ _ _, spread_none nan (add binary32) _ _ _)

pub overflow_mul-class : goal.overflow_mul-class
overflow_mul-class c =
    let second : c.loop-i.i * 2 + 1 < c.args.n = omega arith in
    omega (arith, second)

pub bounds-part-class : goal.bounds-part-class
bounds-part-class c =
    let second : c.loop-i.i * 2 + 1 < c.args.n = omega arith in
    let first : c.loop-i.i * 2 < c.args.n = omega (arith, second) in
    omega (arith, first, c.requires.places.patterns)

pub overflow_cast-p : goal.overflow_cast-p
overflow_cast-p c =
    let second : c.loop-i.i * 2 + 1 < c.args.n = omega arith in
    let first : c.loop-i.i * 2 < c.args.n = omega (arith, second) in
    omega (arith, c.requires.places.small _ (first))

pub overflow_add-q : goal.overflow_add-q
overflow_add-q c =
    let second : c.loop-i.i * 2 + 1 < c.args.n = omega arith in
    omega (arith, second)

pub bounds-part-class-in-loop-i : goal.bounds-part-class-in-loop-i
bounds-part-class-in-loop-i c =
    let second : c.loop-i.i * 2 + 1 < c.args.n = omega arith in
    omega (arith, second, c.requires.places.patterns)

pub overflow_cast-q : goal.overflow_cast-q
overflow_cast-q c =
    let second : c.loop-i.i * 2 + 1 < c.args.n = omega arith in
    omega (arith, c.requires.places.small _ (second))

pub offset_bounds-terms-p : goal.offset_bounds-terms-p
offset_bounds-terms-p c =
    let second : c.loop-i.i * 2 + 1 < c.args.n = omega arith in
    let first : c.loop-i.i * 2 < c.args.n = omega (arith, second) in
    omega (arith, c.requires.places.small _ (first))

pub bounds-terms-p : goal.bounds-terms-p
bounds-terms-p c =
    let second : c.loop-i.i * 2 + 1 < c.args.n = omega arith in
    let first : c.loop-i.i * 2 < c.args.n = omega (arith, second) in
    omega (arith, c.requires.places.small _ (first))

pub offset_bounds-terms-q : goal.offset_bounds-terms-q
offset_bounds-terms-q c =
    let second : c.loop-i.i * 2 + 1 < c.args.n = omega arith in
    omega (arith, c.requires.places.small _ (second))

pub bounds-terms-q : goal.bounds-terms-q
bounds-terms-q c =
    let second : c.loop-i.i * 2 + 1 < c.args.n = omega arith in
    omega (arith, c.requires.places.small _ (second))

pub overflow_mul-k : goal.overflow_mul-k
overflow_mul-k c =
    let second : c.loop-i.i * 2 + 1 < c.args.n = omega arith in
    let first : c.loop-i.i * 2 < c.args.n = omega (arith, second) in
    omega (arith, cell_in c.args.terms c.args.part.now c.args.n c.args.at 3 1 c.args.counts.now c.args.weights.now c.requires _ _ (first) refl)

pub overflow_add-k : goal.overflow_add-k
overflow_add-k c =
    let second : c.loop-i.i * 2 + 1 < c.args.n = omega arith in
    let first : c.loop-i.i * 2 < c.args.n = omega (arith, second) in
    omega (arith, cell_in c.args.terms c.args.part.now c.args.n c.args.at 3 1 c.args.counts.now c.args.weights.now c.requires _ _ (first) refl)

pub add_class_counts-requires : goal.add_class_counts-requires
add_class_counts-requires c =
    let second : c.loop-i.i * 2 + 1 < c.args.n = omega arith in
    let first : c.loop-i.i * 2 < c.args.n = omega (arith, second) in
    counts-fit c.args.terms c.args.part.now c.args.n c.args.at 3 1 c.args.counts.now c.args.weights.now c.requires _ _ (first) refl _ c.loop-i.invariant.1

pub overflow_add-k-in-loop-i : goal.overflow_add-k-in-loop-i
overflow_add-k-in-loop-i c =
    let second : c.loop-i.i * 2 + 1 < c.args.n = omega arith in
    omega (arith, cell_in c.args.terms c.args.part.now c.args.n c.args.at 3 1 c.args.counts.now c.args.weights.now c.requires _ _ (second) refl)

pub add_class_counts-requires-in-loop-i : goal.add_class_counts-requires-in-loop-i
add_class_counts-requires-in-loop-i c =
    let second : c.loop-i.i * 2 + 1 < c.args.n = omega arith in
    let first : c.loop-i.i * 2 < c.args.n = omega (arith, second) in
    counts-fit c.args.terms c.args.part.now c.args.n c.args.at 3 1 c.args.counts.now c.args.weights.now c.requires _ _ (second) (omega arith) _ (counts-more c.args.terms c.args.part.now c.args.n c.args.at 3 1 c.args.counts.now c.args.weights.now c.requires _ _ (first) refl _ c.loop-i.invariant.1 _ refl _ c.add_class_counts.ensures)

pub add_class_weights-requires : goal.add_class_weights-requires
add_class_weights-requires c =
    let second : c.loop-i.i * 2 + 1 < c.args.n = omega arith in
    let first : c.loop-i.i * 2 < c.args.n = omega (arith, second) in
    weights-fit c.args.terms c.args.part.now c.args.n c.args.at 3 1 c.args.counts.now c.args.weights.now c.requires _ _ (first) refl _ c.loop-i.invariant.2

pub overflow_add-k-in-loop-i-2 : goal.overflow_add-k-in-loop-i-2
overflow_add-k-in-loop-i-2 c =
    let second : c.loop-i.i * 2 + 1 < c.args.n = omega arith in
    omega (arith, cell_in c.args.terms c.args.part.now c.args.n c.args.at 3 1 c.args.counts.now c.args.weights.now c.requires _ _ (second) refl)

pub add_class_weights-requires-in-loop-i : goal.add_class_weights-requires-in-loop-i
add_class_weights-requires-in-loop-i c =
    let second : c.loop-i.i * 2 + 1 < c.args.n = omega arith in
    let first : c.loop-i.i * 2 < c.args.n = omega (arith, second) in
    weights-fit c.args.terms c.args.part.now c.args.n c.args.at 3 1 c.args.counts.now c.args.weights.now c.requires _ _ (second) (omega arith) _ (weights-more c.args.terms c.args.part.now c.args.n c.args.at 3 1 c.args.counts.now c.args.weights.now c.requires _ _ (first) refl _ c.loop-i.invariant.2 _ refl _ c.add_class_weights.ensures)

pub loop-i-preserved : goal.loop-i-preserved
loop-i-preserved c =
    let second : c.loop-i.i * 2 + 1 < c.args.n = omega arith in
    let first : c.loop-i.i * 2 < c.args.n = omega (arith, second) in (
      omega (arith, c.loop-i-test.true),
      counts-more c.args.terms c.args.part.now c.args.n c.args.at 3 1 c.args.counts.now c.args.weights.now c.requires _ _ (second) (omega arith) _ (counts-more c.args.terms c.args.part.now c.args.n c.args.at 3 1 c.args.counts.now c.args.weights.now c.requires _ _ (first) refl _ c.loop-i.invariant.1 _ refl _ c.add_class_counts.ensures) _ (omega arith) _ c.add_class_counts-in-loop-i.ensures,
      weights-more c.args.terms c.args.part.now c.args.n c.args.at 3 1 c.args.counts.now c.args.weights.now c.requires _ _ (second) (omega arith) _ (weights-more c.args.terms c.args.part.now c.args.n c.args.at 3 1 c.args.counts.now c.args.weights.now c.requires _ _ (first) refl _ c.loop-i.invariant.2 _ refl _ c.add_class_weights.ensures) _ (omega arith) _ c.add_class_weights-in-loop-i.ensures,
    )

pub shape_of-counts : goal.shape_of-counts
shape_of-counts c = c.loop-i.invariant.1.len

pub shape_of-weights : goal.shape_of-weights
shape_of-weights c = c.loop-i.invariant.2.len

pub returns : goal.returns
returns c =
    let a = c.args in
    let l = c.loop-i in
    let e : l.i ≡ a.n / 2 = omega arith in
    subst (λ (m : ℕ). RunCells a.terms a.part.now a.at 3 1 (m * 2 * 3) a.counts.now l.counts a.weights.now l.weights) e (record { counts = l.invariant.1; weights = l.invariant.2 })
