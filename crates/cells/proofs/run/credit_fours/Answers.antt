use mathlib.Core.Path.{◌≡◌, refl, subst}
use Prim.Native.Nat.{ℕ, ◌+◌, ◌*◌, ◌/◌, ◌≤◌, ◌<◌}
use native.Mathlib.Omega.{arith}
use lib.Dec.{lit<}
use lib.Ieee.{nan, binary32, add}
use Rattle.cells.specs.Spread.{spread_none}
use Rattle.cells.specs.Credit.{RunCells}
use Rattle.cells.specs.CreditLaws.{cell_in, four-counts-fit, four-counts-more, four-weights-fit, four-weights-more}
use Rattle.cells.proofs.run.credit_fours.Goals as goal

pub loop-i-init : goal.loop-i-init
loop-i-init c = (omega arith, spread_none 0 ◌+◌ _ _ _, spread_none nan (add binary32) _ _ _)

pub overflow_mul-class : goal.overflow_mul-class
overflow_mul-class c =
    let four : c.loop-i.i * 4 + 4 ≤ c.args.n = omega arith in
    omega (arith, four)

pub bounds-part-class : goal.bounds-part-class
bounds-part-class c =
    let four : c.loop-i.i * 4 + 4 ≤ c.args.n = omega arith in
    omega (arith, four, c.requires.places.patterns)

pub overflow_cast-p : goal.overflow_cast-p
overflow_cast-p c =
    let four : c.loop-i.i * 4 + 4 ≤ c.args.n = omega arith in
    let first : c.loop-i.i * 4 < c.args.n = omega (arith, four) in
    omega (arith, c.requires.places.small _ (first))

pub overflow_add-q : goal.overflow_add-q
overflow_add-q c =
    let four : c.loop-i.i * 4 + 4 ≤ c.args.n = omega arith in
    omega (arith, four)

pub bounds-part-class-in-loop-i : goal.bounds-part-class-in-loop-i
bounds-part-class-in-loop-i c =
    let four : c.loop-i.i * 4 + 4 ≤ c.args.n = omega arith in
    omega (arith, four, c.requires.places.patterns)

pub overflow_cast-q : goal.overflow_cast-q
overflow_cast-q c =
    let four : c.loop-i.i * 4 + 4 ≤ c.args.n = omega arith in
    let one : (j : ℕ) → j < 4 → c.loop-i.i * 4 + j < c.args.n = λ j h. omega (arith, four) in
    omega (arith, c.requires.places.small _ (one 1 (lit< tt)))

pub overflow_add-r : goal.overflow_add-r
overflow_add-r c =
    let four : c.loop-i.i * 4 + 4 ≤ c.args.n = omega arith in
    omega (arith, four)

pub bounds-part-class-in-loop-i-2 : goal.bounds-part-class-in-loop-i-2
bounds-part-class-in-loop-i-2 c =
    let four : c.loop-i.i * 4 + 4 ≤ c.args.n = omega arith in
    omega (arith, four, c.requires.places.patterns)

pub overflow_cast-r : goal.overflow_cast-r
overflow_cast-r c =
    let four : c.loop-i.i * 4 + 4 ≤ c.args.n = omega arith in
    let one : (j : ℕ) → j < 4 → c.loop-i.i * 4 + j < c.args.n = λ j h. omega (arith, four) in
    omega (arith, c.requires.places.small _ (one 2 (lit< tt)))

pub overflow_add-s : goal.overflow_add-s
overflow_add-s c =
    let four : c.loop-i.i * 4 + 4 ≤ c.args.n = omega arith in
    omega (arith, four)

pub bounds-part-class-in-loop-i-3 : goal.bounds-part-class-in-loop-i-3
bounds-part-class-in-loop-i-3 c =
    let four : c.loop-i.i * 4 + 4 ≤ c.args.n = omega arith in
    omega (arith, four, c.requires.places.patterns)

pub overflow_cast-s : goal.overflow_cast-s
overflow_cast-s c =
    let four : c.loop-i.i * 4 + 4 ≤ c.args.n = omega arith in
    let one : (j : ℕ) → j < 4 → c.loop-i.i * 4 + j < c.args.n = λ j h. omega (arith, four) in
    omega (arith, c.requires.places.small _ (one 3 (lit< tt)))

pub offset_bounds-terms-p : goal.offset_bounds-terms-p
offset_bounds-terms-p c =
    let four : c.loop-i.i * 4 + 4 ≤ c.args.n = omega arith in
    let first : c.loop-i.i * 4 < c.args.n = omega (arith, four) in
    omega (arith, c.requires.places.small _ (first))

pub bounds-terms-p : goal.bounds-terms-p
bounds-terms-p c =
    let four : c.loop-i.i * 4 + 4 ≤ c.args.n = omega arith in
    let first : c.loop-i.i * 4 < c.args.n = omega (arith, four) in
    omega (arith, c.requires.places.small _ (first))

pub offset_bounds-terms-q : goal.offset_bounds-terms-q
offset_bounds-terms-q c =
    let four : c.loop-i.i * 4 + 4 ≤ c.args.n = omega arith in
    let one : (j : ℕ) → j < 4 → c.loop-i.i * 4 + j < c.args.n = λ j h. omega (arith, four) in
    omega (arith, c.requires.places.small _ (one 1 (lit< tt)))

pub bounds-terms-q : goal.bounds-terms-q
bounds-terms-q c =
    let four : c.loop-i.i * 4 + 4 ≤ c.args.n = omega arith in
    let one : (j : ℕ) → j < 4 → c.loop-i.i * 4 + j < c.args.n = λ j h. omega (arith, four) in
    omega (arith, c.requires.places.small _ (one 1 (lit< tt)))

pub offset_bounds-terms-r : goal.offset_bounds-terms-r
offset_bounds-terms-r c =
    let four : c.loop-i.i * 4 + 4 ≤ c.args.n = omega arith in
    let one : (j : ℕ) → j < 4 → c.loop-i.i * 4 + j < c.args.n = λ j h. omega (arith, four) in
    omega (arith, c.requires.places.small _ (one 2 (lit< tt)))

pub bounds-terms-r : goal.bounds-terms-r
bounds-terms-r c =
    let four : c.loop-i.i * 4 + 4 ≤ c.args.n = omega arith in
    let one : (j : ℕ) → j < 4 → c.loop-i.i * 4 + j < c.args.n = λ j h. omega (arith, four) in
    omega (arith, c.requires.places.small _ (one 2 (lit< tt)))

pub offset_bounds-terms-s : goal.offset_bounds-terms-s
offset_bounds-terms-s c =
    let four : c.loop-i.i * 4 + 4 ≤ c.args.n = omega arith in
    let one : (j : ℕ) → j < 4 → c.loop-i.i * 4 + j < c.args.n = λ j h. omega (arith, four) in
    omega (arith, c.requires.places.small _ (one 3 (lit< tt)))

pub bounds-terms-s : goal.bounds-terms-s
bounds-terms-s c =
    let four : c.loop-i.i * 4 + 4 ≤ c.args.n = omega arith in
    let one : (j : ℕ) → j < 4 → c.loop-i.i * 4 + j < c.args.n = λ j h. omega (arith, four) in
    omega (arith, c.requires.places.small _ (one 3 (lit< tt)))

pub overflow_add-at : goal.overflow_add-at
overflow_add-at c =
    let four : c.loop-i.i * 4 + 4 ≤ c.args.n = omega arith in
    let first : c.loop-i.i * 4 < c.args.n = omega (arith, four) in
    omega (arith, cell_in c.args.terms c.args.part.now c.args.n c.args.at 1 c.args.across c.args.counts.now c.args.weights.now c.requires _ _ (first) refl)

pub credit_four-requires : goal.credit_four-requires
credit_four-requires c =
    let four : c.loop-i.i * 4 + 4 ≤ c.args.n = omega arith in
    record {
      counts_fit = four-counts-fit c.args.terms c.args.part.now c.args.n c.args.at 1 c.args.across c.args.counts.now c.args.weights.now c.requires refl _ _ (four) refl _ c.loop-i.invariant.1;
      weights_fit = four-weights-fit c.args.terms c.args.part.now c.args.n c.args.at 1 c.args.across c.args.counts.now c.args.weights.now c.requires refl _ _ (four) refl _ c.loop-i.invariant.2;
    }

pub loop-i-preserved : goal.loop-i-preserved
loop-i-preserved c =
    let four : c.loop-i.i * 4 + 4 ≤ c.args.n = omega arith in
    let r = c.credit_four.ensures in (
      omega (arith, c.loop-i-test.true),
      four-counts-more c.args.terms c.args.part.now c.args.n c.args.at 1 c.args.across c.args.counts.now c.args.weights.now c.requires refl _ _ (four) refl _ c.loop-i.invariant.1 _ (omega arith) _ r.0,
      four-weights-more c.args.terms c.args.part.now c.args.n c.args.at 1 c.args.across c.args.counts.now c.args.weights.now c.requires refl _ _ (four) refl _ c.loop-i.invariant.2 _ (omega arith) _ r.1,
    )

pub shape_of-counts : goal.shape_of-counts
shape_of-counts c = c.loop-i.invariant.1.len

pub shape_of-weights : goal.shape_of-weights
shape_of-weights c = c.loop-i.invariant.2.len

pub returns : goal.returns
returns c =
    let a = c.args in
    let l = c.loop-i in
    let e : l.i ≡ a.n / 4 = omega arith in
    subst (λ (m : ℕ). RunCells a.terms a.part.now a.at 1 a.across (m * 4 * 3) a.counts.now l.counts a.weights.now l.weights) e (record { counts = l.invariant.1; weights = l.invariant.2 })
