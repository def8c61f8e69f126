-- Short class by short class: four neighbours have their counts added, then the next four; then the weights in the same way.
use mathlib.Core.Path.{refl, subst}
use Prim.Native.Nat.{ℕ, ◌+◌, ◌*◌, ◌^◌, ◌<◌}
use native.Mathlib.Omega.{arith}
use lib.Dec.{lit<}
use lib.ListN.{length}
use lib.Ieee.{nan, binary32, add}
use Rattle.cells.specs.Spread.{spread_none}
use Rattle.cells.specs.CreditLaws.{first-across, abreast-fits, abreast-more}
use borrow.Author.Rules.{rules}
use Rattle.cells.proofs.run.credit_four.Goals as goal

pub bounds-a-0 : goal.bounds-a-0
bounds-a-0 c = search rules

pub add_four_counts-requires : goal.add_four_counts-requires
add_four_counts-requires c = abreast-fits 0 ◌+◌ _ (λ x. x.count) c.args.k c.args.across c.args.a c.args.b c.args.c c.args.d c.args.counts.now c.requires.counts_fit 0 c.args.k (lit< tt) (omega arith) _ (spread_none 0 ◌+◌ _ _ _)

pub overflow_add-k : goal.overflow_add-k
overflow_add-k c =
    let across-in : (m : ℕ) → m < 3 → c.args.k + m * c.args.across < length c.args.counts.now = λ m h. subst (λ (x : ℕ). x < length c.args.counts.now) (first-across c.args.k c.args.across m) (c.requires.counts_fit.inside (m * 4 + 0) (omega arith)) in
    let low : (m : ℕ) → m < 3 → c.args.k + m * c.args.across < 2 ^ 64 = λ m h. omega (arith, across-in m h) in
    omega (arith, low 1 (lit< tt))

pub add_four_counts-requires-2 : goal.add_four_counts-requires-2
add_four_counts-requires-2 c = abreast-fits 0 ◌+◌ _ (λ x. x.count) c.args.k c.args.across c.args.a c.args.b c.args.c c.args.d c.args.counts.now c.requires.counts_fit 1 (c.args.k + c.args.across) (lit< tt) (omega arith) _ (abreast-more 0 ◌+◌ _ (λ x. x.count) c.args.k c.args.across c.args.a c.args.b c.args.c c.args.d c.args.counts.now c.requires.counts_fit 0 c.args.k (lit< tt) (omega arith) _ (spread_none 0 ◌+◌ _ _ _) 4 refl _ c.add_four_counts.ensures)

pub overflow_mul-across : goal.overflow_mul-across
overflow_mul-across c =
    let across-in : (m : ℕ) → m < 3 → c.args.k + m * c.args.across < length c.args.counts.now = λ m h. subst (λ (x : ℕ). x < length c.args.counts.now) (first-across c.args.k c.args.across m) (c.requires.counts_fit.inside (m * 4 + 0) (omega arith)) in
    let low : (m : ℕ) → m < 3 → c.args.k + m * c.args.across < 2 ^ 64 = λ m h. omega (arith, across-in m h) in
    omega (arith, low 2 (lit< tt))

pub overflow_add-k-2 : goal.overflow_add-k-2
overflow_add-k-2 c =
    let across-in : (m : ℕ) → m < 3 → c.args.k + m * c.args.across < length c.args.counts.now = λ m h. subst (λ (x : ℕ). x < length c.args.counts.now) (first-across c.args.k c.args.across m) (c.requires.counts_fit.inside (m * 4 + 0) (omega arith)) in
    let low : (m : ℕ) → m < 3 → c.args.k + m * c.args.across < 2 ^ 64 = λ m h. omega (arith, across-in m h) in
    omega (arith, low 2 (lit< tt))

pub add_four_counts-requires-3 : goal.add_four_counts-requires-3
add_four_counts-requires-3 c = abreast-fits 0 ◌+◌ _ (λ x. x.count) c.args.k c.args.across c.args.a c.args.b c.args.c c.args.d c.args.counts.now c.requires.counts_fit 2 (c.args.k + 2 * c.args.across) (lit< tt) (omega arith) _ (abreast-more 0 ◌+◌ _ (λ x. x.count) c.args.k c.args.across c.args.a c.args.b c.args.c c.args.d c.args.counts.now c.requires.counts_fit 1 (c.args.k + c.args.across) (lit< tt) (omega arith) _ (abreast-more 0 ◌+◌ _ (λ x. x.count) c.args.k c.args.across c.args.a c.args.b c.args.c c.args.d c.args.counts.now c.requires.counts_fit 0 c.args.k (lit< tt) (omega arith) _ (spread_none 0 ◌+◌ _ _ _) 4 refl _ c.add_four_counts.ensures) 8 refl _ c.add_four_counts-2.ensures)

pub add_four_weights-requires : goal.add_four_weights-requires
add_four_weights-requires c = abreast-fits nan (add binary32) _ (λ x. x.weight) c.args.k c.args.across c.args.a c.args.b c.args.c c.args.d c.args.weights.now c.requires.weights_fit 0 c.args.k (lit< tt) (omega arith) _ (spread_none nan (add binary32) _ _ _)

pub overflow_add-k-3 : goal.overflow_add-k-3
overflow_add-k-3 c =
    let across-in : (m : ℕ) → m < 3 → c.args.k + m * c.args.across < length c.args.counts.now = λ m h. subst (λ (x : ℕ). x < length c.args.counts.now) (first-across c.args.k c.args.across m) (c.requires.counts_fit.inside (m * 4 + 0) (omega arith)) in
    let low : (m : ℕ) → m < 3 → c.args.k + m * c.args.across < 2 ^ 64 = λ m h. omega (arith, across-in m h) in
    omega (arith, low 1 (lit< tt))

pub add_four_weights-requires-2 : goal.add_four_weights-requires-2
add_four_weights-requires-2 c = abreast-fits nan (add binary32) _ (λ x. x.weight) c.args.k c.args.across c.args.a c.args.b c.args.c c.args.d c.args.weights.now c.requires.weights_fit 1 (c.args.k + c.args.across) (lit< tt) (omega arith) _ (abreast-more nan (add binary32) _ (λ x. x.weight) c.args.k c.args.across c.args.a c.args.b c.args.c c.args.d c.args.weights.now c.requires.weights_fit 0 c.args.k (lit< tt) (omega arith) _ (spread_none nan (add binary32) _ _ _) 4 refl _ c.add_four_weights.ensures)

pub overflow_mul-across-2 : goal.overflow_mul-across-2
overflow_mul-across-2 c =
    let across-in : (m : ℕ) → m < 3 → c.args.k + m * c.args.across < length c.args.counts.now = λ m h. subst (λ (x : ℕ). x < length c.args.counts.now) (first-across c.args.k c.args.across m) (c.requires.counts_fit.inside (m * 4 + 0) (omega arith)) in
    let low : (m : ℕ) → m < 3 → c.args.k + m * c.args.across < 2 ^ 64 = λ m h. omega (arith, across-in m h) in
    omega (arith, low 2 (lit< tt))

pub overflow_add-k-4 : goal.overflow_add-k-4
overflow_add-k-4 c =
    let across-in : (m : ℕ) → m < 3 → c.args.k + m * c.args.across < length c.args.counts.now = λ m h. subst (λ (x : ℕ). x < length c.args.counts.now) (first-across c.args.k c.args.across m) (c.requires.counts_fit.inside (m * 4 + 0) (omega arith)) in
    let low : (m : ℕ) → m < 3 → c.args.k + m * c.args.across < 2 ^ 64 = λ m h. omega (arith, across-in m h) in
    omega (arith, low 2 (lit< tt))

pub add_four_weights-requires-3 : goal.add_four_weights-requires-3
add_four_weights-requires-3 c = abreast-fits nan (add binary32) _ (λ x. x.weight) c.args.k c.args.across c.args.a c.args.b c.args.c c.args.d c.args.weights.now c.requires.weights_fit 2 (c.args.k + 2 * c.args.across) (lit< tt) (omega arith) _ (abreast-more nan (add binary32) _ (λ x. x.weight) c.args.k c.args.across c.args.a c.args.b c.args.c c.args.d c.args.weights.now c.requires.weights_fit 1 (c.args.k + c.args.across) (lit< tt) (omega arith) _ (abreast-more nan (add binary32) _ (λ x. x.weight) c.args.k c.args.across c.args.a c.args.b c.args.c c.args.d c.args.weights.now c.requires.weights_fit 0 c.args.k (lit< tt) (omega arith) _ (spread_none nan (add binary32) _ _ _) 4 refl _ c.add_four_weights.ensures) 8 refl _ c.add_four_weights-2.ensures)

pub returns : goal.returns
returns c = (abreast-more 0 ◌+◌ _ (λ x. x.count) c.args.k c.args.across c.args.a c.args.b c.args.c c.args.d c.args.counts.now c.requires.counts_fit 2 (c.args.k + 2 * c.args.across) (lit< tt) (omega arith) _ (abreast-more 0 ◌+◌ _ (λ x. x.count) c.args.k c.args.across c.args.a c.args.b c.args.c c.args.d c.args.counts.now c.requires.counts_fit 1 (c.args.k + c.args.across) (lit< tt) (omega arith) _ (abreast-more 0 ◌+◌ _ (λ x. x.count) c.args.k c.args.across c.args.a c.args.b c.args.c c.args.d c.args.counts.now c.requires.counts_fit 0 c.args.k (lit< tt) (omega arith) _ (spread_none 0 ◌+◌ _ _ _) 4 refl _ c.add_four_counts.ensures) 8 refl _ c.add_four_counts-2.ensures) 12 refl _ c.add_four_counts-3.ensures, abreast-more nan (add binary32) _ (λ x. x.weight) c.args.k c.args.across c.args.a c.args.b c.args.c c.args.d c.args.weights.now c.requires.weights_fit 2 (c.args.k + 2 * c.args.across) (lit< tt) (omega arith) _ (abreast-more nan (add binary32) _ (λ x. x.weight) c.args.k c.args.across c.args.a c.args.b c.args.c c.args.d c.args.weights.now c.requires.weights_fit 1 (c.args.k + c.args.across) (lit< tt) (omega arith) _ (abreast-more nan (add binary32) _ (λ x. x.weight) c.args.k c.args.across c.args.a c.args.b c.args.c c.args.d c.args.weights.now c.requires.weights_fit 0 c.args.k (lit< tt) (omega arith) _ (spread_none nan (add binary32) _ _ _) 4 refl _ c.add_four_weights.ensures) 8 refl _ c.add_four_weights-2.ensures) 12 refl _ c.add_four_weights-3.ensures)
