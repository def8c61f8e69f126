use mathlib.Core.Path.{◌≡◌, refl, ap, ap₂, ◌∙◌}
use Prim.Native.Nat.{ℕ, ◌+◌, ◌%◌, ◌<◌}
use native.Mathlib.Omega.{arith}
use lib.Dec.{lit<}
use lib.ListN.{get_or, length}
use lib.IntN.{ℤ, pos, ◌+ℤ◌}
use mir.Facts.{to_z-of_z}
use Rattle.laws.specs.Words.{emod}
use Rattle.laws.specs.Modulus.{modulus-n, modulus-ok}
use Rattle.board.specs.Hits.{bit_at, pattern_bit}
use Rattle.classes.specs.ClassesLaws.{moved, unmoved}
use borrow.Author.Rules.{rules}
use Rattle.classes.proofs.add_three.Goals as goal

pub residue-requires : goal.residue-requires
residue-requires c =
    let some : 0 < length c.args.patterns.now = omega (arith, c.requires.patterns.0.some) in
    (modulus-ok c.args.period (length (c.args.patterns.now)) c.requires.patterns.1 (some) c.requires.patterns.0.few, rw (to_z-of_z c.ranges.x) c.requires.x_bound.0)

pub overflow_add-residue : goal.overflow_add-residue
overflow_add-residue c =
    let period : c.args.period.n ≡ length c.args.patterns.now = modulus-n c.args.period (length c.args.patterns.now) c.requires.patterns.1 in
    omega (arith, c.residue.ensures.1, period, c.requires.patterns.2, c.requires.patterns.0.few)

pub wrapped-at-requires : goal.wrapped-at-requires
wrapped-at-requires c =
    let period : c.args.period.n ≡ length c.args.patterns.now = modulus-n c.args.period (length c.args.patterns.now) c.requires.patterns.1 in
    (omega (arith, c.residue.ensures.1, period, c.requires.patterns.2), omega (arith, period, c.requires.patterns.0.few))

pub overflow_cast-at : goal.overflow_cast-at
overflow_cast-at c = search rules

pub bounds-patterns-at : goal.bounds-patterns-at
bounds-patterns-at c =
    let period : c.args.period.n ≡ length c.args.patterns.now = modulus-n c.args.period (length c.args.patterns.now) c.requires.patterns.1 in
    omega (arith, c.wrapped-at.ensures.1, period)

pub residue-i-requires : goal.residue-i-requires
residue-i-requires c = (modulus-ok _ 3 c.modulus_of-three.ensures (lit< tt) (omega arith), rw (to_z-of_z c.ranges.y) c.requires.x_bound.1)

pub pattern_bit-requires : goal.pattern_bit-requires
pattern_bit-requires c =
    let three : c.modulus_of-three.result.n ≡ 3 = modulus-n _ 3 c.modulus_of-three.ensures in
    let short : c.residue-i.result < 3 = rw three at c.residue-i.ensures.1 in
    short

pub overflow_add-i : goal.overflow_add-i
overflow_add-i c =
    let three : c.modulus_of-three.result.n ≡ 3 = modulus-n _ 3 c.modulus_of-three.ensures in
    let short : c.residue-i.result < 3 = rw three at c.residue-i.ensures.1 in
    omega (arith, short)

pub wrapped-requires : goal.wrapped-requires
wrapped-requires c =
    let three : c.modulus_of-three.result.n ≡ 3 = modulus-n _ 3 c.modulus_of-three.ensures in
    let short : c.residue-i.result < 3 = rw three at c.residue-i.ensures.1 in
    (omega (arith, short), omega arith)

pub pattern_bit-requires-2 : goal.pattern_bit-requires-2
pattern_bit-requires-2 c = c.wrapped.ensures.1

pub overflow_add-i-2 : goal.overflow_add-i-2
overflow_add-i-2 c =
    let three : c.modulus_of-three.result.n ≡ 3 = modulus-n _ 3 c.modulus_of-three.ensures in
    let short : c.residue-i.result < 3 = rw three at c.residue-i.ensures.1 in
    omega (arith, short)

pub wrapped-requires-2 : goal.wrapped-requires-2
wrapped-requires-2 c =
    let three : c.modulus_of-three.result.n ≡ 3 = modulus-n _ 3 c.modulus_of-three.ensures in
    let short : c.residue-i.result < 3 = rw three at c.residue-i.ensures.1 in
    (omega (arith, short), omega arith)

pub pattern_bit-requires-3 : goal.pattern_bit-requires-3
pattern_bit-requires-3 c = c.wrapped-2.ensures.1

pub returns : goal.returns
returns c =
    let some : 0 < length c.args.patterns.now = omega (arith, c.requires.patterns.0.some) in
    let period : c.args.period.n ≡ length c.args.patterns.now = modulus-n c.args.period (length c.args.patterns.now) c.requires.patterns.1 in
    let three : c.modulus_of-three.result.n ≡ 3 = modulus-n _ 3 c.modulus_of-three.ensures in
    let short : c.residue-i.result < 3 = rw three at c.residue-i.ensures.1 in
    let place : c.wrapped-at.result ≡ emod (c.args.x +ℤ pos c.args.long) (length (c.args.patterns.now)) = moved c.args.x c.residue.result c.args.long (length (c.args.patterns.now)) c.args.period.n c.wrapped-at.result (some) (period) (c.residue.ensures.0 ∙ ap (λ (z : ℤ). emod z c.args.period.n) (to_z-of_z c.ranges.x)) c.wrapped-at.ensures.0 in
    let first : c.residue-i.result ≡ emod c.args.y c.modulus_of-three.result.n = c.residue-i.ensures.0 ∙ ap (λ (z : ℤ). emod z c.modulus_of-three.result.n) (to_z-of_z c.ranges.y) in
    let bit_is : (k r : ℕ) → r ≡ emod (c.args.y +ℤ pos k) 3 → bit_at (get_or (c.args.patterns.now) c.wrapped-at.result 0) r ≡ pattern_bit (c.args.patterns.now) (c.args.x +ℤ pos c.args.long) (c.args.y +ℤ pos k) = λ k r e. ap₂ (λ (i j : ℕ). bit_at (get_or (c.args.patterns.now) i 0) j) place e in
    let next : (k r : ℕ) → r ≡ (c.residue-i.result + k) % 3 → r ≡ emod (c.args.y +ℤ pos k) 3 = λ k r e. moved c.args.y c.residue-i.result k 3 3 r (lit< tt) refl (first ∙ ap (emod c.args.y) (three)) e in
    rw (
      c.bump.ensures,
      c.bump-2.ensures,
      c.bump-3.ensures,
      c.pattern_bit.ensures ∙ bit_is 0 _ (unmoved c.args.y c.residue-i.result 3 c.modulus_of-three.result.n (lit< tt) (three) (first) (short)),
      c.pattern_bit-2.ensures ∙ bit_is 1 _ (next 1 _ c.wrapped.ensures.0),
      c.pattern_bit-3.ensures ∙ bit_is 2 _ (next 2 _ c.wrapped-2.ensures.0),
    )
