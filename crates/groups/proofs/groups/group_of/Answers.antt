use mathlib.Core.Path.{◌≡◌, ap, ap₂, ◌∙◌}
use Prim.Native.Nat.{ℕ, ◌+◌, ◌*◌, ◌<◌}
use native.Mathlib.Omega.{arith}
use lib.Dec.{lit<}
use lib.IntN.{ℤ}
use mir.Facts.{to_z-of_z}
use Rattle.laws.specs.Words.{emod}
use Rattle.laws.specs.Modulus.{modulus-n, modulus-ok}
use Rattle.groups.proofs.groups.group_of.Goals as goal

pub residue-requires-2 : goal.residue-requires-2
residue-requires-2 c = (modulus-ok _ 3 c.modulus_of-three.ensures (lit< tt) (omega arith), rw (to_z-of_z c.ranges.short) (omega (arith, c.requires.long_bound.1)))

pub overflow_mul-result-2 : goal.overflow_mul-result-2
overflow_mul-result-2 c =
    let three : c.modulus_of-three.result.n ≡ 3 = modulus-n _ 3 c.modulus_of-three.ensures in
    let short : c.residue-2.result < 3 = rw three at c.residue-2.ensures.1 in
    omega (arith, short)

pub overflow_add-result : goal.overflow_add-result
overflow_add-result c =
    let three : c.modulus_of-three.result.n ≡ 3 = modulus-n _ 3 c.modulus_of-three.ensures in
    let short : c.residue-2.result < 3 = rw three at c.residue-2.ensures.1 in
    omega (arith, short, c.residue.ensures.1, c.requires.modulus_ok.0.few)

pub overflow_add-result-2 : goal.overflow_add-result-2
overflow_add-result-2 c =
    let three : c.modulus_of-three.result.n ≡ 3 = modulus-n _ 3 c.modulus_of-three.ensures in
    let short : c.residue-2.result < 3 = rw three at c.residue-2.ensures.1 in
    omega (arith, short, c.residue.ensures.1, c.requires.modulus_ok.0.few)

pub returns : goal.returns
returns c =
    let three : c.modulus_of-three.result.n ≡ 3 = modulus-n _ 3 c.modulus_of-three.ensures in
    let short : c.residue-2.result < 3 = rw three at c.residue-2.ensures.1 in
    let x = c.residue.ensures in
    let y = c.residue-2.ensures in
    (ap₂ (λ (x y : ℕ). x * 6 + y * 2 + c.args.bit) (x.0 ∙ ap (λ (z : ℤ). emod z c.args.period.n) (to_z-of_z c.ranges.long)) (y.0 ∙ ap₂ emod (to_z-of_z c.ranges.short) three), omega (arith, x.1, short))
