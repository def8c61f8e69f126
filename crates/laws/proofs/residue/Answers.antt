use mathlib.Core.Path.{sym, ap₂, subst, ◌∙◌}
use Prim.Native.Nat.{ℕ, ◌<◌}
use native.Mathlib.Omega.{arith}
use lib.IntN.{ℤ, pos, ◌+ℤ◌}
use mir.Facts.{to_z-of_z}
use Rattle.laws.specs.RemainderLaws.{emod-lt, emod-shift}
use Rattle.laws.specs.Modulus.{lift-is, lift-in}
use Rattle.laws.proofs.residue.Goals as goal

pub lifted-requires : goal.lifted-requires
lifted-requires c =
    let l = lift-in c.args.m c.requires.0 in
    (rw (to_z-of_z c.ranges.x) c.requires.1, omega (arith, l.0), omega (arith, l.1))

pub returns : goal.returns
returns c =
    let s = c in
    let x = s.args.x in
    let m = s.args.m in
    let up = ap₂ (λ (z : ℤ) (k : ℕ). z +ℤ pos k) (sym (to_z-of_z s.ranges.x)) (sym (lift-is m s.requires.0)) ∙ c.lifted.ensures.0 in
    let e = c.remainder.ensures ∙ sym (emod-shift x m.n _ _ s.requires.0.more up) in
    (e, subst (λ (r : ℕ). r < m.n) (sym e) (emod-lt x m.n s.requires.0.more))
