use mathlib.Core.Path.{◌≡◌, sym, ap, subst, ◌∙◌}
use Prim.Native.Nat.{ℕ, suc, ◌<◌, ◌%◌, ◌-◌, ◌^◌}
use native.Mathlib.Omega.{arith}
use native.Mathlib.Nat.{mod-lt}
use lib.IntN.{ℤ, pos, negsuc, nat_abs, ◌-ℤ◌}
use lib.Signed.{le_z}
use mir.Syntax.{w32}
use mir.Facts.{to_z-of_z}
use Rattle.laws.specs.Words.{emod}
use Rattle.laws.specs.RemainderLaws.{is-sub, emod-lt}
use Rattle.laws.specs.Signed.{read, is_pos, is-neg, read_at}
use Rattle.laws.proofs.rem_euclid.Goals as goal

-- on the first way x is pos a
module _ (c : goal.Then-x-ge0) where
  whole : (a : ℕ) × (c.args.x ≡ pos a)
  whole = is_pos c.args.x (ap (le_z (pos 0)) (sym (to_z-of_z c.ranges.x)) ∙ c.if-x-ge0.true)

  is : read w32 c.args.x ≡ pos whole.0
  is = to_z-of_z c.ranges.x ∙ whole.1

  inside : whole.0 < 2 ^ 31
  inside = rw whole.1 at c.ranges.x.sfits

-- on the second it is negsuc a
module _ (c : goal.Else-x-ge0) where
  below : (a : ℕ) × (c.args.x ≡ negsuc a)
  below = is-neg c.args.x (ap (le_z (pos 0)) (sym (to_z-of_z c.ranges.x)) ∙ c.if-x-ge0.false)

  inside' : below.0 < 2 ^ 31
  inside' = rw below.1 at c.ranges.x.sfits

  -- -1 less what is below zero is what is not
  turn : (a : ℕ) → negsuc 0 -ℤ negsuc a ≡ pos a
  turn a = is-sub (suc a) 1 a (omega arith)

  turned : negsuc 0 -ℤ read w32 c.args.x ≡ pos below.0
  turned = ap (λ (z : ℤ). negsuc 0 -ℤ z) (to_z-of_z c.ranges.x ∙ below.1) ∙ turn below.0

  is' : read w32 (negsuc 0 -ℤ read w32 c.args.x) ≡ pos below.0
  is' = read_at w32 turned inside'

pub overflow_cast-result : goal.overflow_cast-result
overflow_cast-result c = rw (is c) (tt, record { fits = omega (arith, inside c) })

pub overflow_sub-result-else-x-ge0 : goal.overflow_sub-result-else-x-ge0
overflow_sub-result-else-x-ge0 c = rw (turned c) (record { sfits = inside' c })

pub overflow_cast-result-else-x-ge0 : goal.overflow_cast-result-else-x-ge0
overflow_cast-result-else-x-ge0 c = rw (is' c) (tt, record { fits = omega (arith, inside' c) })

pub overflow_sub-result-else-x-ge0-2 : goal.overflow_sub-result-else-x-ge0-2
overflow_sub-result-else-x-ge0-2 c = rw (is' c) (omega (arith, mod-lt (below c).0 c.requires))

-- what equals the remainder is below n
result : (z : ℤ) (n r : ℕ) → 0 < n → r ≡ emod z n → (r ≡ emod z n) × (r < n)
result z n r h e = (e, subst (λ (x : ℕ). x < n) (sym e) (emod-lt z n h))

pub returns-then-x-ge0 : goal.returns-then-x-ge0
unfolding emod
returns-then-x-ge0 c =
    let s = c in
    result s.args.x s.args.n _ s.requires (ap (λ (z : ℤ). nat_abs z % s.args.n) (is c) ∙ sym (ap (λ (z : ℤ). emod z s.args.n) (whole c).1))

at-neg : (a n : ℕ) → 0 < n → n - 1 - a % n ≡ emod (negsuc a) n
unfolding emod
at-neg a n h = omega (arith, mod-lt a h)

pub returns-else-x-ge0 : goal.returns-else-x-ge0
returns-else-x-ge0 c =
    let s = c in
    result s.args.x s.args.n _ s.requires
    (ap (λ (z : ℤ). s.args.n - 1 - nat_abs z % s.args.n) (is' c) ∙ at-neg (below c).0 s.args.n s.requires ∙ sym (ap (λ (z : ℤ). emod z s.args.n) (below c).1))
