-- A whole number's sign and size, by the test whether it is below 0; and a signed local, read back, as its size or the negative of it.
use Rattle.std.specs.Prelude.{◌≡◌, refl, true, false, not, ℕ, zero, suc, ◌<◌, T, ℤ, pos, negsuc, neg_ℤ, nat_abs, ◌-ℤ◌}
use Rattle.std.proofs.Common.{sym, ap, subst, ◌∙◌, zero-le, zero-lt-suc, le-ltb, Fits, SFits, to_z-of_z}
use Rattle.std.proofs.Math.IntN.{+ℤ_idl}
use Rattle.std.specs.Int.Signed.{lt_z, non_neg}
use Rattle.std.specs.Int.{Width}
use Rattle.laws.specs.Signed.{read}

pub below-is : (z : ℤ) → not (non_neg z) ≡ lt_z z (pos 0)
below-is (pos n) = sym (le-ltb n 0 zero-le)
below-is (negsuc n) = refl

pub minus_is : (z : ℤ) → pos 0 -ℤ z ≡ neg_ℤ z
minus_is z = +ℤ_idl (neg_ℤ z)

-- what is not below 0 is its size, and what is below 0 has its size as its negative
as-size : (z : ℤ) → lt_z z (pos 0) ≡ false → z ≡ pos (nat_abs z)
as-size (pos n) e = refl
as-size (negsuc n) e = absurd (subst T e tt)

minus-size : (z : ℤ) → lt_z z (pos 0) ≡ true → pos 0 -ℤ z ≡ pos (nat_abs z)
minus-size (pos n) e = absurd (subst T (sym e ∙ le-ltb n 0 zero-le) tt)
minus-size (negsuc n) e = minus_is (negsuc n)

-- only 0 has no size
pub size-pos : (z : ℤ) → (z ≡ pos 0 → ⊥) → 0 < nat_abs z
size-pos (pos zero) h = absurd (h refl)
size-pos (pos (suc n)) h = zero-lt-suc n
size-pos (negsuc n) h = zero-lt-suc n

-- ---- a signed local that holds x
module _ (w : Width) (x : ℤ) (F : SFits w x) where
  pub read-size : lt_z (read w x) (pos 0) ≡ false → read w x ≡ pos (nat_abs x)
  read-size e = as-size (read w x) e ∙ ap (λ (z : ℤ). pos (nat_abs z)) (to_z-of_z F)

  pub minus-read : lt_z (read w x) (pos 0) ≡ true → pos 0 -ℤ read w x ≡ pos (nat_abs x)
  minus-read e = minus-size (read w x) e ∙ ap (λ (z : ℤ). pos (nat_abs z)) (to_z-of_z F)

-- what is no less than 0 may be cast to an unsigned number
pub cast-size : (w : Width) (z : ℤ) (n : ℕ) → z ≡ pos n → Fits w n → T (non_neg z) × Fits w (nat_abs z)
cast-size w z n e f = subst (λ (y : ℤ). T (non_neg y) × Fits w (nat_abs y)) (sym e) (tt, f)
