-- An acceptable f32 by the fields of its bits.
use mathlib.Core.Path.{◌≡◌, refl, sym, ap, subst, ◌∙◌}
use mathlib.Core.Bool.{Bool, true, false, cond}
use Prim.Native.Nat.{ℕ, zero, suc, ◌+◌, ◌*◌, ◌-◌, ◌<◌, ◌≤◌, ◌%◌, ◌/◌, ◌^◌, zero-le}
use native.Mathlib.Omega.{arith}
use native.Mathlib.Nat.{le_trans, le_of_eq, mul_right_comm, mul-le-mul_right, le_of_mul-le-mul_right, le-add_right, mod-lt}
use lib.Dec.{T, leb, eqb}
use lib.Pow.{pow-add, pow_pos, field}
use lib.Bits.{bit_and, and_mask}
use lib.Ieee.{Float, nan, inf, fin, binary32, down, fits, of_fields, of_bits, to_bits}
use lib.Ieee.Fits.{down_pos}
use lib.Ieee.Bits.{of_bits-to_bits}
use lib.Ieee.Exact.{HasValue}
use Rattle.likelihood.specs.Likelihood.{acceptable, signed, quantised}
use Rattle.likelihood.specs.Steps.{Magnitude}
use Rattle.likelihood.specs.LikelihoodLaws.{Within, acceptable-within}
use Rattle.likelihood.proofs.Rounding.{pow_le_back}
use Rattle.likelihood.proofs.Scaled.{fields_value}

-- a value that is a / l in size, and at most 2 ^ 16: a is at most 2 ^ 16 * l
size-le : (v : Float) (s : Bool) (a l : ℕ) → HasValue v s a l → Within v → a ≤ 2 ^ 16 * l
size-le nan s a l v h = elim v [ ]
size-le (inf _) s a l v h = elim v [ ]
size-le (fin t m e) s a l v h =
    le_of_mul-le-mul_right
    (le_trans (le_of_eq (sym v.1)) (le_trans (mul-le-mul_right l h) (le_of_eq (mul_right_comm (2 ^ 16) (down e) l))))
    (down_pos e)

-- the top field is that of the infinities and NaN
not_top : (s : Bool) (E t : ℕ) → Within (of_fields binary32 s E t) → E ≡ 255 → ⊥
unfolding of_fields
not_top s E t h e = none (eqb t 0) (subst (λ (x : ℕ). Within (of_fields binary32 s x t)) e h)
  where
    none : (b : Bool) → Within (cond b (inf s) nan) → ⊥
    none true w = w
    none false w = w

field-le : (s : Bool) (E t : ℕ) → Within (of_fields binary32 s E t) → E ≤ 143
field-le s zero t h = zero-le
field-le s (suc k) t h = bound (pow_le_back (23 + (suc k - 1)) 165 (le_trans (le_of_eq (pow-add 2 23 (suc k - 1))) (le_trans (mul-le-mul_right (2 ^ (suc k - 1)) (le-add_right (2 ^ 23) t)) (size-le (of_fields binary32 s (suc k) t) s ((2 ^ 23 + t) * 2 ^ (suc k - 1)) (2 ^ 149) (fields_value s (suc k) t (not_top s (suc k) t h)) h))))
  where
    bound : 23 + (suc k - 1) ≤ 165 → suc k ≤ 143
    bound g = omega arith

of_bits_is : (b : ℕ) → of_bits binary32 b ≡ of_fields binary32 (leb (2 ^ 31) b) (b % 2 ^ 31 / 2 ^ 23) (b % 2 ^ 23)
unfolding of_bits
of_bits_is b = refl

module _ (x : Float) (F : T (fits binary32 x)) (A : acceptable x ≡ true) where
  abbrev b : ℕ
  b = to_bits binary32 x

  -- the fields, as the code takes them
  abbrev exp : ℕ
  exp = bit_and (b / 8388608) 255

  abbrev frac : ℕ
  frac = bit_and b 8388607

  is : of_fields binary32 (leb (2 ^ 31) b) exp frac ≡ x
  is =
      (λ i. of_fields binary32 (leb (2 ^ 31) b) (exp-is i) (and_mask b 23 i))
      ∙ sym (of_bits_is b)
      ∙ of_bits-to_bits binary32 x F
    where
      exp-is : exp ≡ b % 2 ^ 31 / 2 ^ 23
      exp-is = and_mask (b / 2 ^ 23) 8 ∙ sym (field b 8 23)

  pub exp-le : exp ≤ 143
  exp-le = field-le (leb (2 ^ 31) b) exp frac (subst Within (sym is) (acceptable-within x A))

  pub frac-lt : frac < 8388608
  frac-lt = subst (λ (n : ℕ). n < 8388608) (sym (and_mask b 23)) (mod-lt b (pow_pos 23))

  -- so the quantised x is the magnitude with the sign
  pub value-is : (r : ℕ) → Magnitude exp frac r → quantised x ≡ signed (leb (2 ^ 31) b) r
  value-is r m = ap quantised (sym is) ∙ m.value (leb (2 ^ 31) b)
