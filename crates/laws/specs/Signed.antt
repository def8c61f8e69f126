-- A signed local is kept as its bits: when a number fits, what is read back, and what a test of two such numbers says.
use Rattle.std.specs.Prelude.{◌≡◌, refl, Bool, true, false, ℕ, suc, ◌≤◌, ◌<◌, ◌^◌, T, eqb, ℤ, pos, negsuc, nat_abs}
use Rattle.std.proofs.Common.{sym, ap, ap₂, subst, ◌∙◌, zero-le, le_refl, arith, le-leb, eqb-true, to_z-of_z}
use Rattle.std.specs.Int.Signed.{le_z, lt_z, mag}
use Rattle.std.proofs.lemmas.Bool.{eqb-false}
use Rattle.std.specs.Int.{Width}
use mir.Val.{SFits, hbits, to_z, of_z}
use Rattle.laws.specs.Words.{eq_z}
use Rattle.laws.specs.Whole.{eq-eq_z, ne-eq_z}

-- what is kept of z, read back
abbrev pub read : Width → ℤ → ℤ
read w z = to_z w (of_z w z)

-- ---- small numbers fit
pub mag-le : (z : ℤ) → mag z ≤ nat_abs z
mag-le (pos n) = le_refl n
mag-le (negsuc n) = up n
  where
    up : (n : ℕ) → n ≤ suc n
    up n = omega arith

pub fits-abs : {w : Width} (z : ℤ) → nat_abs z < 2 ^ hbits w → SFits w z
fits-abs {w} z h = record { sfits = go (mag-le z) h }
  where
    go : mag z ≤ nat_abs z → nat_abs z < 2 ^ hbits w → mag z < 2 ^ hbits w
    go a b = omega arith

-- x, what an operation makes of what it read back, is z, and z is small: it fits, and it is read back as z
pub fit_at : (w : Width) {x z : ℤ} → x ≡ z → nat_abs z < 2 ^ hbits w → SFits w x
fit_at w {x} {z} e h = subst (λ (y : ℤ). SFits w y) (sym e) (fits-abs {w = w} z h)

pub read_at : (w : Width) {x z : ℤ} → x ≡ z → nat_abs z < 2 ^ hbits w → read w x ≡ z
read_at w e h = to_z-of_z (fit_at w e h) ∙ e

-- ---- tests of two numbers that fit
module _ (w : Width) (x y : ℤ) (p : SFits w x) (q : SFits w y) where
  pub said-lt : (t : Bool) → lt_z (read w x) (read w y) ≡ t → lt_z x y ≡ t
  said-lt t e = ap₂ lt_z (sym (to_z-of_z p)) (sym (to_z-of_z q)) ∙ e

  -- numbers whose bits are equal are equal
  pub same_bits : of_z w x ≡ of_z w y → x ≡ y
  same_bits e = sym (to_z-of_z p) ∙ ap (to_z w) e ∙ to_z-of_z q

  pub said-eq : eqb (of_z w x) (of_z w y) ≡ eq_z x y
  said-eq = go (eqb (of_z w x) (of_z w y)) refl
    where
      go : (t : Bool) → eqb (of_z w x) (of_z w y) ≡ t → t ≡ eq_z x y
      go true e = sym (eq-eq_z x y (same_bits (eqb-true (of_z w x) (of_z w y) e)))
      go false e = sym (ne-eq_z x y (λ d. eqb-false (of_z w x) (of_z w y) e (ap (of_z w) d)))

-- ---- the sign
pub is_pos : (x : ℤ) → le_z (pos 0) x ≡ true → (a : ℕ) × (x ≡ pos a)
is_pos (pos a) e = (a, refl)
is_pos (negsuc a) e = absurd (subst T (sym e) tt)

pub is-neg : (x : ℤ) → le_z (pos 0) x ≡ false → (a : ℕ) × (x ≡ negsuc a)
is-neg (pos a) e = absurd (subst T (sym (le-leb 0 a zero-le) ∙ e) tt)
is-neg (negsuc a) e = (a, refl)
