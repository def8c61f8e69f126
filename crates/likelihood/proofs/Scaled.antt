-- A quantised f32's size by the fields of its bits, and what the shifts of `magnitude` make of them.
use mathlib.Core.Path.{◌≡◌, sym, ap, subst, ◌∙◌}
use mathlib.Core.Bool.{Bool, not, cond}
use Prim.Native.Nat.{ℕ, zero, suc, ◌+◌, ◌*◌, ◌-◌, ◌<◌, ◌≤◌, ◌%◌, ◌^◌}
use native.Mathlib.Omega.{arith}
use native.Mathlib.Nat.{mul-one, mul_right_comm, lt_of_lt_of_le, lt_of_le_of_lt, le_trans, le_of_eq, pow-succ'}
use lib.Dec.{T, eqb, lit<}
use lib.Pow.{pow-add, pow_pos, pow_mono, shl_lt, shl_exact}
use lib.Ieee.{Float, nan, inf, fin, binary32, up, down, odd, of_fields}
use lib.Ieee.Fits.{down_pos}
use lib.Ieee.Bits.{cond_no}
use lib.Ieee.Exact.{HasValue, odd_sign}
use borrow.Author.Tests.{ne_eqb}
use Rattle.likelihood.specs.Likelihood.{half_up, signed, quantised}
use Rattle.likelihood.specs.Steps.{Magnitude}
use Rattle.likelihood.specs.LikelihoodLaws.{half_le}
use Rattle.likelihood.proofs.Rounding.{half-same, half-whole, half-zero, two-powers}

-- the digits with the leading one, which the exponent's field 0 does not have
abbrev pub lead : ℕ → ℕ → ℕ
lead zero t = t
lead (suc k) t = 2 ^ 23 + t

-- the size, quantised, of the f32 with the exponent's field E and the digits t: lead E t units of 2 ^ (E - 1) times 2 ^ -149
unfoldable scaled : ℕ → ℕ → ℕ
unfolding half_up
scaled E t = half_up (lead E t * 2 ^ (E - 1) * 2 ^ 24) (2 ^ 149)

-- ---- from the value to the fields
-- a value that is a / l in size
quant-of : (v : Float) (s : Bool) (a l : ℕ) → 0 < l → HasValue v s a l → quantised v ≡ signed s (half_up (a * 2 ^ 24) l)
unfolding quantised
quant-of nan s a l L v = elim v [ ]
quant-of (inf _) s a l L v = elim v [ ]
quant-of (fin t m e) s a l L v =
    ap (λ (b : Bool). signed b (half_up (m * up e * 2 ^ 24) (down e))) v.0
    ∙ ap (signed s) (half-same (m * up e * 2 ^ 24) (down e) (a * 2 ^ 24) l (down_pos e) L (mul_right_comm (m * up e) (2 ^ 24) l ∙ ap (λ (x : ℕ). x * 2 ^ 24) v.1 ∙ mul_right_comm a (down e) (2 ^ 24)))

-- a field that is not that of the infinities and NaN
pub fields_value : (s : Bool) (E t : ℕ) → (E ≡ 255 → ⊥) → HasValue (of_fields binary32 s E t) s (lead E t * 2 ^ (E - 1)) (2 ^ 149)
unfolding of_fields
fields_value s zero t h = odd_sign 24 s t 0 149
fields_value s (suc k) t h =
    subst (λ (v : Float). HasValue v s ((2 ^ 23 + t) * 2 ^ (suc k - 1)) (2 ^ 149))
    (sym (cond_no (eqb (suc k) 255) (cond (eqb t 0) (inf s) nan) (odd 24 s (2 ^ 23 + t) k 149) (subst (λ (b : Bool). T (not b)) (sym (ne_eqb (suc k) 255 h)) tt)))
    (subst (λ (x : ℕ). HasValue (odd 24 s (2 ^ 23 + t) k 149) s ((2 ^ 23 + t) * 2 ^ x) (2 ^ 149)) back (odd_sign 24 s (2 ^ 23 + t) k 149))
  where
    back : k ≡ suc k - 1
    back = omega arith

quantised-is : (s : Bool) (E t : ℕ) → (E ≡ 255 → ⊥) → quantised (of_fields binary32 s E t) ≡ signed s (scaled E t)
unfolding scaled
quantised-is s E t h = quant-of (of_fields binary32 s E t) s (lead E t * 2 ^ (E - 1)) (2 ^ 149) (pow_pos 149) (fields_value s E t h)

-- ---- the shifts
three : (q i j k : ℕ) → q * 2 ^ i * 2 ^ j * 2 ^ k ≡ q * 2 ^ (i + j + k)
three q i j k = rw (pow-add 2 (i + j) k, pow-add 2 i j) (move q (2 ^ i) (2 ^ j) (2 ^ k))
  where
    move : (q x y z : ℕ) → q * x * y * z ≡ q * (x * y * z)
    move q x y z = omega arith

module _ (t : ℕ) (h : t < 8388608) where
  -- to the right: the digits over a power of two
  right_is : (E : ℕ) → 102 ≤ E → E < 126 → scaled E t ≡ half_up (8388608 + t) (2 ^ (126 - E))
  unfolding scaled
  right_is zero a b = absurd (omega arith)
  right_is (suc k) a b =
      let q = 2 ^ 23 + t in
      half-same (q * 2 ^ (suc k - 1) * 2 ^ 24) (2 ^ 149) q (2 ^ (126 - suc k)) (pow_pos 149) (pow_pos (126 - suc k))
      (three q (suc k - 1) 24 (126 - suc k) ∙ ap (λ (x : ℕ). q * 2 ^ x) adds)
    where
      adds : suc k - 1 + 24 + (126 - suc k) ≡ 149
      adds = omega arith

  -- to the left: nothing to round
  left_is : (E : ℕ) → 126 ≤ E → scaled E t ≡ (8388608 + t) * 2 ^ (E - 126)
  unfolding scaled
  left_is zero a = absurd (omega arith)
  left_is (suc k) a =
      let q = 2 ^ 23 + t in
      half-same (q * 2 ^ (suc k - 1) * 2 ^ 24) (2 ^ 149) (q * 2 ^ (suc k - 126)) 1 (pow_pos 149) (lit< tt)
      (mul-one (q * 2 ^ (suc k - 1) * 2 ^ 24) ∙ two-powers q (suc k - 1) 24 ∙ ap (λ (x : ℕ). q * 2 ^ x) adds ∙ sym (two-powers q (suc k - 126) 149))
      ∙ half-whole (q * 2 ^ (suc k - 126))
    where
      adds : suc k - 1 + 24 ≡ suc k - 126 + 149
      adds = omega arith

  lead-lt : (E : ℕ) → lead E t < 2 ^ 24
  lead-lt zero = omega arith
  lead-lt (suc k) = omega arith

  -- less than a half
  nothing_is : (E : ℕ) → E < 102 → scaled E t ≡ 0
  unfolding scaled
  nothing_is E g =
      half-zero (lead E t * 2 ^ (E - 1) * 2 ^ 24) (2 ^ 149) (pow_pos 149)
      (lt_of_lt_of_le
      (doubled (lead E t * 2 ^ (E - 1) * 2 ^ 24) (2 ^ (24 + (E - 1) + 24)) (shl_lt (24 + (E - 1)) 24 (shl_lt 24 (E - 1) (lead-lt E))))
      (le_trans (le_of_eq (sym (pow-succ' 2 (24 + (E - 1) + 24)))) (pow_mono room)))
    where
      doubled : (x p : ℕ) → x < p → 2 * x < 2 * p
      doubled x p h = omega arith

      room : suc (24 + (E - 1) + 24) ≤ 149
      room = omega arith

  -- ---- so each of the three is the magnitude
  made : (E r : ℕ) → E ≤ 143 → scaled E t ≡ r → r < 2 ^ 41 → Magnitude E t r
  made E r a e l = record { value = λ s. quantised-is s E t (λ q. omega arith) ∙ ap (signed s) e; size = l }

  pub made_nothing : (E : ℕ) → E < 102 → Magnitude E t 0
  made_nothing E g = made E 0 (omega arith) (nothing_is E g) (lit< tt)

  pub made-right : (E : ℕ) → 102 ≤ E → E < 126 → Magnitude E t (half_up (8388608 + t) (2 ^ (126 - E)))
  made-right E a b = made E (half_up (8388608 + t) (2 ^ (126 - E))) (omega arith) (right_is E a b) small
    where
      small : half_up (8388608 + t) (2 ^ (126 - E)) < 2 ^ 41
      small = lt_of_le_of_lt (half_le (8388608 + t) (2 ^ (126 - E)) (2 ^ 24) (pow_pos (126 - E)) (omega (arith, pow_pos (126 - E)))) (lit< tt)

  pub made-left : (E : ℕ) → 126 ≤ E → E ≤ 143 → Magnitude E t ((8388608 + t) * 2 ^ (E - 126))
  made-left E a b = made E ((8388608 + t) * 2 ^ (E - 126)) b (left_is E a) small
    where
      small : (8388608 + t) * 2 ^ (E - 126) < 2 ^ 41
      small = lt_of_lt_of_le (shl_lt 24 (E - 126) (omega arith)) (pow_mono {j = 41} (omega arith))

  pub left-shifted : (E : ℕ) → E ≤ 143 → ((8388608 + t) * 2 ^ (E - 126)) % 18446744073709551616 ≡ (8388608 + t) * 2 ^ (E - 126)
  left-shifted E a = shl_exact 24 (E - 126) 64 (omega arith) (omega arith)
