-- The bits of n / 2 ^ 24 rounded to f32: its digits, from 2 ^ 23 to 2 ^ 24, and how many places they are moved up, in units of 2 ^ -149.
use mathlib.Core.Path.{◌≡◌, sym, ap, subst, ◌∙◌}
use mathlib.Core.Logic.{◌⊎◌, inl, inr}
use mathlib.Core.Bool.{Bool, cond}
use Prim.Native.Nat.{ℕ, suc, ◌+◌, ◌*◌, ◌-◌, ◌<◌, ◌≤◌, ◌%◌, ◌/◌, ◌^◌, compare}
use native.Mathlib.Omega.{arith}
use native.Mathlib.Nat.{le_trans, le_of_eq, le_refl, le_of_lt, le_antisymm, lt_irrefl, lt_of_lt_of_le, lt_of_le_of_lt, lt_of_not-le, eq-or-lt_of_le, mul-one, mul-pos, mul-le-mul_right, mul-div_cancel, div-one, mod-one, le-div_iff_mul-le, div-lt_iff_lt-mul}
use lib.Dec.{lit<}
use lib.Pow.{pow-add, pow_pos, pow_mono, pow-lt, shl_lt, shl-shr, shl_exact}
use lib.Count.{count_leading_zeros, leading_top}
use lib.Ieee.{inf, nan, Float, fin, binary32, down, size, round, units, to_bits, of_bits}
use lib.Ieee.Digits.{size-lt, size-le}
use lib.Ieee.Fits.{down_pos, round_is, round-fits, core, nearest-le}
use lib.Ieee.Bits.{of_bits-to_bits}
use lib.Ieee.Exact.{HasValue, units_val}
use lib.Ieee.Nearest.{closest, closest_same, nearest-ge}
use Rattle.likelihood.specs.Steps.{Pattern}
use Rattle.likelihood.proofs.Rounding.{at_lt, pow_le_back, two-powers}

-- ---- from the value to the bits
size_is : (n j : ℕ) → 2 ^ j ≤ n → n < 2 ^ suc j → size n ≡ suc j
size_is n j a b = le_antisymm (size-le n (suc j) b) (lt_of_not-le (λ (g : size n ≤ j). lt_irrefl n (lt_of_lt_of_le (size-lt n) (le_trans (pow_mono g) a))))

-- the bits less the sign's, by the size in units of 2 ^ -149
abbrev body : ℕ → ℕ
body n = (size n - 24) * 8388608 + n / 2 ^ (size n - 24)

body_at : (n k q : ℕ) → size n - 24 ≡ k → n / 2 ^ k ≡ q → body n ≡ k * 8388608 + q
body_at n k q e f = ap (λ (x : ℕ). x * 8388608 + n / 2 ^ x) e ∙ ap (λ (x : ℕ). k * 8388608 + x) f

-- the digits Q moved up by K places; a Q of 2 ^ 24 carries into the exponent's field
body_is : (Q K : ℕ) → 2 ^ 23 ≤ Q → Q ≤ 2 ^ 24 → body (Q * 2 ^ K) ≡ K * 8388608 + Q
body_is Q K a b = go (eq-or-lt_of_le b)
  where
    less : (z : ℕ) → z ≡ suc (23 + K) → z - 24 ≡ K
    less z e = omega arith

    more : (z : ℕ) → z ≡ suc (24 + K) → z - 24 ≡ K + 1
    more z e = omega arith

    step : (K : ℕ) → 24 + K ≡ suc (23 + K)
    step K = omega arith

    split : (K : ℕ) → 24 + K ≡ 23 + (K + 1)
    split K = omega arith

    carry : (K : ℕ) → (K + 1) * 8388608 + 8388608 ≡ K * 8388608 + 16777216
    carry K = omega arith

    go : (Q ≡ 2 ^ 24) ⊎ (Q < 2 ^ 24) → body (Q * 2 ^ K) ≡ K * 8388608 + Q
    go (inr l) =
        body_at (Q * 2 ^ K) K Q
        (less (size (Q * 2 ^ K)) (size_is (Q * 2 ^ K) (23 + K) (le_trans (le_of_eq (pow-add 2 23 K)) (mul-le-mul_right (2 ^ K) a)) (subst (λ (x : ℕ). Q * 2 ^ K < 2 ^ x) (step K) (shl_lt 24 K l))))
        (shl-shr Q K)
    go (inl e) =
        ap (λ (q : ℕ). body (q * 2 ^ K)) e
        ∙ ap body (sym (pow-add 2 24 K))
        ∙ body_at (2 ^ (24 + K)) (K + 1) 8388608
        (more (size (2 ^ (24 + K))) (size_is (2 ^ (24 + K)) (24 + K) (le_refl (2 ^ (24 + K))) (pow-lt (le_refl (suc (24 + K))))))
        (ap (λ (x : ℕ). 2 ^ x / 2 ^ (K + 1)) (split K) ∙ ap (λ (x : ℕ). x / 2 ^ (K + 1)) (pow-add 2 23 (K + 1)) ∙ shl-shr (2 ^ 23) (K + 1))
        ∙ carry K
        ∙ ap (λ (q : ℕ). K * 8388608 + q) (sym e)

bits_of : (v : Float) (s : Bool) (a : ℕ) → HasValue v s a (2 ^ 149) → to_bits binary32 v ≡ cond s 2147483648 0 + body a
unfolding to_bits
bits_of nan s a h = elim h [ ]
bits_of (inf _) s a h = elim h [ ]
bits_of (fin t m e) s a h =
    ap (λ (n : ℕ). cond t 2147483648 0 + (size n - 24) * 8388608 + n / 2 ^ (size n - 24)) (ap (λ (x : ℕ). x / down e) h.1 ∙ mul-div_cancel a (down_pos e))
    ∙ regroup (cond t 2147483648 0) ((size a - 24) * 8388608) (a / 2 ^ (size a - 24))
    ∙ ap (λ (b : Bool). cond b 2147483648 0 + body a) h.0
  where
    regroup : (x y z : ℕ) → x + y + z ≡ x + (y + z)
    regroup x y z = omega arith

-- what is read from the bits of a rounded fraction
read_back : (s : Bool) (n b : ℕ) → to_bits binary32 (round binary32 s n 16777216) ≡ b → of_bits binary32 b ≡ round binary32 s n 16777216
read_back s n b e = ap (of_bits binary32) (sym e) ∙ of_bits-to_bits binary32 (round binary32 s n 16777216) (round-fits binary32 s n 16777216)

-- ---- from the fraction to the value: n has its top set bit at `top`
pub record Top (n top : ℕ) : Type 0 where
  pub low : 2 ^ top ≤ n
  pub high : n < 2 ^ suc top
  pub small : top ≤ 53

-- D are the digits that are kept of n
pub record Digits (n top D : ℕ) : Type 0 where
  pub kept : closest (n * 2 ^ 149) (2 ^ 24 * 2 ^ (top + 102)) ≡ D
  pub least : 2 ^ 23 ≤ D
  pub most : D ≤ 2 ^ 24

module _ (n top : ℕ) (T : Top n top) where
  drop-is : size (n * 2 ^ 149 / 2 ^ 24) - 24 ≡ top + 102
  drop-is =
      ap (λ (x : ℕ). size (x / 2 ^ 24) - 24) (sym (two-powers n 125 24))
      ∙ ap (λ (x : ℕ). size x - 24) (shl-shr (n * 2 ^ 125) 24)
      ∙ less (size (n * 2 ^ 125)) (size_is (n * 2 ^ 125) (top + 125) (le_trans (le_of_eq (pow-add 2 top 125)) (mul-le-mul_right (2 ^ 125) T.low)) (subst (λ (x : ℕ). n * 2 ^ 125 < 2 ^ x) suc-is (shl_lt (suc top) 125 T.high)))
    where
      less : (z : ℕ) → z ≡ suc (top + 125) → z - 24 ≡ top + 102
      less z e = omega arith

      suc-is : suc top + 125 ≡ suc (top + 125)
      suc-is = omega arith

  -- below 2 ^ 24 nothing is dropped
  pub digits_up : top < 24 → Digits n top (n * 2 ^ (23 - top))
  digits_up h =
      record {
        kept =
            closest_same (n * 2 ^ 149) (2 ^ 24 * 2 ^ (top + 102)) (n * 2 ^ (23 - top)) 1 (mul-pos (pow_pos 24) (pow_pos (top + 102))) (lit< tt)
            (mul-one (n * 2 ^ 149) ∙ ap (λ (x : ℕ). n * 2 ^ x) adds ∙ sym (two-powers n (23 - top) (24 + (top + 102))) ∙ ap (λ (x : ℕ). n * 2 ^ (23 - top) * x) (pow-add 2 24 (top + 102)))
            ∙ sym (at_lt (n * 2 ^ (23 - top)) 1 (none (mod-one (n * 2 ^ (23 - top)))))
            ∙ div-one (n * 2 ^ (23 - top));
        least = le_trans (le_of_eq (ap (λ (x : ℕ). 2 ^ x) adds' ∙ pow-add 2 top (23 - top))) (mul-le-mul_right (2 ^ (23 - top)) T.low);
        most = le_of_lt (subst (λ (x : ℕ). n * 2 ^ (23 - top) < 2 ^ x) adds'' (shl_lt (suc top) (23 - top) T.high));
      }
    where
      adds : 149 ≡ 23 - top + (24 + (top + 102))
      adds = omega arith

      adds' : 23 ≡ top + (23 - top)
      adds' = omega arith

      adds'' : suc top + (23 - top) ≡ 24
      adds'' = omega arith

      none : {r : ℕ} → r ≡ 0 → r * 2 < 1
      none e = omega arith

  -- from 2 ^ 24 on the digits below are rounded away
  pub digits-down : 24 ≤ top → Digits n top (closest n (2 ^ (top - 23)))
  digits-down h =
      let d = 2 ^ (top - 23) in
      let f : 2 ^ 23 ≤ n / d = (le-div_iff_mul-le (pow_pos (top - 23))).1 (le_trans (le_of_eq (sym (pow-add 2 23 (top - 23)) ∙ ap (λ (x : ℕ). 2 ^ x) adds')) T.low) in
      let g : n / d < 2 ^ 24 = (div-lt_iff_lt-mul (pow_pos (top - 23))).1 (lt_of_lt_of_le T.high (le_of_eq (ap (λ (x : ℕ). 2 ^ x) adds'' ∙ pow-add 2 24 (top - 23)))) in
      record {
        kept =
            closest_same (n * 2 ^ 149) (2 ^ 24 * 2 ^ (top + 102)) n d (mul-pos (pow_pos 24) (pow_pos (top + 102))) (pow_pos (top - 23))
            (two-powers n 149 (top - 23) ∙ ap (λ (x : ℕ). n * 2 ^ x) adds ∙ ap (λ (x : ℕ). n * x) (pow-add 2 24 (top + 102)));
        least = le_trans f (nearest-ge (n / d) (compare (n % d * 2) d));
        most = le_trans (nearest-le (n / d) (compare (n % d * 2) d)) g;
      }
    where
      adds : 149 + (top - 23) ≡ 24 + (top + 102)
      adds = omega arith

      adds' : 23 + (top - 23) ≡ top
      adds' = omega arith

      adds'' : suc top ≡ 24 + (top - 23)
      adds'' = omega arith

  -- so the digits, and the field that says how many were dropped, are the pattern
  pub pattern-is : (D : ℕ) → Digits n top D → Pattern n ((top + 102) * 8388608 + D)
  pattern-is D K =
      record {
        value = λ s. read_back s n (cond s 2147483648 0 + ((top + 102) * 8388608 + D))
            (ap (to_bits binary32) (round_is binary32 s n (2 ^ 24) ∙ ap (λ (k : ℕ). core binary32 s (n * 2 ^ 149) (2 ^ 24) k) drop-is ∙ ap (λ (q : ℕ). units binary32 s q (top + 102)) K.kept)
            ∙ bits_of (units binary32 s D (top + 102)) s (D * 2 ^ (top + 102)) (units_val binary32 s D (top + 102) (lt_of_lt_of_le (shl_lt 25 (top + 102) (lt_of_le_of_lt K.most (lit< tt))) (pow_mono {j = 277} room)))
            ∙ ap (λ (x : ℕ). cond s 2147483648 0 + x) (body_is D (top + 102) K.least K.most));
        number = omega (arith, T.small, K.most);
      }
    where
      room : 25 + (top + 102) ≤ 277
      room = omega (arith, T.small)

  pub shifted : top < 24 → (n * 2 ^ (23 - top)) % 18446744073709551616 ≡ n * 2 ^ (23 - top)
  shifted h = shl_exact (suc top) (23 - top) 64 T.high (omega arith)

-- ---- the top set bit, by the zeros that lead
module _ (n : ℕ) (p : 0 < n) (h : n ≤ 2 ^ 53) where
  found : (j : ℕ) × (count_leading_zeros 64 n + suc j ≡ 64) × (2 ^ j ≤ n) × (n < 2 ^ suc j)
  found = leading_top 64 n p (lt_of_le_of_lt h (lit< tt))

  pub zeros-le : count_leading_zeros 64 n ≤ 63
  zeros-le = omega (arith, found.1)

  pub top-is : Top n (63 - count_leading_zeros 64 n)
  top-is = subst (Top n) is (record { low = found.2; high = found.3; small = pow_le_back found.0 53 (le_trans found.2 h) })
    where
      is : found.0 ≡ 63 - count_leading_zeros 64 n
      is = omega (arith, found.1)
