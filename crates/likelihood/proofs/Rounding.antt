-- Rounding to the nearest: `half_up` on equal fractions, and what the shifts of `nearest` are.
use mathlib.Core.Path.{◌≡◌, refl, sym, ap, subst, ◌∙◌}
use mathlib.Core.Bool.{Bool, true, false}
use mathlib.Core.Logic.{⊎_elim}
use Prim.Native.Nat.{ℕ, suc, ◌+◌, ◌*◌, ◌-◌, ◌<◌, ◌≤◌, ◌%◌, ◌/◌, ◌^◌, compare, Ordering}
use native.Mathlib.Omega.{arith}
use native.Mathlib.Nat.{lt_irrefl, lt_of_lt_of_le, one-mul, mul_assoc, mod-lt, div-eq_of_lt, pow-succ', mul-pos}
use native.Mathlib.Numerals.{add-one}
use lib.Dec.{T, is_le, compare_is_eq, eqb, leb→le, eqb→eq, eqb_refl, le→leb, lit<}
use lib.Pow.{pow-add, pow_pos, pow-lt, shl_exact, high, split}
use lib.Ieee.{nearest}
use lib.Ieee.Nearest.{closest, div_same}
use Rattle.laws.specs.Tests.{apart, compared}
use Rattle.likelihood.specs.Likelihood.{half_up}
use Rattle.likelihood.specs.Steps.{rounded}

-- ---- a half upwards
-- equal fractions round alike
pub half-same : (a b c d : ℕ) → 0 < b → 0 < d → a * d ≡ c * b → half_up a b ≡ half_up c d
unfolding half_up
half-same a b c d B D e = div_same (2 * a + b) (2 * b) (2 * c + d) (2 * d) (omega arith) (omega arith) (cross a b c d e)
  where
    cross : (a b c d : ℕ) → a * d ≡ c * b → (2 * a + b) * (2 * d) ≡ (2 * c + d) * (2 * b)
    cross a b c d e = omega arith

-- a whole number
pub half-whole : (n : ℕ) → half_up n 1 ≡ n
unfolding half_up
half-whole n = omega arith

-- less than a half
pub half-zero : (a b : ℕ) → 0 < b → 2 * a < b → half_up a b ≡ 0
unfolding half_up
half-zero a b B h = div-eq_of_lt (omega arith)

-- over a power of two
half_pow : (n k : ℕ) → half_up n (2 ^ suc k) ≡ (n + 2 ^ k) / 2 ^ suc k
unfolding half_up
half_pow n k = div_same (2 * n + 2 ^ suc k) (2 * 2 ^ suc k) (n + 2 ^ k) (2 ^ suc k) (mul-pos (lit< tt) (pow_pos (suc k))) (pow_pos (suc k)) (cross (2 ^ suc k) (2 ^ k) (pow-succ' 2 k))
  where
    cross : (x y : ℕ) → x ≡ 2 * y → (2 * n + x) * x ≡ (n + y) * (2 * x)
    cross x y e = rw e (omega arith)

-- ---- a half to the even one: `closest`, by how twice the remainder compares with the divisor
cmp-lt : (a b : ℕ) → a < b → compare a b ≡ Ordering.lt
cmp-lt a b h = go (compare a b) (le→leb a b (omega arith)) (eqb→eq a b)
  where
    go : (o : Ordering) → T (is_le o) → (T (compare_is_eq o) → a ≡ b) → o ≡ Ordering.lt
    go Ordering.lt l e = refl
    go Ordering.eq l e = absurd (no (e tt))
      where
        no : a ≡ b → ⊥
        no q = omega arith
    go Ordering.gt l e = absurd l

cmp-eq : (a b : ℕ) → a ≡ b → compare a b ≡ Ordering.eq
cmp-eq a b h = go (compare a b) (subst (λ (x : ℕ). T (eqb a x)) h (eqb_refl a))
  where
    go : (o : Ordering) → T (compare_is_eq o) → o ≡ Ordering.eq
    go Ordering.lt e = absurd e
    go Ordering.eq e = refl
    go Ordering.gt e = absurd e

cmp-gt : (a b : ℕ) → b < a → compare a b ≡ Ordering.gt
cmp-gt a b h = go (compare a b) (leb→le a b)
  where
    no : a ≤ b → ⊥
    no q = omega arith

    go : (o : Ordering) → (T (is_le o) → a ≤ b) → o ≡ Ordering.gt
    go Ordering.lt l = absurd (no (l tt))
    go Ordering.eq l = absurd (no (l tt))
    go Ordering.gt l = refl

module _ (n b : ℕ) where
  pub at_lt : n % b * 2 < b → n / b ≡ closest n b
  at_lt h = ap (nearest (n / b)) (sym (cmp-lt (n % b * 2) b h))

  at-eq : n % b * 2 ≡ b → n / b + n / b % 2 ≡ closest n b
  at-eq h = ap (nearest (n / b)) (sym (cmp-eq (n % b * 2) b h))

  at-gt : b < n % b * 2 → n / b + 1 ≡ closest n b
  at-gt h = add-one (n / b) ∙ ap (nearest (n / b)) (sym (cmp-gt (n % b * 2) b h))

-- m is hi times 2 ^ k and less than 2 ^ k more
part : (m k hi lo : ℕ) → m ≡ hi * 2 ^ k + lo → lo < 2 ^ k → m / 2 ^ k ≡ hi
part m k hi lo e h = ap (λ (x : ℕ). x / 2 ^ k) e ∙ high hi k h

-- what `nearest` adds for a half of h and a whole part of q
abbrev pub added : Bool → ℕ → ℕ → ℕ
added true h q = h
added false h q = h - 1 + q % 2

module _ (n k : ℕ) where
  abbrev d : ℕ
  d = 2 ^ suc k

  even_is : (n + added false (2 ^ k) (n / d)) / d ≡ closest n d
  even_is =
      go (n / d) (n % d) (2 ^ k) (n / d % 2) (pow-succ' 2 k) (pow_pos k) (split n (suc k)) (mod-lt n (pow_pos (suc k))) (mod-lt (n / d) (lit< tt))
      (at_lt n d) (at-eq n d) (at-gt n d)
    where
      -- n is q times d and r more, h is half of d, and o is the last digit of q
      go : (q r h o : ℕ) → d ≡ 2 * h → 0 < h → q * d + r ≡ n → r < d → o < 2
          → (r * 2 < d → q ≡ closest n d) → (r * 2 ≡ d → q + o ≡ closest n d) → (d < r * 2 → q + 1 ≡ closest n d)
          → (n + (h - 1 + o)) / d ≡ closest n d
      go q r h o e p s l u a b c = ⊎_elim tie (λ x. ⊎_elim below above x) (apart (r * 2) d)
        where
          below : r * 2 < d → (n + (h - 1 + o)) / d ≡ closest n d
          below x = part (n + (h - 1 + o)) (suc k) q (r + h - 1 + o) (omega arith) (omega arith) ∙ a x

          above : d < r * 2 → (n + (h - 1 + o)) / d ≡ closest n d
          above x = part (n + (h - 1 + o)) (suc k) (q + 1) (r + h - 1 + o - d) (omega arith) (omega arith) ∙ c x

          stays : o < 1 → q ≡ q + o
          stays z = omega arith

          moves : 1 ≤ o → q + 1 ≡ q + o
          moves z = omega arith

          tie : r * 2 ≡ d → (n + (h - 1 + o)) / d ≡ closest n d
          tie x =
              ⊎_elim
              (λ (z : o < 1). part (n + (h - 1 + o)) (suc k) q (r + h - 1) (omega arith) (omega arith) ∙ stays z ∙ b x)
              (λ (z : 1 ≤ o). part (n + (h - 1 + o)) (suc k) (q + 1) 0 (omega arith) (omega arith) ∙ moves z ∙ b x)
              (compared o 1)

  by_way : (t : Bool) → (n + added t (2 ^ k) (n / d)) / d ≡ rounded t n d
  by_way true = sym (half_pow n k)
  by_way false = even_is

-- ---- what `nearest` adds and drops
pub added-le : (t : Bool) (h q : ℕ) → 0 < h → added t h q ≤ h
added-le true h q p = omega arith
added-le false h q p = omega arith

module _ (n places : ℕ) (p : 0 < places) (h : places < 62) where
  pub half-shifted : (1 * 2 ^ (places - 1)) % 18446744073709551616 ≡ 2 ^ (places - 1)
  half-shifted = shl_exact 1 (places - 1) 64 (lit< tt) (omega arith) ∙ one-mul (2 ^ (places - 1))

  pub half-shifted-lt : 2 ^ (places - 1) < 2 ^ 62
  half-shifted-lt = pow-lt {j = 62} (omega arith)

  pub rounded-is : (t : Bool) → (n + added t (2 ^ (places - 1)) (n / 2 ^ places)) / 2 ^ places ≡ rounded t n (2 ^ places)
  rounded-is t = subst (λ (x : ℕ). (n + added t (2 ^ (places - 1)) (n / 2 ^ x)) / 2 ^ x ≡ rounded t n (2 ^ x)) back (by_way n (places - 1) t)
    where
      back : suc (places - 1) ≡ places
      back = omega arith

-- ---- powers of two
pub two-powers : (q i j : ℕ) → q * 2 ^ i * 2 ^ j ≡ q * 2 ^ (i + j)
two-powers q i j = mul_assoc q (2 ^ i) (2 ^ j) ∙ ap (λ (x : ℕ). q * x) (sym (pow-add 2 i j))

pub pow_le_back : (i p : ℕ) → 2 ^ i ≤ 2 ^ p → i ≤ p
pow_le_back i p h = ⊎_elim (λ (g : p < i). absurd (lt_irrefl (2 ^ p) (lt_of_lt_of_le (pow-lt g) h))) (λ (g : i ≤ p). g) (compared p i)
