-- Dividing by a small number without a division: a multiple of it that lifts every coordinate above 0, and 2^32 over it, and one more.
use Rattle.std.specs.Prelude.{◌≡◌, refl, ℕ, suc, ◌+◌, ◌*◌, ◌/◌, ◌%◌, ◌-◌, ◌≤◌, ◌<◌, ℤ, pos, negsuc, nat_abs, ◌+ℤ◌}
use Rattle.std.proofs.Common.{sym, ◌∙◌, arith, add-mul, mul-add, one-mul, mul_assoc, mul_comm, mul_left_comm, mul-le-mul, mul-le-mul_left, mul-le-mul_right, div-le_self, div-mul-le_self, le-div_iff_mul-le}
use Rattle.std.proofs.Math.Path.{ap}
use Rattle.std.proofs.Math.Nat.{lt-div-mul-add, div-eq_of_lt-le, mod-eq-sub-div-mul}
use Rattle.laws.specs.RemainderLaws.{is-sub}
use Rattle.laws.specs.declared.Modulus.{Modulus}

-- 2^32 over n, and one more
abbrev pub factor_of : ℕ → ℕ
factor_of n = 4294967296 / n + 1

-- the least multiple of n above 2,000,002, which no coordinate of a looked-up edge exceeds in size
abbrev pub lift_of : ℕ → ℕ
lift_of n = (2000002 / n + 1) * n

-- a number to divide by, with its lift and its factor
unfoldable pub modulus_of : ℕ → Modulus
modulus_of n = record { n = n; lift = lift_of n; factor = factor_of n }

-- a modulus that may be divided by
pub record ModulusOk (m : Modulus) : Type 0 where
  pub more : 0 < m.n
  pub few : m.n ≤ 500
  pub made : m ≡ modulus_of m.n

-- what is made of n has n, and may be divided by
pub modulus-n : (m : Modulus) (n : ℕ) → m ≡ modulus_of n → m.n ≡ n
unfolding modulus_of
modulus-n m n e = ap (λ (x : Modulus). x.n) e

pub modulus-ok : (m : Modulus) (n : ℕ) → m ≡ modulus_of n → 0 < n → n ≤ 500 → ModulusOk m
modulus-ok m n e p f =
    let q = modulus-n m n e in
    record { more = rw q p; few = rw q f; made = e ∙ ap modulus_of (sym q) }

-- one time more
once_more : (q n : ℕ) → (q + 1) * n ≡ q * n + n
once_more q n = add-mul q 1 n ∙ ap (λ (x : ℕ). q * n + x) (one-mul n)

-- the lifting multiple is at most n above what it lifts
pub lift-fits : (n : ℕ) → lift_of n ≤ 2000002 + n
lift-fits n = rw (once_more (2000002 / n) n) (omega (arith, div-mul-le_self 2000002 n))

-- ---- the quotient of u by n is the product with the factor, over 2^32
module _ (n u : ℕ) (h : 0 < n) (few : n ≤ 500) (small : u ≤ 4194304) where
  -- the factor times n is above 2^32, by n at most
  over : 4294967296 ≤ factor_of n * n
  over = rw (once_more (4294967296 / n) n) (omega (arith, lt-div-mul-add {a = 4294967296} {b = n} h))

  little : factor_of n * n ≤ 4294967296 + n
  little = rw (once_more (4294967296 / n) n) (omega (arith, div-mul-le_self 4294967296 n))

  large : 8589934 < factor_of n
  large = omega (arith, (le-div_iff_mul-le {k = n} {x = 8589934} {y = 4294967296} h).1 (omega arith))

  low : u / n * 4294967296 ≤ u * factor_of n
  low =
      let a = u / n in
      let f = factor_of n in
      let e : a * (f * n) ≡ a * n * f = simp (mul_assoc, mul_comm, mul_left_comm) in
      omega (arith, mul-le-mul_left a over, e, mul-le-mul_right f (div-mul-le_self u n))

  high : u * factor_of n < (u / n + 1) * 4294967296
  high =
      let a = u / n in
      let f = factor_of n in
      let s : u + 1 ≤ a * n + n = omega (arith, lt-div-mul-add {a = u} {b = n} h) in
      let y : (a * n + n) * f ≡ a * (f * n) + f * n = add-mul (a * n) n f ∙ simp (mul_assoc, mul_comm, mul_left_comm) in
      let z : a * (4294967296 + n) ≡ a * 4294967296 + a * n = mul-add a 4294967296 n in
      omega (arith, large, little, mul-le-mul_right f s, once_more u f, y, z, mul-le-mul_left a little, div-mul-le_self u n)

  quotient : u * factor_of n / 4294967296 ≡ u / n
  quotient = div-eq_of_lt-le {k = u / n} 4294967296 {m = u * factor_of n} low high

-- ---- a modulus
module _ (m : Modulus) (ok : ModulusOk m) where
  factor-is : m.factor ≡ factor_of m.n
  unfolding modulus_of
  factor-is = ap (λ (x : Modulus). x.factor) ok.made

  pub lift-is : m.lift ≡ lift_of m.n
  unfolding modulus_of
  lift-is = ap (λ (x : Modulus). x.lift) ok.made

  pub lift-in : (2000002 ≤ m.lift) × (m.lift ≤ 2000502)
  lift-in = rw lift-is (rw (once_more (2000002 / m.n) m.n) (omega (arith, lt-div-mul-add {a = 2000002} {b = m.n} ok.more)), omega (arith, lift-fits m.n, ok.few))

  module _ (u : ℕ) (small : u ≤ 4194304) where
    pub quotient_is : u * m.factor / 4294967296 ≡ u / m.n
    quotient_is = rw factor-is (quotient m.n u ok.more ok.few small)

    -- the product fits 64 bits
    pub product-fits : u * m.factor ≤ 4194304 * 4294967297
    product-fits = mul-le-mul {n₁ = u} {m₁ = m.factor} {n₂ = 4194304} {m₂ = 4294967297} small (rw factor-is (omega (arith, div-le_self 4294967296 m.n)))

    pub part-under : u * m.factor / 4294967296 * m.n ≤ u
    part-under = rw quotient_is (div-mul-le_self u m.n)

    pub rest-is : u - u * m.factor / 4294967296 * m.n ≡ u % m.n
    rest-is = rw quotient_is (sym (mod-eq-sub-div-mul u m.n))

-- ---- a whole number of no more than b in size, b added
pub lifted-up : (x : ℤ) (b : ℕ) → nat_abs x ≤ b → (k : ℕ) × (x +ℤ pos b ≡ pos k) × (k ≤ nat_abs x + b)
lifted-up (pos a) b h = (a + b, refl, omega arith)
lifted-up (negsuc a) b h = (b - suc a, is-sub b (suc a) (b - suc a) (omega arith), omega arith)
