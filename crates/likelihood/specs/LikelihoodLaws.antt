-- What follows from the definitions of Likelihood.antt: which floats are acceptable, that `half_up` is the nearest, how large a quantised likelihood is, and that a
-- sum returns to a number.
use Rattle.std.specs.Prelude.{◌≡◌, refl, Bool, true, false, not, ◌&&◌, ◌||◌, ℕ, zero, suc, ◌+◌, ◌*◌, ◌-◌, ◌/◌, ◌%◌, ◌≤◌, ◌<◌, ◌^◌, T, leb, ltb, eqb, ℤ, pos, nat_abs, Float}
use Rattle.std.proofs.Common.{sym, subst, ◌∙◌, true≢false, ⊎_elim, arith, le_trans, le_of_eq, le_antisymm, le_of_suc-le-suc, mul-one, one-mul, mul-le-mul_right, mul-pos, mod-lt, div-add-mod', div-lt_iff_lt-mul, le-div_iff_mul-le, lit<, lt-ltb, le-ltb, le-leb, leb-true, eq-eqb, eqb-true}
use Rattle.std.specs.Int.Signed.{non_neg}
use Rattle.std.specs.Float.{nan, inf, fin, binary32}
use Rattle.std.specs.Float.Ieee.{up, down, size, odd, units, le, is_nan}
use Rattle.std.specs.Float.Ieee.Fits.{down_pos, round_is, core}
use Rattle.std.specs.Float.Ieee.Nearest.{closest}
use Rattle.std.proofs.lemmas.Bool.{lt-leb}
use Rattle.laws.specs.Tests.{by-test, apart, not_so, and_comm}
use Rattle.laws.specs.Whole.{abs_neg}
use Rattle.likelihood.specs.Likelihood.{acceptable, half_up, signed, quantised, dequantised}

-- ---- which floats are acceptable
-- NaN and the infinities are not
pub nan-refused : acceptable nan ≡ false
unfolding acceptable le
nan-refused = refl

pub infinity-refused : (s : Bool) → acceptable (inf s) ≡ false
unfolding acceptable le
infinity-refused true = refl
infinity-refused false = refl

-- -65,536 and 65,536 are
pub ends-taken : (s : Bool) → acceptable (fin s 1 (pos 16)) ≡ true
unfolding acceptable le
ends-taken true = refl
ends-taken false = refl

-- of the finite ones exactly those of at most 65,536 in size: for either sign one of the two tests is plain, and the other compares the sizes
le_is : (a b : ℕ) (t : Bool) → (a ≡ b → t ≡ true) → (t ≡ true → a ≡ b) → (ltb a b || (t && true)) ≡ leb a b
le_is a b t f g = ⊎_elim level (λ d. ⊎_elim less more d) (apart a b)
  where
    level : a ≡ b → (ltb a b || (t && true)) ≡ leb a b
    level e = rw (le-ltb a b (omega arith), f e, le-leb a b (omega arith))

    less : a < b → (ltb a b || (t && true)) ≡ leb a b
    less l = rw (lt-ltb a b l, le-leb a b (omega arith))

    more : b < a → (ltb a b || (t && true)) ≡ leb a b
    more l = rw (le-ltb a b (omega arith), not_so t (λ e. omega (arith, g e)), lt-leb a b l)

plain : (n : ℕ) (t : Bool) → 0 < n → (ltb 0 n || t) ≡ true
plain n t h = rw (lt-ltb 0 n h)

pub finite-taken : (s : Bool) (m : ℕ) (e : ℤ) → acceptable (fin s m e) ≡ leb (m * up e) (2 ^ 16 * down e)
unfolding acceptable le
finite-taken s m e = go s
  where
    a : ℕ
    a = m * up e * 1

    b : ℕ
    b = 1 * 2 ^ 16 * down e

    sizes : leb a b ≡ leb (m * up e) (2 ^ 16 * down e)
    sizes = λ i. leb (mul-one (m * up e) i) (one-mul (2 ^ 16) i * down e)

    go : (s : Bool) → acceptable (fin s m e) ≡ leb (m * up e) (2 ^ 16 * down e)
    go false = (λ i. plain (b + a) (eqb b a && eqb b 0) (omega (arith, down_pos e)) i && le_is a b (eqb a b) (eq-eqb a b) (eqb-true a b) i) ∙ sizes
    go true =
        (λ i. le_is a b (eqb b a) (λ q. eq-eqb b a (sym q)) (λ q. sym (eqb-true b a q)) i && plain (a + b) (eqb a b && eqb a 0) (omega (arith, down_pos e)) i)
        ∙ and_comm (leb a b) true
        ∙ sizes

-- x is finite, and at most 65,536 in size
abbrev pub Within : Float → Type 0
Within nan = ⊥
Within (inf s) = ⊥
Within (fin s m e) = m * up e ≤ 2 ^ 16 * down e

pub acceptable-within : (x : Float) → acceptable x ≡ true → Within x
acceptable-within nan h = absurd (true≢false (sym h ∙ nan-refused))
acceptable-within (inf s) h = absurd (true≢false (sym h ∙ infinity-refused s))
acceptable-within (fin s m e) h = leb-true (m * up e) (2 ^ 16 * down e) (sym (finite-taken s m e) ∙ h)

pub within-acceptable : (x : Float) → Within x → acceptable x ≡ true
within-acceptable nan h = elim h [ ]
within-acceptable (inf _) h = elim h [ ]
within-acceptable (fin s m e) h = finite-taken s m e ∙ le-leb (m * up e) (2 ^ 16 * down e) h

-- what is acceptable is a number
pub acceptable-number : (x : Float) → acceptable x ≡ true → T (not (is_nan x))
unfolding is_nan
acceptable-number x h = go x (acceptable-within x h)
  where
    go : (x : Float) → Within x → T (not (is_nan x))
    go nan w = absurd w
    go (inf s) w = absurd w
    go (fin s m e) w = tt

-- ---- half_up is the nearest: q = half_up num den is the one whole number with num / den from q - 1/2, taken in, to q + 1/2, left out
pub half-near : (num den : ℕ) → 0 < den → (2 * half_up num den * den ≤ 2 * num + den) × (2 * num < 2 * half_up num den * den + den)
unfolding half_up
half-near num den h = go ((2 * num + den) / (2 * den)) ((2 * num + den) % (2 * den)) (div-add-mod' (2 * num + den) (2 * den)) (mod-lt (2 * num + den) (mul-pos (lit< tt) h))
  where
    go : (q r : ℕ) → q * (2 * den) + r ≡ 2 * num + den → r < 2 * den → (2 * q * den ≤ 2 * num + den) × (2 * num < 2 * q * den + den)
    go q r e l = (omega arith, omega arith)

pub half-only : (num den q : ℕ) → 0 < den → 2 * q * den ≤ 2 * num + den → 2 * num < 2 * q * den + den → q ≡ half_up num den
unfolding half_up
half-only num den q h a b =
    let d : 0 < 2 * den = mul-pos (lit< tt) h in
    le_antisymm
    ((le-div_iff_mul-le {k = 2 * den} {x = q} {y = 2 * num + den} d).1 (omega arith))
    (le_of_suc-le-suc ((div-lt_iff_lt-mul {k = 2 * den} {x = 2 * num + den} {y = suc q} d).1 (omega arith)))

-- ---- a quantised likelihood is at most 2 ^ 40 in size
signed-size : (s : Bool) (n : ℕ) → nat_abs (signed s n) ≡ n
signed-size true n = abs_neg (pos n)
signed-size false n = refl

-- a fraction of at most B rounds to at most B
pub half_le : (a d B : ℕ) → 0 < d → a ≤ B * d → half_up a d ≤ B
unfolding half_up
half_le a d B p h = le_of_suc-le-suc ((div-lt_iff_lt-mul {k = 2 * d} {x = 2 * a + d} {y = suc B} (omega arith)).1 (omega arith))

size-within : (x : Float) → Within x → nat_abs (quantised x) ≤ 2 ^ 40
unfolding quantised
size-within nan h = elim h [ ]
size-within (inf _) h = elim h [ ]
size-within (fin s m e) h =
    le_trans (le_of_eq (signed-size s (half_up (m * up e * 2 ^ 24) (down e))))
    (half_le (m * up e * 2 ^ 24) (down e) (2 ^ 40) (down_pos e) (omega (arith, mul-le-mul_right (2 ^ 24) h)))

pub quantised-size : (x : Float) → acceptable x ≡ true → nat_abs (quantised x) ≤ 2 ^ 40
quantised-size x h = size-within x (acceptable-within x h)

-- ---- what a sum returns to is a number
odd_number : (d : ℕ) (s : Bool) (q k l : ℕ) → T (not (is_nan (odd d s q k l)))
unfolding odd is_nan
odd_number d s zero k l = tt
odd_number d s (suc q) k l = tt

units_number : (s : Bool) (q k : ℕ) → T (not (is_nan (units binary32 s q k)))
unfolding units is_nan
units_number s q k = by-test Float (λ x. T (not (is_nan x))) (ltb (q * 2 ^ k) (2 ^ 277)) (odd 25 s q k 149) (inf s) (λ t. odd_number 25 s q k 149) (λ t. tt)

core-number : (s : Bool) (n den k : ℕ) → T (not (is_nan (core binary32 s n den k)))
core-number s n den k = units_number s (closest n (den * 2 ^ k)) k

pub dequantised-number : (sum : ℤ) → T (not (is_nan (dequantised sum)))
unfolding dequantised
dequantised-number sum =
    subst (λ (x : Float). T (not (is_nan x))) (sym (round_is binary32 (not (non_neg sum)) (nat_abs sum) (2 ^ 24)))
    (core-number (not (non_neg sum)) (nat_abs sum * 2 ^ 149) (2 ^ 24) (size (nat_abs sum * 2 ^ 149 / 2 ^ 24) - 24))
