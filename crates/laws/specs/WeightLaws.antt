-- Sums of f32 weights: of n weights from 0 to 1 a sum in any order is finite, without a minus sign, and at most n, for n up to 2 ^ 24.
-- On such weights `<` is a strict weak order, and `==` says that neither is greater.
use Rattle.std.specs.Prelude.{◌≡◌, refl, Bool, true, false, not, ◌&&◌, ◌||◌, cond, T, ltb, eqb, Float}
use Rattle.std.proofs.Common.{sym, ap, ◌∙◌, true≢false, ⊎_elim, le_of_lt, zero-lt-suc, mul_left_comm, le_trans, le_of_eq, mul-one, mul_comm, mul_assoc, mul_right_comm, add-mul, add-le-add, mul-le-mul_right, le_of_mul-le-mul_right, mul-pos, zero-mul, add-zero, arith, lit<, ltb→lt, eqb→eq, ltb-true, ltb-false, lt-ltb, le-ltb, eq-eqb, eqb-true}
use Prim.Native.Nat.{ℕ, zero, suc, ◌+◌, ◌-◌, ◌*◌, ◌^◌, ◌≤◌, ◌<◌, zero-le}
use Rattle.std.proofs.Math.Nat.{sub-zero}
use Rattle.std.specs.Float.{nan, inf, fin, Format, binary32}
use Rattle.std.specs.Float.Ieee.{prec, low, emax, up, down, odd, units, round, sum, add, le, lt, eq}
use Rattle.std.specs.Float.Ieee.Fits.{round_is, down_pos, up_pos, and_l}
use Rattle.std.specs.Float.Ieee.Exact.{HasValue}
use Rattle.std.specs.Float.Ieee.Back.{round_whole}
use Rattle.std.specs.Float.Ieee.Order.{round_mono}
use Rattle.std.specs.Float.Ieee.Positive.{num, den, den_pos, through}
use Rattle.laws.specs.Tests.{compared, and_comm}
use Rattle.laws.specs.Words.{put, fold, zero_f, one_f, Weight, heavier}
use Rattle.laws.specs.Best.{Weak}
use Rattle.laws.specs.Weights.{Upto, UptoOver, WeightOver, weightlike}

-- ---- what is not negative rounds to what has no minus sign
abbrev plain : Float → Bool
plain nan = false
plain (inf s) = not s
plain (fin s m e) = not s

odd-plain : (d q k l : ℕ) → T (plain (odd d false q k l))
unfolding odd
odd-plain d zero k l = tt
odd-plain d (suc q) k l = tt

units-plain : (f : Format) (q k : ℕ) → T (plain (units f false q k))
unfolding units
units-plain f q k = go (ltb (q * 2 ^ k) (2 ^ (low f + suc (emax f)))) (odd-plain (suc (prec f)) q k (low f))
  where
    go : (b : Bool) → T (plain (odd (suc (prec f)) false q k (low f))) → T (plain (cond b (odd (suc (prec f)) false q k (low f)) (inf false)))
    go true h = h
    go false h = tt

round-plain : (f : Format) (a c : ℕ) → T (plain (round f false a c))
round-plain f a c = rw (round_is f false a c) (units-plain f _ _)

-- ---- below a value there is no infinity
pub lt-or-eq : (x y : ℕ) → T (ltb x y || (eqb x y && true)) → x ≤ y
lt-or-eq x y t = go (ltb x y) (eqb x y) (ltb→lt x y) (eqb→eq x y) t
  where
    go : (p q : Bool) → (T p → x < y) → (T q → x ≡ y) → T (p || (q && true)) → x ≤ y
    go true q a b t = le_of_lt (a tt)
    go false true a b t = le_of_eq (b tt)
    go false false a b t = absurd t

cancel : (x y e d a c : ℕ) → 0 < d → x * d ≤ y * e → y * c ≡ a * d → x * c ≤ a * e
cancel x y e d a c D h k =
    le_of_mul-le-mul_right
    (le_trans (le_of_eq (mul_right_comm x c d)) (le_trans (mul-le-mul_right c h) (le_of_eq (mul_right_comm y e c ∙ ap (λ w. w * e) k ∙ mul_right_comm a d e)))) D

under : (z y : Float) (a c : ℕ) → T (plain z) → HasValue y false a c → T (le z y) → UptoOver z a c
unfolding le
under nan y a c p v h = absurd p
under (inf true) y a c p v h = absurd p
under (inf false) nan a c p v h = absurd v
under (inf false) (inf t) a c p v h = absurd v
under (inf false) (fin t n d) a c p v h = absurd h
under (fin true m e) y a c p v h = absurd p
under (fin false m e) nan a c p v h = absurd v
under (fin false m e) (inf t) a c p v h = absurd v
under (fin false m e) (fin true n d) a c p v h = absurd (true≢false v.0)
under (fin false m e) (fin false n d) a c p v h = cancel (m * up e) (n * up d) (down e) (down d) a c (down_pos d) (lt-or-eq (m * up e * down d) (n * up d * down e) h) v.1

-- a fraction that f32 holds bounds what it bounds before rounding
abbrev pub Held : ℕ → ℕ → Type 0
Held a c = HasValue (round binary32 false a c) false a c

pub round-over : (a b n c : ℕ) → 0 < b → 0 < c → Held a b → n * b ≤ a * c → UptoOver (round binary32 false n c) a b
round-over a b n c B C h k = under (round binary32 false n c) (round binary32 false a b) a b (round-plain binary32 n c) h (round_mono binary32 n c a b C B k)

-- ---- the sum
pub cross : (m n d e a b c : ℕ) → m * c ≤ a * e → n * c ≤ b * d → (m * d + n * e) * c ≤ (a + b) * (e * d)
cross m n d e a b c h k =
    let q : m * c * d + n * c * e ≡ (m * d + n * e) * c = simp (add-mul, mul_assoc, mul_comm) in
    let p : a * e * d + b * d * e ≡ (a + b) * (e * d) = simp (add-mul, mul_assoc, mul_comm, mul_left_comm) in
    le_trans (le_of_eq (sym q)) (le_trans (add-le-add (mul-le-mul_right d h) (mul-le-mul_right e k)) (le_of_eq p))

no_minus : (X c a b : ℕ) → UptoOver (round binary32 false X c) a b → UptoOver (cond (ltb X 0) (round binary32 true (0 - X) c) (round binary32 false (X - 0) c)) a b
no_minus X c a b h = rw (le-ltb X 0 zero-le, sub-zero) h

pub add-over : (x y : Float) (a b c : ℕ) → 0 < c → Held (a + b) c → UptoOver x a c → WeightOver y b c → UptoOver (add binary32 x y) (a + b) c
unfolding add sum
add-over nan y a b c C l h k = absurd h
add-over (inf s) y a b c C l h k = absurd h
add-over (fin true m e) y a b c C l h k = absurd h
add-over (fin false m e) nan a b c C l h k = absurd k
add-over (fin false m e) (inf t) a b c C l h k = absurd k
add-over (fin false m e) (fin false n d) a b c C l h k =
    round-over (a + b) c (m * up e * down d + n * up d * down e) (down e * down d) C (mul-pos (down_pos e) (down_pos d)) l (cross (m * up e) (n * up d) (down d) (down e) a b c h k)
add-over (fin false m e) (fin true n d) a b c C l h k =
    let z : 0 * c ≤ b * down d = le_trans (le_of_eq (zero-mul c)) zero-le in
    let g : m * up e * down d * c ≤ (a + b) * (down e * down d) = le_trans (le_of_eq (sym (rw (zero-mul, add-zero)))) (cross (m * up e) 0 (down d) (down e) a b c h z) in
    rw (k, zero-mul, zero-mul) (no_minus (m * up e * down d) (down e * down d) (a + b) c (round-over (a + b) c (m * up e * down d) (down e * down d) C (mul-pos (down_pos e) (down_pos d)) l g))

-- a whole number is a fraction of 1
pub over-upto : (x : Float) (a : ℕ) → UptoOver x a 1 → Upto x a
over-upto nan a h = h
over-upto (inf s) a h = h
over-upto (fin true m e) a h = h
over-upto (fin false m e) a h = rw mul-one at h

upto-over : (x : Float) (a : ℕ) → Upto x a → UptoOver x a 1
upto-over nan a h = h
upto-over (inf s) a h = h
upto-over (fin true m e) a h = h
upto-over (fin false m e) a h = rw mul-one h

weight-over : (x : Float) (a : ℕ) → Weight x a → WeightOver x a 1
weight-over nan a h = h
weight-over (inf s) a h = h
weight-over (fin true m e) a h = h
weight-over (fin false m e) a h = rw mul-one h

pub add-upto : (x y : Float) (a b : ℕ) → Upto x a → Weight y b → a + b ≤ 2 ^ 24 → Upto (add binary32 x y) (a + b)
add-upto x y a b h k l = over-upto (add binary32 x y) (a + b) (add-over x y a b 1 (lit< tt) (round_whole binary32 false (a + b) l) (upto-over x a h) (weight-over y b k))

-- ---- sums
pub upto-weight : (x : Float) (a : ℕ) → Upto x a → Weight x a
upto-weight nan a h = h
upto-weight (inf s) a h = h
upto-weight (fin true m e) a h = absurd h
upto-weight (fin false m e) a h = h

-- a bound that additions keep: U of a sum, W of what is added to it
pub record Bounds (U W : Float → ℕ → Type 0) : Type 0 where
  pub none : U zero_f 0
  pub more : (x y : Float) (a b : ℕ) → U x a → W y b → a + b ≤ 2 ^ 24 → U (add binary32 x y) (a + b)
  pub again : (x : Float) (a : ℕ) → U x a → W x a

-- by counts
pub by-counts : Bounds Upto Weight
by-counts = record { none = zero-le; more = add-upto; again = upto-weight }

-- a rounded sum of the chosen weights is at most the sum of their bounds
module _ (U W : Float → ℕ → Type 0) (K : Bounds U W) (p : ℕ → Bool) (w : ℕ → Float) (g : ℕ → ℕ) where
  step : (b : Bool) (x y : Float) (a c : ℕ) → U x a → W y c → put ◌+◌ b a c ≤ 2 ^ 24 → U (put (add binary32) b x y) (put ◌+◌ b a c)
  step true x y a c h k l = K.more x y a c h k l
  step false x y a c h k l = h

  less : (b : Bool) (a c : ℕ) → put ◌+◌ b a c ≤ 2 ^ 24 → a ≤ 2 ^ 24
  less true a c h = omega arith
  less false a c h = h

  pub sum-bounded : (n : ℕ) → ((i : ℕ) → i < n → W (w i) (g i)) → fold ◌+◌ 0 n p g ≤ 2 ^ 24 → U (fold (add binary32) zero_f n p w) (fold ◌+◌ 0 n p g)
  unfolding fold
  sum-bounded zero h l = K.none
  sum-bounded (suc n) h l = step (p n) (fold (add binary32) zero_f n p w) (w n) (fold ◌+◌ 0 n p g) (g n) (sum-bounded n (λ i k. h i (omega arith)) (less (p n) (fold ◌+◌ 0 n p g) (g n) l)) (h n (omega arith)) l

pub sum-upto : (p : ℕ → Bool) (w : ℕ → Float) (g : ℕ → ℕ) (n : ℕ) → ((i : ℕ) → i < n → Weight (w i) (g i)) → fold ◌+◌ 0 n p g ≤ 2 ^ 24 → Upto (fold (add binary32) zero_f n p w) (fold ◌+◌ 0 n p g)
sum-upto = sum-bounded Upto Weight by-counts

-- ---- a confidence, by the tests 0.0 <= x and x <= 1.0
none_left : (m u d : ℕ) → 0 < u → 0 * d ≡ m * u * 1 → m ≡ 0
none_left zero u d h k = refl
none_left (suc m) u d h k = absurd (stuck (suc m * u) (mul-pos (zero-lt-suc m) h) (rw (zero-mul, mul-one) at k))
  where
    stuck : (x : ℕ) → 0 < x → 0 ≡ x → ⊥
    stuck x p q = omega arith

pub confidence : (x : Float) → T (le zero_f x) → T (le x one_f) → Weight x 1
unfolding le
confidence nan h k = absurd h
confidence (inf true) h k = absurd h
confidence (inf false) h k = absurd k
confidence (fin true m e) h k = none_left m (up e) (down e) (up_pos e) (eqb→eq (0 * down e) (m * up e * 1) (and_l (eqb (0 * down e) (m * up e * 1)) (eqb (0 * down e) 0) h))
confidence (fin false m e) h k = rw mul-one at (lt-or-eq (m * up e * 1) (1 * down e) k)

-- what is at most a count has no minus sign
pub upto-weightlike : (x : Float) (a : ℕ) → Upto x a → T (weightlike x)
upto-weightlike nan a h = absurd h
upto-weightlike (inf s) a h = absurd h
upto-weightlike (fin true m e) a h = absurd h
upto-weightlike (fin false m e) a h = tt

-- ---- order
pub lt-cross : (x y : Float) → T (weightlike x) → T (weightlike y) → lt x y ≡ ltb (num x * den y) (num y * den x)
unfolding lt
lt-cross nan y p q = absurd p
lt-cross (inf s) y p q = absurd p
lt-cross (fin true m e) y p q = absurd p
lt-cross (fin false m e) nan p q = absurd q
lt-cross (fin false m e) (inf s) p q = absurd q
lt-cross (fin false m e) (fin true n d) p q = absurd q
lt-cross (fin false m e) (fin false n d) p q = refl

module _ (x y z : Float) (p : T (weightlike x)) (q : T (weightlike y)) (r : T (weightlike z)) where
  lt-asym : lt x y ≡ true → lt y x ≡ false
  lt-asym h = lt-cross y x q p ∙ le-ltb (num y * den x) (num x * den y) (omega (arith, ltb-true (num x * den y) (num y * den x) (sym (lt-cross x y p q) ∙ h)))

  -- x < y and not x < z give z < y
  lt-neg : lt x y ≡ true → lt x z ≡ false → lt z y ≡ true
  lt-neg h g =
      lt-cross z y r q ∙ lt-ltb (num z * den y) (num y * den z) (⊎_elim (λ l. l)
      (λ l. absurd (omega (
        arith,
        through (num y) (num z) (num x) (den y) (den z) (den x) (den_pos z) l (ltb-false (num x * den z) (num z * den x) (sym (lt-cross x z p r) ∙ g)),
        ltb-true (num x * den y) (num y * den x) (sym (lt-cross x y p q) ∙ h),
      )))
      (compared (num z * den y) (num y * den z)))

pub heavier-weak : (n : ℕ) (w : ℕ → Float) → ((i : ℕ) → i < n → T (weightlike (w i))) → Weak n (heavier w)
heavier-weak n w ok = record {
  asym = λ i j hi hj h. lt-asym (w j) (w i) (w i) (ok j hj) (ok i hi) (ok i hi) h;
  neg = λ i j k hi hj hk h g. lt-neg (w k) (w i) (w j) (ok k hk) (ok i hi) (ok j hj) h g;
}

-- ---- `==` is equality of the order
eq-cross : (x y : Float) → T (weightlike x) → T (weightlike y) → eq x y ≡ eqb (num x * den y) (num y * den x)
unfolding eq
eq-cross nan y p q = absurd p
eq-cross (inf s) y p q = absurd p
eq-cross (fin true m e) y p q = absurd p
eq-cross (fin false m e) nan p q = absurd q
eq-cross (fin false m e) (inf s) p q = absurd q
eq-cross (fin false m e) (fin true n d) p q = absurd q
eq-cross (fin false m e) (fin false n d) p q = and_comm (eqb (m * up e * down d) (n * up d * down e)) true

module _ (x y : Float) (p : T (weightlike x)) (q : T (weightlike y)) where
  -- equal weights: neither is greater
  pub eq-level : eq x y ≡ true → (lt x y ≡ false) × (lt y x ≡ false)
  eq-level h =
      let e : num x * den y ≡ num y * den x = eqb-true (num x * den y) (num y * den x) (sym (eq-cross x y p q) ∙ h) in
      (lt-cross x y p q ∙ le-ltb (num x * den y) (num y * den x) (omega arith), lt-cross y x q p ∙ le-ltb (num y * den x) (num x * den y) (omega arith))

  -- and weights of which neither is greater are equal
  pub level-eq : lt x y ≡ false → lt y x ≡ false → eq x y ≡ true
  level-eq h k =
      eq-cross x y p q ∙ eq-eqb (num x * den y) (num y * den x) (omega (arith, ltb-false (num x * den y) (num y * den x) (sym (lt-cross x y p q) ∙ h), ltb-false (num y * den x) (num x * den y) (sym (lt-cross y x q p) ∙ k)))

-- a weight equals itself
pub eq_self : (x : Float) → T (weightlike x) → eq x x ≡ true
eq_self x p = eq-cross x x p p ∙ eq-eqb (num x * den x) (num x * den x) refl
