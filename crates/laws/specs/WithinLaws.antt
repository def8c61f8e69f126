-- Floats bounded in size, whatever their sign: what is within a whole number is finite, and sums and quotients by whole numbers keep such bounds.
use Rattle.std.specs.Prelude.{◌≡◌, Bool, true, false, ◌&&◌, cond, ℕ, zero, suc, ◌+◌, ◌-◌, ◌*◌, ◌^◌, ◌≤◌, ◌<◌, ltb, pos, Float}
use Rattle.std.proofs.Common.{sym, subst, ◌∙◌, le_trans, le_of_eq, mul-one, mul_comm, mul_assoc, mul_left_comm, mul-le-mul_left, mul-le-mul_right, mul-pos, arith, lit<, ne_eqb}
use Rattle.std.specs.Bool.{beq}
use Rattle.std.specs.Float.{nan, inf, fin, Format, binary32}
use Rattle.std.specs.Float.Ieee.{prec, low, emax, up, down, odd, units, round, sum, add, sub, neg, div, of_int, unlike}
use Rattle.std.specs.Float.Ieee.Fits.{round_is, down_pos}
use Rattle.std.specs.Float.Ieee.Exact.{HasValue}
use Rattle.std.specs.Float.Ieee.Back.{round_whole}
use Rattle.std.specs.Float.Ieee.Positive.{first_pos}
use Rattle.laws.specs.Words.{Finite}
use Rattle.laws.specs.Weights.{Upto, Within}
use Rattle.laws.specs.WeightLaws.{Held, round-over, cross, over-upto}

-- what is within a bound is no NaN and no infinity
pub within-finite : (x : Float) (a : ℕ) → Within x a → Finite x
within-finite nan a h = absurd h
within-finite (inf s) a h = absurd h
within-finite (fin s m e) a h = tt

pub upto-within : (x : Float) (a : ℕ) → Upto x a → Within x a
upto-within nan a h = h
upto-within (inf s) a h = h
upto-within (fin true m e) a h = absurd h
upto-within (fin false m e) a h = h

pub within_more : (x : Float) (a b : ℕ) → a ≤ b → Within x a → Within x b
within_more nan a b l h = h
within_more (inf s) a b l h = h
within_more (fin s m e) a b l h = le_trans h (mul-le-mul_right (down e) l)

-- ---- a rounding has the same size under either sign
odd_sign : (d : ℕ) (s : Bool) (q k l a : ℕ) → Within (odd d false q k l) a → Within (odd d s q k l) a
unfolding odd
odd_sign d s zero k l a h = h
odd_sign d s (suc q) k l a h = h

units-sign : (f : Format) (s : Bool) (q k a : ℕ) → Within (units f false q k) a → Within (units f s q k) a
unfolding units
units-sign f s q k a = go (ltb (q * 2 ^ k) (2 ^ (low f + suc (emax f))))
  where
    go : (b : Bool) → Within (cond b (odd (suc (prec f)) false q k (low f)) (inf false)) a → Within (cond b (odd (suc (prec f)) s q k (low f)) (inf s)) a
    go true h = odd_sign (suc (prec f)) s q k (low f) a h
    go false h = h

-- a fraction that is at most a, which f32 holds, rounds to at most a
pub round-within : (s : Bool) (a n c : ℕ) → 0 < c → Held a 1 → n ≤ a * c → Within (round binary32 s n c) a
round-within s a n c C h k =
    let w = upto-within (round binary32 false n c) a (over-upto (round binary32 false n c) a (round-over a 1 n c (lit< tt) C h (rw mul-one k))) in
    subst (λ (z : Float). Within z a) (sym (round_is binary32 s n c)) (units-sign binary32 s _ _ a (subst (λ (z : Float). Within z a) (round_is binary32 false n c) w))

-- ---- sums and differences
both : (m n d e a b : ℕ) → m ≤ a * e → n ≤ b * d → m * d + n * e ≤ (a + b) * (e * d)
both m n d e a b h k = rw mul-one at (cross m n d e a b 1 (rw mul-one h) (rw mul-one k))

sum-within : (s : Bool) (x : ℕ) (t : Bool) (y c a : ℕ) → 0 < c → Held a 1 → x + y ≤ a * c → Within (sum binary32 s x t y c) a
unfolding sum
sum-within s x t y c a C h k = go (beq s t) (ltb x y)
  where
    go : (p q : Bool) → Within (cond p (round binary32 s (x + y) c) (cond q (round binary32 t (y - x) c) (round binary32 (s && ltb y x) (x - y) c))) a
    go true q = round-within s a (x + y) c C h k
    go false true = round-within t a (y - x) c C h (le_trans (omega arith) k)
    go false false = round-within (s && ltb y x) a (x - y) c C h (le_trans (omega arith) k)

pub add-within : (x y : Float) (a b : ℕ) → Held (a + b) 1 → Within x a → Within y b → Within (add binary32 x y) (a + b)
unfolding add
add-within nan y a b l h k = absurd h
add-within (inf s) y a b l h k = absurd h
add-within (fin s m e) nan a b l h k = absurd k
add-within (fin s m e) (inf t) a b l h k = absurd k
add-within (fin s m e) (fin t n d) a b l h k =
    sum-within s (m * up e * down d) t (n * up d * down e) (down e * down d) (a + b) (mul-pos (down_pos e) (down_pos d)) l (both (m * up e) (n * up d) (down d) (down e) a b h k)

neg-within : (x : Float) (a : ℕ) → Within x a → Within (neg x) a
unfolding neg
neg-within nan a h = h
neg-within (inf s) a h = h
neg-within (fin s m e) a h = h

pub sub_within : (x y : Float) (a b : ℕ) → Held (a + b) 1 → Within x a → Within y b → Within (sub binary32 x y) (a + b)
unfolding sub
sub_within x y a b l h k = add-within x (neg y) a b l h (neg-within y b k)

-- ---- a quotient by a whole number that is not 0
pub div-within : (x y : Float) (a b : ℕ) → Held a 1 → Within x a → 0 < b → HasValue y false b 1 → Within (div binary32 x y) a
unfolding div
div-within nan y a b l h p v = absurd h
div-within (inf s) y a b l h p v = absurd h
div-within (fin s m e) nan a b l h p v = absurd v
div-within (fin s m e) (inf t) a b l h p v = absurd v
div-within (fin s m e) (fin t n d) a b l h p v =
    let y : n * up d ≡ b * down d = sym (mul-one (n * up d)) ∙ v.1 in
    let P : 0 < n * up d = rw y (mul-pos p (down_pos d)) in
    rw (ne_eqb n 0 (λ z. nought n (first_pos n (up d) P) z))
    (round-within (unlike s t) a (m * up e * down d) (n * up d * down e) (mul-pos P (down_pos e)) l (rw y (bound (m * up e) (down e) (down d) b h p)))
  where
    nought : (n : ℕ) → 0 < n → n ≡ 0 → ⊥
    nought n l z = omega arith

    bound : (m e d b : ℕ) → m ≤ a * e → 0 < b → m * d ≤ a * (b * d * e)
    bound m e d b h p =
        let q : a * e * d * b ≡ a * (b * d * e) = simp (mul_assoc, mul_comm, mul_left_comm) in
        le_trans (mul-le-mul_right d h) (le_trans (le_of_eq (sym (mul-one (a * e * d)))) (le_trans (mul-le-mul_left (a * e * d) p) (le_of_eq q)))

-- ---- whole numbers
pub whole-within : (n : ℕ) → n ≤ 2 ^ 24 → Within (of_int binary32 (pos n)) n
unfolding of_int
whole-within n h = round-within false n n 1 (lit< tt) (round_whole binary32 false n h) (le_of_eq (sym (mul-one n)))
