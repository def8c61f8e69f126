-- +0 added to a weight without a minus sign is that weight, bit for bit: a value that its format holds rounds to itself, and a format holds a number once.
use Rattle.std.specs.Prelude.{◌≡◌, refl, Bool, true, false, ◌&&◌, cond, ℕ, zero, suc, ◌+◌, ◌-◌, ◌*◌, ◌/◌, ◌%◌, ◌^◌, ◌≤◌, ◌<◌, T, leb, ltb, eqb, ℤ, pos, negsuc, Float}
use Rattle.std.proofs.Common.{sym, ap, ◌∙◌, subst, mul-one, one-mul, mul_comm, mul_assoc, mul_right_comm, zero-mul, add-zero, mul-lt-mul_of_pos_right, lt_of_mul-lt-mul_right, arith, ltb→lt, leb→le, pow-add, pow_pos}
use Rattle.std.proofs.Math.Decide.{dec_le}
use Rattle.std.proofs.Math.Pow.{pow-lt}
use Rattle.std.specs.Float.Ieee.{size, hid, top, prec, low, emax, up, down, round, sum, add, fits, to_bits, of_bits}
use Rattle.std.specs.Float.{nan, inf, fin, Format, binary32}
use Rattle.std.specs.Float.Ieee.Fits.{down_pos, and_l, and_r, round-fits, add-fits}
use Rattle.std.specs.Float.Ieee.Exact.{HasValue, round_exact}
use Rattle.std.specs.Float.Ieee.Bits.{of_bits-to_bits}
use Rattle.std.specs.Float.Ieee.Nearest.{div_same}
use Rattle.std.specs.Float.Ieee.Digits.{back}
use Rattle.laws.specs.Words.{put, fold, zero_f}
use Rattle.laws.specs.Weights.{Unsigned}

-- ---- a format holds a value once
cross-pow : (x c a d l : ℕ) → x * c ≡ a * d → x * l * c ≡ a * l * d
cross-pow x c a d l h = mul_right_comm x l c ∙ ap (λ y. y * l) h ∙ mul_right_comm a d l

pub unique : (f : Format) (x y : Float) (s : Bool) (a c : ℕ) → 0 < c → T (fits f x) → T (fits f y) → HasValue x s a c → HasValue y s a c → x ≡ y
unfolding to_bits
unique f nan y s a c C p q v w = absurd v
unique f (inf t) y s a c C p q v w = absurd v
unique f (fin t m e) nan s a c C p q v w = absurd w
unique f (fin t m e) (inf u) s a c C p q v w = absurd w
unique f (fin t m e) (fin u n d) s a c C p q v w =
    let k : m * up e * 2 ^ low f / down e ≡ n * up d * 2 ^ low f / down d =
    div_same (m * up e * 2 ^ low f) (down e) (a * 2 ^ low f) c (down_pos e) C (cross-pow (m * up e) c a (down e) (2 ^ low f) v.1)
    ∙ sym (div_same (n * up d * 2 ^ low f) (down d) (a * 2 ^ low f) c (down_pos d) C (cross-pow (n * up d) c a (down d) (2 ^ low f) w.1)) in
    let b : to_bits f (fin t m e) ≡ to_bits f (fin u n d) =
    ap (λ z. cond z (top f) 0 + (size (m * up e * 2 ^ low f / down e) - prec f) * hid f + m * up e * 2 ^ low f / down e / 2 ^ (size (m * up e * 2 ^ low f / down e) - prec f)) (v.0 ∙ sym w.0)
    ∙ ap (λ x. cond u (top f) 0 + (size x - prec f) * hid f + x / 2 ^ (size x - prec f)) k in
    sym (of_bits-to_bits f (fin t m e) p) ∙ ap (of_bits f) b ∙ of_bits-to_bits f (fin u n d) q

-- ---- it rounds to itself
small-exp : (k l : ℕ) → 2 ^ k ≤ 2 ^ l → k ≤ l
small-exp k l h = elim (dec_le k l) [ yes p ↦ p | no p ↦ absurd (clash (2 ^ k) (2 ^ l) h (pow-lt (flip k l p))) ]
  where
    clash : (a b : ℕ) → a ≤ b → b < a → ⊥
    clash a b h k = omega arith

    flip : (a b : ℕ) → ¬ (a ≤ b) → b < a
    flip a b h = omega arith

-- the value's unit, in units of the format's smallest value
unit-exp : (e : ℤ) (l : ℕ) → down e ≤ 2 ^ l → (j : ℕ) × (up e * 2 ^ l ≡ 2 ^ j * down e)
unit-exp (pos k) l h = (k + l, sym (pow-add 2 k l) ∙ sym (mul-one (2 ^ (k + l))))
unit-exp (negsuc k) l h = (l - suc k, one-mul (2 ^ l) ∙ ap (λ x. 2 ^ x) (sym (back l (suc k) (small-exp (suc k) l h))) ∙ pow-add 2 (l - suc k) (suc k))

keeps : (m U D l j : ℕ) → U * 2 ^ l ≡ 2 ^ j * D → m * U * 2 ^ l ≡ m * 2 ^ j * D
keeps m U D l j h = mul_assoc m U (2 ^ l) ∙ ap (λ x. m * x) h ∙ sym (mul_assoc m (2 ^ j) D)

bounded : (m U D l j n : ℕ) → U * 2 ^ l ≡ 2 ^ j * D → m * U < 2 ^ n * D → m * 2 ^ j < 2 ^ (l + n)
bounded m U D l j n h b =
    let a : m * 2 ^ j * D < 2 ^ (l + n) * D = subst (λ x. x < 2 ^ (l + n) * D) (keeps m U D l j h)
    (subst (λ x. m * U * 2 ^ l < x) (mul_right_comm (2 ^ n) D (2 ^ l) ∙ ap (λ x. x * D) (mul_comm (2 ^ n) (2 ^ l) ∙ sym (pow-add 2 l n))) (mul-lt-mul_of_pos_right b (pow_pos l))) in
    lt_of_mul-lt-mul_right D a

self-value : (f : Format) (m : ℕ) (e : ℤ) → T (fits f (fin false m e)) → HasValue (round f false (m * up e) (down e)) false (m * up e) (down e)
unfolding fits
self-value f zero e t = round_exact f false (0 * up e) (down e) 0 0 (down_pos e) (pow_pos (prec f)) (pow_pos (low f + suc (emax f))) (ap (λ x. x * 2 ^ low f) (zero-mul (up e)) ∙ zero-mul (2 ^ low f) ∙ sym (zero-mul (down e)))
self-value f (suc m) e t =
    let t3 : T (eqb (suc m % 2) 1 && ltb (suc m) (2 ^ prec f) && leb (down e) (2 ^ low f)) = and_l (eqb (suc m % 2) 1 && ltb (suc m) (2 ^ prec f) && leb (down e) (2 ^ low f)) (ltb (suc m * up e) (2 ^ suc (emax f) * down e)) t in
    let c = ltb→lt (suc m * up e) (2 ^ suc (emax f) * down e) (and_r (eqb (suc m % 2) 1 && ltb (suc m) (2 ^ prec f) && leb (down e) (2 ^ low f)) (ltb (suc m * up e) (2 ^ suc (emax f) * down e)) t) in
    let b = leb→le (down e) (2 ^ low f) (and_r (eqb (suc m % 2) 1 && ltb (suc m) (2 ^ prec f)) (leb (down e) (2 ^ low f)) t3) in
    let a = ltb→lt (suc m) (2 ^ prec f) (and_r (eqb (suc m % 2) 1) (ltb (suc m) (2 ^ prec f)) (and_l (eqb (suc m % 2) 1 && ltb (suc m) (2 ^ prec f)) (leb (down e) (2 ^ low f)) t3)) in
    let u = unit-exp e (low f) b in
    round_exact f false (suc m * up e) (down e) (suc m) u.0 (down_pos e) a (bounded (suc m) (up e) (down e) (low f) u.0 (suc (emax f)) u.1 c) (keeps (suc m) (up e) (down e) (low f) u.0 u.1)

round-self : (f : Format) (m : ℕ) (e : ℤ) → T (fits f (fin false m e)) → round f false (m * up e) (down e) ≡ fin false m e
round-self f m e t = unique f (round f false (m * up e) (down e)) (fin false m e) false (m * up e) (down e) (down_pos e) (round-fits f false (m * up e) (down e)) t (self-value f m e t) (refl, refl)

-- +0 added to a weight without a minus sign
kept : (f : Format) (m : ℕ) (e : ℤ) → T (fits f (fin false m e)) → add f (fin false m e) zero_f ≡ fin false m e
unfolding add sum
kept f m e t =
    ap (λ x. round f false (x + 0 * down e) (down e * 1)) (mul-one (m * up e))
    ∙ ap (λ x. round f false (m * up e + x) (down e * 1)) (zero-mul (down e))
    ∙ ap (λ x. round f false x (down e * 1)) (add-zero (m * up e))
    ∙ ap (λ x. round f false (m * up e) x) (mul-one (down e))
    ∙ round-self f m e t

pub add-plus-zero : (x : Float) → Unsigned x → add binary32 x zero_f ≡ x
add-plus-zero nan h = absurd h.0
add-plus-zero (inf s) h = absurd h.0
add-plus-zero (fin true m e) h = absurd h.0
add-plus-zero (fin false m e) h = kept binary32 m e h.1

-- ---- a sum from +0 is a value of f32
pub sum_fits : (p : ℕ → Bool) (w : ℕ → Float) (n : ℕ) → T (fits binary32 (fold (add binary32) zero_f n p w))
unfolding fold fits
sum_fits p w zero = tt
sum_fits p w (suc n) = go (p n) (fold (add binary32) zero_f n p w) (sum_fits p w n)
  where
    go : (b : Bool) (x : Float) → T (fits binary32 x) → T (fits binary32 (put (add binary32) b x (w n)))
    go true x h = add-fits binary32 x (w n)
    go false x h = h
