-- A weight over the list's total confidence is finite, however small the confidences: the weight is a sum of some of them, each is at most the total, and sums
-- of what is at most a power of two count in that power. So the share of n confidences is at most 2 n.
use Rattle.std.specs.Prelude.{◌≡◌, cond, ◌&&◌, eqb, ℤ, Float}
use Rattle.std.proofs.Math.Path.{refl, subst}
use Rattle.std.proofs.Common.{sym, ap, ◌∙◌, true≢false, le_trans, le_of_eq, le_of_lt, lt_of_lt_of_le, mul-one, one-mul, mul_comm, mul_assoc, mul_left_comm, mul_right_comm, mul-le-mul, mul-le-mul_left, mul-le-mul_right, lt_of_mul-lt-mul_right, mul-lt-mul_of_pos_right, zero-lt-suc, lt_of_le_of_lt, le_refl, arith, lit<, lit≤, pow-add, pow_pos, pow_mono, ne_eqb, le-ltb}
use Rattle.std.proofs.Math.Bool.{true, false}
use Rattle.std.proofs.Math.Logic.{⊎_elim}
use Prim.Native.Nat.{ℕ, zero, suc, ◌+◌, ◌-◌, ◌*◌, ◌%◌, ◌^◌, ◌≤◌, ◌<◌, zero-le}
use Rattle.std.proofs.Math.Nat.{zero-mul, mul-pos, sub-zero, pow-succ'}
use Rattle.std.proofs.Math.Dec.{T, ltb, leb, leb→le}
use Rattle.std.specs.Float.Ieee.{nan, up, down, round, sum, add, div, le, eq, fits}
use Rattle.std.specs.Float.{inf, fin, binary32}
use Rattle.std.specs.Float.Ieee.Fits.{down_pos, up_pos, and_l, and_r}
use Rattle.std.specs.Float.Ieee.Exact.{HasValue, round_exact}
use Rattle.std.specs.Float.Ieee.Order.{round_mono}
use Rattle.std.specs.Float.Ieee.Digits.{back}
use Rattle.std.specs.Float.Ieee.Positive.{first_pos}
use Rattle.laws.specs.Tests.{compared, split, clash}
use Rattle.laws.specs.Words.{fold, all, one, zero_f, Weight}
use Rattle.laws.specs.Counting.{count-le}
use Rattle.laws.specs.Weights.{Upto, UptoOver, WeightOver, Within}
use Rattle.laws.specs.WeightLaws.{lt-or-eq, Held, Bounds, add-over, sum-upto}
use Rattle.laws.specs.WithinLaws.{round-within}
use Rattle.laws.specs.PlusZero.{sum_fits}

-- ---- a count of a power of two: f32 holds a / 2 ^ q for a up to 2 ^ 24 and q up to 149
module _ (q : ℕ) (l : q ≤ 149) where
  whole-power : 2 ^ (149 - q) * 2 ^ q ≡ 2 ^ 149
  whole-power = sym (pow-add 2 (149 - q) q) ∙ ap (λ (x : ℕ). 2 ^ x) (back 149 q l)

  in-range : (a : ℕ) → a ≤ 2 ^ 24 → a * 2 ^ (149 - q) < 2 ^ 277
  in-range a h = let k : 149 - q ≤ 149 = omega arith in lt_of_le_of_lt (mul-le-mul h (pow_mono k)) (lit< tt)

  held : (a : ℕ) → a ≤ 2 ^ 24 → Held a (2 ^ q)
  held a h = ⊎_elim below (λ k. subst (λ (x : ℕ). Held x (2 ^ q)) (equal a (2 ^ 24) k h) at) (compared a (2 ^ 24))
    where
      equal : (x y : ℕ) → y ≤ x → x ≤ y → y ≡ x
      equal x y p r = omega arith

      below : a < 2 ^ 24 → Held a (2 ^ q)
      below k = round_exact binary32 false a (2 ^ q) a (149 - q) (pow_pos q) k (in-range a h) (ap (λ (x : ℕ). a * x) (sym whole-power) ∙ sym (mul_assoc a (2 ^ (149 - q)) (2 ^ q)))

      at : Held (2 ^ 24) (2 ^ q)
      at =
          let e : 2 ^ 24 * 2 ^ (149 - q) ≡ 1 * 2 ^ (24 + (149 - q)) = sym (one-mul (2 ^ (24 + (149 - q))) ∙ pow-add 2 24 (149 - q)) in
          round_exact binary32 false (2 ^ 24) (2 ^ q) 1 (24 + (149 - q)) (pow_pos q) (lit< tt) (subst (λ (x : ℕ). x < 2 ^ 277) e (in-range (2 ^ 24) (le_refl (2 ^ 24))))
          (ap (λ (x : ℕ). 2 ^ 24 * x) (sym whole-power) ∙ sym (mul_assoc (2 ^ 24) (2 ^ (149 - q)) (2 ^ q)) ∙ ap (λ (x : ℕ). x * 2 ^ q) e)

  over-weight : (x : Float) (a : ℕ) → UptoOver x a (2 ^ q) → WeightOver x a (2 ^ q)
  over-weight nan a h = h
  over-weight (inf s) a h = h
  over-weight (fin true m e) a h = absurd h
  over-weight (fin false m e) a h = h

  -- sums of what is bounded in counts of 2 ^ -q are bounded so
  pub by-shares : Bounds (λ x a. UptoOver x a (2 ^ q)) (λ x a. WeightOver x a (2 ^ q))
  by-shares = record {
    none = le_trans (le_of_eq (zero-mul (2 ^ q))) zero-le;
    more = λ x y a b h k n. add-over x y a b (2 ^ q) (pow_pos q) (held (a + b) n) h k;
    again = over-weight;
  }

-- ---- what is added is at most the sum
-- below 1 / c, and with no minus sign
abbrev Below : Float → ℕ → Type 0
Below nan c = ⊥
Below (inf s) c = ⊥
Below (fin true m e) c = ⊥
Below (fin false m e) c = m * up e * c < down e

-- at least 1 / c
abbrev pub Reaches : Float → ℕ → Type 0
Reaches nan c = ⊥
Reaches (inf s) c = ⊥
Reaches (fin true m e) c = ⊥
Reaches (fin false m e) c = down e ≤ m * up e * c

squeeze : (x J y G c : ℕ) → x * c ≡ 1 * J → x * G ≤ y * J → y * c < G → 0 < J → ⊥
squeeze x J y G c e h b p =
    let u : y * c * J < G * J = mul-lt-mul_of_pos_right b p in
    let v : G * J ≡ x * G * c = mul_comm G J ∙ ap (λ (z : ℕ). z * G) (sym (e ∙ one-mul J)) ∙ mul_right_comm x c G in
    let w : G * J ≤ y * c * J = le_trans (le_of_eq v) (le_trans (mul-le-mul_right c h) (le_of_eq (mul_right_comm y J c))) in
    omega arith

-- a fraction that is no smaller than 1 / c does not round below it
not-below : (y z : Float) (c : ℕ) → HasValue y false 1 c → T (le y z) → Below z c → ⊥
unfolding le
not-below nan z c v h b = v
not-below (inf s) z c v h b = v
not-below (fin true i j) z c v h b = true≢false v.0
not-below (fin false i j) nan c v h b = b
not-below (fin false i j) (inf s) c v h b = b
not-below (fin false i j) (fin true k g) c v h b = b
not-below (fin false i j) (fin false k g) c v h b =
    squeeze (i * up j) (down j) (k * up g) (down g) c v.1 (lt-or-eq (i * up j * down g) (k * up g * down j) h) b (down_pos j)

round-below : (n d c : ℕ) → 0 < c → 0 < d → Held 1 c → Below (round binary32 false n d) c → n * c < d
round-below n d c C D h b = ⊎_elim (λ l. l)
    (λ l. absurd (not-below (round binary32 false 1 c) (round binary32 false n d) c h (round_mono binary32 1 c n d C D (le_trans (le_of_eq (one-mul d)) l)) b))
    (compared (n * c) d)

-- of a sum below 1 / c, both parts are
first_part : (m n e d c : ℕ) → (m * d + n * e) * c < e * d → m * c < e
first_part m n e d c h =
    let p : m * c * d ≤ (m * d + n * e) * c = le_trans (le_of_eq (mul_right_comm m c d)) (mul-le-mul_right c (omega arith)) in
    lt_of_mul-lt-mul_right d (lt_of_le_of_lt p h)

second-part : (m n e d c : ℕ) → (m * d + n * e) * c < e * d → n * c < d
second-part m n e d c h =
    let p : n * c * e ≤ (m * d + n * e) * c = le_trans (le_of_eq (mul_right_comm n c e)) (mul-le-mul_right c (omega arith)) in
    lt_of_mul-lt-mul_right e (lt_of_lt_of_le (lt_of_le_of_lt p h) (le_of_eq (mul_comm e d)))

add-below : (x y : Float) (a b c : ℕ) → 0 < c → Held 1 c → Upto x a → Weight y b → Below (add binary32 x y) c → Below x c × WeightOver y 1 c
unfolding add sum
add-below nan y a b c C l h k t = absurd h
add-below (inf s) y a b c C l h k t = absurd h
add-below (fin true m e) y a b c C l h k t = absurd h
add-below (fin false m e) nan a b c C l h k t = absurd k
add-below (fin false m e) (inf s) a b c C l h k t = absurd k
add-below (fin false m e) (fin false n d) a b c C l h k t =
    let r = round-below (m * up e * down d + n * up d * down e) (down e * down d) c C (mul-pos (down_pos e) (down_pos d)) l t in
    (first_part (m * up e) (n * up d) (down e) (down d) c r, le_trans (le_of_lt (second-part (m * up e) (n * up d) (down e) (down d) c r)) (le_of_eq (sym (one-mul (down d)))))
add-below (fin false m e) (fin true n d) a b c C l h k t =
    let r = round-below (m * up e * down d) (down e * down d) c C (mul-pos (down_pos e) (down_pos d)) l (plain (m * up e * down d) (down e * down d) (rw (k, zero-mul, zero-mul) at t)) in
    (lt_of_mul-lt-mul_right (down d) (lt_of_le_of_lt (le_of_eq (mul_right_comm (m * up e) c (down d))) r), k)
  where
    plain : (X D : ℕ) → Below (cond (ltb X 0) (round binary32 true (0 - X) D) (round binary32 false (X - 0) D)) c → Below (round binary32 false X D) c
    plain X D h = rw (le-ltb X 0 zero-le, sub-zero) at h

-- of the total of n confidences, each is
module _ (w : ℕ → Float) (c : ℕ) (C : 0 < c) (l : Held 1 c) where
  each_below : (n : ℕ) → n ≤ 2 ^ 24 → ((i : ℕ) → i < n → Weight (w i) 1) → Below (fold (add binary32) zero_f n all w) c → (i : ℕ) → i < n → WeightOver (w i) 1 c
  unfolding fold
  each_below zero few ok b i h = absurd (omega arith)
  each_below (suc n) few ok b i h =
      let t = add-below (fold (add binary32) zero_f n all w) (w n) (fold ◌+◌ 0 n all one) 1 c C l (sum-upto all w one n (λ j k. ok j (omega arith)) (le_trans (count-le all n) (omega arith))) (ok n (omega arith)) b in
      ⊎_elim (λ e. subst (λ (j : ℕ). WeightOver (w j) 1 c) (sym e) t.1) (λ k. each_below n (omega arith) (λ j m. ok j (omega arith)) t.0 i k) (split i n h)

-- ---- the magnitude of a total that is not 0
-- a power of two that no confidence exceeds, and of which the total is more than half (or the power is 1)
pub record Magnitude (total : Float) (n : ℕ) (w : ℕ → Float) : Type 0 where
  pub q : ℕ
  pub small : q ≤ 149
  pub each : (i : ℕ) → i < n → WeightOver (w i) 1 (2 ^ q)
  pub reaches : Reaches total (2 ^ suc q)

whole_each : (x : Float) → Weight x 1 → WeightOver x 1 (2 ^ 0)
whole_each nan h = h
whole_each (inf s) h = h
whole_each (fin true m e) h = h
whole_each (fin false m e) h = rw mul-one h

module _ (w : ℕ → Float) (n : ℕ) (few : n ≤ 2 ^ 24) (ok : (i : ℕ) → i < n → Weight (w i) 1) where
  abbrev total : Float
  total = fold (add binary32) zero_f n all w

  module _ (m : ℕ) (e : ℤ) (is : fold (add binary32) zero_f n all w ≡ fin false m e) where
    search : (k : ℕ) → k ≤ 149 → down e ≤ m * up e * 2 ^ k → Magnitude (fin false m e) n w
    search zero l h = record {
      q = 0;
      small = omega arith;
      each = λ i k. whole_each (w i) (ok i k);
      reaches = le_trans h (mul-le-mul_left (m * up e) (lit≤ tt));
    }
    search (suc k) l h = ⊎_elim
        (λ b. record {
          q = k;
          small = omega arith;
          each = each_below w (2 ^ k) (pow_pos k) (held k (omega arith) 1 (lit≤ tt)) n few ok (subst (λ (x : Float). Below x (2 ^ k)) (sym is) b);
          reaches = h;
        })
        (λ g. search k (omega arith) g)
        (compared (m * up e * 2 ^ k) (down e))

  -- the total of confidences has one, where it is not 0
  find : (x : Float) → fold (add binary32) zero_f n all w ≡ x → Upto x (fold ◌+◌ 0 n all one) → T (fits binary32 x) → eq x zero_f ≡ false → Magnitude x n w
  unfolding eq fits
  find nan is u f z = absurd u
  find (inf s) is u f z = absurd u
  find (fin true m e) is u f z = absurd u
  find (fin false zero e) is u f z = clash refl (simp zero-mul at z)
  find (fin false (suc m) e) is u f z =
      let t : T (eqb (suc m % 2) 1 && ltb (suc m) (2 ^ 24) && leb (down e) (2 ^ 149)) = and_l (eqb (suc m % 2) 1 && ltb (suc m) (2 ^ 24) && leb (down e) (2 ^ 149)) (ltb (suc m * up e) (2 ^ 128 * down e)) f in
      let b = leb→le (down e) (2 ^ 149) (and_r (eqb (suc m % 2) 1 && ltb (suc m) (2 ^ 24)) (leb (down e) (2 ^ 149)) t) in
      let one_up : 1 ≤ suc m * up e = mul-pos (zero-lt-suc m) (up_pos e) in
      search (suc m) e is 149 (omega arith) (le_trans b (le_trans (le_of_eq (sym (one-mul (2 ^ 149)))) (mul-le-mul_right (2 ^ 149) one_up)))

  pub magnitude-of : eq (fold (add binary32) zero_f n all w) zero_f ≡ false → Magnitude (fold (add binary32) zero_f n all w) n w
  magnitude-of z = find (fold (add binary32) zero_f n all w) refl (sum-upto all w one n ok (le_trans (count-le all n) few)) (sum_fits all w n) z

-- ---- the share
-- a weight bounded in counts of 2 ^ -q, over a total that is at least half of 2 ^ -q
pub share-within : (x y : Float) (a q : ℕ) → Held (2 * a) 1 → UptoOver x a (2 ^ q) → Reaches y (2 ^ suc q) → Within (div binary32 x y) (2 * a)
unfolding div
share-within nan y a q l h k = absurd h
share-within (inf s) y a q l h k = absurd h
share-within (fin true m e) y a q l h k = absurd h
share-within (fin false m e) nan a q l h k = absurd k
share-within (fin false m e) (inf s) a q l h k = absurd k
share-within (fin false m e) (fin true n d) a q l h k = absurd k
share-within (fin false m e) (fin false n d) a q l h k =
    let P : 0 < n * up d = positive (n * up d) (down d) (2 ^ suc q) (down_pos d) k in
    rw (ne_eqb n 0 (λ z. nought n (first_pos n (up d) P) z))
    (round-within false (2 * a) (m * up e * down d) (n * up d * down e) (mul-pos P (down_pos e)) l (bound (m * up e) (down e) (n * up d) (down d) h k))
  where
    nought : (n : ℕ) → 0 < n → n ≡ 0 → ⊥
    nought n l z = omega arith

    positive : (n d c : ℕ) → 0 < d → d ≤ n * c → 0 < n
    positive zero d c p h = absurd (none (0 * c) (zero-mul c) h)
      where
        none : (x : ℕ) → x ≡ 0 → d ≤ x → ⊥
        none x e h = omega arith
    positive (suc n) d c p h = zero-lt-suc n

    bound : (m e n d : ℕ) → m * 2 ^ q ≤ a * e → d ≤ n * 2 ^ suc q → m * d ≤ 2 * a * (n * e)
    bound m e n d h k =
        let u : m * (n * 2 ^ suc q) ≡ m * 2 ^ q * (2 * n) = ap (λ (x : ℕ). m * (n * x)) (pow-succ' 2 q) ∙ simp (mul_assoc, mul_comm, mul_left_comm) in
        let v : a * e * (2 * n) ≡ 2 * a * (n * e) = simp (mul_assoc, mul_comm, mul_left_comm) in
        le_trans (mul-le-mul_left m k) (le_trans (le_of_eq u) (le_trans (mul-le-mul_right (2 * n) h) (le_of_eq v)))
