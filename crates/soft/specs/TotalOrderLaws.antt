-- How f32 totals are ordered: they compare as whole numbers of 2^-149 do, and a sum that is not smaller has a total that is not smaller. So a placing with the
-- largest whole sum has the largest total, and two sums that round to the same f32 are tied.
use Rattle.std.specs.Prelude.{◌≡◌, refl, Bool, true, cond, ◌&&◌, ◌||◌, ℕ, zero, suc, ◌+◌, ◌*◌, ◌≤◌, ◌<◌, ◌^◌, ltb, eqb, ℤ, pos, negsuc, nat_abs, Float}
use Rattle.std.proofs.Common.{ap₂, sym, ◌∙◌, true≢false, ⊎_elim, zero-le, arith, mul-le-mul_right, le_of_mul-le-mul_right, zero-mul, le_of_eq, le_trans, ltb→lt, eqb→eq, lit<, pow_pos, ltb-false, lt-ltb, le-ltb}
use Rattle.std.proofs.Math.Path.{subst}
use Rattle.std.proofs.Math.Bool.{false}
use Rattle.std.proofs.Math.Dec.{T}
use Rattle.std.specs.Int.Signed.{lt_z}
use Rattle.std.specs.Float.{nan, inf, fin}
use Rattle.std.specs.Float.Ieee.{binary32, up, down, round, units, odd, lt, le, below}
use Rattle.std.specs.Float.Ieee.Fits.{down_pos, round_is}
use Rattle.std.specs.Float.Ieee.Exact.{HasValue, units_val}
use Rattle.std.specs.Float.Ieee.Order.{transfer, round_mono, kept, drop}
use Rattle.laws.specs.Tests.{compared}
use Rattle.laws.specs.Whole.{lt-raised, le-raised, raised_lt, raised-le}
use Rattle.likelihood.specs.Likelihood.{signed, dequantised}

-- ---- floats of one unit compare as whole numbers do
same : (a b c d : ℕ) → (a < b → c < d) → (b ≤ a → d ≤ c) → ltb a b ≡ ltb c d
same a b c d f g = ⊎_elim (λ h. lt-ltb a b h ∙ sym (lt-ltb c d (f h))) (λ h. le-ltb a b h ∙ sym (le-ltb c d (g h))) (compared a b)

below-signed : (s : Bool) (a : ℕ) (t : Bool) (b : ℕ) → below s a t b ≡ lt_z (signed s a) (signed t b)
below-signed false a false b = refl
below-signed false a true zero = sym (le-ltb a 0 zero-le)
below-signed false a true (suc b) = refl
below-signed true zero false b = same 0 (0 + b) 0 b (λ h. omega arith) (λ h. omega arith)
below-signed true (suc a) false b = lt-ltb 0 (suc a + b) (omega arith)
below-signed true zero true zero = refl
below-signed true zero true (suc b) = le-ltb (suc b) 0 zero-le
below-signed true (suc a) true zero = lt-ltb 0 (suc a) (omega arith)
below-signed true (suc a) true (suc b) = same (suc b) (suc a) b a (λ h. omega arith) (λ h. omega arith)

-- X / p is A / c and Y / q is B / c
module _ (X p A Y q B c : ℕ) (P : 0 < p) (Q : 0 < q) (C : 0 < c) (e : X * c ≡ A * p) (d : Y * c ≡ B * q) where
  there : A ≤ B → X * q ≤ Y * p
  there h = transfer X Y p q A B c c C C e d (mul-le-mul_right c h)

  back : X * q ≤ Y * p → A ≤ B
  back h = le_of_mul-le-mul_right (transfer A B c c X Y p q P Q (sym e) (sym d) h) C

module _ (X p A Y q B c : ℕ) (P : 0 < p) (Q : 0 < q) (C : 0 < c) (e : X * c ≡ A * p) (d : Y * c ≡ B * q) where
  less : X * q < Y * p → A < B
  less h = ⊎_elim (λ l. l) (λ l. absurd (no (there Y q B X p A c Q P C d e l))) (compared A B)
    where
      no : Y * p ≤ X * q → ⊥
      no g = omega arith

  none : A ≤ 0 → X * q ≤ 0
  none h = le_trans (there X p A 0 q 0 c P Q C e (zero-mul c ∙ sym (zero-mul q)) h) (le_of_eq (zero-mul p))

  none-back : X * q ≤ 0 → A ≤ 0
  none-back h = back X p A 0 q 0 c P Q C e (zero-mul c ∙ sym (zero-mul q)) (le_trans h zero-le)

sides : (X p A Y q B c : ℕ) → 0 < p → 0 < q → 0 < c → X * c ≡ A * p → Y * c ≡ B * q → (s t : Bool) → below s (X * q) t (Y * p) ≡ below s A t B
sides X p A Y q B c P Q C e d false false = same (X * q) (Y * p) A B (less X p A Y q B c P Q C e d) (back Y q B X p A c Q P C d e)
sides X p A Y q B c P Q C e d false true = refl
sides X p A Y q B c P Q C e d true true = same (Y * p) (X * q) B A (less Y q B X p A c Q P C d e) (back X p A Y q B c P Q C e d)
sides X p A Y q B c P Q C e d true false = same 0 (X * q + Y * p) 0 (A + B) some all
  where
    all : X * q + Y * p ≤ 0 → A + B ≤ 0
    all h = omega (arith, none-back X p A Y q B c P Q C e d (omega arith), none-back Y q B X p A c Q P C d e (omega arith))

    some : 0 < X * q + Y * p → 0 < A + B
    some h = ⊎_elim (λ l. l) (λ l. absurd (omega (arith, none X p A Y q B c P Q C e d (omega arith), none Y q B X p A c Q P C d e (omega arith)))) (compared 0 (A + B))

lt-values : (x y : Float) (s t : Bool) (A B c : ℕ) → 0 < c → HasValue x s A c → HasValue y t B c → lt x y ≡ lt_z (signed s A) (signed t B)
unfolding lt
lt-values nan y s t A B c C h k = absurd h
lt-values (inf u) y s t A B c C h k = absurd h
lt-values (fin u m e) nan s t A B c C h k = absurd k
lt-values (fin u m e) (inf w) s t A B c C h k = absurd k
lt-values (fin u m e) (fin w n d) s t A B c C h k =
    ap₂ (λ (a b : Bool). below a (m * up e * down d) b (n * up d * down e)) h.0 k.0
    ∙ sides (m * up e) (down e) A (n * up d) (down d) B c (down_pos e) (down_pos d) C h.1 k.1 s t
    ∙ below-signed s A t B

-- the same of sizes, by `le`
or-le : (a b : ℕ) (z : Bool) → T (ltb a b || (eqb a b && z)) → a ≤ b
or-le a b z h = go (ltb a b) (eqb a b) (ltb→lt a b) (eqb→eq a b) h
  where
    go : (s t : Bool) → (T s → a < b) → (T t → a ≡ b) → T (s || (t && z)) → a ≤ b
    go true t f g w = let l = f tt in omega arith
    go false true f g w = let l = g tt in omega arith
    go false false f g w = absurd w

le-back : (x y : Float) (A B c : ℕ) → 0 < c → HasValue x false A c → HasValue y false B c → T (le x y) → A ≤ B
unfolding le
le-back nan y A B c C h k l = absurd h
le-back (inf u) y A B c C h k l = absurd h
le-back (fin false m e) nan A B c C h k l = absurd k
le-back (fin false m e) (inf w) A B c C h k l = absurd k
le-back (fin true m e) y A B c C h k l = absurd (true≢false h.0)
le-back (fin false m e) (fin true n d) A B c C h k l = absurd (true≢false k.0)
le-back (fin false m e) (fin false n d) A B c C h k l =
    back (m * up e) (down e) A (n * up d) (down d) B c (down_pos e) (down_pos d) C h.1 k.1 (or-le (m * up e * down d) (n * up d * down e) _ l)

-- ---- a total in units of 2^-149
-- the size of the total of a sum of size n
unfoldable pub steps : ℕ → ℕ
steps n = kept 24 (n * 2 ^ 149) (2 ^ 24) * 2 ^ drop 24 (n * 2 ^ 149) (2 ^ 24)

top-is : round binary32 false (2 ^ 53) (2 ^ 24) ≡ fin false 1 (pos 29)
unfolding round
top-is = refl

units_under : (q k m : ℕ) (e : ℤ) → T (le (units binary32 false q k) (fin false m e)) → q * 2 ^ k < 2 ^ 277
unfolding units le
units_under q k m e = go (ltb (q * 2 ^ k) (2 ^ 277)) (ltb→lt (q * 2 ^ k) (2 ^ 277))
  where
    go : (b : Bool) → (T b → q * 2 ^ k < 2 ^ 277) → T (le (cond b (odd 25 false q k 149) (inf false)) (fin false m e)) → q * 2 ^ k < 2 ^ 277
    go true h t = h tt
    go false h t = absurd t

module _ (n : ℕ) (h : n ≤ 2 ^ 53) where
  steps-under : steps n < 2 ^ 277
  unfolding steps
  steps-under =
      units_under (kept 24 (n * 2 ^ 149) (2 ^ 24)) (drop 24 (n * 2 ^ 149) (2 ^ 24)) 1 (pos 29)
      (subst (λ (z : Float). T (le z (fin false 1 (pos 29)))) (round_is binary32 false n (2 ^ 24))
      (subst (λ (z : Float). T (le (round binary32 false n (2 ^ 24)) z)) top-is (round_mono binary32 n (2 ^ 24) (2 ^ 53) (2 ^ 24) (lit< tt) (lit< tt) (mul-le-mul_right (2 ^ 24) h))))

  pub valued : (s : Bool) → HasValue (round binary32 s n (2 ^ 24)) s (steps n) (2 ^ 149)
  unfolding steps
  valued s =
      subst (λ (z : Float). HasValue z s (kept 24 (n * 2 ^ 149) (2 ^ 24) * 2 ^ drop 24 (n * 2 ^ 149) (2 ^ 24)) (2 ^ 149)) (sym (round_is binary32 s n (2 ^ 24)))
      (units_val binary32 s (kept 24 (n * 2 ^ 149) (2 ^ 24)) (drop 24 (n * 2 ^ 149) (2 ^ 24)) steps-under)

-- a larger size has no fewer
pub steps-mono : (m n : ℕ) → m ≤ n → n ≤ 2 ^ 53 → steps m ≤ steps n
steps-mono m n l h =
    le-back (round binary32 false m (2 ^ 24)) (round binary32 false n (2 ^ 24)) (steps m) (steps n) (2 ^ 149) (pow_pos 149)
    (valued m (le_trans l h) false) (valued n h false) (round_mono binary32 m (2 ^ 24) n (2 ^ 24) (lit< tt) (lit< tt) (mul-le-mul_right (2 ^ 24) l))

-- the same with the sum's sign
unfoldable pub steps_z : ℤ → ℤ
steps_z (pos n) = signed false (steps n)
steps_z (negsuc n) = signed true (steps (suc n))

-- a sum of at most 2^53 in size
abbrev pub Small : ℤ → Type 0
Small a = nat_abs a ≤ 2 ^ 53

-- totals compare as their units do
pub total-order : (a b : ℤ) → Small a → Small b → lt (dequantised a) (dequantised b) ≡ lt_z (steps_z a) (steps_z b)
unfolding dequantised steps_z
total-order (pos a) (pos b) p q = lt-values (round binary32 false a (2 ^ 24)) (round binary32 false b (2 ^ 24)) false false (steps a) (steps b) (2 ^ 149) (pow_pos 149) (valued a p false) (valued b q false)
total-order (pos a) (negsuc b) p q = lt-values (round binary32 false a (2 ^ 24)) (round binary32 true (suc b) (2 ^ 24)) false true (steps a) (steps (suc b)) (2 ^ 149) (pow_pos 149) (valued a p false) (valued (suc b) q true)
total-order (negsuc a) (pos b) p q = lt-values (round binary32 true (suc a) (2 ^ 24)) (round binary32 false b (2 ^ 24)) true false (steps (suc a)) (steps b) (2 ^ 149) (pow_pos 149) (valued (suc a) p true) (valued b q false)
total-order (negsuc a) (negsuc b) p q = lt-values (round binary32 true (suc a) (2 ^ 24)) (round binary32 true (suc b) (2 ^ 24)) true true (steps (suc a)) (steps (suc b)) (2 ^ 149) (pow_pos 149) (valued (suc a) p true) (valued (suc b) q true)

-- a sum that is not smaller has units that are not fewer
mixed : (u v : ℕ) → lt_z (signed false u) (signed true v) ≡ false
mixed u zero = le-ltb u 0 zero-le
mixed u (suc v) = refl

turned : (u v : ℕ) → u ≤ v → lt_z (signed true u) (signed true v) ≡ false
turned zero zero h = refl
turned zero (suc v) h = refl
turned (suc u) zero h = absurd (omega arith)
turned (suc u) (suc v) h = le-ltb v u (omega arith)

steps_z-mono : (a b : ℤ) → Small a → Small b → lt_z a b ≡ false → lt_z (steps_z a) (steps_z b) ≡ false
unfolding steps_z
steps_z-mono (pos a) (pos b) p q h = le-ltb (steps a) (steps b) (steps-mono b a (ltb-false a b h) p)
steps_z-mono (pos a) (negsuc b) p q h = mixed (steps a) (steps (suc b))
steps_z-mono (negsuc a) (pos b) p q h = absurd (true≢false h)
steps_z-mono (negsuc a) (negsuc b) p q h = turned (steps (suc a)) (steps (suc b)) (steps-mono (suc a) (suc b) (omega (arith, ltb-false b a h)) q)

-- ---- the order of totals
-- a total is no smaller where the sum is not
pub total_mono : (a b : ℤ) → Small a → Small b → lt_z a b ≡ false → lt (dequantised a) (dequantised b) ≡ false
total_mono a b p q h = total-order a b p q ∙ steps_z-mono a b p q h

-- it is a weak order: of whole numbers first
less-not : (a b : ℤ) → lt_z a b ≡ true → lt_z b a ≡ false
less-not a b p =
    let B = nat_abs a + nat_abs b in
    raised-le B b a (omega arith) (omega arith) (omega (arith, lt-raised B a b (omega arith) (omega arith) p))

pub not-less : (a b c : ℤ) → lt_z a b ≡ false → lt_z b c ≡ false → lt_z a c ≡ false
not-less a b c p q =
    let B = nat_abs a + nat_abs b + nat_abs c in
    raised-le B a c (omega arith) (omega arith) (omega (arith, le-raised B a b (omega arith) (omega arith) p, le-raised B b c (omega arith) (omega arith) q))

pub less-through : (a b c : ℤ) → lt_z b c ≡ true → lt_z b a ≡ false → lt_z a c ≡ true
less-through a b c p q =
    let B = nat_abs a + nat_abs b + nat_abs c in
    raised_lt B a c (omega arith) (omega arith) (omega (arith, lt-raised B b c (omega arith) (omega arith) p, le-raised B b a (omega arith) (omega arith) q))

pub total-less-not : (a b : ℤ) → Small a → Small b → lt (dequantised a) (dequantised b) ≡ true → lt (dequantised b) (dequantised a) ≡ false
total-less-not a b x y p = total-order b a y x ∙ less-not (steps_z a) (steps_z b) (sym (total-order a b x y) ∙ p)

module _ (a b c : ℤ) (x : Small a) (y : Small b) (z : Small c) where
  pub total-not-less : lt (dequantised a) (dequantised b) ≡ false → lt (dequantised b) (dequantised c) ≡ false → lt (dequantised a) (dequantised c) ≡ false
  total-not-less p q = total-order a c x z ∙ not-less (steps_z a) (steps_z b) (steps_z c) (sym (total-order a b x y) ∙ p) (sym (total-order b c y z) ∙ q)

  pub total-less-through : lt (dequantised b) (dequantised c) ≡ true → lt (dequantised b) (dequantised a) ≡ false → lt (dequantised a) (dequantised c) ≡ true
  total-less-through p q = total-order a c x z ∙ less-through (steps_z a) (steps_z b) (steps_z c) (sym (total-order b c y z) ∙ p) (sym (total-order b a y x) ∙ q)
