-- Laws of a walk over numbers: two walks one behind the other, a walk where no number is inside, and a walk over two runs.
use Rattle.std.specs.Prelude.{◌≡◌, Bool, false, cond}
use Rattle.std.proofs.Math.Path.{refl, sym, ap}
use Rattle.std.proofs.Common.{◌∙◌}
use Prim.Native.Nat.{ℕ, zero, suc, ◌+◌, ◌-◌, ◌≤◌, ◌<◌}
use native.Mathlib.Omega.{arith}
use Rattle.std.proofs.Math.Numerals.{add-one}
use borrow.Author.Tests.{lt-ltb, le-ltb, eq-eqb, ne_eqb}
use Rattle.part_scan.specs.declared.kept.Offer.{Offer}
use Rattle.part_scan.specs.declared.kept.PartKept.{PartKept}
use Rattle.part_scan.specs.Kept.{hits_in, second_of, next_of, offered, walked}

-- ---- the runner-up
module _ (w r : Offer) where
  -- behind a new winner
  pub second-early : (a b : ℕ) → a ≡ hits_in w → b ≡ hits_in r → a ≡ b → r.number < w.number → r ≡ second_of w r
  unfolding second_of
  second-early a b x y e l = rw (eq-eqb (hits_in w) (hits_in r) (sym x ∙ e ∙ y), lt-ltb r.number w.number l)

  pub second-late : (a b : ℕ) → a ≡ hits_in w → b ≡ hits_in r → a ≡ b → w.number ≤ r.number → w ≡ second_of w r
  unfolding second_of
  second-late a b x y e l = rw (eq-eqb (hits_in w) (hits_in r) (sym x ∙ e ∙ y), le-ltb r.number w.number l)

  pub second-fewer : (a b : ℕ) → a ≡ hits_in w → b ≡ hits_in r → (a ≡ b → ⊥) → w ≡ second_of w r
  unfolding second_of
  second-fewer a b x y d = rw (ne_eqb (hits_in w) (hits_in r) (λ e. d (x ∙ e ∙ sym y)))

-- after a placing that is no winner
module _ (r c : Offer) where
  pub next-new : (a b : ℕ) → a ≡ hits_in r → b ≡ hits_in c → a < b → c ≡ next_of r c
  unfolding next_of
  next-new a b x y l = let m : hits_in r < hits_in c = omega (arith, x, y) in rw (lt-ltb (hits_in r) (hits_in c) m)

  pub next-old : (a b : ℕ) → a ≡ hits_in r → b ≡ hits_in c → b ≤ a → r ≡ next_of r c
  unfolding next_of
  next-old a b x y l = let m : hits_in c ≤ hits_in r = omega (arith, x, y) in rw (le-ltb (hits_in r) (hits_in c) m)

-- ---- walks
-- one number of a walk
abbrev pub stepped : (ℕ → Bool) → (ℕ → ℕ) → PartKept → ℕ → PartKept
stepped inside value S m = cond (inside m) (offered S (record { value = value m; number = m })) S

-- the same values
pub walk-values : (inside : ℕ → Bool) (f g : ℕ → ℕ) (S : PartKept) (a n : ℕ) → ((k : ℕ) → k < n → f (a + k) ≡ g (a + k)) → walked inside f S a n ≡ walked inside g S a n
unfolding walked
walk-values inside f g S a zero h = refl
walk-values inside f g S a (suc n) h = rw (h n (omega arith), walk-values inside f g S a n (λ k l. h k (omega arith)))

module _ (value : ℕ → ℕ) where
  pub walk_none : (inside : ℕ → Bool) (S : PartKept) (a : ℕ) → walked inside value S a 0 ≡ S
  unfolding walked
  walk_none inside S a = refl

  -- from a number up to itself
  pub walk-empty : (inside : ℕ → Bool) (S : PartKept) (a x : ℕ) → S ≡ walked inside value S a (x - x)
  walk-empty inside S a x = let z : x - x ≡ 0 = omega arith in sym (ap (walked inside value S a) z ∙ walk_none inside S a)

  pub walk_more : (inside : ℕ → Bool) (S : PartKept) (a n : ℕ) → walked inside value S a (n + 1) ≡ stepped inside value (walked inside value S a n) (a + n)
  unfolding walked
  walk_more inside S a n = rw add-one

  -- the m numbers behind the first n
  pub walk-join : (inside : ℕ → Bool) (S : PartKept) (a n m : ℕ) → walked inside value (walked inside value S a n) (a + n) m ≡ walked inside value S a (n + m)
  unfolding walked
  walk-join inside S a n zero = let z : n ≡ n + 0 = omega arith in ap (walked inside value S a) z
  walk-join inside S a n (suc m) =
      let e : a + n + m ≡ a + (n + m) = omega arith in
      let z : suc (n + m) ≡ n + suc m = omega arith in
      ap (λ (X : PartKept). stepped inside value X (a + n + m)) (walk-join inside S a n m) ∙ ap (stepped inside value (walked inside value S a (n + m))) e ∙ ap (walked inside value S a) z

  -- the same numbers inside
  pub walk_same : (p q : ℕ → Bool) (S : PartKept) (a n : ℕ) → ((k : ℕ) → k < n → p (a + k) ≡ q (a + k)) → walked p value S a n ≡ walked q value S a n
  unfolding walked
  walk_same p q S a zero h = refl
  walk_same p q S a (suc n) h = rw (h n (omega arith), walk_same p q S a n (λ k l. h k (omega arith)))

  -- no number inside
  pub walk-out : (inside : ℕ → Bool) (S : PartKept) (a n : ℕ) → ((k : ℕ) → k < n → inside (a + k) ≡ false) → walked inside value S a n ≡ S
  unfolding walked
  walk-out inside S a zero h = refl
  walk-out inside S a (suc n) h = rw (h n (omega arith)) (walk-out inside S a n (λ k l. h k (omega arith)))

  -- TWO RUNS: below f, and from g up to t, the numbers inside are p's, and no other below e is inside q
  module _ (p q : ℕ → Bool) (S : PartKept) (a f g t e : ℕ) (fg : f ≤ g) (gt : g ≤ t) (te : t ≤ e)
      (low : (k : ℕ) → k < f → p (a + k) ≡ q (a + k))
      (between : (k : ℕ) → f ≤ k → k < g → q (a + k) ≡ false)
      (high : (k : ℕ) → g ≤ k → k < t → p (a + k) ≡ q (a + k))
      (past : (k : ℕ) → t ≤ k → k < e → q (a + k) ≡ false) where
    abbrev A : PartKept
    A = walked p value S a f

    -- up to g
    to-g : A ≡ walked q value S a g
    to-g =
        walk_same p q S a f low
        ∙ sym (walk-out q (walked q value S a f) (a + f) (g - f) (λ k l. let z : a + f + k ≡ a + (f + k) = omega arith in ap q z ∙ between (f + k) (omega arith) (omega arith)))
        ∙ walk-join q S a f (g - f)
        ∙ (let z : f + (g - f) ≡ g = omega arith in ap (walked q value S a) z)

    -- up to t
    to-t : walked p value A (a + g) (t - g) ≡ walked q value S a t
    to-t =
        walk_same p q A (a + g) (t - g) (λ k l. let z : a + g + k ≡ a + (g + k) = omega arith in ap p z ∙ high (g + k) (omega arith) (omega arith) ∙ sym (ap q z))
        ∙ ap (λ (X : PartKept). walked q value X (a + g) (t - g)) to-g
        ∙ walk-join q S a g (t - g)
        ∙ (let z : g + (t - g) ≡ t = omega arith in ap (walked q value S a) z)

    pub two_runs : walked p value A (a + g) (t - g) ≡ walked q value S a e
    two_runs =
        to-t
        ∙ sym (walk-out q (walked q value S a t) (a + t) (e - t) (λ k l. let z : a + t + k ≡ a + (t + k) = omega arith in ap q z ∙ past (t + k) (omega arith) (omega arith)))
        ∙ walk-join q S a t (e - t)
        ∙ (let z : t + (e - t) ≡ e = omega arith in ap (walked q value S a) z)
