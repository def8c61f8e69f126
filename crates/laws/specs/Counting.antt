-- How many numbers below n pass a test.
use Rattle.std.specs.Prelude.{◌≡◌, refl, Bool, true, false, ◌⊎◌, ℕ, zero, suc, ◌+◌, ◌≤◌, ◌<◌}
use Rattle.std.proofs.Common.{ap, sym, ◌∙◌, inl, inr, ⊎_elim, add-one, arith}
use Rattle.laws.specs.Tests.{clash, apart, split}
use Rattle.laws.specs.Words.{put, fold, count}

-- at most n
pub count-le : (p : ℕ → Bool) (n : ℕ) → count n p ≤ n
unfolding fold
count-le p zero = omega arith
count-le p (suc n) = go (p n) (count-le p n)
  where
    go : (t : Bool) → count n p ≤ n → put ◌+◌ t (count n p) 1 ≤ suc n
    go true h = omega arith
    go false h = omega arith

-- one that passes
pub count-pos : (p : ℕ → Bool) (n j : ℕ) → j < n → p j ≡ true → 0 < count n p
unfolding fold
count-pos p zero j h e = absurd (omega arith)
count-pos p (suc n) j h e = go (p n) refl (count-pos p n j) (split j n h)
  where
    go : (t : Bool) → p n ≡ t → (j < n → p j ≡ true → 0 < count n p) → (j ≡ n) ⊎ (j < n) → 0 < put ◌+◌ t (count n p) 1
    go true q ih s = omega arith
    go false q ih (inl r) = clash (ap p (sym r) ∙ e) q
    go false q ih (inr l) = ih l e

-- two that pass
pub count-two : (p : ℕ → Bool) (n i j : ℕ) → i < j → j < n → p i ≡ true → p j ≡ true → 1 < count n p
unfolding fold
count-two p zero i j l h e f = absurd (omega arith)
count-two p (suc n) i j l h e f = go (p n) refl (count-two p n i j l) (split j n h)
  where
    go : (t : Bool) → p n ≡ t → (j < n → p i ≡ true → p j ≡ true → 1 < count n p) → (j ≡ n) ⊎ (j < n) → 1 < put ◌+◌ t (count n p) 1
    go true q ih (inl r) = omega (arith, count-pos p n i (omega arith) e)
    go true q ih (inr k) = omega (arith, ih k e f)
    go false q ih (inl r) = clash (ap p (sym r) ∙ f) q
    go false q ih (inr k) = ih k e f

-- where one passes, it is the only one
pub count-one : (p : ℕ → Bool) (n i j : ℕ) → count n p ≡ 1 → i < n → j < n → p i ≡ true → p j ≡ true → i ≡ j
count-one p n i j one hi hj e f = ⊎_elim (λ q. q) (λ q. absurd (go q)) (apart i j)
  where
    go : (i < j) ⊎ (j < i) → ⊥
    go (inl l) = omega (arith, count-two p n i j l hj e f)
    go (inr l) = omega (arith, count-two p n j i l hi f e)

pub some-passes : (p : ℕ → Bool) (n : ℕ) → 0 < count n p → (i : ℕ) × (i < n) × (p i ≡ true)
unfolding fold
some-passes p zero h = absurd (omega arith)
some-passes p (suc n) h = go (p n) refl (some-passes p n) h
  where
    go : (t : Bool) → p n ≡ t → (0 < count n p → (i : ℕ) × (i < n) × (p i ≡ true)) → 0 < put ◌+◌ t (count n p) 1 → (i : ℕ) × (i < suc n) × (p i ≡ true)
    go true e ih l = (n, omega arith, e)
    go false e ih l = let w = ih l in (w.0, omega (arith, w.1), w.2)

-- where more than one passes, one passes that is not h
pub other-passes : (p : ℕ → Bool) (n h : ℕ) → 1 < count n p → (i : ℕ) × (i < n) × (p i ≡ true) × (i ≡ h → ⊥)
unfolding fold
other-passes p zero h l = absurd (omega arith)
other-passes p (suc n) h l = go (p n) refl (other-passes p n h) (apart n h) l
  where
    go : (t : Bool) → p n ≡ t → (1 < count n p → (i : ℕ) × (i < n) × (p i ≡ true) × (i ≡ h → ⊥)) → (n ≡ h) ⊎ ((n < h) ⊎ (h < n))
        → 1 < put ◌+◌ t (count n p) 1 → (i : ℕ) × (i < suc n) × (p i ≡ true) × (i ≡ h → ⊥)
    go true e ih (inl q) m = let w = some-passes p n (omega arith) in (w.0, omega (arith, w.1), w.2, λ z. omega (arith, w.1))
    go true e ih (inr q) m = (n, omega arith, e, λ z. ⊎_elim (λ a. omega arith) (λ a. omega arith) q)
    go false e ih q m = let w = ih m in (w.0, omega (arith, w.1), w.2, w.3)

-- ---- one number more
pub count_yes : (p : ℕ → Bool) (i n : ℕ) → n ≡ count i p → p i ≡ true → n + 1 ≡ count (i + 1) p
unfolding fold
count_yes p i n e t = rw (add-one i, t, e)

pub count_no : (p : ℕ → Bool) (i n : ℕ) → n ≡ count i p → p i ≡ false → n ≡ count (i + 1) p
unfolding fold
count_no p i n e t = rw (add-one i, t, e)
