-- The second best: the first best index below n that is not k.
use Rattle.std.specs.Prelude.{◌≡◌, Bool, ◌⊎◌}
use Rattle.std.proofs.Math.Path.{refl}
use Rattle.std.proofs.Common.{sym, ◌∙◌, inl, inr, ⊎_elim, add-one}
use Rattle.std.proofs.Math.Bool.{true, false, cond}
use Prim.Native.Nat.{ℕ, zero, suc, ◌+◌, ◌≤◌, ◌<◌}
use native.Mathlib.Omega.{arith}
use Rattle.std.proofs.Math.Dec.{eqb}
use borrow.Author.Tests.{ne_eqb, eq-eqb, eqb-true, eqb-false}
use Rattle.laws.specs.Tests.{cases, split}
use Rattle.laws.specs.Words.{other, second}
use Rattle.laws.specs.Best.{Weak, irrefl}

-- ---- laws
module _ (b : ℕ → ℕ → Bool) (N k : ℕ) (two : 1 < N) where
  other-in : other k < N
  other-in = elim (cases (eqb k 0)) [ inl t ↦ rw t two | inr t ↦ rw t (omega arith) ]

  other-not : other k ≡ k → ⊥
  other-not e = go (eqb k 0) refl e
    where
      go : (t : Bool) → eqb k 0 ≡ t → cond t 1 0 ≡ k → ⊥
      go true q p = omega (arith, eqb-true k 0 q)
      go false q p = eqb-false k 0 q (sym p)

  pub second-in : (n : ℕ) → n ≤ N → second b k n < N
  unfolding second
  second-in zero h = other-in
  second-in (suc n) h = go (eqb n k) (b n (second b k n)) (second-in n (omega arith))
    where
      go : (s t : Bool) → second b k n < N → cond s (second b k n) (cond t n (second b k n)) < N
      go true t ih = ih
      go false true ih = omega arith
      go false false ih = ih

  pub second-not : (n : ℕ) → second b k n ≡ k → ⊥
  unfolding second
  second-not zero = other-not
  second-not (suc n) = go (eqb n k) (b n (second b k n)) refl (second-not n)
    where
      go : (s t : Bool) → eqb n k ≡ s → (second b k n ≡ k → ⊥) → cond s (second b k n) (cond t n (second b k n)) ≡ k → ⊥
      go true t q ih = ih
      go false true q ih = eqb-false n k q
      go false false q ih = ih

  second-under : (n j : ℕ) → j < second b k n → (j ≡ k → ⊥) → j < n
  unfolding second
  second-under zero j h ne = absurd (go (eqb k 0) refl h)
    where
      go : (t : Bool) → eqb k 0 ≡ t → j < cond t 1 0 → ⊥
      go true q p = let e : j ≡ k = omega (arith, eqb-true k 0 q) in ne e
      go false q p = omega arith
  second-under (suc n) j h ne = go (eqb n k) (b n (second b k n)) (λ l. second-under n j l ne) h
    where
      go : (s t : Bool) → (j < second b k n → j < n) → j < cond s (second b k n) (cond t n (second b k n)) → j < suc n
      go true t ih l = omega (arith, ih l)
      go false true ih l = omega arith
      go false false ih l = omega (arith, ih l)

  module _ (W : Weak N b) where
    -- nothing but k beats it
    pub second-best : (n j : ℕ) → n ≤ N → j < n → (j ≡ k → ⊥) → b j (second b k n) ≡ false
    unfolding second
    second-best zero j le h ne = absurd (omega arith)
    second-best (suc n) j le h ne = go (eqb n k) (b n (second b k n)) refl refl (λ l. second-best n j (omega arith) l ne) (split j n h)
      where
        go : (s t : Bool) → eqb n k ≡ s → b n (second b k n) ≡ t → (j < n → b j (second b k n) ≡ false) → (j ≡ n) ⊎ (j < n)
            → b j (cond s (second b k n) (cond t n (second b k n))) ≡ false
        go true t q r ih (inl p) = absurd (ne (p ∙ eqb-true n k q))
        go true t q r ih (inr l) = ih l
        go false true q r ih (inl p) = rw p (irrefl b N W n le)
        go false true q r ih (inr l) = W.asym n j le (omega arith) (W.neg n j (second b k n) le (omega arith) (second-in n (omega arith)) r (ih l))
        go false false q r ih (inl p) = rw p r
        go false false q r ih (inr l) = ih l

    -- it comes first
    pub second-first : (n j : ℕ) → n ≤ N → j < second b k n → (j ≡ k → ⊥) → b (second b k n) j ≡ true
    unfolding second
    second-first zero j le h ne = absurd (omega (arith, second-under 0 j h ne))
    second-first (suc n) j le h ne = go (eqb n k) (b n (second b k n)) refl refl (λ h'. second-first n j (omega arith) h' ne) h
      where
        go : (s t : Bool) → eqb n k ≡ s → b n (second b k n) ≡ t → (j < second b k n → b (second b k n) j ≡ true)
            → j < cond s (second b k n) (cond t n (second b k n)) → b (cond s (second b k n) (cond t n (second b k n))) j ≡ true
        go true t q r ih p = ih p
        go false true q r ih p = W.neg n j (second b k n) le (omega arith) (second-in n (omega arith)) r (second-best n j (omega arith) p ne)
        go false false q r ih p = ih p

-- ---- one index more
pub second-skip : (b : ℕ → ℕ → Bool) (k i a : ℕ) → a ≡ second b k i → i ≡ k → a ≡ second b k (i + 1)
unfolding second
second-skip b k i a e t = rw (add-one i, eq-eqb i k t) e

pub second-new : (b : ℕ → ℕ → Bool) (k i a : ℕ) → a ≡ second b k i → (i ≡ k → ⊥) → b i a ≡ true → i ≡ second b k (i + 1)
unfolding second
second-new b k i a e n t = rw (add-one i, ne_eqb i k n, ← e, t)

pub second-old : (b : ℕ → ℕ → Bool) (k i a : ℕ) → a ≡ second b k i → (i ≡ k → ⊥) → b i a ≡ false → a ≡ second b k (i + 1)
unfolding second
second-old b k i a e n t = rw (add-one i, ne_eqb i k n, ← e, t)

-- one that does not beat the second is no second
pub second-low : (b : ℕ → ℕ → Bool) (k i a : ℕ) → a ≡ second b k i → b i a ≡ false → a ≡ second b k (i + 1)
second-low b k i a e t = ⊎_elim (λ q. second-skip b k i a e (eqb-true i k q)) (λ q. second-old b k i a e (eqb-false i k q) t) (cases (eqb i k))
