-- The first best index below n, for a test `b i j` that says i beats j, and its laws for a strict weak order: nothing beats it, and it beats
-- every earlier one. Counts, (count, weight) and sums are ordered so.
use Rattle.std.specs.Prelude.{◌≡◌, Bool, ◌&&◌, ◌⊎◌, ltb, eqb}
use Rattle.std.proofs.Math.Path.{refl}
use Rattle.std.proofs.Common.{sym, ◌∙◌, ⊎_elim, arith, add-one, ltb-true, ltb-false, lt-ltb, le-ltb, eq-eqb, eqb-true}
use Rattle.std.proofs.Math.Bool.{true, false, cond}
use Rattle.std.proofs.Math.Logic.{inl, inr}
use Prim.Native.Nat.{ℕ, zero, suc, ◌+◌, ◌≤◌, ◌<◌}
use Rattle.laws.specs.Tests.{clash, cases, compared, split, or-true, or-false, and-true, and-false}
use Rattle.laws.specs.Words.{first_best, above, lex_beats}

-- b is a strict weak order of the indices below n
pub record Weak (n : ℕ) (b : ℕ → ℕ → Bool) : Type 0 where
  pub asym : (i j : ℕ) → i < n → j < n → b i j ≡ true → b j i ≡ false
  pub neg : (i j k : ℕ) → i < n → j < n → k < n → b i k ≡ true → b j k ≡ false → b i j ≡ true

module _ (b : ℕ → ℕ → Bool) where
  pub in-range : (n : ℕ) → first_best b (suc n) < suc n
  unfolding first_best
  in-range zero = elim (cases (b 0 0)) [ inl t ↦ rw t (omega arith) | inr t ↦ rw t (omega arith) ]
  in-range (suc n) =
      let h : first_best b (suc n) < suc n = in-range n in
      elim (cases (b (suc n) (first_best b (suc n)))) [ inl t ↦ rw t (omega arith) | inr t ↦ rw t (omega arith) ]

  pub in-bound : (N n : ℕ) → 0 < N → n ≤ N → first_best b n < N
  unfolding first_best
  in-bound N zero p h = p
  in-bound N (suc n) p h = omega (arith, in-range n)

  module _ (N : ℕ) (W : Weak N b) where
    pub irrefl : (i : ℕ) → i < N → b i i ≡ false
    irrefl i h = elim (cases (b i i)) [ inl t ↦ W.asym i i h h t | inr t ↦ t ]

    pub nothing-beats : (n j : ℕ) → n ≤ N → j < n → b j (first_best b n) ≡ false
    unfolding first_best
    nothing-beats zero j le h = absurd (omega arith)
    nothing-beats (suc n) j le h = go (b n (first_best b n)) refl (nothing-beats n j (omega arith)) (split j n h)
      where
        go : (t : Bool) → b n (first_best b n) ≡ t → (j < n → b j (first_best b n) ≡ false) → (j ≡ n) ⊎ (j < n) → b j (cond t n (first_best b n)) ≡ false
        go true e ih (inl p) = rw p (irrefl n le)
        go true e ih (inr l) = W.asym n j le (omega arith) (W.neg n j (first_best b n) le (omega arith) (in-bound N n (omega arith) (omega arith)) e (ih l))
        go false e ih (inl p) = rw p e
        go false e ih (inr l) = ih l

    pub earlier-beaten : (n j : ℕ) → n ≤ N → j < first_best b n → b (first_best b n) j ≡ true
    unfolding first_best
    earlier-beaten zero j le h = absurd (omega arith)
    earlier-beaten (suc n) j le h = go (b n (first_best b n)) refl (earlier-beaten n j (omega arith)) h
      where
        go : (t : Bool) → b n (first_best b n) ≡ t → (j < first_best b n → b (first_best b n) j ≡ true)
            → j < cond t n (first_best b n) → b (cond t n (first_best b n)) j ≡ true
        go true e ih l = W.neg n j (first_best b n) le (omega arith) (in-bound N n (omega arith) (omega arith)) e (nothing-beats n j (omega arith) l)
        go false e ih l = ih l

-- ---- orders on cells: by a number, and by a number and then another order
pub above-weak : (n : ℕ) (f : ℕ → ℕ) → Weak n (above f)
above-weak n f = record {
  asym = λ i j hi hj h. le-ltb (f i) (f j) (omega (arith, ltb-true (f j) (f i) h));
  neg = λ i j k hi hj hk h g. lt-ltb (f j) (f i) (omega (arith, ltb-true (f k) (f i) h, ltb-false (f k) (f j) g));
}

module _ (f : ℕ → ℕ) (w : ℕ → ℕ → Bool) where
  pub lex-says : (i j : ℕ) → lex_beats f w i j ≡ true → (f j < f i) ⊎ ((f i ≡ f j) × (w i j ≡ true))
  lex-says i j e = ⊎_elim (λ a. inl (ltb-true (f j) (f i) a))
      (λ a. let c = and-true (eqb (f i) (f j)) (w i j) a in inr (eqb-true (f i) (f j) c.0, c.1))
      (or-true (ltb (f j) (f i)) (eqb (f i) (f j) && w i j) e)

  pub lex-denies : (i j : ℕ) → lex_beats f w i j ≡ false → (f i ≤ f j) × (f i ≡ f j → w i j ≡ false)
  lex-denies i j e =
      let c = or-false (ltb (f j) (f i)) (eqb (f i) (f j) && w i j) e in
      (ltb-false (f j) (f i) c.0, λ p. and-false (eqb (f i) (f j)) (w i j) c.1 (eq-eqb (f i) (f j) p))

  pub lex-more : (i j : ℕ) → f j < f i → lex_beats f w i j ≡ true
  lex-more i j l = rw (lt-ltb (f j) (f i) l)

  pub lex-tie : (i j : ℕ) → f i ≡ f j → w i j ≡ true → lex_beats f w i j ≡ true
  lex-tie i j p q = rw (le-ltb (f j) (f i) (omega arith), eq-eqb (f i) (f j) p) q

  pub lex-not : (i j : ℕ) → (f i ≤ f j) → (f i ≡ f j → w i j ≡ false) → lex_beats f w i j ≡ false
  lex-not i j l q = ⊎_elim (λ t. ⊎_elim (λ m. absurd (omega arith)) (λ m. clash m.1 (q m.0)) (lex-says i j t)) (λ t. t) (cases (lex_beats f w i j))

  pub lex-weak : (n : ℕ) → Weak n w → Weak n (lex_beats f w)
  lex-weak n W = record {
    asym = λ i j hi hj h. ⊎_elim (λ a. lex-not j i (omega arith) (λ e. absurd (omega arith)))
        (λ a. lex-not j i (omega (arith, a.0)) (λ e. W.asym i j hi hj a.1)) (lex-says i j h);
    neg = λ i j k hi hj hk h g. let d = lex-denies j k g in ⊎_elim
        (λ a. lex-more i j (omega (arith, d.0)))
        (λ a. ⊎_elim (λ l. lex-more i j (omega (arith, a.0)))
        (λ l. let p : f j ≡ f k = omega (arith, a.0, d.0) in lex-tie i j (a.0 ∙ sym p) (W.neg i j k hi hj hk a.1 (d.1 p)))
        (compared (f j) (f k)))
        (lex-says i k h);
  }

-- ---- one index more
pub best-new : (b : ℕ → ℕ → Bool) (i a : ℕ) → a ≡ first_best b i → b i a ≡ true → i ≡ first_best b (i + 1)
unfolding first_best
best-new b i a e t = rw (add-one i, ← e, t)

pub best-old : (b : ℕ → ℕ → Bool) (i a : ℕ) → a ≡ first_best b i → b i a ≡ false → a ≡ first_best b (i + 1)
unfolding first_best
best-old b i a e t = rw (add-one i, ← e, t)
