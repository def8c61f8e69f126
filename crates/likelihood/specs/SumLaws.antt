-- Sums of quantised likelihoods: how large they can be.
use Rattle.std.specs.Prelude.{◌≡◌, refl, Bool, true, false, ◌&&◌, ℕ, zero, suc, ◌+◌, ◌*◌, ◌≤◌, ◌<◌, ◌^◌, ℤ, pos, nat_abs, ◌+ℤ◌, Float}
use Rattle.std.proofs.Common.{zero-le, arith, SFits}
use Rattle.std.specs.Int.{w64}
use Rattle.laws.specs.Words.{put, fold, count}
use Rattle.laws.specs.Counting.{count-le}
use Rattle.laws.specs.Signed.{fits-abs}
use Rattle.laws.specs.Tests.{clash}
use Rattle.laws.specs.Whole.{abs-add}
use Rattle.likelihood.specs.Likelihood.{acceptable, quantised}
use Rattle.likelihood.specs.LikelihoodLaws.{quantised-size}

-- each chosen one of the first n is at most B in size
abbrev pub Each : ℕ → ℕ → (ℕ → Bool) → (ℕ → ℤ) → Type 0
Each B n p f = (i : ℕ) → i < n → p i ≡ true → nat_abs (f i) ≤ B

-- then their sum is at most B in size for each one chosen
pub sum-size : (B n : ℕ) (p : ℕ → Bool) (f : ℕ → ℤ) → Each B n p f → nat_abs (fold ◌+ℤ◌ (pos 0) n p f) ≤ count n p * B
unfolding fold
sum-size B zero p f h = zero-le
sum-size B (suc n) p f h = go (p n) refl (sum-size B n p f (λ i l. h i (omega arith)))
  where
    go : (t : Bool) → p n ≡ t → nat_abs (fold ◌+ℤ◌ (pos 0) n p f) ≤ count n p * B
        → nat_abs (put ◌+ℤ◌ t (fold ◌+ℤ◌ (pos 0) n p f) (f n)) ≤ put ◌+◌ t (count n p) 1 * B
    go true e ih = omega (arith, abs-add (fold ◌+ℤ◌ (pos 0) n p f) (f n), h n (omega arith) e)
    go false e ih = ih

-- how many are chosen by two choices that share nothing
pub counts-apart : (p q : ℕ → Bool) (n : ℕ) → ((i : ℕ) → i < n → (p i && q i) ≡ false) → count n p + count n q ≤ n
unfolding fold
counts-apart p q zero h = zero-le
counts-apart p q (suc n) h = go (p n) (q n) (h n (omega arith)) (counts-apart p q n (λ i l. h i (omega arith)))
  where
    go : (s t : Bool) → (s && t) ≡ false → count n p + count n q ≤ n → put ◌+◌ s (count n p) 1 + put ◌+◌ t (count n q) 1 ≤ suc n
    go true true e l = clash refl e
    go true false e l = omega arith
    go false true e l = omega arith
    go false false e l = omega arith

-- ---- document 01: 'Cell sums are i64 (at most 2^53 in size)'
-- the sum over the chosen ones of up to 8,192 numbers, each of these at most 2^40 in size, as a quantised likelihood is: it is within 2^53, and so fits an i64
module _ (n : ℕ) (p : ℕ → Bool) (f : ℕ → ℤ) (l : n ≤ 8192) (h : Each (2 ^ 40) n p f) where
  pub cell-size : nat_abs (fold ◌+ℤ◌ (pos 0) n p f) ≤ 2 ^ 53
  cell-size = omega (arith, sum-size (2 ^ 40) n p f h, count-le p n)

  pub cell-fits : SFits w64 (fold ◌+ℤ◌ (pos 0) n p f)
  cell-fits = fits-abs {w = w64} (fold ◌+ℤ◌ (pos 0) n p f) (omega (arith, cell-size))

-- so of up to 8,192 likelihoods, each chosen one acceptable
pub likelihood-sum : (n : ℕ) (p : ℕ → Bool) (x : ℕ → Float) → n ≤ 8192 → ((i : ℕ) → i < n → p i ≡ true → acceptable (x i) ≡ true)
    → nat_abs (fold ◌+ℤ◌ (pos 0) n p (λ i. quantised (x i))) ≤ 2 ^ 53
likelihood-sum n p x l h = cell-size n p (λ i. quantised (x i)) l (λ i k e. quantised-size (x i) (h i k e))

-- two cells that share no edge, as the horizontal and the vertical cell of a placing, are together within 2^53
module _ (n : ℕ) (p q : ℕ → Bool) (f g : ℕ → ℤ) (l : n ≤ 8192) (d : (i : ℕ) → i < n → (p i && q i) ≡ false) (h : Each (2 ^ 40) n p f) (k : Each (2 ^ 40) n q g) where
  pub pair_size : nat_abs (fold ◌+ℤ◌ (pos 0) n p f) + nat_abs (fold ◌+ℤ◌ (pos 0) n q g) ≤ 2 ^ 53
  pair_size = omega (arith, sum-size (2 ^ 40) n p f h, sum-size (2 ^ 40) n q g k, counts-apart p q n d)

  pub pair-total : nat_abs (fold ◌+ℤ◌ (pos 0) n p f +ℤ fold ◌+ℤ◌ (pos 0) n q g) ≤ 2 ^ 53
  pair-total = omega (arith, abs-add (fold ◌+ℤ◌ (pos 0) n p f) (fold ◌+ℤ◌ (pos 0) n q g), pair_size)
