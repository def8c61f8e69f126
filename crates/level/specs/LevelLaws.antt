-- What the definitions of one table say: the best cell is the first of largest sum, the second-best the first of largest sum of the others.
use Rattle.std.specs.Prelude.{◌≡◌, refl, true, false, List, ℕ, ◌+◌, ◌≤◌, ◌<◌, ℤ, pos, negsuc, nat_abs, length}
use Rattle.std.proofs.Common.{ap, ◌∙◌, le_refl, arith, lt-ltb, leb-false}
use Rattle.std.specs.Int.Signed.{le_z, lt_z}
use Rattle.laws.specs.Tests.{clash, not_so}
use Rattle.laws.specs.Counting.{count-le, count-pos}
use Rattle.laws.specs.Best.{Weak, in-bound, nothing-beats}
use Rattle.laws.specs.Second.{second-in, second-not, second-best, second-first}
use Rattle.laws.specs.Words.{eq_z}
use Rattle.laws.specs.Whole.{eq_z-true, eq_z-refl, lt-raised, le-raised, raised_lt, raised-le}
use Rattle.level.specs.Level.{s_at, larger, level_best, tied_sum, level_second, level_of}

-- ---- whole numbers in their order are weakly ordered
pub larger-weak : (n : ℕ) (f : ℕ → ℤ) → Weak n (larger f)
larger-weak n f = record {
  asym = λ i j hi hj h.
      let B = nat_abs (f i) + nat_abs (f j) in
      raised-le B (f i) (f j) (omega arith) (omega arith) (omega (arith, lt-raised B (f j) (f i) (omega arith) (omega arith) h));
  neg = λ i j k hi hj hk h g.
      let B = nat_abs (f i) + nat_abs (f j) + nat_abs (f k) in
      raised_lt B (f j) (f i) (omega arith) (omega arith)
      (omega (arith, lt-raised B (f k) (f i) (omega arith) (omega arith) h, le-raised B (f k) (f j) (omega arith) (omega arith) g));
}

-- ---- no cell has a greater sum than cell k
abbrev pub Top : List ℤ → ℕ → Type 0
Top xs k = (j : ℕ) → j < length xs → lt_z (s_at xs k) (s_at xs j) ≡ false

-- what is not at least b is below it
pub not_least : (a b : ℤ) → le_z b a ≡ false → lt_z a b ≡ true
not_least (pos a) (pos b) e = lt-ltb a b (leb-false b a e)
not_least (negsuc a) (pos b) e = refl
not_least (pos a) (negsuc b) e = clash refl e
not_least (negsuc a) (negsuc b) e = lt-ltb b a (leb-false a b e)

-- a sum below one of the table is not the largest
pub below_top : (xs : List ℤ) (k s : ℕ) (x : ℤ) → Top xs k → s < length xs → lt_z x (s_at xs s) ≡ true → eq_z x (s_at xs k) ≡ false
below_top xs k s x top h l = not_so (eq_z x (s_at xs k)) (λ e. clash l (ap (λ (y : ℤ). lt_z y (s_at xs s)) (eq_z-true x (s_at xs k) e) ∙ top s h))

-- ---- a table of at least two cells
module _ (xs : List ℤ) (two : 1 < length xs) where
  weak : Weak (length xs) (larger (s_at xs))
  weak = larger-weak (length xs) (s_at xs)

  pub cell_in : level_best xs < length xs
  cell_in = in-bound (larger (s_at xs)) (length xs) (length xs) (omega arith) (le_refl (length xs))

  -- no cell has a greater sum
  pub largest : (j : ℕ) → j < length xs → lt_z (s_at xs (level_best xs)) (s_at xs j) ≡ false
  largest j h = nothing-beats (larger (s_at xs)) (length xs) weak (length xs) j (le_refl (length xs)) h

  -- it has its own sum, so some cell has it, and of course not more than there are
  pub best-tied : tied_sum xs (s_at xs (level_best xs)) (level_best xs) ≡ true
  best-tied = eq_z-refl (s_at xs (level_best xs))

  pub some-tied : 0 < (level_of xs).tied
  unfolding level_of
  some-tied = count-pos (tied_sum xs (s_at xs (level_best xs))) (length xs) (level_best xs) cell_in best-tied

  pub few-tied : (level_of xs).tied ≤ length xs
  unfolding level_of
  few-tied = count-le (tied_sum xs (s_at xs (level_best xs))) (length xs)

  -- the second-best cell is another, and no other than k has a greater sum
  module _ (k : ℕ) where
    pub second-inside : level_second xs k < length xs
    second-inside = second-in (larger (s_at xs)) (length xs) k two (length xs) (le_refl (length xs))

    pub second-other : level_second xs k ≡ k → ⊥
    second-other = second-not (larger (s_at xs)) (length xs) k two (length xs)

    pub second-largest : (j : ℕ) → j < length xs → (j ≡ k → ⊥) → lt_z (s_at xs (level_second xs k)) (s_at xs j) ≡ false
    second-largest j h ne = second-best (larger (s_at xs)) (length xs) k two weak (length xs) j (le_refl (length xs)) h ne

    -- and each other before it has a smaller one
    pub second-early : (j : ℕ) → j < level_second xs k → (j ≡ k → ⊥) → lt_z (s_at xs j) (s_at xs (level_second xs k)) ≡ true
    second-early j h ne = second-first (larger (s_at xs)) (length xs) k two weak (length xs) j (le_refl (length xs)) h ne
