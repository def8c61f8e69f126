-- What the definitions of one table say: the best cell has the largest count and, of those, the largest weight; the second-best cell is the best of the others.
use Rattle.std.specs.Prelude.{◌≡◌, refl, Bool, true, false, cond, ◌⊎◌, List, ℕ, zero, suc, ◌≤◌, ◌<◌, T, eqb, length, Float}
use Rattle.std.proofs.Common.{inl, inr, ⊎_elim, le_refl, arith, ltb-false, eq-eqb, eqb-true}
use Rattle.std.specs.Float.Ieee.{lt, eq}
use Rattle.laws.specs.Tests.{split, and-true}
use Rattle.laws.specs.Words.{first_best, above, lex_beats, heavier}
use Rattle.laws.specs.Best.{lex-says, Weak, above-weak, lex-weak, lex-denies, in-bound, nothing-beats}
use Rattle.laws.specs.Second.{second-in, second-not, second-best}
use Rattle.laws.specs.Weights.{weightlike}
use Rattle.laws.specs.WeightLaws.{heavier-weak, eq_self}
use Rattle.best.specs.CellTables.{c_at, w_at}
use Rattle.best.specs.Lex.{order, lex_best, optimal, lex_second}

-- ---- no cell has a larger count than cell k
abbrev pub Most : List ℕ → ℕ → Type 0
Most cs k = (j : ℕ) → j < length cs → c_at cs j ≤ c_at cs k

-- the first best by count and then by any other test has the largest count
first-most : (f : ℕ → ℕ) (w : ℕ → ℕ → Bool) (n j : ℕ) → j < n → f j ≤ f (first_best (lex_beats f w) n)
unfolding first_best
first-most f w zero j h = absurd (omega arith)
first-most f w (suc n) j h = go (lex_beats f w n (first_best (lex_beats f w) n)) refl (first-most f w n j) (split j n h)
  where
    go : (t : Bool) → lex_beats f w n (first_best (lex_beats f w) n) ≡ t → (j < n → f j ≤ f (first_best (lex_beats f w) n)) → (j ≡ n) ⊎ (j < n) → f j ≤ f (cond t n (first_best (lex_beats f w) n))
    go true e ih (inl p) = rw p (le_refl (f n))
    go true e ih (inr l) = ⊎_elim (λ m. omega (arith, ih l)) (λ m. omega (arith, ih l, m.0)) (lex-says f w n (first_best (lex_beats f w) n) e)
    go false e ih (inl p) = rw p (lex-denies f w n (first_best (lex_beats f w) n) e).0
    go false e ih (inr l) = ih l

pub best-most : (cs : List ℕ) (ws : List Float) → Most cs (lex_best cs ws)
best-most cs ws = first-most (c_at cs) (heavier (w_at ws)) (length cs)

module _ (cs : List ℕ) (ws : List Float) (two : 1 < length cs) where
  pub cell_in : lex_best cs ws < length cs
  cell_in = in-bound (order cs ws) (length cs) (length cs) (omega arith) (le_refl (length cs))

  module _ (ok : (i : ℕ) → i < length cs → T (weightlike (w_at ws i))) where
    weak : Weak (length cs) (order cs ws)
    weak = lex-weak (c_at cs) (heavier (w_at ws)) (length cs) (heavier-weak (length cs) (w_at ws) ok)

    -- the cell has the largest count, and of those with its count the largest weight
    pub largest : (j : ℕ) → j < length cs → (c_at cs j ≤ c_at cs (lex_best cs ws)) × (c_at cs j ≡ c_at cs (lex_best cs ws) → lt (w_at ws (lex_best cs ws)) (w_at ws j) ≡ false)
    largest j h = lex-denies (c_at cs) (heavier (w_at ws)) j (lex_best cs ws) (nothing-beats (order cs ws) (length cs) weak (length cs) j (le_refl (length cs)) h)

    -- it is optimal itself
    pub best-optimal : optimal cs ws (c_at cs (lex_best cs ws)) (w_at ws (lex_best cs ws)) (lex_best cs ws) ≡ true
    best-optimal = rw (eq-eqb (c_at cs (lex_best cs ws)) (c_at cs (lex_best cs ws)) refl) (eq_self (w_at ws (lex_best cs ws)) (ok (lex_best cs ws) cell_in))

-- an optimal cell has the count
pub optimal-count : (cs : List ℕ) (ws : List Float) (top : ℕ) (heavy : Float) (i : ℕ) → optimal cs ws top heavy i ≡ true → c_at cs i ≡ top
optimal-count cs ws top heavy i e = eqb-true (c_at cs i) top (and-true (eqb (c_at cs i) top) (eq (w_at ws i) heavy) e).0

-- ---- the second-best cell
module _ (cs : List ℕ) (k : ℕ) (two : 1 < length cs) where
  pub second-inside : lex_second cs k < length cs
  second-inside = second-in (above (c_at cs)) (length cs) k two (length cs) (le_refl (length cs))

  pub second-other : lex_second cs k ≡ k → ⊥
  second-other = second-not (above (c_at cs)) (length cs) k two (length cs)

  -- every cell but k has at most its count
  pub second-most : (j : ℕ) → j < length cs → (j ≡ k → ⊥) → c_at cs j ≤ c_at cs (lex_second cs k)
  second-most j h ne = ltb-false (c_at cs (lex_second cs k)) (c_at cs j) (second-best (above (c_at cs)) (length cs) k two (above-weak (length cs) (c_at cs)) (length cs) j (le_refl (length cs)) h ne)
