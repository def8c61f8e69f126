-- Folds over the numbers below n: of the chosen ones of f 0, .., f (n - 1), in that order, from z. Counts, sums in f32 and sums of
-- whole numbers are all folds; what is added where is in the definitions that use them.
use Rattle.std.specs.Prelude.{◌≡◌, Bool, true, false, ℕ, zero, suc, ◌+◌, ◌≤◌}
use Rattle.std.proofs.Math.Path.{refl}
use Rattle.std.proofs.Common.{arith, le_refl, add-le-add}
use Rattle.std.proofs.Math.Decide.{le_ind}
use Rattle.std.proofs.Math.Numerals.{add-one}
use Rattle.laws.specs.Words.{put, fold, all}

module _ {ℓ} {A : Type ℓ} (op : A → A → A) (z : A) (p : ℕ → Bool) (f : ℕ → A) where
  pub fold-zero : fold op z 0 p f ≡ z
  unfolding fold
  fold-zero = refl

  pub fold_more : (n : ℕ) → fold op z (n + 1) p f ≡ put op (p n) (fold op z n p f) (f n)
  unfolding fold
  fold_more n = rw add-one

  pub fold-hit : (n : ℕ) → p n ≡ true → fold op z (n + 1) p f ≡ op (fold op z n p f) (f n)
  fold-hit n h = rw (fold_more, h)

  pub fold-miss : (n : ℕ) → p n ≡ false → fold op z (n + 1) p f ≡ fold op z n p f
  fold-miss n h = rw (fold_more, h)

-- ---- sums of numbers
put-le : (b : Bool) (a x c : ℕ) → a ≤ c → put ◌+◌ b a x ≤ c + x
put-le true a x c h = omega arith
put-le false a x c h = omega arith

le-put : (b : Bool) (a x c : ℕ) → c ≤ a → c ≤ put ◌+◌ b a x
le-put true a x c h = omega arith
le-put false a x c h = h

-- of some at most of all
pub sum-some : (p : ℕ → Bool) (f : ℕ → ℕ) (n : ℕ) → fold ◌+◌ 0 n p f ≤ fold ◌+◌ 0 n all f
unfolding fold
sum-some p f zero = le_refl 0
sum-some p f (suc n) = put-le (p n) (fold ◌+◌ 0 n p f) (f n) (fold ◌+◌ 0 n all f) (sum-some p f n)

-- of more no less
pub sum_mono : (p : ℕ → Bool) (f : ℕ → ℕ) (n m : ℕ) → n ≤ m → fold ◌+◌ 0 n p f ≤ fold ◌+◌ 0 m p f
unfolding fold
sum_mono p f n m h =
    le_ind (λ k. fold ◌+◌ 0 n p f ≤ fold ◌+◌ 0 k p f) (le_refl _)
    (λ k _ ih. le-put (p k) (fold ◌+◌ 0 k p f) (f k) (fold ◌+◌ 0 n p f) ih)
    m h

-- of larger ones no less
pub sum-le : (n : ℕ) (f g : ℕ → ℕ) → ((i : ℕ) → f i ≤ g i) → fold ◌+◌ 0 n all f ≤ fold ◌+◌ 0 n all g
unfolding fold
sum-le zero f g h = le_refl 0
sum-le (suc n) f g h = add-le-add (sum-le n f g h) (h n)
