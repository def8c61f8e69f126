-- A board file's tables: what patterns they hold, and how long a pole is.
use Rattle.std.specs.Prelude.{◌≡◌, ℕ, zero, suc, ◌%◌, ◌<◌, ◌≤◌, Bool, true, false, not, ◌&&◌, ◌||◌, List, [], ◌∷◌, ◌==◌, nat_lt, replicate, slice_index, slice_set, refl}
use Rattle.std.proofs.Common.{true≢false, arith, ltb-false}
use Rattle.ranges.specs.Ranges.{pole_length}

-- every place of the array holds a pattern, 0 to 7
abbrev pub Patterns : List ℕ → Type 0
Patterns ps = (i : ℕ) → slice_index ps i < 8

-- one pattern more is stored
pub pattern-stored : (ps : List ℕ) (k x : ℕ) → x < 8 → Patterns ps → Patterns (slice_set ps k x)
pattern-stored [] k x l h i = h i
pattern-stored (p ∷ ps) zero x l h zero = l
pattern-stored (p ∷ ps) zero x l h (suc i) = h (suc i)
pattern-stored (p ∷ ps) (suc k) x l h zero = h zero
pattern-stored (p ∷ ps) (suc k) x l h (suc i) = pattern-stored ps k x l (λ j. h (suc j)) i

-- where nothing is stored so far, each is 0
pub patterns-blank : (n : ℕ) → Patterns (replicate n 0)
patterns-blank zero i = omega arith
patterns-blank (suc n) zero = omega arith
patterns-blank (suc n) (suc i) = patterns-blank n i

-- a pole's length is at most 500
pub pole-most : (n : ℕ) → true ≡ pole_length n → n ≤ 500
unfolding pole_length
pole-most n e = at (nat_lt n 4) (nat_lt 500 n) refl e
  where
    at : (a b : Bool) → nat_lt 500 n ≡ b → true ≡ not (a || b) && not (n % 3 == 0) → n ≤ 500
    at true b q h = absurd (true≢false h)
    at false true q h = absurd (true≢false h)
    at false false q h = ltb-false 500 n q
