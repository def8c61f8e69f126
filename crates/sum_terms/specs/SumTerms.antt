-- What the twelve groups of a family of likelihoods add: six match sums and six mismatch sums.
use Rattle.std.specs.Prelude.{◌≡◌, Bool, true, false, not, ◌&&◌, ◌||◌, cond, List, [], ◌∷◌, ℕ, zero, suc, ◌+◌, ◌^◌, ◌≤◌, ◌<◌, get_or, length, ℤ, pos, nat_abs, ◌+ℤ◌}
use Rattle.laws.specs.Words.{one, eq_z}
use Rattle.terms.specs.Terms.{term_sum}

-- place k of those from `at` on
abbrev pub places_z : ℕ → List ℤ → ℕ → ℤ
places_z at l k = get_or l (at + k) (pos 0)

-- ---- terms: what the first n groups add, m j of a group that agrees and u j of one that does not. Misses add too. No group is left out as empty, since adding 0 to a
-- whole number changes nothing (`term-all`): each counts as one that has edges
abbrev pub term_z : ℕ → (ℕ → ℤ) → (ℕ → ℤ) → ℕ → ℕ → ℤ
term_z n m u = term_sum ◌+ℤ◌ (pos 0) true n one (λ b j. cond b (m j) (u j))

-- the row of a pattern, and the table
abbrev pub row_z : (ℕ → ℤ) → (ℕ → ℤ) → ℕ → List ℤ
row_z m u p = term_z 6 m u p 0 ∷ term_z 6 m u p 1 ∷ term_z 6 m u p 2 ∷ []

-- the table of a family's terms: a row for each of the eight patterns
pub record TermsZ (m u : ℕ → ℤ) (t : List (List ℤ)) : Type 0 where
  pub size : length t ≡ 8
  pub rows : (p : ℕ) → p < 8 → get_or t p [] ≡ row_z m u p

-- six groups stand from `from` on and six from `also` on, each at most 2^53 in size
pub record Twelve (from also : ℕ) (a : List ℤ) : Type 0 where
  pub match : from + 6 ≤ length a
  pub mismatch : also + 6 ≤ length a
  pub small : (j : ℕ) → j < 6 → (nat_abs (places_z from a j) ≤ 2 ^ 53) × (nat_abs (places_z also a j) ≤ 2 ^ 53)

-- one of the first n match sums or of the first n mismatch sums is not 0
unfoldable pub some_sum : ℕ → (ℕ → ℤ) → (ℕ → ℤ) → Bool
some_sum zero m u = false
some_sum (suc n) m u = some_sum n m u || not (eq_z (m n) (pos 0) && eq_z (u n) (pos 0))
