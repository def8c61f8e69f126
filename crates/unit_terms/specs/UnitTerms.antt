-- What the six groups of a family of values add. A value is counted as counts are, each edge for what it is worth, so that terms, families and cells are those of counts.
use Rattle.std.specs.Prelude.{◌≡◌, List, [], ◌∷◌, ℕ, ◌+◌, ◌^◌, ◌≤◌, ◌<◌, get_or, length}
use Rattle.laws.specs.Words.{fold, all}
use Rattle.terms.specs.Terms.{term_c, places_n}

-- the row of a pattern
abbrev pub value_row : (ℕ → ℕ) → ℕ → List ℕ
value_row v p = term_c 6 v p 0 ∷ term_c 6 v p 1 ∷ term_c 6 v p 2 ∷ []

-- the table of a family's terms: a row for each of the eight patterns
pub record ValueTerms (v : ℕ → ℕ) (t : List (List ℕ)) : Type 0 where
  pub size : length t ≡ 8
  pub rows : (p : ℕ) → p < 8 → get_or t p [] ≡ value_row v p

-- six groups stand from `from` on, below 2^52 together
pub record SixValues (from : ℕ) (a : List ℕ) : Type 0 where
  pub inside : from + 6 ≤ length a
  pub few : fold ◌+◌ 0 6 all (places_n from a) < 2 ^ 52
