-- Document 01, 'Class tables': terms. "Per family of six groups, in the order short·2+bit, non-empty groups are added into an 8 by 3 table of terms, one
-- row a pattern, from 0, at each short class s where the pattern's bit (s + short) mod 3 is the group's bit."
use Rattle.std.specs.Prelude.{◌≡◌, Bool, false, not, ◌&&◌, ◌||◌, List, [], ◌∷◌, ℕ, ◌+◌, ◌/◌, ◌%◌, ◌≤◌, ◌<◌, eqb, get_or, length, Float}
use Rattle.std.specs.Float.{nan, binary32}
use Rattle.std.specs.Float.Ieee.{add}
use Rattle.laws.specs.Words.{fold, all, zero_f}
use Rattle.board.specs.Hits.{bit_at}
use Rattle.terms.specs.declared.FamilyTerm.{FamilyTerm}

-- group j = short · 2 + bit agrees with the pattern p at the short class s
abbrev pub agrees : ℕ → ℕ → ℕ → Bool
agrees p s j = eqb (bit_at p ((s + j / 2) % 3)) (j % 2)

-- group j is added: it is not empty, where c j is how many edges it has, and it agrees, or misses add too
abbrev pub adds : Bool → (ℕ → ℕ) → ℕ → ℕ → ℕ → Bool
adds misses c p s j = not (eqb (c j) 0) && (misses || agrees p s j)

-- what the first n groups add, "in the order short·2+bit", for any addition with its zero. Group j has c j edges. It adds x true j where it agrees, and x false j
-- where it does not, if misses add at all: to counts and weights they add nothing, to likelihood sums their own likelihood
unfoldable pub term_sum : {A : Type 0} → (A → A → A) → A → Bool → ℕ → (ℕ → ℕ) → (Bool → ℕ → A) → ℕ → ℕ → A
term_sum op z misses n c x p s = fold op z n (adds misses c p s) (λ j. x (agrees p s j) j)

-- to the count, and to the weight: only where it agrees
abbrev pub term_c : ℕ → (ℕ → ℕ) → ℕ → ℕ → ℕ
term_c n c = term_sum ◌+◌ 0 false n c (λ b. c)

abbrev pub term_w : ℕ → (ℕ → ℕ) → (ℕ → Float) → ℕ → ℕ → Float
term_w n c w = term_sum (add binary32) zero_f false n c (λ b. w)

-- all six
unfoldable pub term : (ℕ → ℕ) → (ℕ → Float) → ℕ → ℕ → FamilyTerm
term c w p s = record { count = term_c 6 c p s; weight = term_w 6 c w p s }

-- the row of a pattern
abbrev pub row : (ℕ → ℕ) → (ℕ → Float) → ℕ → List FamilyTerm
row c w p = term c w p 0 ∷ term c w p 1 ∷ term c w p 2 ∷ []

-- the table of a family (document 01's FamilyTerms): a row for each of the eight patterns
pub record Terms (c : ℕ → ℕ) (w : ℕ → Float) (t : List (List FamilyTerm)) : Type 0 where
  pub size : length t ≡ 8
  pub rows : (p : ℕ) → p < 8 → get_or t p [] ≡ row c w p

-- what is read past the end of a row
abbrev pub no_term : FamilyTerm
no_term = record { count = 0; weight = nan }

-- ---- parts of the room: place k of those from `at` on
abbrev pub places_n : ℕ → List ℕ → ℕ → ℕ
places_n at l k = get_or l (at + k) 0

abbrev pub places_f : ℕ → List Float → ℕ → Float
places_f at l k = get_or l (at + k) nan

-- six groups stand from `from` on, with at most 8,192 edges together
pub record Six (from : ℕ) (c : List ℕ) (w : List Float) : Type 0 where
  pub counts : from + 6 ≤ length c
  pub weights : from + 6 ≤ length w
  pub few : fold ◌+◌ 0 6 all (places_n from c) ≤ 8192
