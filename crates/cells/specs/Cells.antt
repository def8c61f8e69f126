-- Document 01, 'Class tables': cells. "Horizontal cells are (r mod 167, c mod 3); vertical cells are (r mod 3, c mod 167); 501 each, stored row by row, 3 and
-- 167 wide." "Every cell's count .. equals the edge-by-edge count .. over the edges of its orientation." "Families are added to cells by rising long
-- residue, from 0." 167 is read as the table's length.
use Rattle.std.specs.Prelude.{Bool, false, cond, List, ℕ, ◌+◌, ◌*◌, ◌/◌, ◌%◌, get_or, length, Float}
use Rattle.std.specs.Float.{binary32}
use Rattle.std.specs.Float.Ieee.{add}
use Rattle.laws.specs.Words.{fold, all, zero_f}
use Rattle.board.specs.Hits.{EdgeList, Board}
use Rattle.board.specs.Sides.{table_of, period_of, side_hits}
use Rattle.cells.specs.Listed.{listed}
use Rattle.groups.specs.Groups.{group_sum, group_count, confidence_at}
use Rattle.terms.specs.Terms.{term_sum}

-- ---- the classes of a cell
-- how many cells stand in a row of the table
abbrev pub width : Board → Bool → ℕ
width B s = cond s 3 (period_of B false)

-- cell k is the class (k / width, k mod width), of which one goes round the pattern table and one by 3
unfoldable pub long_class : Board → Bool → ℕ → ℕ
long_class B s k = cond s (k / width B s) (k % width B s)

unfoldable pub short_class : Board → Bool → ℕ → ℕ
short_class B s k = cond s (k % width B s) (k / width B s)

-- ---- families added up
-- the pattern that a class reads for a family: as many places after the family as the class says, round the table
abbrev pub pattern_at : List ℕ → ℕ → ℕ → ℕ
pattern_at ps class family = get_or ps ((class + family) % length ps) 0

-- "Families are added to cells by rising long residue, from 0": the first n of them at the class (lc, sc), where a family adds `term f p s` at pattern p and short
-- class s, for any addition with its zero
unfoldable pub cell_sum : {A : Type 0} → (A → A → A) → A → (ℕ → ℕ → ℕ → A) → List ℕ → ℕ → ℕ → ℕ → A
cell_sum op z term ps n lc sc = fold op z n all (λ f. term f (pattern_at ps lc f) sc)

-- group j of family f, of groups that hold g k each
abbrev pub family : {A : Type 0} → (ℕ → A) → ℕ → ℕ → A
family g f j = g (f * 6 + j)

-- what family f adds, where group k has g k edges and holds x true k for a hit and x false k for a miss
abbrev pub family_of : {A : Type 0} → (A → A → A) → A → Bool → (ℕ → ℕ) → (Bool → ℕ → A) → ℕ → ℕ → ℕ → A
family_of op z misses g x f = term_sum op z misses 6 (family g f) (λ b. family (x b) f)

-- to the counts, and to the weights
abbrev pub family_c : (ℕ → ℕ) → ℕ → ℕ → ℕ → ℕ
family_c g = family_of ◌+◌ 0 false g (λ b. g)

abbrev pub family_w : (ℕ → ℕ) → (ℕ → Float) → ℕ → ℕ → ℕ → Float
family_w g w = family_of (add binary32) zero_f false g (λ b. w)

-- ---- what a cell holds
-- its count: the hits of its side's edges at the origin that is its class
unfoldable pub cell_count : Board → EdgeList → ℕ → Bool → ℕ → ℕ
cell_count B E t s k = side_hits B E t s (k / width B s) (k % width B s)

-- what edges hold, by groups, terms and families, at the class (lc, sc) of the side s, where edge i holds x true i for a hit and x false i for a miss, and misses add
-- or do not: the three sentences together, for any addition
abbrev pub class_sum : {A : Type 0} → (A → A → A) → A → Bool → (Bool → ℕ → A) → Board → EdgeList → ℕ → Bool → ℕ → ℕ → A
class_sum op z misses x B E t s lc sc = cell_sum op z (family_of op z misses (group_count B E t s) (λ b. group_sum op z (x b) B E t s)) (table_of B s) (period_of B s) lc sc

-- its weight, in the stated order of rounding
unfoldable pub cell_weight : Board → EdgeList → ℕ → Bool → ℕ → Float
cell_weight B E t s k = class_sum (add binary32) zero_f false (λ b. confidence_at E) B E t s (long_class B s k) (short_class B s k)

-- ---- the tables of transform t: the counts of the side s, and its weights, cell by cell
unfoldable pub counts_of : Board → EdgeList → ℕ → Bool → List ℕ
counts_of B E t s = listed (3 * period_of B s) (cell_count B E t s)

unfoldable pub weights_of : Board → EdgeList → ℕ → Bool → List Float
weights_of B E t s = listed (3 * period_of B s) (cell_weight B E t s)
