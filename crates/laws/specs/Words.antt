-- THE SMALL WORDS that definitions rest on, apart from their laws: these stand in the files that are named.
use Rattle.std.specs.Prelude.{◌≡◌, Bool, true, false, ◌&&◌, ◌||◌, cond, List, ◌++◌, ℕ, zero, suc, ◌+◌, ◌*◌, ◌-◌, ◌/◌, ◌%◌, ◌≤◌, T, ltb, eqb, drop, replicate, ℤ, pos, negsuc, Float}
use Rattle.std.specs.Float.{nan, inf, fin}
use Rattle.std.specs.Float.Ieee.{up, down, lt}
use Rattle.std.specs.Float.Ieee.Scale.{finite}

-- ---- folds: of the chosen ones of f 0, .., f (n - 1), in that order, from z (Fold.antt)
-- x is added to a where it is chosen
abbrev pub put {ℓ} : {A : Type ℓ} → (A → A → A) → Bool → A → A → A
put op true a x = op a x
put op false a x = a

-- the fold itself
unfoldable pub fold {ℓ} : {A : Type ℓ} → (A → A → A) → A → ℕ → (ℕ → Bool) → (ℕ → A) → A
fold op z zero p f = z
fold op z (suc n) p f = put op (p n) (fold op z n p f) (f n)

-- everything is chosen
abbrev pub all : ℕ → Bool
all i = true

-- each adds one
abbrev pub one : ℕ → ℕ
one i = 1

-- how many below n are chosen
abbrev pub count : ℕ → (ℕ → Bool) → ℕ
count n p = fold ◌+◌ 0 n p one

-- ---- searches (First.antt, Best.antt, Second.antt)
-- the least index at which a test holds, of k tests from index i on; i + k if there is none
unfoldable pub first_from : (ℕ → Bool) → ℕ → ℕ → ℕ
first_from p i zero = i
first_from p i (suc k) = cond (p i) i (first_from p (suc i) k)

-- the least index below n
unfoldable pub first : (ℕ → Bool) → ℕ → ℕ
first p n = first_from p 0 n

-- i where it beats a, else a
abbrev pub better : (ℕ → ℕ → Bool) → ℕ → ℕ → ℕ
better b i a = cond (b i a) i a

-- the first index below n that no index below n beats
unfoldable pub first_best : (ℕ → ℕ → Bool) → ℕ → ℕ
first_best b zero = 0
first_best b (suc i) = better b i (first_best b i)

-- i beats j by a number
abbrev pub above : (ℕ → ℕ) → ℕ → ℕ → Bool
above f i j = ltb (f j) (f i)

-- by a number and then by another order
abbrev pub lex_beats : (ℕ → ℕ) → (ℕ → ℕ → Bool) → ℕ → ℕ → Bool
lex_beats f w i j = ltb (f j) (f i) || (eqb (f i) (f j) && w i j)

-- the first index but k, from which the search for a second starts
abbrev pub other : ℕ → ℕ
other k = cond (eqb k 0) 1 0

-- the first best of the first n indices but k
unfoldable pub second : (ℕ → ℕ → Bool) → ℕ → ℕ → ℕ
second b k zero = other k
second b k (suc i) = cond (eqb i k) (second b k i) (better b i (second b k i))

-- ---- remainders (RemainderLaws.antt, Residues.antt)
-- z modulo n, from 0 to n - 1, "never negative": -(a + 1) lies n - 1 - (a mod n) above a multiple of n
unfoldable pub emod : ℤ → ℕ → ℕ
emod (pos a) n = a % n
emod (negsuc a) n = n - suc (a % n)

-- a sum with the residue s by 3 and l by L
unfoldable pub numer : ℕ → ℕ → ℕ → ℕ
numer L s l = L % 3 * L * s + ((3 - L % 3) * L + 1) * l

-- the number below 3 L with the residue s by 3 and l by L: of 167, document 01's (334 · s + 168 · l) mod 501
unfoldable pub joint : ℕ → ℕ → ℕ → ℕ
joint L s l = numer L s l % (3 * L)

-- ---- the grid of origins and pairs of cells (GridLaws.antt). An origin is one number, its key: row · columns + column, so that row-major order is `<`
-- the keys of pairs of cells, and the horizontal and vertical cell of a key; `none` is above every key
pub record Grid : Type 0 where
  pub none : ℕ
  pub key : ℕ → ℕ → ℕ
  pub h_of : ℕ → ℕ
  pub v_of : ℕ → ℕ

-- the row that two cells name: horizontal cell h is the class (h / 3, h mod 3), vertical cell v the class (v / M, v mod M), "stored row by row"
abbrev pub row_of : ℕ → ℕ → ℕ → ℕ → ℕ
row_of L M h v = joint L (v / M) (h / 3)

-- the column
abbrev pub col_of : ℕ → ℕ → ℕ → ℕ
col_of M h v = joint M (h % 3) (v % M)

-- the origins of the board whose horizontal table has L patterns and whose vertical table has M: 3 L rows of 3 M columns
abbrev pub origins : ℕ → ℕ → Grid
origins L M = record {
  none = 3 * L * (3 * M);
  key = λ h v. row_of L M h v * (3 * M) + col_of M h v;
  h_of = λ k. k / (3 * M) % L * 3 + k % (3 * M) % 3;
  v_of = λ k. k / (3 * M) % 3 * M + k % (3 * M) % M;
}

-- ---- whole numbers, floats, lists (Whole.antt, Weights.antt, Cleared.antt)
-- two whole numbers are equal, as a test
abbrev pub eq_z : ℤ → ℤ → Bool
eq_z (pos a) (pos b) = eqb a b
eq_z (pos a) (negsuc b) = false
eq_z (negsuc a) (pos b) = false
eq_z (negsuc a) (negsuc b) = eqb a b

-- the floats 0 and 1
abbrev pub zero_f : Float
zero_f = fin false 0 (pos 0)

abbrev pub one_f : Float
one_f = fin false 1 (pos 0)

-- no NaN and no infinity
abbrev pub Finite : Float → Type 0
Finite x = T (finite x)

-- a finite float from 0 to a, -0 included
abbrev pub Weight : Float → ℕ → Type 0
Weight nan a = ⊥
Weight (inf s) a = ⊥
Weight (fin true m e) a = m ≡ 0
Weight (fin false m e) a = m * up e ≤ a * down e

-- weight i is greater than weight j
abbrev pub heavier : (ℕ → Float) → ℕ → ℕ → Bool
heavier w i j = lt (w j) (w i)

-- what lies past the first n places; shut, since a literal n would unroll
unfoldable pub surplus : {A : Type 0} → ℕ → List A → List A
surplus n l = drop n l

-- the first n places hold a, the surplus what it held
unfoldable pub cleared : {A : Type 0} → A → ℕ → List A → List A
cleared a n l = replicate n a ++ surplus n l
