-- Document 01, 'Hard selection': "its best origin is the row-major first over optimal pairs". By the grid's keys, where row-major order is `<`; the grid's
-- `none` where there is no pair.
use Rattle.std.specs.Prelude.{◌≡◌, Bool, cond, ℕ, zero, suc, ◌<◌, ltb}
use Rattle.laws.specs.Words.{Grid}

-- the lower of two keys
abbrev pub lower : ℕ → ℕ → ℕ
lower k a = cond (ltb k a) k a

-- the least of a and the keys f i of the first n cells i that pass
unfoldable pub lowest : (ℕ → Bool) → (ℕ → ℕ) → ℕ → ℕ → ℕ
lowest p f a zero = a
lowest p f a (suc i) = cond (p i) (lower (f i) (lowest p f a i)) (lowest p f a i)

-- the least key over the pairs of one of the first n horizontal cells and one of w vertical cells that pass
unfoldable pub row_major : Grid → ℕ → (ℕ → Bool) → (ℕ → Bool) → ℕ → ℕ
row_major G w ph pv zero = G.none
row_major G w ph pv (suc h) = cond (ph h) (lowest pv (G.key h) (row_major G w ph pv h) w) (row_major G w ph pv h)

-- what a test of cells may answer of the cells below n, `post i r`, is what p says of them
abbrev pub Tells : ℕ → (ℕ → Bool → Type 0) → (ℕ → Bool) → Type 0
Tells n post p = (i : ℕ) (r : Bool) → i < n → post i r → r ≡ p i
