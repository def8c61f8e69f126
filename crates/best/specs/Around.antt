-- What the walk around a cell that no other beats is asked of, and what it tells.
use Rattle.std.specs.Prelude.{◌≡◌, Bool, true, false, not, List, ℕ, length, ◌<◌}
use Rattle.laws.specs.Words.{count, second}
use Rattle.laws.specs.Best.{Weak}
use Rattle.best.specs.First.{Compares}

-- b is what the comparison says of two cells, a weak order in which no cell is above cell k; p says which cells are not below k, and q which of these pass the further test; d stands past the table's end
pub record Walk {A : Type 0} (xs : List A) (d : A) (k : ℕ) (post : A → A → Bool → Type 0) (said : ℕ → Bool → Type 0) (b : ℕ → ℕ → Bool) (p q : ℕ → Bool) : Type 0 where
  pub compares : Compares xs d post b
  pub weak : Weak (length xs) b
  pub top : (i : ℕ) → i < length xs → b i k ≡ false
  pub tied : (i : ℕ) → i < length xs → p i ≡ not (b k i)
  pub same : (i : ℕ) (r : Bool) → i < length xs → p i ≡ true → said i r → r ≡ q i
  pub less : (i : ℕ) → i < length xs → p i ≡ false → q i ≡ false

-- of the first n cells: how many pass p, how many pass q, and the first best of those other than k
abbrev pub Told : ℕ → ℕ → (ℕ → ℕ → Bool) → (ℕ → Bool) → (ℕ → Bool) → ℕ → ℕ → ℕ → Type 0
Told n k b p q tied alike next = (tied ≡ count n p) × (alike ≡ count n q) × (next ≡ second b k n)
