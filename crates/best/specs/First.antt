-- What is asked of a test that compares what two cells of a table hold.
use Rattle.std.specs.Prelude.{◌≡◌, Bool, List, ℕ, get_or, length, ◌<◌}

-- what a test may answer, `post x y r`, of what the cells i and j of a table hold is what b says of i and j; d stands past the table's end
abbrev pub Compares : {A : Type 0} → List A → A → (A → A → Bool → Type 0) → (ℕ → ℕ → Bool) → Type 0
Compares {A} xs d post b = (i j : ℕ) (r : Bool) → i < length xs → j < length xs → post (get_or xs i d) (get_or xs j d) r → r ≡ b i j
