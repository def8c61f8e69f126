-- What a caller of the walk around a cell needs of numbers.
use Rattle.std.specs.Prelude.{◌≡◌, refl, not, ℕ, ◌≤◌, eqb, ltb}
use Rattle.std.proofs.Common.{⊎_elim, arith, lt-ltb, le-ltb, eq-eqb}
use borrow.Author.Tests.{ne_eqb}
use Rattle.laws.specs.Tests.{compared}

-- a number that is not above another is equal to it, or below it
pub equal-or-below : (x y : ℕ) → x ≤ y → eqb x y ≡ not (ltb x y)
equal-or-below x y h = ⊎_elim (λ l. rw (lt-ltb x y l, ne_eqb x y (λ e. omega arith)) refl) (λ l. rw (le-ltb x y l, eq-eqb x y (omega arith)) refl) (compared x y)
