-- The library's `position`, or the length where it finds nothing, is the first index of the definitions.
use Rattle.std.proofs.Common.{◌≡◌, Bool, true, false, cond, ltb, refl, ap, ◌∙◌, List, ℕ, ◌≤◌, length, get_or, Option, None, Some, arith}
use Rattle.std.specs.Option.{unwrap_or}
use Rattle.std.specs.List.{position_or_len}
use Rattle.std.proofs.lemmas.List.Sums.{position_or_len_is}
use borrow.Author.Tests.{ltb-false}
use Rattle.laws.specs.Words.{first}
use Rattle.laws.specs.First.{first-le, first_passes, first-before}

-- an index below the length or none, and the length in place of none
or-length : (k n : ℕ) → k ≤ n → unwrap_or (cond (ltb k n) (Some k) None) n ≡ k
or-length k n h = go (ltb k n) refl
  where
    go : (b : Bool) → ltb k n ≡ b → unwrap_or (cond b (Some k) None) n ≡ k
    go true e = refl
    go false e = omega (arith, ltb-false k n e)

module _ {A : Type 0} (test : A → Bool) (xs : List A) (d : A) where
  pub position-first : position_or_len test xs ≡ first (λ i. test (get_or xs i d)) (length xs)
  position-first =
      let at = λ (i : ℕ). test (get_or xs i d) in
      position_or_len_is test xs (first at (length xs)) d (first-le at (length xs)) (first-before at (length xs)) (first_passes at (length xs))

  -- what the call answers
  pub first-of_position : (found : Option ℕ) → found ≡ cond (ltb (position_or_len test xs) (length xs)) (Some (position_or_len test xs)) None
      → unwrap_or found (length xs) ≡ first (λ i. test (get_or xs i d)) (length xs)
  first-of_position found e =
      let at = λ (i : ℕ). test (get_or xs i d) in
      let few : position_or_len test xs ≤ length xs = omega (arith, position-first, first-le at (length xs)) in
      ap (λ o. unwrap_or o (length xs)) e ∙ or-length _ _ few ∙ position-first
