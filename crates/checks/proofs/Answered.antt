-- What the library's `get` and `find` answer, in the words of the definitions.
use Rattle.std.proofs.Common.{◌≡◌, ap, sym, ◌∙◌, Bool, true, false, Bor, Option, None, Some, ℕ, ◌≤◌, ◌<◌, arith}
use Rattle.std.specs.Option.{MatchOption, unwrap_or, option_map}
use Rattle.laws.specs.Words.{first}
use Rattle.laws.specs.First.{first-least}

-- a test of the element that `get` found, and of d where it found none
pub told-of_get : {A : Type 0} (p : A → Bool) (d : A) (P : Type 0) (Q : Bor A → Type 0) (o : Option (Bor A)) (r : Bool) (z : A)
    → unwrap_or (option_map (λ x. x.now) o) d ≡ z → MatchOption o P Q → (P → r ≡ p d) → ((x : Bor A) → Q x → r ≡ p x.now) → r ≡ p z
told-of_get p d P Q None r z e m none some = none m ∙ ap p e
told-of_get p d P Q (Some x) r z e m none some = some x m ∙ ap p e

-- the first number below n that passes, and n where `find` found none
pub first-of_find : (p : ℕ → Bool) (n : ℕ) (o : Option ℕ)
    → MatchOption o ((k : ℕ) → 0 ≤ k → k < n → p k ≡ false) (λ i. (0 ≤ i) × (i < n) × (p i ≡ true) × ((k : ℕ) → 0 ≤ k → k < i → p k ≡ false))
    → unwrap_or o n ≡ first p n
first-of_find p n None m = sym (first-least p n n (omega arith) (λ j h. m j (omega arith) h) (λ h. absurd (omega arith)))
first-of_find p n (Some i) m = sym (first-least p n i (omega (arith, m.1)) (λ j h. m.3 j (omega arith) h) (λ h. m.2))
