-- Conditions on a call, in an order: the call is refused by the number of the first that it does not meet, and by none where it meets them all.
use Rattle.std.specs.Prelude.{◌≡◌, ◌⊎◌, List, [], ◌∷◌, ℕ}

-- a condition: the fact that is asked of a call, and the number by which it is refused where this is the first that it does not meet
abbrev pub Condition : Type 1
Condition = ℕ × Type 0

-- all conditions are met
unfoldable pub AllMet : List Condition → Type 0
AllMet [] = Unit {0}
AllMet (condition ∷ more) = condition.1 × AllMet more

-- the first condition that is not met has the number n
unfoldable pub FirstFails : List Condition → ℕ → Type 0
FirstFails [] n = ⊥
FirstFails (condition ∷ more) n = ((condition.1 → ⊥) × (condition.0 ≡ n)) ⊎ (condition.1 × FirstFails more n)
