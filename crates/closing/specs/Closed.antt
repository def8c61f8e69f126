-- Request C-17: "removing keeps the order of the rest and zeroes the freed place; other places stay".
use Rattle.std.specs.Prelude.{List, ◌∷◌, ◌++◌, ℕ, suc, ◌-◌, take, drop}

-- element p taken out of the first n: those before it, those after it up to the n-th, the freed place with z, and what stands behind
unfoldable pub closed : {A : Type 0} → A → ℕ → ℕ → List A → List A
closed z p n l = take p l ++ (take (n - suc p) (drop (suc p) l) ++ z ∷ drop n l)
