-- What stands on a page after text was put on it. A page has 32,768 places.
use Rattle.std.specs.Prelude.{◌≡◌, ◌⊎◌, List, ℕ, ◌-◌, ◌++◌, min, length, take, Option, IfSome}

-- how many of n bytes a page takes from a place on
abbrev pub taken : ℕ → ℕ → ℕ
taken at n = min n (32768 - at)

-- the text p with the text t behind it, as much of t as finds room
unfoldable pub put_behind : List ℕ → List ℕ → List ℕ
put_behind p t = take 32768 (p ++ t)

-- the page q is the page p with a text written on it, where it is known which: as much of it as finds room, or q is full
abbrev pub IsWritten : List ℕ → Option (List ℕ) → List ℕ → Type 0
IsWritten p text q = IfSome text (λ t. (q ≡ put_behind p t) ⊎ (length q ≡ 32768))
