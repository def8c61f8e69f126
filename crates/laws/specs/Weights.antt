-- f32 weights: finite, with no minus sign, and at most a count. Every sum of confidences in the tables is one.
use Rattle.std.specs.Prelude.{◌≡◌, Bool, true, false, ℕ, ◌*◌, ◌≤◌, T, Float}
use Rattle.std.specs.Float.{nan, inf, fin, binary32}
use Rattle.std.specs.Float.Ieee.{up, down, fits}

-- finite, with no minus sign, and at most a
abbrev pub Upto : Float → ℕ → Type 0
Upto nan a = ⊥
Upto (inf s) a = ⊥
Upto (fin true m e) a = ⊥
Upto (fin false m e) a = m * up e ≤ a * down e

-- finite, with no minus sign, and at most the fraction a / c
abbrev pub UptoOver : Float → ℕ → ℕ → Type 0
UptoOver nan a c = ⊥
UptoOver (inf s) a c = ⊥
UptoOver (fin true m e) a c = ⊥
UptoOver (fin false m e) a c = m * up e * c ≤ a * down e

-- the same, or -0
abbrev pub WeightOver : Float → ℕ → ℕ → Type 0
WeightOver nan a c = ⊥
WeightOver (inf s) a c = ⊥
WeightOver (fin true m e) a c = m ≡ 0
WeightOver (fin false m e) a c = m * up e * c ≤ a * down e

-- finite, and at most a in size, whatever the sign
abbrev pub Within : Float → ℕ → Type 0
Within nan a = ⊥
Within (inf s) a = ⊥
Within (fin s m e) a = m * up e ≤ a * down e

-- finite, with no minus sign
abbrev pub weightlike : Float → Bool
weightlike nan = false
weightlike (inf s) = false
weightlike (fin true m e) = false
weightlike (fin false m e) = true

-- Request C-14: "adding +0 to a weight without a minus sign, zero included, changes no bit." Such a weight: one that f32 holds, finite, with no minus
-- sign. `add-plus-zero` (PlusZero.antt) is the sentence itself.
abbrev pub Unsigned : Float → Type 0
Unsigned x = T (weightlike x) × T (fits binary32 x)
