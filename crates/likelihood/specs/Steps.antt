-- What the steps between answer: one rounding in both ways, the size of a quantised f32 by its bits, and the bits of a sum.
use Rattle.std.specs.Prelude.{◌≡◌, Bool, true, false, cond, ℕ, ◌+◌, ◌^◌, ◌≤◌, ◌<◌}
use Rattle.std.specs.Float.{binary32}
use Rattle.std.specs.Float.Ieee.{round, of_fields, of_bits}
use Rattle.std.specs.Float.Ieee.Nearest.{closest}
use Rattle.likelihood.specs.Likelihood.{half_up, signed, quantised}

-- num / den to the nearest whole number: a half upwards, or to the even one
abbrev pub rounded : Bool → ℕ → ℕ → ℕ
rounded true num den = half_up num den
rounded false num den = closest num den

-- r is the size of the quantised f32 whose exponent's field is E and whose digits below the leading one are t, whichever its sign.
pub record Magnitude (E t r : ℕ) : Type 0 where
  pub value : (s : Bool) → quantised (of_fields binary32 s E t) ≡ signed s r
  pub size : r < 2 ^ 41

-- r is, but for the sign's bit, the bit pattern of n / 2 ^ 24 rounded to f32, and no NaN's.
pub record Pattern (n r : ℕ) : Type 0 where
  pub value : (s : Bool) → of_bits binary32 (cond s 2147483648 0 + r) ≡ round binary32 s n (2 ^ 24)
  pub number : r ≤ 2139095040
