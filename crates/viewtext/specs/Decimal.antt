-- What a decimal becomes: its digits, read as a whole number, over a power of ten. Both are below 2^24, where an f32 is every whole number, so the two conversions
-- are exact and the one division rounds once: to the f32 nearest to what is written.
use Rattle.std.specs.Prelude.{ℕ, ◌+◌, ◌*◌, Bool, true, false, cond, pos, from_bits, nat_lt, Float}
use Rattle.std.specs.Float.{binary32}
use Rattle.std.specs.Float.Ieee.{of_int, div, sub}

-- the digits n over the power of ten s
abbrev pub quotient : ℕ → ℕ → Float
quotient n s = div binary32 (of_int binary32 (pos n)) (of_int binary32 (pos s))

-- the same with a sign: 0 minus it where there is a minus
abbrev pub float_of : Bool → ℕ → ℕ → Float
float_of true n s = sub binary32 (from_bits binary32 0) (quotient n s)
float_of false n s = quotient n s

-- the digits n with the digit x behind them; 2^24 or more, which no number of the command has, where there are too many or x is no digit
abbrev pub next_digits : ℕ → ℕ → ℕ
next_digits n x = cond (nat_lt 1677721 n) 16777216 (cond (nat_lt 9 x) 16777216 (n * 10 + x))

-- the power of ten after one digit more: ten times as large behind the point; 0, which no number has, where it would pass 10^7
abbrev pub next_scale : Bool → ℕ → ℕ
next_scale true s = cond (nat_lt 1000000 s) 0 (s * 10)
next_scale false s = s
