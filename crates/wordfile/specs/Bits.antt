-- What a word of a file stands for: a coordinate, or a float.
use Rattle.std.specs.Prelude.{◌≡◌, Bool, true, false, not, cond, ℕ, ◌-◌, ◌%◌, T, leb, ltb, ℤ, pos, negsuc, Float}
use Rattle.std.proofs.Common.{leb-true, le-ltb}
use Rattle.std.specs.Float.{binary32, nan}
use Rattle.std.specs.Float.Ieee.{nan_bits, of_bits}
use Rattle.std.specs.Float.Ieee.Bits.{nan_bits_above}

-- without its sign a pattern is at most infinity's
unfoldable pub real_bits : ℕ → Bool
real_bits x = leb (x % 2147483648) 2139095040

pub real-bits : (x : ℕ) → real_bits x ≡ true → T (not (nan_bits binary32 x))
unfolding real_bits
real-bits x e = rw (nan_bits_above binary32 x, le-ltb 2139095040 (x % 2147483648) (leb-true (x % 2147483648) 2139095040 e)) tt

-- by two's complement: below 2^31 the number itself, else that number less 2^32
unfoldable pub signed_of : ℕ → ℤ
signed_of x = cond (ltb x 2147483648) (pos x) (negsuc (4294967295 - x))

-- the float of these bits; one NaN for all of a NaN's
unfoldable pub float_of : ℕ → Float
float_of x = cond (real_bits x) (of_bits binary32 x) nan

pub float-real : (x : ℕ) → real_bits x ≡ true → of_bits binary32 x ≡ float_of x
unfolding float_of
float-real x e = rw e

pub float-nan : (x : ℕ) → real_bits x ≡ false → nan ≡ float_of x
unfolding float_of
float-nan x e = rw e

pub signed_low : (x : ℕ) → ltb x 2147483648 ≡ true → pos x ≡ signed_of x
unfolding signed_of
signed_low x e = rw e

pub signed_high : (x : ℕ) → ltb x 2147483648 ≡ false → negsuc (4294967295 - x) ≡ signed_of x
unfolding signed_of
signed_high x e = rw e
