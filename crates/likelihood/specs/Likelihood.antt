-- Log likelihoods as whole numbers, after document 01, 'Soft selection'.
-- A float here is its value: `fin s m e` is the number m * 2 ^ e, negative where s is true, and 2 ^ e is the fraction `up e / down e`.
use Rattle.std.specs.Prelude.{◌≡◌, Bool, true, false, not, ◌&&◌, List, ℕ, ◌+◌, ◌*◌, ◌/◌, ◌^◌, ◌≤◌, ℤ, pos, neg_ℤ, nat_abs, Float}
use Rattle.std.specs.Int.Signed.{non_neg}
use Rattle.std.specs.Float.{nan, inf, fin, binary32}
use Rattle.std.specs.Float.Ieee.{up, down, le, round}

-- 'Each log likelihood is a finite f32 from -65,536 to 65,536.'
unfoldable pub acceptable : Float → Bool
acceptable x = le (fin true 1 (pos 16)) x && le x (fin false 1 (pos 16))

-- num / den to the nearest whole number, a half upwards
unfoldable pub half_up : ℕ → ℕ → ℕ
half_up num den = (2 * num + den) / (2 * den)

-- n with a sign: a size whose halves go up is a number whose halves go away from zero
abbrev pub signed : Bool → ℕ → ℤ
signed true n = neg_ℤ (pos n)
signed false n = pos n

-- 'Each likelihood times 2^24 becomes the nearest whole number, halves away from zero.' (For NaN and the infinities, which are refused, it says 0.)
unfoldable pub quantised : Float → ℤ
unfolding half_up
quantised (fin s m e) = signed s (half_up (m * up e * 2 ^ 24) (down e))
quantised nan = pos 0
quantised (inf s) = pos 0

-- 'A total returns to f32 as sum / 2^24 rounded once, nearest, ties to even.' (`round` is the rounding of every operation on floats.)
unfoldable pub dequantised : ℤ → Float
unfolding round
dequantised sum = round binary32 (not (non_neg sum)) (nat_abs sum) (2 ^ 24)

-- What `quantize_ll` answers: the quantised x, and that it is at most 2 ^ 40 in size.
pub record Quantised (x : Float) (r : ℤ) : Type 0 where
  pub value : r ≡ quantised x
  pub size : nat_abs r ≤ 2 ^ 40

-- the two log likelihoods of each edge of a list
pub record Likelihoods : Type 0 where
  pub matches : List Float
  pub mismatches : List Float

-- two columns of likelihoods as one record
abbrev pub likelihoods : List Float → List Float → Likelihoods
likelihoods m u = record { matches = m; mismatches = u }
