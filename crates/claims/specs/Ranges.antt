-- Document 01, 'Numbers that bound the domain': the ends of every range and one beyond, as one table under a single claim, computed over the definitions. Floats are
-- given by their bits: `of_bits binary32 2147483648` is -0, 1065353216 is 1, and the next number is the next f32 away from 0.
use Rattle.std.specs.Prelude.{◌≡◌, refl, true, false, [], ◌∷◌, ◌*◌, pos, negsuc, replicate}
use Rattle.std.specs.Float.{binary32}
use Rattle.std.specs.Float.Ieee.{of_bits, of_fields, add, le, lt, eq, sum, round}
use Rattle.laws.specs.Words.{first_from, first, zero_f, one_f}
use Rattle.likelihood.specs.Likelihood.{acceptable}
use Rattle.checks.specs.Checks.{far, size_bad, origin_bad}
use Rattle.ranges.specs.Ranges.{bad_byte, first_bad_byte, in_range, margin_top, transforms_bad, pole_length, patterns_bad, horizontal_bad, vertical_bad}
use Rattle.admission.specs.Refusals.{asked_length, room_short, soft_room_short}

pub record Ranges : Type 0 where
  -- confidences: -0, 0 and 1 are taken, and -0 adds as 0; NaN, the next f32 below 0 and above 1 are not
  pub confidence_minus_zero : in_range one_f (of_bits binary32 2147483648) ≡ true
  pub confidence_zero : in_range one_f (of_bits binary32 0) ≡ true
  pub confidence_one : in_range one_f (of_bits binary32 1065353216) ≡ true
  pub minus_zero_adds_nothing : add binary32 zero_f (of_bits binary32 2147483648) ≡ zero_f
  pub confidence_nan : in_range one_f (of_bits binary32 2143289344) ≡ false
  pub confidence_below_zero : in_range one_f (of_bits binary32 2147483649) ≡ false
  pub confidence_above_one : in_range one_f (of_bits binary32 1065353217) ≡ false
  -- the error limit has the same range; the soft margin goes to 65,536, and not to the next f32 or to infinity
  pub margin_largest : in_range margin_top (of_bits binary32 1199570944) ≡ true
  pub margin_above : in_range margin_top (of_bits binary32 1199570945) ≡ false
  pub margin_infinite : in_range margin_top (of_bits binary32 2139095040) ≡ false
  pub margin_nan : in_range margin_top (of_bits binary32 2143289344) ≡ false
  pub margin_below_zero : in_range margin_top (of_bits binary32 2147483649) ≡ false
  -- likelihoods: -65,536 and 65,536 are taken; the next f32 beyond either, the infinities and NaN are not
  pub likelihood_least : acceptable (of_bits binary32 3347054592) ≡ true
  pub likelihood_largest : acceptable (of_bits binary32 1199570944) ≡ true
  pub likelihood_below : acceptable (of_bits binary32 3347054593) ≡ false
  pub likelihood_above : acceptable (of_bits binary32 1199570945) ≡ false
  pub likelihood_infinite : acceptable (of_bits binary32 2139095040) ≡ false
  pub likelihood_minus_infinite : acceptable (of_bits binary32 4286578688) ≡ false
  pub likelihood_nan : acceptable (of_bits binary32 2143289344) ≡ false
  -- rows and columns: -1,000,000 and 1,000,000 are taken, one beyond is not
  pub row_least : far (negsuc 999999) ≡ false
  pub row_largest : far (pos 1000000) ≡ false
  pub row_below : far (negsuc 1000000) ≡ true
  pub row_above : far (pos 1000001) ≡ true
  -- lists: 1 to 8,192 edges, and none for match statistics
  pub edges_none : size_bad 1 0 ≡ true
  pub edges_one : size_bad 1 1 ≡ false
  pub edges_most : size_bad 1 8192 ≡ false
  pub edges_too_many : size_bad 1 8193 ≡ true
  pub stats_none : size_bad 0 0 ≡ false
  -- orientation codes and bits: 0 and 1; transform numbers and patterns: 0 to 7
  pub code_one : bad_byte 1 (1 ∷ []) 0 ≡ false
  pub code_two : bad_byte 1 (2 ∷ []) 0 ≡ true
  pub number_seven : bad_byte 7 (7 ∷ []) 0 ≡ false
  pub number_eight : bad_byte 7 (8 ∷ []) 0 ≡ true
  -- 1 to 8 transforms
  pub transforms_none : transforms_bad [] ≡ true
  pub transforms_one : transforms_bad (0 ∷ []) ≡ false
  pub transforms_eight : transforms_bad (replicate 8 7) ≡ false
  pub transforms_nine : transforms_bad (replicate 9 7) ≡ true
  -- a vertical table of 167; a horizontal one of 4 to 500, and no multiple of 3
  pub vertical_166 : vertical_bad (replicate 166 7) ≡ true
  pub vertical_167 : vertical_bad (replicate 167 7) ≡ false
  pub vertical_168 : vertical_bad (replicate 168 7) ≡ true
  pub horizontal_none : horizontal_bad [] ≡ true
  pub horizontal_3 : horizontal_bad (replicate 3 7) ≡ true
  pub horizontal_4 : horizontal_bad (replicate 4 7) ≡ false
  pub horizontal_166 : horizontal_bad (replicate 166 7) ≡ false
  pub horizontal_167 : horizontal_bad (replicate 167 7) ≡ false
  pub horizontal_168 : horizontal_bad (replicate 168 7) ≡ true
  pub horizontal_500 : horizontal_bad (replicate 500 7) ≡ false
  pub horizontal_501 : horizontal_bad (replicate 501 7) ≡ true
  pub horizontal_502 : horizontal_bad (replicate 502 7) ≡ true
  -- origins of match statistics: rows below 3L, 501 on the flat board, and columns 0 to 500
  pub origin_last : origin_bad 167 500 500 ≡ false
  pub origin_row_off : origin_bad 167 501 0 ≡ true
  pub origin_column_off : origin_bad 167 0 501 ≡ true
  pub origin_last_of_4 : origin_bad 4 11 500 ≡ false
  pub origin_off_4 : origin_bad 4 12 0 ≡ true
  -- room on the flat board: 3,006 u32, 3,006 f32 and 5,010 i64
  pub room_enough : soft_room_short 167 3006 3006 5010 ≡ false
  pub room_of_counts : room_short 167 3005 3006 ≡ true
  pub room_of_weights : room_short 167 3006 3005 ≡ true
  pub room_of_sums : soft_room_short 167 3006 3006 5009 ≡ true
  -- of the smallest pole, which is also asked for where L is bad, and of the largest
  pub room_of_4 : soft_room_short 4 1539 1539 2565 ≡ false
  pub room_of_bad : soft_room_short 501 1539 1539 2565 ≡ false
  pub short_of_4 : room_short 4 1538 1539 ≡ true
  pub short_of_bad : room_short 3 1538 1539 ≡ true
  pub short_sums_of_bad : soft_room_short 0 1539 1539 2564 ≡ true
  pub room_of_500 : soft_room_short 500 6003 6003 10005 ≡ false
  pub short_of_500 : room_short 500 6002 6003 ≡ true
  -- the board: 501 rows of 501 columns are 251,001 origins
  pub origins : 501 * 501 ≡ 251001

-- THE TABLE HOLDS
pub ranges : Ranges
unfolding in_range acceptable le lt eq add sum round of_bits of_fields far size_bad transforms_bad pole_length patterns_bad horizontal_bad vertical_bad first_bad_byte first first_from origin_bad asked_length soft_room_short room_short
ranges = record {
  confidence_minus_zero = refl;
  confidence_zero = refl;
  confidence_one = refl;
  minus_zero_adds_nothing = refl;
  confidence_nan = refl;
  confidence_below_zero = refl;
  confidence_above_one = refl;
  margin_largest = refl;
  margin_above = refl;
  margin_infinite = refl;
  margin_nan = refl;
  margin_below_zero = refl;
  likelihood_least = refl;
  likelihood_largest = refl;
  likelihood_below = refl;
  likelihood_above = refl;
  likelihood_infinite = refl;
  likelihood_minus_infinite = refl;
  likelihood_nan = refl;
  row_least = refl;
  row_largest = refl;
  row_below = refl;
  row_above = refl;
  edges_none = refl;
  edges_one = refl;
  edges_most = refl;
  edges_too_many = refl;
  stats_none = refl;
  code_one = refl;
  code_two = refl;
  number_seven = refl;
  number_eight = refl;
  transforms_none = refl;
  transforms_one = refl;
  transforms_eight = refl;
  transforms_nine = refl;
  vertical_166 = refl;
  vertical_167 = refl;
  vertical_168 = refl;
  horizontal_none = refl;
  horizontal_3 = refl;
  horizontal_4 = refl;
  horizontal_166 = refl;
  horizontal_167 = refl;
  horizontal_168 = refl;
  horizontal_500 = refl;
  horizontal_501 = refl;
  horizontal_502 = refl;
  origin_last = refl;
  origin_row_off = refl;
  origin_column_off = refl;
  origin_last_of_4 = refl;
  origin_off_4 = refl;
  room_enough = refl;
  room_of_counts = refl;
  room_of_weights = refl;
  room_of_sums = refl;
  room_of_4 = refl;
  room_of_bad = refl;
  short_of_4 = refl;
  short_of_bad = refl;
  short_sums_of_bad = refl;
  room_of_500 = refl;
  short_of_500 = refl;
  origins = refl;
}
