-- Document 01, 'Numbers that bound the domain': what of bytes, confidences, tables and settings is out of range, and where in a list it first is.
use Rattle.std.specs.Prelude.{Bool, false, not, ◌||◌, ◌&&◌, List, ℕ, ◌%◌, ltb, eqb, get_or, length, pos, Float}
use Rattle.std.specs.Float.{nan, fin}
use Rattle.std.specs.Float.Ieee.{le}
use Rattle.laws.specs.Words.{first, zero_f, one_f}

-- "Orientation code is 0 horizontal, 1 vertical. Bit is 0 or 1.", transform numbers and table bytes "each 0 to 7": a byte above top
abbrev pub bad_byte : ℕ → List ℕ → ℕ → Bool
bad_byte top xs i = ltb top (get_or xs i 0)

-- the first such place, or the length where there is none
unfoldable pub first_bad_byte : ℕ → List ℕ → ℕ
first_bad_byte top xs = first (bad_byte top xs) (length xs)

-- a number from 0 to top: no NaN is one, and -0 is
unfoldable pub in_range : Float → Float → Bool
in_range top x = le zero_f x && le x top

-- "Confidence is an f32 from 0 to 1. Negative zero counts as 0."
abbrev pub bad_confidence : List Float → ℕ → Bool
bad_confidence xs i = not (in_range one_f (get_or xs i nan))

-- the first such edge, or the length where there is none
unfoldable pub first_bad_confidence : List Float → ℕ
first_bad_confidence xs = first (bad_confidence xs) (length xs)

-- "transform count or number out of range": 1 to 8 transform numbers, each 0 to 7
unfoldable pub transforms_bad : List ℕ → Bool
transforms_bad ts = eqb (length ts) 0 || (ltb 8 (length ts) || ltb (first_bad_byte 7 ts) (length ts))

-- C-13: "L is from 4 to 500 and not a multiple of 3": how many patterns a horizontal table may have
unfoldable pub pole_length : ℕ → Bool
pole_length L = not (ltb L 4 || ltb 500 L) && not (eqb (L % 3) 0)

-- "pattern table length or byte wrong": it may not have its length, or a byte is not "0 to 7"
unfoldable pub patterns_bad : Bool → List ℕ → Bool
patterns_bad may-be ps = not may-be || ltb (first_bad_byte 7 ps) (length ps)

-- "Their horizontal pattern table has its own length L .. the vertical one stays at 167"
unfoldable pub horizontal_bad : List ℕ → Bool
horizontal_bad ps = patterns_bad (pole_length (length ps)) ps

unfoldable pub vertical_bad : List ℕ → Bool
vertical_bad ps = patterns_bad (eqb (length ps) 167) ps

-- the largest soft margin, 65,536
abbrev pub margin_top : Float
margin_top = fin false 1 (pos 16)
