-- C-21 on document 01's worked edge, "horizontal row 2 column 3 under 1: vertical (3,-3) .. under 2: (-3,-4)", slid one row down and two columns to the left, so that it stands at row 3, column 1.
use Rattle.std.specs.Prelude.{◌≡◌, refl, ℕ, ◌*◌, length, ℤ, pos, negsuc, ◌-ℤ◌}
use Rattle.std.proofs.Common.{ap}
use Rattle.laws.specs.Words.{emod}
use Rattle.board.specs.Transform.{lookup_of, mapped, mat, matrices}
use Rattle.board.specs.Hits.{Board}
use Rattle.sliding.specs.Sliding.{shifted_rows, shifted_cols, slid_row, slid_col}

-- what follows from the shift by 1 and -2, on a board B
pub record SlidExample (B : Board) : Type 0 where
  -- under 1 it was looked up at (3, -3), and is at (1, -4): the shift is mapped to two rows up and one column to the left
  pub lookup_1 : lookup_of 1 (pos 3) (pos 1) 0 ≡ record { orientation = 1; row = pos 1; col = negsuc 3 }
  pub rows_1 : shifted_rows 1 (pos 1) (negsuc 1) ≡ negsuc 1
  pub cols_1 : shifted_cols 1 (pos 1) (negsuc 1) ≡ negsuc 0
  -- so the origin 0, 0 becomes 2, 1, and 500, 500 becomes 1, 0
  pub first_1 : (slid_row B 1 (pos 1) (negsuc 1) 0 ≡ 2) × (slid_col B 1 (pos 1) (negsuc 1) 0 ≡ 1)
  pub last_1 : (slid_row B 1 (pos 1) (negsuc 1) 500 ≡ 1) × (slid_col B 1 (pos 1) (negsuc 1) 500 ≡ 0)
  -- under 2 it was looked up at (-3, -4), and is at (-4, -2): one row up and two columns to the right
  pub lookup_2 : lookup_of 2 (pos 3) (pos 1) 0 ≡ record { orientation = 0; row = negsuc 3; col = negsuc 1 }
  pub rows_2 : shifted_rows 2 (pos 1) (negsuc 1) ≡ negsuc 0
  pub cols_2 : shifted_cols 2 (pos 1) (negsuc 1) ≡ pos 2
  -- so the origin 0, 0 becomes 1, 499, and 500, 500 becomes 0, 498
  pub first_2 : (slid_row B 2 (pos 1) (negsuc 1) 0 ≡ 1) × (slid_col B 2 (pos 1) (negsuc 1) 0 ≡ 499)
  pub last_2 : (slid_row B 2 (pos 1) (negsuc 1) 500 ≡ 0) × (slid_col B 2 (pos 1) (negsuc 1) 500 ≡ 498)

-- a remainder on a flat board is one by 501
flat : (z : ℤ) (n : ℕ) → n ≡ 167 → emod z (3 * n) ≡ emod z 501
flat z n e = ap (λ (m : ℕ). emod z (3 * m)) e

-- THE EXAMPLE HOLDS on every flat board
pub slid-example : (B : Board) → length B.h ≡ 167 → length B.v ≡ 167 → SlidExample B
unfolding lookup_of mapped mat matrices emod slid_row slid_col
slid-example B tall wide = record {
  lookup_1 = refl;
  rows_1 = refl;
  cols_1 = refl;
  first_1 = (flat (pos 0 -ℤ negsuc 1) (length B.h) tall, flat (pos 0 -ℤ negsuc 0) (length B.v) wide);
  last_1 = (flat (pos 500 -ℤ negsuc 1) (length B.h) tall, flat (pos 500 -ℤ negsuc 0) (length B.v) wide);
  lookup_2 = refl;
  rows_2 = refl;
  cols_2 = refl;
  first_2 = (flat (pos 0 -ℤ negsuc 0) (length B.h) tall, flat (pos 0 -ℤ pos 2) (length B.v) wide);
  last_2 = (flat (pos 500 -ℤ negsuc 0) (length B.h) tall, flat (pos 500 -ℤ pos 2) (length B.v) wide);
}
