-- Document 01, 'Numbers to try': every case marked P, as one table under a single claim, computed over the definitions.
use Rattle.std.specs.Prelude.{◌≡◌, refl, true, false, [], ◌∷◌, ℕ, ℤ, pos, negsuc, neg_ℤ}
use Rattle.std.specs.Float.{fin}
use Rattle.laws.specs.Words.{emod, numer, joint}
use Rattle.board.specs.Transform.{lookup_of, mat, matrices}
use Rattle.board.specs.Hits.{EdgeList, edges, look}
use Rattle.board.specs.Sides.{on_side, long_of, short_of}
use Rattle.likelihood.specs.Likelihood.{quantised, dequantised}
use Rattle.figures.specs.Gate.{passed}

-- one edge alone, by row, column and orientation; it is edge 0 of its list
abbrev pub alone : ℤ → ℤ → ℕ → EdgeList
alone row col orientation = edges (row ∷ []) (col ∷ []) (orientation ∷ []) (0 ∷ []) []

-- its classes under the transform t, of the row and then of the column, as the tables take them: the long coordinate of its lookup by the 167 patterns of its
-- side, the short one by 3. "Horizontal cells are (r mod 167, c mod 3); vertical cells are (r mod 3, c mod 167)"
pub record Horizontal (E : EdgeList) (t row col : ℕ) : Type 0 where
  pub side : on_side E t true 0 ≡ true
  pub row_class : emod (long_of E t true 0) 167 ≡ row
  pub col_class : emod (short_of E t true 0) 3 ≡ col

pub record Vertical (E : EdgeList) (t row col : ℕ) : Type 0 where
  pub side : on_side E t false 0 ≡ true
  pub row_class : emod (short_of E t false 0) 3 ≡ row
  pub col_class : emod (long_of E t false 0) 167 ≡ col

pub record NumbersToTry : Type 0 where
  -- "(va,ha)=(1,0) gives row 334; (2,166) gives 500"
  pub row_334 : joint 167 1 0 ≡ 334
  pub row_500 : joint 167 2 166 ≡ 500
  -- "horizontal (0,0) under 0 looks up (-1,0), classes 166, 0"
  pub first_lookup : lookup_of 0 (pos 0) (pos 0) 0 ≡ record { orientation = 0; row = negsuc 0; col = pos 0 }
  pub first_classes : Horizontal (alone (pos 0) (pos 0) 0) 0 166 0
  -- "vertical (0,0) under 0: (0,-1), classes 0, 166"
  pub second_lookup : lookup_of 0 (pos 0) (pos 0) 1 ≡ record { orientation = 1; row = pos 0; col = negsuc 0 }
  pub second_classes : Vertical (alone (pos 0) (pos 0) 1) 0 0 166
  -- "horizontal row 2 column 3 under 1: vertical (3,-3), classes 0, 164"
  pub third_lookup : lookup_of 1 (pos 2) (pos 3) 0 ≡ record { orientation = 1; row = pos 3; col = negsuc 2 }
  pub third_classes : Vertical (alone (pos 2) (pos 3) 0) 1 0 164
  -- "under 2: (-3,-4), classes 164, 2"
  pub fourth_lookup : lookup_of 2 (pos 2) (pos 3) 0 ≡ record { orientation = 0; row = negsuc 2; col = negsuc 3 }
  pub fourth_classes : Horizontal (alone (pos 2) (pos 3) 0) 2 164 2
  -- "gate (edges, best, runner-up): 10,9,8 refused; 10,10,9 passes; 10,9,7 passes"
  pub gate_refused : passed 10 9 8 ≡ false
  pub gate_clean : passed 10 10 9 ≡ true
  pub gate_passed : passed 10 9 7 ≡ true
  -- "quantise: -2^-25 gives -1; -2^-26 gives 0; -65,536 gives -1,099,511,627,776" (`fin s m (neg_ℤ (pos k))` is m * 2^-k, negative where s is true)
  pub half : quantised (fin true 1 (neg_ℤ (pos 25))) ≡ neg_ℤ (pos 1)
  pub quarter : quantised (fin true 1 (neg_ℤ (pos 26))) ≡ pos 0
  pub least : quantised (fin true 1 (pos 16)) ≡ neg_ℤ (pos 1099511627776)
  -- "back: 16,777,217 gives 1; 16,777,219 gives 1+2^-22"
  pub tie_down : dequantised (pos 16777217) ≡ fin false 1 (pos 0)
  pub tie_up : dequantised (pos 16777219) ≡ fin false 4194305 (neg_ℤ (pos 22))

-- THE TABLE HOLDS
pub numbers-to-try : NumbersToTry
unfolding joint numer lookup_of mat matrices look emod quantised dequantised
numbers-to-try = record {
  row_334 = refl;
  row_500 = refl;
  first_lookup = refl;
  first_classes = record { side = refl; row_class = refl; col_class = refl };
  second_lookup = refl;
  second_classes = record { side = refl; row_class = refl; col_class = refl };
  third_lookup = refl;
  third_classes = record { side = refl; row_class = refl; col_class = refl };
  fourth_lookup = refl;
  fourth_classes = record { side = refl; row_class = refl; col_class = refl };
  gate_refused = refl;
  gate_clean = refl;
  gate_passed = refl;
  half = refl;
  quarter = refl;
  least = refl;
  tie_down = refl;
  tie_up = refl;
}
