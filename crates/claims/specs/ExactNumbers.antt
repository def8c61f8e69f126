-- Request C-15, numbers to try, as one table computed over the definitions: "each confidence becomes a whole number of 2^-24 units, halves away from zero", and "10 here when a list's unit sum is 0".
use Rattle.std.specs.Prelude.{◌≡◌, refl, true, false, [], ◌∷◌, ℕ, pos, neg_ℤ, Float}
use Rattle.std.specs.Float.{fin}
use Rattle.std.specs.Float.Ieee.{add, eq, sum, round}
use Rattle.laws.specs.Words.{fold, one_f}
use Rattle.board.specs.Hits.{EdgeList, edges}
use Rattle.likelihood.specs.Likelihood.{half_up, quantised}
use Rattle.figures.specs.Figures.{no_confidence, confidence_to}
use Rattle.unit_terms.specs.Values.{unit_of, value_of}
use Rattle.exact.specs.Select.{units_to}
use Rattle.exact_core.specs.ExactCore.{total_units}

-- m halves of a unit: m * 2^-25
abbrev pub halves : ℕ → Float
halves m = fin false m (neg_ℤ (pos 25))

-- one edge alone, with a confidence
abbrev pub sure : Float → EdgeList
sure confidence = edges (pos 0 ∷ []) (pos 0 ∷ []) (0 ∷ []) (0 ∷ []) (confidence ∷ [])

pub record ExactNumbers : Type 0 where
  -- 2^-25, half a unit, counts for one, and 5 halves for 3; 2^-26 and -0 count for none
  pub half : unit_of (halves 1) ≡ 1
  pub five_halves : unit_of (halves 5) ≡ 3
  pub quarter : unit_of (fin false 1 (neg_ℤ (pos 26))) ≡ 0
  pub minus_zero : unit_of (fin true 0 (pos 0)) ≡ 0
  -- a confidence of 1 is 2^24 units, and an edge of it 2^38 more
  pub whole : unit_of one_f ≡ 16777216
  pub edge : value_of one_f ≡ 274894684160
  -- a list of one edge of 2^-26: it has a confidence for hard decode, and no units, which is 10 for exact decode; of 2^-25 it has one unit
  pub confident : no_confidence (sure (fin false 1 (neg_ℤ (pos 26)))) ≡ false
  pub without_units : total_units (sure (fin false 1 (neg_ℤ (pos 26)))) ≡ 0
  pub with_one : total_units (sure (halves 1)) ≡ 1

-- THE TABLE HOLDS
pub exact-numbers : ExactNumbers
unfolding unit_of value_of quantised half_up units_to fold no_confidence confidence_to eq add sum round
exact-numbers = record { half = refl; five_halves = refl; quarter = refl; minus_zero = refl; whole = refl; edge = refl; confident = refl; without_units = refl; with_one = refl }
