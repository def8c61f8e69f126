-- Document 01, 'Soft selection': candidates, first and second place, and the scan over the listed transforms.
use Rattle.std.specs.Prelude.{Bool, true, cond, Float, None, Some}
use Prim.Native.Nat.{ℕ, zero, suc, ◌+◌, ◌*◌, ◌/◌, ◌%◌}
use Rattle.std.specs.Float.Ieee.{lt}
use Rattle.laws.specs.Words.{origins}
use Rattle.likelihood.specs.Likelihood.{dequantised}
use Rattle.level.specs.Sums.{SumTables, sum_at}
use Rattle.pair.specs.Pair.{winner_of, second_of}
use Rattle.margin.specs.declared.slots.SoftCandidate.{SoftCandidate}
use Rattle.margin.specs.declared.slots.SoftScan.{SoftScan}
use Rattle.margin.specs.Kinds.{Slot}

-- the origin of key k at a list position, by row and column; "A total returns to f32 as sum / 2^24 rounded once"
unfoldable pub soft_candidate : ℕ → ℕ → SumTables → ℕ → ℕ → SoftCandidate
soft_candidate L M X listed k =
    record {
      placing = record { listed = listed; row = k / (3 * M); col = k % (3 * M) };
      total = dequantised (sum_at (origins L M) X.hs X.vs k);
    }

-- a place yields to a "strictly greater f32 score", and to any where it is free
unfoldable pub yields : Slot → Float → Bool
yields None total = true
yields (Some c) total = lt c.total total

-- "strictly greater f32 score takes first place and moves the old first to second; else strictly greater than second takes second"
unfoldable pub soft_offered : SoftScan → SoftCandidate → SoftScan
unfolding yields
soft_offered s c =
    cond (yields s.first c.total)
    (record { first = Some c; second = s.first; count = s.count })
    (cond (yields s.second c.total)
    (record { first = s.first; second = Some c; count = s.count })
    s)

-- no transforms
unfoldable pub soft_empty : SoftScan
soft_empty = record { first = None; second = None; count = 0 }

module _ (L M : ℕ) where
  -- "Winner and runner-up of each transform are offered in order": the transform with the tables X at the scan's next list position
  unfoldable pub soft_folded : SumTables → SoftScan → SoftScan
  unfolding soft_candidate soft_offered winner_of second_of
  soft_folded X s =
      let one = soft_offered s (soft_candidate L M X s.count (winner_of (origins L M) X.hs X.vs)) in
      let both = soft_offered one (soft_candidate L M X s.count (second_of (origins L M) X.hs X.vs)) in
      record { first = both.first; second = both.second; count = s.count + 1 }

  -- the first n list positions, of which position p has the tables tab p
  unfoldable pub soft_selected : (ℕ → SumTables) → ℕ → SoftScan
  unfolding soft_folded soft_empty
  soft_selected tab zero = soft_empty
  soft_selected tab (suc p) = soft_folded (tab p) (soft_selected tab p)
