-- Document 01, 'Hard selection': "From 1,025, all origins are tried in row-major order, each rate-tested, with rounded weight sums."
use Prim.Native.Nat.{ℕ, zero, suc, ◌+◌, ◌*◌, ◌/◌, ◌%◌}
use Rattle.std.specs.Prelude.{Float}
use Rattle.std.specs.Float.Ieee.{add, div}
use Rattle.std.specs.Float.{binary32}
use Rattle.laws.specs.Words.{Grid, origins}
use Rattle.best.specs.CellTables.{CellTables, c_at, w_at}
use Rattle.scan.specs.Scan.{offered_within}
use Rattle.scan.specs.declared.scan.Candidate.{Candidate}
use Rattle.scan.specs.Kinds.{Kept}

-- "score (weight / total confidence)"
abbrev pub hard_candidate : ℕ → Float → Float → ℕ → ℕ → ℕ → Candidate
hard_candidate hits weight confidence row col listed = record { hits = hits; score = div binary32 weight confidence; weight = weight; placing = record { listed = listed; row = row; col = col } }

-- the hits of the origin with the key k, on the grid G: the counts of its two cells, added
abbrev pub pair_hits : Grid → CellTables → ℕ → ℕ
pair_hits G X k = c_at X.hc (G.h_of k) + c_at X.vc (G.v_of k)

-- its weight: "rounded weight sums"
abbrev pub pair_weight : Grid → CellTables → ℕ → Float
pair_weight G X k = add binary32 (w_at X.hw (G.h_of k)) (w_at X.vw (G.v_of k))

module _ (L M edges : ℕ) (confidence limit : Float) (listed : ℕ) (X : CellTables) where
  -- the candidate that the origin with the key k is
  unfoldable pub origin_candidate : ℕ → Candidate
  origin_candidate k = hard_candidate (pair_hits (origins L M) X k) (pair_weight (origins L M) X k) confidence (k / (3 * M)) (k % (3 * M)) listed

  -- n origins tried, in row-major order from the key `from` on
  unfoldable pub tried : ℕ → Kept → ℕ → Kept
  unfolding origin_candidate offered_within
  tried from start zero = start
  tried from start (suc n) = offered_within edges limit (tried from start n) (origin_candidate (from + n))
