-- Document 01, 'Hard selection': the figures of a placing of a list.
use Rattle.std.specs.Prelude.{Bool, cond, List, ℕ, ◌-◌, eqb, get_or, length, pos, Float}
use Rattle.std.specs.Float.{nan, binary32}
use Rattle.std.specs.Float.Ieee.{add, div, of_int, eq}
use Rattle.laws.specs.Words.{fold, all, zero_f}
use Rattle.board.specs.Hits.{EdgeList}

-- "Rate = misses / edges, one f32 division"
unfoldable pub rate_of : ℕ → ℕ → Float
rate_of edges hits = div binary32 (of_int binary32 (pos (edges - hits))) (of_int binary32 (pos edges))

-- "Mean confidence = weight / hits, 0 for no hits"
unfoldable pub mean_of : ℕ → Float → Float
mean_of hits weight = cond (eqb hits 0) zero_f (div binary32 weight (of_int binary32 (pos hits)))

-- the first n confidences added, in list order from 0
unfoldable pub confidence_to : List Float → ℕ → Float
confidence_to ws n = fold (add binary32) zero_f n all (λ i. get_or ws i nan)

-- "Total confidence is the list-order sum."
abbrev pub total_confidence : EdgeList → Float
total_confidence E = confidence_to E.confidences (length E.confidences)

-- "total confidence is 0"
unfoldable pub no_confidence : EdgeList → Bool
no_confidence E = eq (total_confidence E) zero_f
