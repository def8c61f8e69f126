-- Counted match statistics in range: so 0xFFFFFFFF and NaN, which stand in every field of a refusal at the boundary, are what none of them has.
use Rattle.std.specs.Prelude.{◌≡◌, refl, Bool, true, false, cond, ℕ, zero, suc, ◌≤◌, ◌<◌, eqb}
use Rattle.std.proofs.Common.{le_trans, arith}
use Rattle.std.proofs.Math.ListN.{get_or}
use Rattle.std.specs.Float.{nan}
use Rattle.std.proofs.lemmas.Bool.{eqb-false}
use Rattle.laws.specs.Words.{one, one_f, Finite}
use Rattle.laws.specs.Counting.{count-le}
use Rattle.laws.specs.Weights.{Upto}
use Rattle.laws.specs.WeightLaws.{sum-upto}
use Rattle.laws.specs.WithinLaws.{within-finite, upto-within}
use Rattle.board.specs.Hits.{EdgeList, Board, size, hit, hits}
use Rattle.board.specs.Domain.{ListOk}
use Rattle.board.proofs.HitsLaws.{hits-le}
use Rattle.figures.specs.Figures.{rate_of, mean_of}
use Rattle.figures.proofs.RangeLaws.{rate-within, mean-within}
use Rattle.answer.specs.declared.MatchStats.{MatchStats}
use Rattle.stats.specs.Stats.{stats_rate, hit_weight, stats_of}

pub record StatsInRange (s : MatchStats) : Type 0 where
  pub hits : s.hits ≤ s.edges
  pub edges : s.edges ≤ 8192
  pub error_rate : Finite s.error_rate
  pub mean_confidence : Finite s.mean_confidence

-- the rate: 1 where there are no edges
rate-finite : (edges hits : ℕ) → edges ≤ 8192 → Finite (stats_rate edges hits)
unfolding stats_rate
rate-finite edges hits few = go (eqb edges 0) refl
  where
    some : (n : ℕ) → (n ≡ 0 → ⊥) → 0 < n
    some zero h = absurd (h refl)
    some (suc n) h = omega arith

    go : (b : Bool) → eqb edges 0 ≡ b → Finite (cond b one_f (rate_of edges hits))
    go true e = tt
    go false e = within-finite (rate_of edges hits) 1 (rate-within edges hits (some edges (eqb-false edges 0 e)) few)

module _ (E : EdgeList) (t row col : ℕ) (B : Board) (list : ListOk E) where
  -- the confidences of the hits add up to at most their number
  weight-upto : Upto (hit_weight B E t row col (size E)) (hits B E t row col)
  unfolding hit_weight hits
  weight-upto = sum-upto (hit B E t row col) (λ i. get_or E.confidences i nan) one (size E) list.confidence (le_trans (count-le (hit B E t row col) (size E)) (omega (arith, list.few)))

  -- COUNTED MATCH STATISTICS ARE IN RANGE
  pub stats-in-range : StatsInRange (stats_of E t row col B)
  unfolding stats_of
  stats-in-range =
      let l = hits-le B E t row col in
      let n = hits B E t row col in
      let w = hit_weight B E t row col (size E) in
      record {
        hits = l;
        edges = list.few;
        error_rate = rate-finite (size E) n list.few;
        mean_confidence = within-finite (mean_of n w) n (mean-within n n w (omega (arith, l, list.few)) (omega (arith, l, list.few)) (upto-within w n weight-upto));
      }
