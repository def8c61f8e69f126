-- Document 01, end of 'Refusal numbers': match statistics. "edges, hits, rate, and mean over hits added in list order; no edges: rate 1; no hits: mean 0."
use Rattle.std.specs.Prelude.{Bool, cond, ℕ, ◌+◌, eqb, get_or, Float, Err, Ok}
use Rattle.std.specs.Float.{nan, binary32}
use Rattle.std.specs.Float.Ieee.{add}
use Rattle.laws.specs.Words.{put, fold, zero_f, one_f}
use Rattle.board.specs.Hits.{EdgeList, Board, size, hit, hits}
use Rattle.figures.specs.Figures.{rate_of, mean_of}
use Rattle.refusals.specs.Admission.{Admission}
use Rattle.answer.specs.declared.MatchStats.{MatchStats}
use Rattle.answer.specs.Answers.{StatsAnswer}
use Rattle.figures.specs.declared.Fit.{Fit}
use Rattle.admission.specs.Refusals.{stats_admission}

-- hard selection's rate; no edges: 1
unfoldable pub stats_rate : ℕ → ℕ → Float
stats_rate edges hits = cond (eqb edges 0) one_f (rate_of edges hits)

-- the confidences of the hits among the first n edges, added in list order from 0
unfoldable pub hit_weight : Board → EdgeList → ℕ → ℕ → ℕ → ℕ → Float
hit_weight B E t row col n = fold (add binary32) zero_f n (hit B E t row col) (λ i. get_or E.confidences i nan)

-- the statistics of a list at a placing
unfoldable pub stats_of : EdgeList → ℕ → ℕ → ℕ → Board → MatchStats
stats_of E t row col B = record {
  edges = size E;
  hits = hits B E t row col;
  error_rate = stats_rate (size E) (hits B E t row col);
  mean_confidence = mean_of (hits B E t row col) (hit_weight B E t row col (size E));
}

-- an accepted call is counted
abbrev pub or_counted : Admission → MatchStats → StatsAnswer
or_counted (Ok _) s = Ok s
or_counted (Err r) s = Err r

-- the answer: refused with its number, or counted
unfoldable pub stats_answer : EdgeList → ℕ → ℕ → ℕ → Board → StatsAnswer
stats_answer E t row col B = or_counted (stats_admission E t row col B) (stats_of E t row col B)

-- ---- what the steps between answer
abbrev pub added : Fit → Bool → Float → Fit
added s b w = record { hits = put ◌+◌ b s.hits 1; weight = put (add binary32) b s.weight w }

-- the hits of a placing, and their confidences added in list order
unfoldable pub hits_and_weight : EdgeList → ℕ → ℕ → ℕ → Board → Fit
hits_and_weight E t row col B = record { hits = hits B E t row col; weight = hit_weight B E t row col (size E) }
