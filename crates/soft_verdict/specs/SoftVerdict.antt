-- The verdict on the soft winner (document 01, 'Soft selection'): whether the hard winner agrees, the gate, and what a found answer holds.
use Rattle.std.specs.Prelude.{cond, ◌&&◌, ℕ, eqb, pos, Err}
use Rattle.std.specs.Float.{binary32}
use Rattle.std.specs.Float.Ieee.{div, of_int}
use Rattle.refusals.specs.Admission.{Admission, accepted}
use Rattle.refusals.specs.Numbers.{numbered}
use Rattle.refusals.specs.Numbers as why
use Rattle.scan.specs.declared.scan.Candidate.{Candidate}
use Rattle.scan.specs.declared.scan.RunnerUp.{RunnerUp}
use Rattle.figures.specs.Figures.{rate_of, mean_of}
use Rattle.figures.specs.Gate.{passed}
use Rattle.figures.specs.declared.Fit.{Fit}
use Rattle.margin.specs.declared.slots.SoftCandidate.{SoftCandidate}
use Rattle.margin.specs.Margin.{soft_margin}
use Rattle.answer.specs.declared.SoftDecoded.{SoftDecoded}
use Rattle.answer.specs.Answers.{SoftAnswer}
use Rattle.soft_verdict.specs.declared.SoftBest.{SoftBest}

-- a refusal by its number, and nothing else
abbrev pub soft_refused_by : ℕ → SoftAnswer
soft_refused_by n = Err (numbered n)

-- "Then hard selection on the logical list must give the same origin and matrix and pass the gate"
unfoldable pub soft_verdict : ℕ → SoftCandidate → ℕ → Candidate → RunnerUp → ℕ → Admission
soft_verdict t first s w runner edges =
    cond (eqb t s && (eqb first.placing.row w.placing.row && eqb first.placing.col w.placing.col))
    (cond (passed edges w.hits runner.hits) accepted (Err (numbered why.not_far_ahead)))
    (Err (numbered why.soft_hard_disagree))

-- "the runner-up fields are replaced by the hard runner-up ..; the margin stays. Best score = f32 total, weighted score = that / edges; edges, hits, rate and mean confidence are
-- the physical list's." C-12: "separate places for the hard runner-up's hits and the soft second-best total", with "its own transform and origin"
unfoldable pub soft_decoded_of : ℕ → ℕ → SoftBest → Fit → ℕ → RunnerUp → SoftDecoded
soft_decoded_of t u best fit edges hard = record {
  square = record { transform = t; row = best.first.placing.row; col = best.first.placing.col };
  hits = fit.hits;
  edges = edges;
  weighted_score = div binary32 best.first.total (of_int binary32 (pos edges));
  error_rate = rate_of edges fit.hits;
  mean_confidence = mean_of fit.hits fit.weight;
  best_score = best.first.total;
  second = record { transform = u; row = best.second.placing.row; col = best.second.placing.col };
  second_score = best.second.total;
  margin = best.margin;
  runner_up = record { transform = hard.transform; row = hard.row; col = hard.col };
  runner_up_hits = hard.hits;
}

-- the two best candidates of a list of so many edges, with their margin
abbrev pub best_of : SoftCandidate → SoftCandidate → ℕ → SoftBest
best_of first second edges = record { first = first; second = second; margin = soft_margin first second edges }
