-- The verdict on the exact winners (request C-15): document 01's agreement and gate on hits, and what a found answer holds. Weights decide nothing here.
use Rattle.std.specs.Prelude.{cond, ℕ, Err, Ok}
use Rattle.refusals.specs.Numbers.{numbered}
use Rattle.refusals.specs.Numbers as why
use Rattle.scan.specs.declared.scan.RunnerUp.{RunnerUp}
use Rattle.figures.specs.Figures.{rate_of}
use Rattle.figures.specs.Gate.{passed}
use Rattle.exact_scan.specs.declared.kept.ExactWinner.{ExactWinner}
use Rattle.verdict.proofs.VerdictTheorems.{test}
use Rattle.exact_answer.specs.declared.ExactDecoded.{ExactDecoded}
use Rattle.exact_answer.specs.Answers.{ExactAnswer}

-- a refusal by its number, and nothing else
abbrev pub exact_refused_by : ℕ → ExactAnswer
exact_refused_by n = Err (numbered n)

-- "The answer: square, hits, edges, weight and the list's total in units (u64), error rate, and the runner-up with its square, hits and weight": of the winner w under the transform t, where
-- all edges weigh `total` and the runner-up's hits weigh `runner_weight_of`
unfoldable pub exact_decoded_of : ℕ → ExactWinner → RunnerUp → ℕ → ℕ → ℕ → ExactDecoded
exact_decoded_of t w runner edges total runner_weight_of = record {
  square = record { transform = t; row = w.placing.row; col = w.placing.col };
  hits = w.hits;
  edges = edges;
  weight = w.weight;
  total = total;
  error_rate = rate_of edges w.hits;
  runner_up = record { transform = runner.transform; row = runner.row; col = runner.col };
  runner_up_hits = runner.hits;
  runner_up_weight = runner_weight_of;
}

-- the logical winner w under the transform t, with its runner-up, and the physical winner p under the transform s: refused by 12 where their squares differ, then by 13 where the gate is not
-- passed, else found
unfoldable pub exact_judged : ℕ → ExactWinner → RunnerUp → ℕ → ExactWinner → ℕ → ℕ → ℕ → ExactAnswer
unfolding exact_decoded_of
exact_judged t w runner s p edges total runner_weight_of =
    cond (test t w.placing s p.placing)
    (cond (passed edges w.hits runner.hits) (Ok (exact_decoded_of t w runner edges total runner_weight_of)) (exact_refused_by why.not_far_ahead))
    (exact_refused_by why.lists_disagree)
