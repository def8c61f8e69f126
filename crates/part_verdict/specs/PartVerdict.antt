-- The verdict on the winners of a part (request C-20): document 01's agreement and gate on hits. "With one origin and one transform there is no runner-up: its hits count as 0 and the answer
-- says none is shown."
use Rattle.std.specs.Prelude.{cond, ℕ, Err, None, Ok, Some}
use Rattle.refusals.specs.Numbers.{numbered}
use Rattle.refusals.specs.Numbers as why
use Rattle.figures.specs.Figures.{rate_of}
use Rattle.figures.specs.Gate.{passed}
use Rattle.exact_scan.specs.declared.kept.ExactWinner.{ExactWinner}
use Rattle.verdict.proofs.VerdictTheorems.{test}
use Rattle.part_answer.specs.Answers.{PartRunnerUp}
use Rattle.part_answer.specs.declared.PartDecoded.{PartDecoded}
use Rattle.part_answer.specs.Answers.{PartAnswer}

-- a refusal by its number, and nothing else
abbrev pub part_refused_by : ℕ → PartAnswer
part_refused_by n = Err (numbered n)

-- the hits of the runner-up, which count as 0 where none is shown
abbrev pub hits_shown : PartRunnerUp → ℕ
hits_shown None = 0
hits_shown (Some (square, hits, weight)) = hits

-- what a found answer says of the winner w under the transform t, with what is shown beside it, where all edges weigh `total`
unfoldable pub part_decoded_of : ℕ → ExactWinner → PartRunnerUp → ℕ → ℕ → PartDecoded
part_decoded_of t w next edges total = record {
  square = record { transform = t; row = w.placing.row; col = w.placing.col };
  hits = w.hits;
  edges = edges;
  weight = w.weight;
  total = total;
  error_rate = rate_of edges w.hits;
  runner_up = next;
}

-- the logical winner w under the transform t and the physical winner p under the transform s: refused by 12 where their squares differ, then by 13 where the gate is not passed, else found
unfoldable pub part_judged : ℕ → ExactWinner → PartRunnerUp → ℕ → ExactWinner → ℕ → ℕ → PartAnswer
unfolding part_decoded_of
part_judged t w next s p edges total =
    cond (test t w.placing s p.placing)
    (cond (passed edges w.hits (hits_shown next)) (Ok (part_decoded_of t w next edges total)) (part_refused_by why.not_far_ahead))
    (part_refused_by why.lists_disagree)
