-- The verdict on the winners (document 01, 'Hard selection'): whether they agree, the gate, and what a found answer holds.
use Rattle.std.specs.Prelude.{Bool, cond, ◌&&◌, ℕ, ◌-◌, eqb, Err, Ok}
use Rattle.refusals.specs.declared.Refusal.{Refusal}
use Rattle.refusals.specs.Admission.{Admission}
use Rattle.refusals.specs.Numbers.{numbered}
use Rattle.refusals.specs.Numbers as why
use Rattle.scan.specs.declared.scan.Candidate.{Candidate}
use Rattle.scan.specs.declared.scan.RunnerUp.{RunnerUp}
use Rattle.figures.specs.Figures.{rate_of, mean_of}
use Rattle.figures.specs.Gate.{passed}
use Rattle.answer.specs.declared.Decoded.{Decoded}
use Rattle.answer.specs.Answers.{Answer}

-- a refusal by its number, and nothing else
abbrev pub refused_by : ℕ → Answer
refused_by n = Err (numbered n)

-- an accepted call is answered by x, any other with its refusal: of whatever type the answer is, and however a refusal is made one
abbrev pub when_accepted : {A : Type 0} → (Refusal → A) → Admission → A → A
when_accepted refusing (Ok _) x = x
when_accepted refusing (Err r) x = refusing r

-- "origin and matrix must agree": the eight matrices differ, so transforms by number (`matrix-tells` in demand/specs/Matrices.antt)
unfoldable pub agreed : ℕ → Candidate → ℕ → Candidate → Bool
agreed t a s b = eqb t s && (eqb a.placing.row b.placing.row && eqb a.placing.col b.placing.col)

-- "The answer holds the logical list's transform, origin, hits, edges, weighted score, rate, mean confidence, best score (= weighted score), runner-up hits
-- .., margin, and the runner-up's transform and origin." "margin = best minus runner-up hits, not below 0". C-12: what is counted is a whole number
unfoldable pub decoded_of : ℕ → Candidate → RunnerUp → ℕ → Decoded
decoded_of t w runner edges = record {
  square = record { transform = t; row = w.placing.row; col = w.placing.col };
  hits = w.hits;
  edges = edges;
  weighted_score = w.score;
  error_rate = rate_of edges w.hits;
  mean_confidence = mean_of w.hits w.weight;
  best_score = w.score;
  runner_up = record { transform = runner.transform; row = runner.row; col = runner.col };
  runner_up_hits = runner.hits;
  margin_hits = w.hits - runner.hits;
}

-- refused where the winners differ, then where the gate is not passed, else found
unfoldable pub judged : ℕ → Candidate → RunnerUp → ℕ → Candidate → ℕ → Answer
unfolding decoded_of agreed
judged t w runner s p edges = cond (agreed t w s p) (cond (passed edges w.hits runner.hits) (Ok (decoded_of t w runner edges)) (refused_by why.not_far_ahead)) (refused_by why.lists_disagree)
