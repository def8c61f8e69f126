-- What a soft verdict tells, in the winners' own numbers: accepted exactly when the soft and the hard winner agree and the gate is passed; a found answer tells the soft
-- winner's square and total, the physical list's hits, and the hard runner-up. A refusal has its own number.
use Rattle.std.proofs.Math.Path.{◌≡◌, refl}
use Rattle.std.specs.Prelude.{Bool, ◌⊎◌, ℕ, pos, Err, Ok}
use Rattle.std.proofs.Math.Bool.{true, false, cond}
use Rattle.std.proofs.Common.{inl, inr, arith}
use Rattle.std.specs.Float.{binary32}
use Rattle.std.specs.Float.Ieee.{sub, div, of_int}
use Rattle.refusals.specs.Numbers.{numbered}
use Rattle.refusals.specs.Numbers as why
use Rattle.scan.specs.declared.scan.Candidate.{Candidate}
use Rattle.scan.specs.declared.scan.RunnerUp.{RunnerUp}
use Rattle.figures.specs.Gate.{passed}
use Rattle.figures.specs.declared.Fit.{Fit}
use Rattle.margin.specs.declared.slots.SoftCandidate.{SoftCandidate}
use Rattle.verdict.specs.Answers.{Answers, answers}
use Rattle.verdict.proofs.VerdictTheorems.{Agree, Says, test, agree_of, of_agree, of-differ, both_hold, first_holds, none-holds}
use Rattle.soft_verdict.specs.declared.SoftBest.{SoftBest}
use Rattle.answer.specs.declared.SoftDecoded.{SoftDecoded}
use Rattle.answer.specs.Answers.{SoftAnswer}
use Rattle.soft_verdict.specs.SoftVerdict.{soft_verdict, soft_decoded_of, best_of}
use Rattle.refusals.specs.Admission.{accepted}

-- ---- the winner by likelihood under the transform t, and the hard winner w of the logical list under the transform s
module _ (t : ℕ) (first : SoftCandidate) (s : ℕ) (w : Candidate) (runner : RunnerUp) (edges : ℕ) where
  -- WINNERS THAT AGREE AND PASS ARE ACCEPTED
  pub soft-verdict-complete : Agree t first.placing s w.placing → passed edges w.hits runner.hits ≡ true → soft_verdict t first s w runner edges ≡ accepted
  unfolding soft_verdict
  soft-verdict-complete a g = both_hold (test t first.placing s w.placing) (passed edges w.hits runner.hits) _ _ _ (of_agree t first.placing s w.placing a) g

  -- 15 where they differ, 13 where they agree and do not pass
  pub soft-verdict-15 : (Agree t first.placing s w.placing → ⊥) → soft_verdict t first s w runner edges ≡ Err (numbered why.soft_hard_disagree)
  unfolding soft_verdict
  soft-verdict-15 n = none-holds (test t first.placing s w.placing) _ _ (of-differ t first.placing s w.placing n)

  pub soft-verdict-13 : Agree t first.placing s w.placing → passed edges w.hits runner.hits ≡ false → soft_verdict t first s w runner edges ≡ Err (numbered why.not_far_ahead)
  unfolding soft_verdict
  soft-verdict-13 a g = first_holds (test t first.placing s w.placing) (passed edges w.hits runner.hits) _ _ _ (of_agree t first.placing s w.placing a) g

  -- ACCEPTED MEANS TRUE
  pub soft-verdict-sound : soft_verdict t first s w runner edges ≡ accepted → Agree t first.placing s w.placing × (passed edges w.hits runner.hits ≡ true)
  unfolding soft_verdict
  soft-verdict-sound h = go (test t first.placing s w.placing) (passed edges w.hits runner.hits) refl refl h
    where
      go : (a b : Bool) → test t first.placing s w.placing ≡ a → passed edges w.hits runner.hits ≡ b → cond a (cond b accepted (Err (numbered why.not_far_ahead))) (Err (numbered why.soft_hard_disagree)) ≡ accepted
          → Agree t first.placing s w.placing × (passed edges w.hits runner.hits ≡ true)
      go true true e g k = (agree_of t first.placing s w.placing e, g)
      go true false e g k = let z : ◌≡◌ {A = ℕ} 0 1 = cc in absurd (omega arith)
      go false b e g k = let z : ◌≡◌ {A = ℕ} 0 1 = cc in absurd (omega arith)

-- what a found soft answer says besides: the total of its square, the second by likelihood under the transform u with its own total, and the margin of the two
pub record SaysByLikelihood (u : ℕ) (best : SoftBest) (d : SoftDecoded) : Type 0 where
  pub best_score : d.best_score ≡ best.first.total
  pub second_transform : d.second.transform ≡ u
  pub second_row : d.second.row ≡ best.second.placing.row
  pub second_col : d.second.col ≡ best.second.placing.col
  pub second_score : d.second_score ≡ best.second.total
  pub margin : d.margin ≡ best.margin

-- A FOUND SOFT ANSWER SAYS the soft winner's square with its total and margin, the second by likelihood with its total, the physical list's hits, and the hard runner-up
pub soft-says : (t u : ℕ) (best : SoftBest) (fit : Fit) (edges : ℕ) (runner : RunnerUp)
    → let d = soft_decoded_of t u best fit edges runner in
    Says t best.first.placing fit.hits edges runner d.square d.hits d.edges d.runner_up d.runner_up_hits × SaysByLikelihood u best d
unfolding soft_decoded_of
soft-says t u best fit edges runner = (
  record { transform = refl; row = refl; col = refl; hits-told = refl; edges_told = refl; runner_up_hits = refl; runner_up_transform = refl; runner_up_row = refl; runner_up_col = refl },
  record { best_score = refl; second_transform = refl; second_row = refl; second_col = refl; second_score = refl; margin = refl },
)

-- THE MARGIN OF THE TWO: (best - second) / edges of exactly the two totals that the answer holds
pub margin-of-the-two : (t u : ℕ) (first second : SoftCandidate) (fit : Fit) (edges : ℕ) (runner : RunnerUp)
    → let d = soft_decoded_of t u (best_of first second edges) fit edges runner in
    d.margin ≡ div binary32 (sub binary32 d.best_score d.second_score) (of_int binary32 (pos d.edges))
unfolding soft_decoded_of
margin-of-the-two t u first second fit edges runner = refl

-- SOFT ANSWERS are made in two ways, as hard ones are
pub soft-answers : Answers {Answer = SoftAnswer} Err Ok
soft-answers = answers
