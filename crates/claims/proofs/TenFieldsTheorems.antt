-- THE OLD ANSWER COMES OUT: of what both decoders answer, `ten_fields` (crate ten_fields) makes document 01's answer of ten fields, with the same bits. A refusal is handed on; of a found answer
-- each field is what document 01 says of the winner, its runner-up and, in soft decode, the two best by likelihood.
use Rattle.std.specs.Prelude.{◌≡◌, ℕ, ◌-◌, ◌≤◌, get_or, pos, Err, Ok}
use Rattle.std.proofs.Math.Path.{refl}
use Rattle.std.proofs.Common.{sym, ap, ◌∙◌, arith, le-ltb}
use Rattle.std.specs.Float.{binary32}
use Rattle.std.specs.Float.Ieee.{div, of_int}
use Rattle.laws.specs.Words.{one_f}
use Rattle.board.specs.Hits.{size}
use Rattle.refusals.specs.declared.Refusal.{Refusal}
use Rattle.admission.specs.Calls.{HardCall, SoftCall}
use Rattle.admission.specs.Accepted.{HardAccepted, SoftAccepted}
use Rattle.figures.specs.Figures.{rate_of, mean_of}
use Rattle.figures.specs.declared.Fit.{Fit}
use Rattle.scan.specs.declared.scan.Candidate.{Candidate}
use Rattle.scan.specs.declared.scan.RunnerUp.{RunnerUp}
use Rattle.hard.specs.Kinds.{Selection}
use Rattle.hard.specs.Select.{selection}
use Rattle.hard.proofs.SelectTheorems.{selected-in-range}
use Rattle.answer.specs.declared.Decoded.{Decoded}
use Rattle.answer.specs.Answers.{Answer}
use Rattle.answer.specs.declared.SoftDecoded.{SoftDecoded}
use Rattle.answer.specs.Answers.{SoftAnswer}
use Rattle.verdict.specs.Verdict.{decoded_of}
use Rattle.verdict.specs.Answers.{answers, never_both}
use Rattle.verdict.proofs.VerdictTheorems.{judged-is}
use Rattle.soft_verdict.specs.declared.SoftBest.{SoftBest}
use Rattle.soft_verdict.specs.SoftVerdict.{soft_decoded_of, best_of}
use Rattle.hard_core.specs.Hard.{after_physical, after_logical, hard_core}
use Rattle.soft_logical.specs.Logical.{fit_of}
use Rattle.soft_core.specs.Soft.{soft_core}
use Rattle.soft_core.specs.SoftDemand.{with_total}
use Rattle.soft_core.proofs.SoftTheorems.{FoundBy, found-by}
use Rattle.ten_fields.specs.declared.TenFields.{TenFields}
use Rattle.ten_fields.specs.TenFields.{as_score, ten_of_hard, ten_of_soft, any_of_hard, any_of_soft, ten_fields}

-- ---- document 01's answers
-- "The answer holds the logical list's transform, origin, hits, edges, weighted score, rate, mean confidence, best score (= weighted score), runner-up hits as score, margin, and the runner-up's
-- transform and origin." "margin = best minus runner-up hits, not below 0"
unfoldable pub decoded01 : ℕ → Candidate → RunnerUp → ℕ → TenFields
decoded01 t w runner edges = record {
  square = record { transform = t; row = w.placing.row; col = w.placing.col };
  hits = w.hits;
  edges = edges;
  weighted_score = w.score;
  error_rate = rate_of edges w.hits;
  mean_confidence = mean_of w.hits w.weight;
  best_score = w.score;
  runner_up_score = of_int binary32 (pos runner.hits);
  margin = of_int binary32 (pos (w.hits - runner.hits));
  runner_up = record { transform = runner.transform; row = runner.row; col = runner.col };
}

-- "the runner-up fields are replaced by the hard runner-up (score = its hits); the margin stays. Best score = f32 total, weighted score = that / edges; edges, hits, rate and mean confidence are
-- the physical list's."
unfoldable pub soft_decoded01 : ℕ → SoftBest → Fit → ℕ → RunnerUp → TenFields
soft_decoded01 t best fit edges runner = record {
  square = record { transform = t; row = best.first.placing.row; col = best.first.placing.col };
  hits = fit.hits;
  edges = edges;
  weighted_score = div binary32 best.first.total (of_int binary32 (pos edges));
  error_rate = rate_of edges fit.hits;
  mean_confidence = mean_of fit.hits fit.weight;
  best_score = best.first.total;
  runner_up_score = of_int binary32 (pos runner.hits);
  margin = best.margin;
  runner_up = record { transform = runner.transform; row = runner.row; col = runner.col };
}

-- ---- a count of an answer as a score
as-score : (n : ℕ) → n ≤ 8192 → as_score n ≡ of_int binary32 (pos n)
unfolding as_score
as-score n h = rw (le-ltb 16777216 n (omega (arith, h)))

-- what is told of a winner comes out
ten-of-decoded : (t : ℕ) (w : Candidate) (runner : RunnerUp) (edges : ℕ) → w.hits ≤ 8192 → runner.hits ≤ 8192 → ten_of_hard (decoded_of t w runner edges) ≡ decoded01 t w runner edges
unfolding ten_of_hard decoded_of decoded01
ten-of-decoded t w runner edges h k = rw (as-score runner.hits k, as-score (w.hits - runner.hits) (omega (arith, h)))

ten-of-soft-decoded : (t u : ℕ) (best : SoftBest) (fit : Fit) (edges : ℕ) (runner : RunnerUp) → runner.hits ≤ 8192 → ten_of_soft (soft_decoded_of t u best fit edges runner) ≡ soft_decoded01 t best fit edges runner
unfolding ten_of_soft soft_decoded_of soft_decoded01
ten-of-soft-decoded t u best fit edges runner k = rw (as-score runner.hits k)

-- ---- hard decode
module _ (call : HardCall) (m n : ℕ) (A : HardAccepted call m n) (d : Decoded) where
  -- the winner of the logical list and its runner-up, of whom document 01 tells
  pub record HardTold : Type 0 where
    pub winner : Candidate
    pub runner : RunnerUp
    pub selected : selection call.board call.logical call.transforms call.error_limit ≡ Ok (winner, runner)
    pub decoded : decoded_of (get_or call.transforms winner.placing.listed 0) winner runner (size call.logical) ≡ d
    pub told : ten_of_hard d ≡ decoded01 (get_or call.transforms winner.placing.listed 0) winner runner (size call.logical)

  by-physical : (x : Candidate) (r : RunnerUp) → selection call.board call.logical call.transforms call.error_limit ≡ Ok (x, r) → (q : Selection)
      → after_physical call.logical call.transforms x r q ≡ Ok d → HardTold
  by-physical x r e (Err k) h = absurd (never_both answers d k h)
  by-physical x r e (Ok (y, o)) h =
      let t = get_or call.transforms x.placing.listed 0 in
      let i = selected-in-range call.board call.logical call.transforms call.error_limit A.board A.logical A.transforms.few x r e in
      let q = judged-is t x r (get_or call.transforms y.placing.listed 0) y (size call.logical) d h in
      record {
        winner = x;
        runner = r;
        selected = e;
        decoded = q;
        told = ap ten_of_hard (sym q) ∙ ten-of-decoded t x r (size call.logical) (omega (arith, i.hits, A.logical.few)) (omega (arith, i.runner_up_hits, A.logical.few));
      }

  by-logical : (q : Selection) → selection call.board call.logical call.transforms call.error_limit ≡ q → after_logical call q ≡ Ok d → HardTold
  by-logical (Err k) e h = absurd (never_both answers d k h)
  by-logical (Ok (x, r)) e h = by-physical x r e (selection call.board call.physical call.transforms one_f) h

  -- HARD: the ten fields of a found answer are document 01's
  pub hard-ten-fields : hard_core call ≡ Ok d → HardTold
  unfolding hard_core
  hard-ten-fields h = by-logical (selection call.board call.logical call.transforms call.error_limit) refl h

-- ---- soft decode
module _ (call : SoftCall) (m n k : ℕ) (A : SoftAccepted call m n k) (d : SoftDecoded) where
  -- the two best by likelihood on the physical list, and the winner of the logical list with its runner-up, of whom document 01 tells (`FoundBy`, soft_core/proofs/SoftTheorems.antt)
  pub record SoftTold : Type 0 where
    pub by : FoundBy call m n k A d
    pub told : let B = call.hard.board in
        let E = call.hard.physical in
        let X = call.likelihoods in
        let ts = call.hard.transforms in
        let t = get_or ts by.first.listed 0 in
        ten_of_soft d ≡ soft_decoded01 t (best_of (with_total B E X ts by.first) (with_total B E X ts by.second) (size E)) (fit_of B E t by.first.row by.first.col) (size E) by.runner

  -- SOFT: the ten fields of a found answer are document 01's
  pub soft-ten-fields : soft_core call ≡ Ok d → SoftTold
  soft-ten-fields h =
      let f = found-by call m n k A d h in
      let H = call.hard in
      let i = selected-in-range H.board H.logical H.transforms H.error_limit A.hard.board A.hard.logical A.hard.transforms.few f.winner f.runner f.selected in
      record { by = f; told = ap ten_of_soft (sym f.told) ∙ ten-of-soft-decoded _ _ _ _ _ f.runner (omega (arith, i.runner_up_hits, A.hard.logical.few)) }

-- ---- the answer as a whole: found with these fields, or refused as it was
pub hard-ten-answer : (answer : Answer) → ((d : Decoded) → answer ≡ Ok d → ten_fields (any_of_hard answer) ≡ Ok (ten_of_hard d)) × ((r : Refusal) → answer ≡ Err r → ten_fields (any_of_hard answer) ≡ Err r)
hard-ten-answer answer = ((λ d e. ap (λ (a : Answer). ten_fields (any_of_hard a)) e), λ r e. ap (λ (a : Answer). ten_fields (any_of_hard a)) e)

pub soft-ten-answer : (answer : SoftAnswer)
    → ((d : SoftDecoded) → answer ≡ Ok d → ten_fields (any_of_soft answer) ≡ Ok (ten_of_soft d)) × ((r : Refusal) → answer ≡ Err r → ten_fields (any_of_soft answer) ≡ Err r)
soft-ten-answer answer = ((λ d e. ap (λ (a : SoftAnswer). ten_fields (any_of_soft a)) e), λ r e. ap (λ (a : SoftAnswer). ten_fields (any_of_soft a)) e)
