-- A found hard answer is in range.
use Rattle.std.specs.Prelude.{◌≡◌, ℕ, ◌*◌, ◌≤◌, length, get_or, Err, Ok}
use Rattle.std.proofs.Math.Path.{refl}
use Rattle.std.proofs.Common.{subst}
use native.Mathlib.Omega.{arith}
use Rattle.laws.specs.Words.{one_f}
use Rattle.laws.specs.WithinLaws.{within-finite}
use Rattle.board.specs.Hits.{size}
use Rattle.board.proofs.HitsLaws.{hits-le}
use Rattle.admission.specs.Calls.{HardCall}
use Rattle.admission.specs.Accepted.{HardAccepted}
use Rattle.answer.specs.declared.Decoded.{Decoded}
use Rattle.figures.specs.Figures.{rate_of, mean_of}
use Rattle.figures.proofs.RangeLaws.{rate-within, mean-within}
use Rattle.scan.specs.declared.scan.Candidate.{Candidate}
use Rattle.scan.specs.declared.scan.RunnerUp.{RunnerUp}
use Rattle.hard.specs.Kinds.{Selection}
use Rattle.hard.specs.Select.{selection}
use Rattle.hard.proofs.SelectTheorems.{selected-in-range}
use Rattle.hard.proofs.WeighedLaws.{winner-within}
use Rattle.verdict.specs.Answers.{answers, never_both}
use Rattle.verdict.specs.Verdict.{decoded_of}
use Rattle.verdict.proofs.VerdictTheorems.{judged-is}
use Rattle.demand.specs.FoundRange.{FloatsFinite, AnswerInRange, square-in-range}
use Rattle.hard_core.specs.Hard.{after_physical, after_logical, hard_core}
use Rattle.hard_core.proofs.HardTheorems.{hard-sound}

-- the floats of a found answer are finite, and its margin is at most its hits
abbrev Found-floats : Decoded → Type 0
Found-floats d = FloatsFinite d.weighted_score d.error_rate d.mean_confidence d.best_score × (d.margin_hits ≤ d.hits)

module _ (call : HardCall) (m n : ℕ) (A : HardAccepted call m n) (d : Decoded) where
  -- the floats that a winner and its runner-up give
  module _ (x : Candidate) (r : RunnerUp) (e : selection call.board call.logical call.transforms call.error_limit ≡ Ok (x, r)) where
    hits-in : (x.hits ≤ size call.logical) × (r.hits ≤ size call.logical)
    hits-in = let i = selected-in-range call.board call.logical call.transforms call.error_limit A.board A.logical A.transforms.few x r e in (i.hits, i.runner_up_hits)

    floats : (t : ℕ) → Found-floats (decoded_of t x r (size call.logical))
    unfolding decoded_of
    floats t =
        let w = winner-within call.board call.logical A.board A.logical call.transforms call.error_limit x r e in
        let edges = size call.logical in (
          record {
            weighted = within-finite x.score (2 * edges) w.1;
            rate = within-finite (rate_of edges x.hits) 1 (rate-within edges x.hits A.some_logical A.logical.few);
            mean = within-finite (mean_of x.hits x.weight) edges (mean-within x.hits edges x.weight (omega (arith, hits-in.0, A.logical.few)) (omega (arith, A.logical.few)) w.0);
            best = within-finite x.score (2 * edges) w.1;
          },
          omega arith,
        )

    by-physical : (q : Selection) → after_physical call.logical call.transforms x r q ≡ Ok d → Found-floats d
    by-physical (Err k) h = absurd (never_both answers d k h)
    by-physical (Ok (y, o)) h =
        let t = get_or call.transforms x.placing.listed 0 in
        subst Found-floats (judged-is t x r (get_or call.transforms y.placing.listed 0) y (size call.logical) d h) (floats t)

  by-logical : (q : Selection) → selection call.board call.logical call.transforms call.error_limit ≡ q → after_logical call q ≡ Ok d → Found-floats d
  by-logical (Err k) e h = absurd (never_both answers d k h)
  by-logical (Ok (x, r)) e h = by-physical x r e (selection call.board call.physical call.transforms one_f) h

  hard-floats : hard_core call ≡ Ok d → Found-floats d
  unfolding hard_core
  hard-floats h = by-logical (selection call.board call.logical call.transforms call.error_limit) refl h

pub hard-in-range : (call : HardCall) (m n : ℕ) (A : HardAccepted call m n) (d : Decoded) → hard_core call ≡ Ok d → AnswerInRange (length call.board.h) d
hard-in-range call m n A d e =
    let a = hard-sound call m n A d e in
    let P = a.square in
    let Q = a.runner-up in
    let f = hard-floats call m n A d e in
    record {
      wholes = record {
        on-board = square-in-range call.board call.transforms P d.square A.transforms A.vertical a.leads.on-board a.tells.square;
        some_hits = omega (arith, a.tells.hits, a.tells.edges, hits-le call.board call.logical (get_or call.transforms P.listed 0) P.row P.col);
        few = omega (arith, a.tells.edges, A.logical.few);
        runner_up_on = square-in-range call.board call.transforms Q d.runner_up A.transforms A.vertical a.runs_up.on-board a.tells.runner-up;
        runner_up_few = omega (arith, a.tells.runner_up_hits, A.logical.few, hits-le call.board call.logical (get_or call.transforms Q.listed 0) Q.row Q.col);
      };
      margin = f.1;
      floats = f.0;
    }
