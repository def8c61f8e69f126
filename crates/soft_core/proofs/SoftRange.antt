-- A found soft answer is in range.
use Rattle.std.specs.Prelude.{◌≡◌, true, false, ℕ, ◌+◌, ◌^◌, ◌≤◌, length, get_or, pos, Ok}
use Rattle.std.proofs.Common.{subst, le_trans, le_of_eq, arith}
use Rattle.std.specs.Float.{binary32}
use Rattle.std.specs.Float.Ieee.{div, of_int}
use Rattle.laws.specs.Words.{Finite}
use Rattle.laws.specs.GridLaws.{h-below, v_below}
use Rattle.laws.specs.WithinLaws.{within-finite}
use Rattle.board.specs.Hits.{size}
use Rattle.board.specs.Sides.{period_of}
use Rattle.board.proofs.HitsLaws.{hits-le, side-some}
use Rattle.tables.specs.TablesTheorems.{h_cell, v_cell}
use Rattle.figures.specs.Figures.{rate_of, mean_of}
use Rattle.figures.proofs.RangeLaws.{rate-within, mean-within}
use Rattle.hard.proofs.WeighedLaws.{pair-within}
use Rattle.soft.specs.TotalLaws.{score-small, total-within, per-edge-within, margin-within}
use Rattle.soft_verdict.specs.SoftVerdict.{soft_decoded_of}
use Rattle.admission.specs.Calls.{SoftCall}
use Rattle.admission.specs.Accepted.{SoftAccepted}
use Rattle.answer.specs.declared.SoftDecoded.{SoftDecoded}
use Rattle.demand.specs.FoundRange.{FloatsFinite, SoftAnswerInRange, square-in-range}
use Rattle.soft_logical.specs.Logical.{cell_fit, fit_of}
use Rattle.soft_core.specs.Soft.{soft_core}
use Rattle.soft_core.specs.SoftLaws.{likelihoods-ok}
use Rattle.soft_core.specs.SoftDemand.{whole_sum, total, with_total, margin_of}
use Rattle.soft_core.proofs.SoftTheorems.{fit-hits, found-by, soft-sound}

-- its floats, and the two of second place and margin
abbrev Found-floats : SoftDecoded → Type 0
Found-floats d = FloatsFinite d.weighted_score d.error_rate d.mean_confidence d.best_score × Finite d.second_score × Finite d.margin

soft-floats : (call : SoftCall) (m n k : ℕ) (A : SoftAccepted call m n k) (d : SoftDecoded) → soft_core call ≡ Ok d → Found-floats d
unfolding soft_decoded_of cell_fit
soft-floats call m n k A d e =
    let f = found-by call m n k A d e in
    let H = call.hard in
    let B = H.board in
    let E = H.physical in
    let X = call.likelihoods in
    let ts = H.transforms in
    let P = f.first in
    let t = get_or ts P.listed 0 in
    let fit = fit_of B E t P.row P.col in
    let edges = size E in
    let some = A.hard.some_physical in
    let few = A.hard.physical.few in
    let small = likelihoods-ok call m n k A in
    let one = total-within (whole_sum B E X ts P) (score-small B E X t P.row P.col A.hard.physical small) in
    let two = total-within (whole_sum B E X ts f.second) (score-small B E X (get_or ts f.second.listed 0) f.second.row f.second.col A.hard.physical small) in
    let hits : fit.hits ≤ edges = le_trans (le_of_eq (fit-hits B E t P.row P.col A.hard.board)) (hits-le B E t P.row P.col) in
    let weight = pair-within B E A.hard.board A.hard.physical t (h_cell B P.row P.col) (v_cell B P.row P.col) (h-below (period_of B true) (side-some B A.hard.board true) P.row P.col) (v_below (period_of B false) (side-some B A.hard.board false) P.row P.col) in
    subst Found-floats f.told (
      record {
        weighted = within-finite (div binary32 (total B E X ts P) (of_int binary32 (pos edges))) (2 ^ 29) (per-edge-within edges some few (total B E X ts P) one);
        rate = within-finite (rate_of edges fit.hits) 1 (rate-within edges fit.hits some few);
        mean = within-finite (mean_of fit.hits fit.weight) edges (mean-within fit.hits edges fit.weight (omega (arith, hits, few)) (omega (arith, few)) weight);
        best = within-finite (total B E X ts P) (2 ^ 29) one;
      },
      within-finite (total B E X ts f.second) (2 ^ 29) two,
      within-finite (margin_of B E X ts P f.second) (2 ^ 29 + 2 ^ 29) (margin-within edges some few (with_total B E X ts P) (with_total B E X ts f.second) one two),
    )

pub soft-in-range : (call : SoftCall) (m n k : ℕ) (A : SoftAccepted call m n k) (d : SoftDecoded) → soft_core call ≡ Ok d → SoftAnswerInRange (length call.hard.board.h) d
soft-in-range call m n k A d e =
    let a = soft-sound call m n k A d e in
    let P = a.square in
    let Q = a.runner-up in
    let h = call.hard in
    let f = soft-floats call m n k A d e in
    record {
      wholes = record {
        on-board = square-in-range h.board h.transforms P d.square A.hard.transforms A.hard.vertical a.leads.on-board a.tells.square;
        some_hits = omega (arith, a.tells.hits, a.tells.edges, hits-le h.board h.physical (get_or h.transforms P.listed 0) P.row P.col);
        few = omega (arith, a.tells.edges, A.hard.physical.few);
        runner_up_on = square-in-range h.board h.transforms Q d.runner_up A.hard.transforms A.hard.vertical a.runs_up.on-board a.tells.runner-up;
        runner_up_few = omega (arith, a.tells.runner_up_hits, A.hard.logical.few, hits-le h.board h.logical (get_or h.transforms Q.listed 0) Q.row Q.col);
      };
      floats = f.0;
      second = square-in-range h.board h.transforms a.second d.second A.hard.transforms A.hard.vertical a.clears.second.on-board a.second_named;
      second_score = f.1;
      margin = f.2;
    }
