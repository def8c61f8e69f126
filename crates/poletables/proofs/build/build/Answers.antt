-- `build`: a list that the checks took is ready for its tables and its sums.
use Rattle.std.specs.Prelude.{Ok}
use Rattle.std.proofs.Common.{◌≡◌, ℕ, [], ◌∷◌, length, sym, refl, ◌∙◌}
use Rattle.laws.specs.Words.{zero_f}
use Rattle.board.specs.Hits.{EdgeList, Board, edges, tables}
use Rattle.likelihood.specs.Likelihood.{Likelihoods, likelihoods}
use Rattle.refusals.specs.Admission.{Admission, accepted}
use Rattle.admission.specs.Calls.{soft_call}
use Rattle.admission.specs.Refusals.{soft_admission}
use Rattle.admission.specs.Accepted.{SoftAccepted, soft-accepted}
use Rattle.sums.specs.SumsTheorems.{bare-ready}
use Rattle.poletables.specs.Ready.{tables-ready, sums-ready}
use Rattle.poletables.proofs.build.build.Goals as goal

-- what the checks took, with 0 for both limits
was-accepted : (E : EdgeList) (X : Likelihoods) (t : ℕ) (B : Board) (m n k : ℕ) (r : Admission) → r ≡ soft_admission (soft_call E E X (t ∷ []) B zero_f zero_f) m n k → r ≡ accepted → SoftAccepted (soft_call E E X (t ∷ []) B zero_f zero_f) m n k
was-accepted E X t B m n k r e f = soft-accepted (soft_call E E X (t ∷ []) B zero_f zero_f) m n k (sym e ∙ f)

pub build_tables-requires : goal.build_tables-requires
unfolding lib.Ieee.of_bits
build_tables-requires c =
    let a = c.args in
    let E : EdgeList = edges a.rows.now a.cols.now a.orientations.now a.bits.now a.confidences.now in
    let X : Likelihoods = likelihoods a.matches.now a.mismatches.now in
    let B : Board = tables a.h.now a.v.now in
    tables-ready E X a.transform B zero_f zero_f _ _ _ (was-accepted E X a.transform B (length a.counts.now) (length a.weights.now) (length a.sums.now) _ c.soft_admission-admitted.ensures c.in-Ok.is) a.counts.now a.weights.now refl refl

pub build_sums-requires : goal.build_sums-requires
unfolding lib.Ieee.of_bits
build_sums-requires c =
    let a = c.args in
    let E : EdgeList = edges a.rows.now a.cols.now a.orientations.now a.bits.now a.confidences.now in
    let X : Likelihoods = likelihoods a.matches.now a.mismatches.now in
    let B : Board = tables a.h.now a.v.now in
    bare-ready B E X a.transform a.sums.now (sums-ready E X a.transform B zero_f zero_f _ _ _ (was-accepted E X a.transform B (length a.counts.now) (length a.weights.now) (length a.sums.now) _ c.soft_admission-admitted.ensures c.in-Ok.is) a.sums.now refl)
