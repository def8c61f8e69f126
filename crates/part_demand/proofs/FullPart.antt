-- "The full rectangle is proved equal to C-15's mode in placing and hits": 501 rows by 501 columns, from any start, on a flat board. Decode over the part and exact decode refuse alike, or find the
-- same square with the same hits, edges, weight, total, rate and runner-up hits. The runner-up's place may differ: over a part it goes by C-16's rule, the first of the others with most hits.
use Rattle.std.specs.Prelude.{◌≡◌, refl, Bool, true, false, cond, List, ℕ, ◌≤◌, ◌<◌, get_or, length, Float, Err, None, Ok, Some}
use Rattle.std.proofs.Common.{sym, ap, subst, ◌∙◌, arith}
use Rattle.laws.specs.Tests.{clash}
use Rattle.laws.specs.Words.{one_f}
use Rattle.board.specs.declared.edge.Placing.{Placing}
use Rattle.board.specs.Hits.{EdgeList, Board, size, hits_at}
use Rattle.board.specs.Domain.{ListOk, BoardOk}
use Rattle.refusals.specs.declared.Refusal.{Refusal}
use Rattle.refusals.specs.Numbers.{numbered}
use Rattle.refusals.specs.Numbers as why
use Rattle.admission.specs.Calls.{HardCall}
use Rattle.admission.specs.Accepted.{HardAccepted}
use Rattle.figures.specs.Gate.{passed}
use Rattle.scan.specs.declared.scan.RunnerUp.{RunnerUp}
use Rattle.verdict.proofs.VerdictTheorems.{test}
use Rattle.demand.specs.Demand.{OnBoard, Same}
use Rattle.exact_scan.specs.declared.kept.ExactWinner.{ExactWinner}
use Rattle.exact_scan.specs.Kinds.{ExactSelection}
use Rattle.exact.specs.Select.{exact_selection}
use Rattle.exact.specs.Winner.{weight_at, IsWinner}
use Rattle.exact.proofs.ExactTheorems.{winner-once, exact-winner, exact-runner-up}
use Rattle.exact_answer.specs.declared.ExactDecoded.{ExactDecoded}
use Rattle.exact_verdict.specs.ExactVerdict.{exact_refused_by, exact_decoded_of, exact_judged}
use Rattle.exact_core.specs.ExactCore.{total_units, runner_weight_of, judged_winners, exact_after_physical, exact_after_logical, exact_core}
use Rattle.exact_demand.proofs.ExactSelections as whole
use Rattle.part.specs.declared.Part.{Part}
use Rattle.part.specs.Part.{InSide, OnPart, PartOk}
use Rattle.part.specs.PartLaws.{side-below, side-full}
use Rattle.part_select.specs.Kinds.{PartNext}
use Rattle.part_select.specs.Kinds.{PartSelection}
use Rattle.part_select.specs.Select.{part_selection}
use Rattle.part_select.specs.PartWinner.{IsPartWinner}
use Rattle.part_select.proofs.PartTheorems.{PartSelected, part-winner}
use Rattle.part_answer.specs.declared.PartDecoded.{PartDecoded}
use Rattle.part_verdict.specs.PartVerdict.{part_refused_by, part_decoded_of, part_judged}
use Rattle.part_core.specs.PartCore.{shown_beside, judged_part, part_after_physical, part_after_logical, part_core}
use Rattle.part_demand.specs.FullPart.{FullAgrees, both_find, both_refuse, Full}
use Rattle.part_demand.proofs.PartSelections as over

-- ---- the placings of the full part are those of the flat board
module _ (B : Board) (ts : List ℕ) (h : length B.h ≡ 167) (v : length B.v ≡ 167) (part : Part) (ok : PartOk part) (full : Full part) where
  pub on-full : (P : Placing) → OnBoard B ts P → OnPart ts part P
  on-full P o = (
    o.in_list,
    (
      subst (λ (k : ℕ). InSide part.row k P.row) (sym full.rows) (side-full part.row P.row ok.down.begins (omega (arith, o.row, h))),
      subst (λ (k : ℕ). InSide part.col k P.col) (sym full.cols) (side-full part.col P.col ok.across.begins (omega (arith, o.col, v))),
    ),
  )

  pub full-on : (P : Placing) → OnPart ts part P → OnBoard B ts P
  full-on P o = record {
    in_list = o.0;
    row = omega (arith, h, side-below part.row part.rows P.row o.1.0);
    col = omega (arith, v, side-below part.col part.cols P.col o.1.1);
  }

  -- so are their winners
  pub full-winner : (E : EdgeList) (P : Placing) → IsPartWinner B E ts part P → IsWinner B E ts P
  full-winner E P w = record {
    on-board = full-on P w.on_part;
    most_hits = λ Q o. w.most_hits Q (on-full Q o);
    most_weight = λ Q o a. w.most_weight Q (on-full Q o) a;
    earliest = λ Q o a b. (w.earliest Q (on-full Q o) a b).listed;
    first_row = λ Q o a b c. (w.earliest Q (on-full Q o) a b).row c;
    first-col = λ Q o a b c d. (w.earliest Q (on-full Q o) a b).col c d;
  }

-- ---- the selections of one list
-- both refuse alike, or both select the same winner, and a runner-up with as many hits
pub data SelectionsAgree : PartSelection → ExactSelection → Type 0 where
  same-refusal : (r : Refusal) → SelectionsAgree (Err r) (Err r)
  same-winner : (w o : ExactWinner) (r : RunnerUp) → o.hits ≡ r.hits → SelectionsAgree (Ok (w, (Some o))) (Ok (w, r))

module _ (B : Board) (E : EdgeList) (ts : List ℕ) (board : BoardOk B) (list : ListOk E) (h : length B.h ≡ 167) (v : length B.v ≡ 167) (part : Part) (ok : PartOk part) (full : Full part) (limit : Float) (some : 0 < length ts) (few : length ts ≤ 8) where
  abbrev PartEnd : PartSelection → Type 0
  PartEnd = over.PartSelectionEnd B E ts board list h v part ok limit some

  abbrev WholeEnd : ExactSelection → Type 0
  WholeEnd = whole.SelectionEnd B E ts limit board list some

  module _ (w : ExactWinner) (x : ExactWinner) (r : RunnerUp) (e : exact_selection B E ts limit ≡ Ok (x, r)) where
    -- the same placing, with its hits and its weight
    module _ (n : PartNext) (S : PartSelected B E ts board list h v part ok limit w n) where
      one_place : w.placing ≡ x.placing
      one_place =
          let s = winner-once B E ts w.placing x.placing (full-winner B ts h v part ok full E w.placing S.winner) (exact-winner B E ts board list some limit x r e).0 in
          λ i. record { listed = s.0 i; row = s.1 i; col = s.2 i }

      one-winner : w ≡ x
      one-winner =
          let X = exact-winner B E ts board list some limit x r e in
          let a = S.told.hits ∙ ap (hits_at B E ts) one_place ∙ sym X.1 in
          let b = S.told.weight ∙ ap (weight_at B E ts) one_place ∙ sym X.2 in
          λ i. record { hits = a i; weight = b i; placing = one_place i }

    -- the runner-up's hits: no third has more, either way
    level : (o : ExactWinner) → PartSelected B E ts board list h v part ok limit w (Some o) → o.hits ≡ r.hits
    level o S =
        let R = exact-runner-up B E ts board list some limit x r e few in
        let p = one_place (Some o) S in
        let q = S.shown.0 in
        let a = R.runs_up.no_third o.placing (full-on B ts h v part ok full o.placing q.on_part) (λ s. q.other (subst (Same o.placing) (sym p) s)) in
        let b = q.no_third R.one (on-full B ts h v part ok full R.one R.runs_up.on-board) (λ s. R.runs_up.other (subst (Same R.one) p s)) in
        omega (arith, a, b, R.with_hits, S.shown.1.hits)

    by_next : (n : PartNext) → PartSelected B E ts board list h v part ok limit w n → SelectionsAgree (Ok (w, n)) (Ok (x, r))
    by_next None S = absurd (omega (arith, full.rows, (over.one-placing ts part ok some w.placing S.shown).row))
    by_next (Some o) S = subst (λ (z : ExactWinner). SelectionsAgree (Ok (w, (Some o))) (Ok (z, r))) (one-winner (Some o) S) (same-winner w o r (level o S))

  by-ends : (a : PartSelection) → PartEnd a → (b : ExactSelection) → WholeEnd b → SelectionsAgree a b
  by-ends a (over.no-units z) b (whole.no-units y) = same-refusal (numbered why.no_confidence)
  by-ends a (over.no-units z) b (whole.none_within u k) = absurd (omega (arith, z, u))
  by-ends a (over.no-units z) b (whole.selected u x r e) = absurd (omega (arith, z, u))
  by-ends a (over.none_within u k) b (whole.no-units y) = absurd (omega (arith, y, u))
  by-ends a (over.none_within u k) b (whole.none_within y l) = same-refusal (numbered why.none_within_limit)
  by-ends a (over.none_within u k) b (whole.selected y x r e) =
      let X = exact-winner B E ts board list some limit x r e in clash (k x.placing (on-full B ts h v part ok full x.placing X.0.on-board)) X.3
  by-ends a (over.selected u w n f) b (whole.no-units y) = absurd (omega (arith, y, u))
  by-ends a (over.selected u w n f) b (whole.none_within y l) =
      let S = part-winner B E ts board list h v part ok limit w n f in clash (l w.placing (full-on B ts h v part ok full w.placing S.winner.on_part)) S.within
  by-ends a (over.selected u w n f) b (whole.selected y x r e) = by_next w x r e n (part-winner B E ts board list h v part ok limit w n f)

  -- ON ONE LIST THE SELECTION OVER THE FULL PART IS THE EXACT SELECTION
  pub selections-agree : SelectionsAgree (part_selection B E ts part limit) (exact_selection B E ts limit)
  selections-agree = by-ends (part_selection B E ts part limit) (over.part-ended B E ts board list h v part ok limit some) (exact_selection B E ts limit) (whole.exact-ended B E ts limit board list some)

-- ---- both lists
module _ (B : Board) (L : EdgeList) (ts : List ℕ) (w o : ExactWinner) (r : RunnerUp) (e : o.hits ≡ r.hits) where
  -- the two verdicts ask the same
  judged-agree : (p : ExactWinner) → FullAgrees (judged_part (size L) (total_units L) ts w (Some o) p) (judged_winners B L ts w r p)
  unfolding part_judged exact_judged part_decoded_of exact_decoded_of
  judged-agree p = go (test (get_or ts w.placing.listed 0) w.placing (get_or ts p.placing.listed 0) p.placing) (passed (size L) w.hits o.hits) (passed (size L) w.hits r.hits) (ap (passed (size L) w.hits) e)
    where
      d : PartDecoded
      d = part_decoded_of (get_or ts w.placing.listed 0) w (shown_beside ts (Some o)) (size L) (total_units L)

      x : ExactDecoded
      x = exact_decoded_of (get_or ts w.placing.listed 0) w r (size L) (total_units L) (runner_weight_of B L r)

      go : (b g k : Bool) → g ≡ k → FullAgrees (cond b (cond g (Ok d) (part_refused_by why.not_far_ahead)) (part_refused_by why.lists_disagree)) (cond b (cond k (Ok x) (exact_refused_by why.not_far_ahead)) (exact_refused_by why.lists_disagree))
      go true true true q = both_find d x (record { square = refl; hits = refl; edges = refl; weight = refl; total = refl; rate = refl; runner_up_hits = e })
      go true true false q = clash (sym q) refl
      go true false true q = clash q refl
      go true false false q = both_refuse (numbered why.not_far_ahead)
      go false g k q = both_refuse (numbered why.lists_disagree)

  physical-agree : (a : PartSelection) (b : ExactSelection) → SelectionsAgree a b → FullAgrees (part_after_physical L ts w (Some o) a) (exact_after_physical B L ts w r b)
  physical-agree a b (same-refusal x) = both_refuse x
  physical-agree a b (same-winner p q y z) = judged-agree p

module _ (call : HardCall) (part : Part) (m n : ℕ) (A : HardAccepted call m n) (flat : length call.board.h ≡ 167) (ok : PartOk part) (full : Full part) where
  logical-agree : (a : PartSelection) (b : ExactSelection) → SelectionsAgree a b → FullAgrees (part_after_logical call part a) (exact_after_logical call b)
  logical-agree a b (same-refusal x) = both_refuse x
  logical-agree a b (same-winner w o r e) =
      physical-agree call.board call.logical call.transforms w o r e (part_selection call.board call.physical call.transforms part one_f) (exact_selection call.board call.physical call.transforms one_f)
      (selections-agree call.board call.physical call.transforms A.board A.physical flat A.vertical part ok full one_f A.transforms.some A.transforms.few)

  -- THE FULL PART IS THE EXACT MODE, from any start
  pub full-part : FullAgrees (part_core call part) (exact_core call)
  unfolding part_core exact_core
  full-part =
      logical-agree (part_selection call.board call.logical call.transforms part call.error_limit) (exact_selection call.board call.logical call.transforms call.error_limit)
      (selections-agree call.board call.logical call.transforms A.board A.logical flat A.vertical part ok full call.error_limit A.transforms.some A.transforms.few)
