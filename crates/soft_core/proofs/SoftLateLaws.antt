-- An accepted soft call is refused late exactly when SoftLate.antt says.
use Rattle.std.specs.Prelude.{◌≡◌, Bool, true, false, ◌&&◌, ℕ, eqb, get_or, pos, Float}
use Rattle.std.proofs.Common.{sym, ap, ap₂, subst, ◌∙◌, inl, inr, ⊎_elim, eq-eqb, eqb-true}
use Rattle.std.specs.Float.{binary32}
use Rattle.std.specs.Float.Ieee.{lt, sub, div, of_int}
use Rattle.laws.specs.Tests.{and-true, clash, not_so}
use Rattle.board.specs.declared.edge.Placing.{Placing}
use Rattle.board.specs.Hits.{size}
use Rattle.admission.specs.Calls.{SoftCall}
use Rattle.admission.specs.Accepted.{SoftAccepted}
use Rattle.figures.specs.Figures.{no_confidence}
use Rattle.margin.specs.Margin.{below_margin}
use Rattle.sums.specs.Sums.{LikelihoodsOk}
use Rattle.demand.specs.Late.{LogicalKept, SameSquare}
use Rattle.demand.specs.OneSelection.{Winner}
use Rattle.soft_core.specs.Soft.{soft_core}
use Rattle.soft_core.specs.SoftDemand.{total, margin_of, SecondByLikelihood}
use Rattle.soft_core.specs.SoftPlaces.{first-once, second-total}
use Rattle.soft_core.specs.SoftLate.{OwnMargin, SoftWinnersDiffer, SoftNoneAhead, SoftLate}
use Rattle.soft_core.proofs.SoftTheorems.{places-exist}
use Rattle.soft_core.proofs.SoftNumbers.{Q, R, SoftHardDisagree, SoftNotAhead, soft-10, soft-11, soft-13, soft-14, soft-15}

module _ (call : SoftCall) (m n o : ℕ) (A : SoftAccepted call m n o) where
  abbrev first : Placing
  first = Q call m n o A

  abbrev other : Placing
  other = R call m n o A

  abbrev under : Placing → Placing → Bool
  under P S = below_margin (margin_of call.hard.board call.hard.physical call.likelihoods call.hard.transforms P S) call.soft-margin

  ok : LikelihoodsOk call.hard.physical call.likelihoods
  ok = record { matches = A.matches; mismatches = A.mismatches; match = λ i l. (A.likely i l).0; mismatch = λ i l. (A.likely i l).1 }

  -- the margin of what soft selection keeps is that of its own best placing
  own_of : {below : Bool} → no_confidence call.hard.physical ≡ false → under first other ≡ below → OwnMargin call below
  own_of k e = record { physical_confidence = k; square = first; second = other; first = (places-exist call m n o A).0; second-best = (places-exist call m n o A).1; margin = e }

  -- there is one such placing
  module _ {below : Bool} (own : OwnMargin call below) where
    square-of : own.square ≡ first
    square-of =
        let s = first-once call.hard.board call.hard.physical call.likelihoods call.hard.transforms A.hard.board own.square first own.first (places-exist call m n o A).0 in
        λ i. record { listed = s.0 i; row = s.1 i; col = s.2 i }

    -- of the second the margin takes the total alone
    second-of : total call.hard.board call.hard.physical call.likelihoods call.hard.transforms own.second ≡ total call.hard.board call.hard.physical call.likelihoods call.hard.transforms other
    second-of =
        second-total call.hard.board call.hard.physical call.likelihoods call.hard.transforms A.hard.board A.hard.physical ok first own.second other
        (subst (λ (P : Placing). SecondByLikelihood call.hard.board call.hard.physical call.likelihoods call.hard.transforms P own.second) square-of own.second-best) (places-exist call m n o A).1

    under_of : under first other ≡ below
    under_of =
        ap₂ (λ (P : Placing) (x : Float). lt (div binary32 (sub binary32 (total call.hard.board call.hard.physical call.likelihoods call.hard.transforms P) x) (of_int binary32 (pos (size call.hard.physical)))) call.soft-margin) (sym square-of) (sym second-of)
        ∙ own.margin

  -- the winner of the logical list
  abbrev LogicalWin : Type 0
  LogicalWin = Winner call.hard.board call.hard.logical call.hard.transforms call.hard.error_limit A.hard.board A.hard.logical A.hard.transforms.few

  abbrev kept : LogicalWin → LogicalKept call.hard
  kept w = record { winner = w.winner; runner-up = w.runner-up; chosen = w.selected }

  abbrev won : LogicalKept call.hard → LogicalWin
  won w = record { winner = w.winner; runner-up = w.runner-up; selected = w.chosen }

  -- the test of two placings, and what it is to have the same square
  abbrev test : Placing → Placing → Bool
  test P S = eqb (get_or call.hard.transforms P.listed 0) (get_or call.hard.transforms S.listed 0) && (eqb P.row S.row && eqb P.col S.col)

  same_of : (P S : Placing) → test P S ≡ true → SameSquare call.hard.transforms P S
  same_of P S h =
      let t = get_or call.hard.transforms P.listed 0 in
      let s = get_or call.hard.transforms S.listed 0 in
      let u = and-true (eqb t s) _ h in
      let v = and-true (eqb P.row S.row) (eqb P.col S.col) u.1 in
      (eqb-true t s u.0, eqb-true P.row S.row v.0, eqb-true P.col S.col v.1)

  test_of : (P S : Placing) → SameSquare call.hard.transforms P S → test P S ≡ true
  test_of P S e = rw (eq-eqb _ _ e.0, eq-eqb _ _ e.1, eq-eqb _ _ e.2)

  differ_of : SoftHardDisagree call m n o A → SoftWinnersDiffer call
  unfolding own_of
  differ_of d = record {
    own = own_of d.clear.0 d.clear.1;
    logical = kept d.logical;
    differ = λ e. clash (test_of first d.logical.winner.placing e) d.differ;
  }

  differ_back : SoftWinnersDiffer call → SoftHardDisagree call m n o A
  differ_back d =
      let P = d.logical.winner.placing in
      record {
        clear = (d.own.physical_confidence, under_of d.own);
        logical = won d.logical;
        differ = not_so (test first P) (λ h. d.differ (same_of d.own.square P (ap (λ (x : Placing). test x P) (square-of d.own) ∙ h)));
      }

  ahead_of : SoftNotAhead call m n o A → SoftNoneAhead call
  unfolding own_of
  ahead_of d = record {
    own = own_of d.clear.0 d.clear.1;
    logical = kept d.logical;
    agree = same_of first d.logical.winner.placing d.agree;
    none_leads = d.none_lead;
  }

  ahead-back : SoftNoneAhead call → SoftNotAhead call m n o A
  ahead-back d =
      let P = d.logical.winner.placing in
      record {
        clear = (d.own.physical_confidence, under_of d.own);
        logical = won d.logical;
        agree = sym (ap (λ (x : Placing). test x P) (square-of d.own)) ∙ test_of d.own.square P d.agree;
        none_lead = d.none_leads;
      }

  -- THE LATE REFUSALS OF SOFT DECODE, EXACTLY WHEN
  pub soft-late-numbers : SoftLate call (soft_core call)
  soft-late-numbers =
      let s10 = soft-10 call m n o A in
      let s11 = soft-11 call m n o A in
      let s13 = soft-13 call m n o A in
      let s14 = soft-14 call m n o A in
      let s15 = soft-15 call m n o A in
      record {
        ten = (
          (λ e. ⊎_elim (λ h. inl h) (λ h. inr (own_of h.0.0 h.0.1, h.1)) (s10.0 e)),
          λ h. s10.1 (⊎_elim (λ k. inl k) (λ k. inr ((k.0.physical_confidence, under_of k.0), k.1)) h),
        );
        eleven = (
          (λ e. let h = s11.0 e in (own_of h.0.0 h.0.1, h.1, h.2)),
          λ h. s11.1 ((h.0.physical_confidence, under_of h.0), h.1, h.2),
        );
        thirteen = ((λ e. ahead_of (s13.0 e)), λ d. s13.1 (ahead-back d));
        fourteen = ((λ e. let h = s14.0 e in own_of h.0 h.1), λ d. s14.1 (d.physical_confidence, under_of d));
        fifteen = ((λ e. differ_of (s15.0 e)), λ d. s15.1 (differ_back d));
      }
