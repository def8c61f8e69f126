-- WHAT NUMBERS THERE ARE, SOFT. An accepted soft call is refused by 10, 11, 13, 14 or 15 or by none, each exactly when document 01 says, in its order: "Soft: 10 physical, 14, 10
-- logical, 11, 15, 13."
use Rattle.std.specs.Prelude.{◌≡◌, Bool, true, false, cond, ◌&&◌, ◌⊎◌, ℕ, ◌≤◌, eqb, get_or, length, Err, None, Ok, Some}
use Rattle.std.proofs.Math.Path.{refl}
use Rattle.std.proofs.Common.{sym, ap, subst, ◌∙◌, inl, inr, ⊎_elim, arith}
use Rattle.laws.specs.Tests.{clash, not_so}
use Rattle.board.specs.declared.edge.Placing.{Placing}
use Rattle.board.specs.Hits.{size}
use Rattle.admission.specs.Calls.{SoftCall}
use Rattle.admission.specs.Accepted.{SoftAccepted}
use Rattle.figures.specs.Figures.{no_confidence}
use Rattle.figures.specs.Gate.{passed}
use Rattle.refusals.specs.declared.Refusal.{Refusal}
use Rattle.refusals.specs.Numbers.{numbered}
use Rattle.refusals.specs.Numbers as why
use Rattle.hard.specs.Select.{selection}
use Rattle.hard.specs.Kinds.{Selection}
use Rattle.margin.specs.Margin.{below_margin}
use Rattle.soft.specs.Select.{soft_selection}
use Rattle.soft_verdict.specs.declared.SoftBest.{SoftBest}
use Rattle.answer.specs.declared.SoftDecoded.{SoftDecoded}
use Rattle.answer.specs.Answers.{SoftAnswer}
use Rattle.verdict.specs.Verdict.{when_accepted}
use Rattle.verdict.specs.Answers.{numbers_apart, found-not}
use Rattle.soft_verdict.specs.SoftVerdict.{soft_refused_by, soft_verdict, soft_decoded_of, best_of}
use Rattle.demand.specs.OneSelection.{NoneWithinLimit, SomeWithinLimit, NoneLeads, Winner, Ended, ended, none-refused, within-refused, winner-some}
use Rattle.demand.specs.Winners.{winner-leads}
use Rattle.soft_core.specs.SoftDemand.{with_total, margin_of}
use Rattle.soft_logical.specs.Logical.{fit_of, soft_judged, after_hard}
use Rattle.soft_core.specs.Soft.{after_soft, soft_core}
use Rattle.soft_core.proofs.SoftTheorems.{own-best, own-exists, first-placing, second-placing}
use Rattle.soft_verdict.specs.SoftVerdictTheorems.{soft-answers}
use Rattle.refusals.specs.Admission.{accepted}

module _ (call : SoftCall) (m n o : ℕ) (A : SoftAccepted call m n o) where
  abbrev few : length call.hard.transforms ≤ 8
  few = A.hard.transforms.few

  -- its own best placing, and the second
  abbrev pub Q : Placing
  Q = first-placing call m n o A

  abbrev pub R : Placing
  R = second-placing call m n o A

  -- soft never lacks a second: it always holds two placings
  pub soft-two : soft_selection call.hard.board call.hard.physical call.likelihoods call.hard.transforms
      ≡ Some ((with_total call.hard.board call.hard.physical call.likelihoods call.hard.transforms Q), (with_total call.hard.board call.hard.physical call.likelihoods call.hard.transforms R))
  soft-two = own-best call m n o A Q R (own-exists call m n o A)

  -- the margin of the two is below the soft margin
  abbrev Below : Bool
  Below = below_margin (margin_of call.hard.board call.hard.physical call.likelihoods call.hard.transforms Q R) call.soft-margin

  abbrev LogicalNone : Type 0
  LogicalNone = NoneWithinLimit call.hard.board call.hard.logical call.hard.transforms call.hard.error_limit

  abbrev LogicalWithin : Type 0
  LogicalWithin = SomeWithinLimit call.hard.board call.hard.logical call.hard.transforms call.hard.error_limit

  abbrev LogicalLeads : Type 0
  LogicalLeads = NoneLeads call.hard.board call.hard.logical call.hard.transforms call.hard.error_limit

  abbrev LogicalWinner : Type 0
  LogicalWinner = Winner call.hard.board call.hard.logical call.hard.transforms call.hard.error_limit A.hard.board A.hard.logical few

  abbrev t : ℕ
  t = get_or call.hard.transforms Q.listed 0

  -- the soft and the hard winner name the same transform and origin
  abbrev SoftHardAgree : LogicalWinner → Bool
  SoftHardAgree w = eqb t (get_or call.hard.transforms w.winner.placing.listed 0) && (eqb Q.row w.winner.placing.row && eqb Q.col w.winner.placing.col)

  -- ---- the ways in which an accepted call ends, in document 01's order
  pub data SoftEnd : SoftAnswer → Type 0 where
    no_physical_confidence : no_confidence call.hard.physical ≡ true → SoftEnd (soft_refused_by why.no_confidence)
    margin_below : no_confidence call.hard.physical ≡ false → Below ≡ true → SoftEnd (soft_refused_by why.soft_margin)
    no_logical_confidence : no_confidence call.hard.physical ≡ false → Below ≡ false → no_confidence call.hard.logical ≡ true → SoftEnd (soft_refused_by why.no_confidence)
    none_within : no_confidence call.hard.physical ≡ false → Below ≡ false → no_confidence call.hard.logical ≡ false → LogicalNone → SoftEnd (soft_refused_by why.none_within_limit)
    winners_differ : no_confidence call.hard.physical ≡ false → Below ≡ false → (w : LogicalWinner) → SoftHardAgree w ≡ false → SoftEnd (soft_refused_by why.soft_hard_disagree)
    none_leads : no_confidence call.hard.physical ≡ false → Below ≡ false → (w : LogicalWinner) → SoftHardAgree w ≡ true → LogicalLeads → SoftEnd (soft_refused_by why.not_far_ahead)
    found : no_confidence call.hard.physical ≡ false → Below ≡ false → (w : LogicalWinner) → SoftHardAgree w ≡ true → (d : SoftDecoded) → SoftEnd (Ok d)

  abbrev best : SoftBest
  best =
      let B = call.hard.board in
      best_of (with_total B call.hard.physical call.likelihoods call.hard.transforms Q) (with_total B call.hard.physical call.likelihoods call.hard.transforms R) (size call.hard.physical)

  module _ (c : no_confidence call.hard.physical ≡ false) (b : Below ≡ false) where
    module _ (w : LogicalWinner) where
      told : (no_confidence call.hard.logical ≡ false) × LogicalWithin × ((passed (size call.hard.logical) w.winner.hits w.runner-up.hits ≡ true) ⊎ LogicalLeads)
      told = winner-some call.hard.board call.hard.logical call.hard.transforms call.hard.error_limit A.hard.board A.hard.logical few w

      abbrev answer : SoftAnswer
      answer = Ok (soft_decoded_of t (get_or call.hard.transforms R.listed 0) best (fit_of call.hard.board call.hard.physical t Q.row Q.col) (size call.hard.physical) w.runner-up)

      by-verdict : (a g : Bool) → SoftHardAgree w ≡ a → passed (size call.hard.logical) w.winner.hits w.runner-up.hits ≡ g
          → SoftEnd (when_accepted Err (cond a (cond g accepted (Err (numbered why.not_far_ahead))) (Err (numbered why.soft_hard_disagree))) answer)
      by-verdict true true e h = found c b w e _
      by-verdict true false e h = none_leads c b w e (⊎_elim (λ k. clash k h) (λ k. k) told.2)
      by-verdict false g e h = winners_differ c b w e

      by-judged : SoftEnd (soft_judged call.hard best w.winner w.runner-up)
      unfolding soft_judged soft_verdict
      by-judged = by-verdict (SoftHardAgree w) (passed (size call.hard.logical) w.winner.hits w.runner-up.hits) refl refl

    by-logical : (x : Selection) → selection call.hard.board call.hard.logical call.hard.transforms call.hard.error_limit ≡ x
        → Ended call.hard.board call.hard.logical call.hard.transforms call.hard.error_limit A.hard.board A.hard.logical few x → SoftEnd (after_hard call.hard best x)
    by-logical (Err r) e (inl h) = subst (λ (z : Refusal). SoftEnd (Err z)) (sym h.0) (no_logical_confidence c b h.1)
    by-logical (Err r) e (inr h) = subst (λ (z : Refusal). SoftEnd (Err z)) (sym h.0) (none_within c b h.1 h.2)
    by-logical (Ok (x, r)) e h = by-judged (record { winner = x; runner-up = r; selected = e })

  by-margin : (b : Bool) → Below ≡ b → no_confidence call.hard.physical ≡ false
      → SoftEnd (cond b (soft_refused_by why.soft_margin) (after_hard call.hard best (selection call.hard.board call.hard.logical call.hard.transforms call.hard.error_limit)))
  by-margin true e c = margin_below c e
  by-margin false e c =
      by-logical c e (selection call.hard.board call.hard.logical call.hard.transforms call.hard.error_limit) refl
      (ended call.hard.board call.hard.logical call.hard.transforms call.hard.error_limit A.hard.board A.hard.logical few)

  by-confidence : (b : Bool) → no_confidence call.hard.physical ≡ b
      → SoftEnd (cond b (soft_refused_by why.no_confidence) (after_soft call.hard call.soft-margin (soft_selection call.hard.board call.hard.physical call.likelihoods call.hard.transforms)))
  by-confidence true e = no_physical_confidence e
  by-confidence false e = rw soft-two (by-margin Below refl e)

  -- HOW AN ACCEPTED SOFT CALL ENDS
  pub soft-ends : SoftEnd (soft_core call)
  unfolding soft_core
  soft-ends = by-confidence (no_confidence call.hard.physical) refl

  -- refused late means 10, 11, 13, 14 or 15
  abbrev Late : ℕ → Type 0
  Late k = (why.no_confidence ≤ k) × (k ≤ why.soft_hard_disagree) × (k ≡ why.lists_disagree → ⊥)

  pub soft-late : (r : Refusal) → soft_core call ≡ Err r → Late r.number × (r.place ≡ None)
  soft-late r e = go (soft_core call) soft-ends e
    where
      numbers : (k : ℕ) → Late k → soft_refused_by k ≡ Err r → Late r.number × (r.place ≡ None)
      numbers k h q = let z : numbered k ≡ r = cc in (subst Late (ap (λ (x : Refusal). x.number) z) h, sym (ap (λ (x : Refusal). x.place) z))

      go : (a : SoftAnswer) → SoftEnd a → a ≡ Err r → Late r.number × (r.place ≡ None)
      go a (no_physical_confidence h) q = numbers why.no_confidence (omega arith, omega arith, λ z. omega arith) q
      go a (margin_below h k) q = numbers why.soft_margin (omega arith, omega arith, λ z. omega arith) q
      go a (no_logical_confidence h k l) q = numbers why.no_confidence (omega arith, omega arith, λ z. omega arith) q
      go a (none_within h k l i) q = numbers why.none_within_limit (omega arith, omega arith, λ z. omega arith) q
      go a (winners_differ h k w l) q = numbers why.soft_hard_disagree (omega arith, omega arith, λ z. omega arith) q
      go a (none_leads h k w l i) q = numbers why.not_far_ahead (omega arith, omega arith, λ z. omega arith) q
      go a (found h k w l d) q = absurd (soft-answers.apart d r q)

  -- ---- each number, given exactly when: what stands before it in document 01's order does not apply, and it does
  -- the physical list has confidence, and the margin is not below the soft margin
  abbrev Clear : Type 0
  Clear = (no_confidence call.hard.physical ≡ false) × (Below ≡ false)

  core-clear : Clear → soft_core call ≡ after_hard call.hard best (selection call.hard.board call.hard.logical call.hard.transforms call.hard.error_limit)
  unfolding soft_core
  core-clear h = rw (h.0, soft-two, h.1)

  core-unsure : no_confidence call.hard.physical ≡ true → soft_core call ≡ soft_refused_by why.no_confidence
  unfolding soft_core
  core-unsure h = rw h

  -- 10
  abbrev SoftNoConfidence : Type 0
  SoftNoConfidence = (no_confidence call.hard.physical ≡ true) ⊎ (Clear × (no_confidence call.hard.logical ≡ true))

  pub soft-10 : (soft_core call ≡ soft_refused_by why.no_confidence → SoftNoConfidence) × (SoftNoConfidence → soft_core call ≡ soft_refused_by why.no_confidence)
  soft-10 = ((λ e. go (soft_core call) soft-ends e), back)
    where
      go : (a : SoftAnswer) → SoftEnd a → a ≡ soft_refused_by why.no_confidence → SoftNoConfidence
      go a (no_physical_confidence h) q = inl h
      go a (margin_below h k) q = numbers_apart soft-answers why.soft_margin why.no_confidence (λ z. omega arith) q
      go a (no_logical_confidence h k l) q = inr ((h, k), l)
      go a (none_within h k l i) q = numbers_apart soft-answers why.none_within_limit why.no_confidence (λ z. omega arith) q
      go a (winners_differ h k w l) q = numbers_apart soft-answers why.soft_hard_disagree why.no_confidence (λ z. omega arith) q
      go a (none_leads h k w l i) q = numbers_apart soft-answers why.not_far_ahead why.no_confidence (λ z. omega arith) q
      go a (found h k w l d) q = found-not soft-answers d why.no_confidence q

      back : SoftNoConfidence → soft_core call ≡ soft_refused_by why.no_confidence
      back (inl h) = core-unsure h
      back (inr h) = core-clear h.0 ∙ ap (after_hard call.hard best) (none-refused call.hard.board call.hard.logical call.hard.transforms call.hard.error_limit A.hard.board A.hard.logical few h.1)

  -- 14: the physical list has confidence, and the margin of its two best is below the soft margin
  abbrev MarginBelow : Type 0
  MarginBelow = (no_confidence call.hard.physical ≡ false) × (Below ≡ true)

  pub soft-14 : (soft_core call ≡ soft_refused_by why.soft_margin → MarginBelow) × (MarginBelow → soft_core call ≡ soft_refused_by why.soft_margin)
  unfolding soft_core
  soft-14 = ((λ e. go (soft_core call) soft-ends e), λ h. rw (h.0, soft-two, h.1))
    where
      go : (a : SoftAnswer) → SoftEnd a → a ≡ soft_refused_by why.soft_margin → MarginBelow
      go a (no_physical_confidence h) q = numbers_apart soft-answers why.no_confidence why.soft_margin (λ z. omega arith) q
      go a (margin_below h k) q = (h, k)
      go a (no_logical_confidence h k l) q = numbers_apart soft-answers why.no_confidence why.soft_margin (λ z. omega arith) q
      go a (none_within h k l i) q = numbers_apart soft-answers why.none_within_limit why.soft_margin (λ z. omega arith) q
      go a (winners_differ h k w l) q = numbers_apart soft-answers why.soft_hard_disagree why.soft_margin (λ z. omega arith) q
      go a (none_leads h k w l i) q = numbers_apart soft-answers why.not_far_ahead why.soft_margin (λ z. omega arith) q
      go a (found h k w l d) q = found-not soft-answers d why.soft_margin q

  -- 11: no placing of the logical list is within the limit
  abbrev NoneWithin : Type 0
  NoneWithin = Clear × (no_confidence call.hard.logical ≡ false) × LogicalNone

  pub soft-11 : (soft_core call ≡ soft_refused_by why.none_within_limit → NoneWithin) × (NoneWithin → soft_core call ≡ soft_refused_by why.none_within_limit)
  soft-11 = (
    (λ e. go (soft_core call) soft-ends e),
    λ h. core-clear h.0 ∙ ap (after_hard call.hard best) (within-refused call.hard.board call.hard.logical call.hard.transforms call.hard.error_limit A.hard.board A.hard.logical few h.1 h.2),
  )
    where
      go : (a : SoftAnswer) → SoftEnd a → a ≡ soft_refused_by why.none_within_limit → NoneWithin
      go a (no_physical_confidence h) q = numbers_apart soft-answers why.no_confidence why.none_within_limit (λ z. omega arith) q
      go a (margin_below h k) q = numbers_apart soft-answers why.soft_margin why.none_within_limit (λ z. omega arith) q
      go a (no_logical_confidence h k l) q = numbers_apart soft-answers why.no_confidence why.none_within_limit (λ z. omega arith) q
      go a (none_within h k l i) q = ((h, k), l, i)
      go a (winners_differ h k w l) q = numbers_apart soft-answers why.soft_hard_disagree why.none_within_limit (λ z. omega arith) q
      go a (none_leads h k w l i) q = numbers_apart soft-answers why.not_far_ahead why.none_within_limit (λ z. omega arith) q
      go a (found h k w l d) q = found-not soft-answers d why.none_within_limit q

  -- what a winner of the logical list comes to
  judged-is : Clear → (w : LogicalWinner) → soft_core call ≡ soft_judged call.hard best w.winner w.runner-up
  judged-is h w = core-clear h ∙ ap (after_hard call.hard best) w.selected

  -- 15: the logical list has a winner, and it is not the soft one
  pub record SoftHardDisagree : Type 0 where
    pub clear : Clear
    pub logical : LogicalWinner
    pub differ : SoftHardAgree logical ≡ false

  pub soft-15 : (soft_core call ≡ soft_refused_by why.soft_hard_disagree → SoftHardDisagree) × (SoftHardDisagree → soft_core call ≡ soft_refused_by why.soft_hard_disagree)
  unfolding soft_judged soft_verdict
  soft-15 = ((λ e. go (soft_core call) soft-ends e), λ d. judged-is d.clear d.logical ∙ rw d.differ)
    where
      go : (a : SoftAnswer) → SoftEnd a → a ≡ soft_refused_by why.soft_hard_disagree → SoftHardDisagree
      go a (no_physical_confidence h) q = numbers_apart soft-answers why.no_confidence why.soft_hard_disagree (λ z. omega arith) q
      go a (margin_below h k) q = numbers_apart soft-answers why.soft_margin why.soft_hard_disagree (λ z. omega arith) q
      go a (no_logical_confidence h k l) q = numbers_apart soft-answers why.no_confidence why.soft_hard_disagree (λ z. omega arith) q
      go a (none_within h k l i) q = numbers_apart soft-answers why.none_within_limit why.soft_hard_disagree (λ z. omega arith) q
      go a (winners_differ h k w l) q = record { clear = (h, k); logical = w; differ = l }
      go a (none_leads h k w l i) q = numbers_apart soft-answers why.not_far_ahead why.soft_hard_disagree (λ z. omega arith) q
      go a (found h k w l d) q = found-not soft-answers d why.soft_hard_disagree q

  -- 13: the winners agree, and no placing of the logical list leads
  pub record SoftNotAhead : Type 0 where
    pub clear : Clear
    pub logical : LogicalWinner
    pub agree : SoftHardAgree logical ≡ true
    pub none_lead : LogicalLeads

  pub soft-13 : (soft_core call ≡ soft_refused_by why.not_far_ahead → SoftNotAhead) × (SoftNotAhead → soft_core call ≡ soft_refused_by why.not_far_ahead)
  unfolding soft_judged soft_verdict
  soft-13 = ((λ e. go (soft_core call) soft-ends e), λ d. judged-is d.clear d.logical ∙ rw (d.agree, not-passed d))
    where
      go : (a : SoftAnswer) → SoftEnd a → a ≡ soft_refused_by why.not_far_ahead → SoftNotAhead
      go a (no_physical_confidence h) q = numbers_apart soft-answers why.no_confidence why.not_far_ahead (λ z. omega arith) q
      go a (margin_below h k) q = numbers_apart soft-answers why.soft_margin why.not_far_ahead (λ z. omega arith) q
      go a (no_logical_confidence h k l) q = numbers_apart soft-answers why.no_confidence why.not_far_ahead (λ z. omega arith) q
      go a (none_within h k l i) q = numbers_apart soft-answers why.none_within_limit why.not_far_ahead (λ z. omega arith) q
      go a (winners_differ h k w l) q = numbers_apart soft-answers why.soft_hard_disagree why.not_far_ahead (λ z. omega arith) q
      go a (none_leads h k w l i) q = record { clear = (h, k); logical = w; agree = l; none_lead = i }
      go a (found h k w l d) q = found-not soft-answers d why.not_far_ahead q

      not-passed : (d : SoftNotAhead) → passed (size call.hard.logical) d.logical.winner.hits d.logical.runner-up.hits ≡ false
      not-passed d =
          not_so (passed (size call.hard.logical) d.logical.winner.hits d.logical.runner-up.hits)
          (λ g. d.none_lead d.logical.winner.placing (winner-leads call.hard.board call.hard.logical call.hard.transforms call.hard.error_limit A.hard.board A.hard.logical few d.logical.winner d.logical.runner-up d.logical.selected g))
