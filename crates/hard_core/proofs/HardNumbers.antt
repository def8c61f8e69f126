-- WHAT NUMBERS THERE ARE, HARD. An accepted hard call is refused by 10, 11, 12 or 13 or by none, each exactly when document 01 says, in its order: "Hard then: 10 logical, 11,
-- 10 physical, 12, 13."
use Rattle.std.specs.Prelude.{◌≡◌, Bool, true, false, cond, ◌⊎◌, ℕ, ◌≤◌, ◌<◌, get_or, length, Err, None, Ok}
use Rattle.std.proofs.Math.Path.{refl, ap}
use Rattle.std.proofs.Common.{sym, subst, ◌∙◌, ⊎_elim, arith}
use Rattle.std.proofs.Math.Logic.{inl, inr}
use Rattle.laws.specs.Tests.{clash, not_so}
use Rattle.laws.specs.Words.{one_f}
use Rattle.board.specs.declared.edge.Placing.{Placing}
use Rattle.board.specs.Hits.{size, hits_at}
use Rattle.admission.specs.Calls.{HardCall}
use Rattle.admission.specs.Accepted.{HardAccepted}
use Rattle.figures.specs.Figures.{no_confidence}
use Rattle.figures.specs.Gate.{passed}
use Rattle.refusals.specs.declared.Refusal.{Refusal}
use Rattle.refusals.specs.Numbers.{numbered}
use Rattle.refusals.specs.Numbers as why
use Rattle.hard.specs.RateLaws.{never-over-one}
use Rattle.hard.specs.Select.{selection}
use Rattle.hard.specs.Kinds.{Selection}
use Rattle.answer.specs.declared.Decoded.{Decoded}
use Rattle.answer.specs.Answers.{Answer}
use Rattle.verdict.specs.Verdict.{refused_by, agreed, decoded_of, judged}
use Rattle.verdict.specs.Answers.{answers, numbers_apart, found-not}
use Rattle.demand.specs.Demand.{OnBoard, Same}
use Rattle.demand.specs.DemandLaws.{same_or_not}
use Rattle.demand.specs.OneSelection.{NoneWithinLimit, SomeWithinLimit, NoneLeads, Winner, Ended, ended, none-refused, within-refused, some-winner, winner-some, winner-most}
use Rattle.demand.specs.Winners.{winner-leads}
use Rattle.hard_core.specs.Hard.{after_physical, after_logical, hard_core}

module _ (call : HardCall) (m n : ℕ) (A : HardAccepted call m n) where
  -- the two lists, and the winner of each, in short
  abbrev LogicalWithin : Type 0
  LogicalWithin = SomeWithinLimit call.board call.logical call.transforms call.error_limit

  abbrev LogicalWinner : Type 0
  LogicalWinner = Winner call.board call.logical call.transforms call.error_limit A.board A.logical A.transforms.few

  abbrev PhysicalWinner : Type 0
  PhysicalWinner = Winner call.board call.physical call.transforms one_f A.board A.physical A.transforms.few

  -- the winners name the same transform and origin
  abbrev ListsAgree : LogicalWinner → PhysicalWinner → Bool
  ListsAgree w p = agreed (get_or call.transforms w.winner.placing.listed 0) w.winner (get_or call.transforms p.winner.placing.listed 0) p.winner

  -- the physical list never gives 11: with limit 1 every placing is within it
  pub physical-within : NoneWithinLimit call.board call.physical call.transforms one_f → ⊥
  physical-within h =
      let Q : Placing = record { listed = 0; row = 0; col = 0 } in
      let o : OnBoard call.board call.transforms Q = record { in_list = A.transforms.some; row = omega (arith, A.board.h.some); col = omega (arith, A.board.v.some) } in
      clash (h Q o) (never-over-one (size call.physical) (hits_at call.board call.physical call.transforms Q) A.some_physical A.physical.few)

  -- ---- the ways in which an accepted call ends, in document 01's order
  pub data HardEnd : Answer → Type 0 where
    no_logical_confidence : no_confidence call.logical ≡ true → HardEnd (refused_by why.no_confidence)
    none_within : no_confidence call.logical ≡ false → NoneWithinLimit call.board call.logical call.transforms call.error_limit → HardEnd (refused_by why.none_within_limit)
    no_physical_confidence : no_confidence call.logical ≡ false → LogicalWithin → no_confidence call.physical ≡ true → HardEnd (refused_by why.no_confidence)
    winners_differ : (w : LogicalWinner) (p : PhysicalWinner) → ListsAgree w p ≡ false → HardEnd (refused_by why.lists_disagree)
    none_leads : (w : LogicalWinner) (p : PhysicalWinner) → ListsAgree w p ≡ true → NoneLeads call.board call.logical call.transforms call.error_limit → HardEnd (refused_by why.not_far_ahead)
    found : (w : LogicalWinner) (p : PhysicalWinner) → ListsAgree w p ≡ true → passed (size call.logical) w.winner.hits w.runner-up.hits ≡ true → (d : Decoded) → HardEnd (Ok d)

  -- ---- every accepted call ends in one of them
  abbrev L-few : length call.transforms ≤ 8
  L-few = A.transforms.few

  abbrev LogicalEnded : Selection → Type 0
  LogicalEnded = Ended call.board call.logical call.transforms call.error_limit A.board A.logical L-few

  abbrev PhysicalEnded : Selection → Type 0
  PhysicalEnded = Ended call.board call.physical call.transforms one_f A.board A.physical L-few

  module _ (w : LogicalWinner) where
    abbrev t : ℕ
    t = get_or call.transforms w.winner.placing.listed 0

    told : (no_confidence call.logical ≡ false) × LogicalWithin × ((passed (size call.logical) w.winner.hits w.runner-up.hits ≡ true) ⊎ NoneLeads call.board call.logical call.transforms call.error_limit)
    told = winner-some call.board call.logical call.transforms call.error_limit A.board A.logical L-few w

    module _ (p : PhysicalWinner) where
      abbrev s : ℕ
      s = get_or call.transforms p.winner.placing.listed 0

      by-gate : (b : Bool) → passed (size call.logical) w.winner.hits w.runner-up.hits ≡ b → ListsAgree w p ≡ true
          → HardEnd (cond b (Ok (decoded_of t w.winner w.runner-up (size call.logical))) (refused_by why.not_far_ahead))
      by-gate true g a = found w p a g (decoded_of t w.winner w.runner-up (size call.logical))
      by-gate false g a = none_leads w p a (⊎_elim (λ h. clash h g) (λ h. h) told.2)

      by-agreed : (b : Bool) → ListsAgree w p ≡ b
          → HardEnd (cond b (cond (passed (size call.logical) w.winner.hits w.runner-up.hits) (Ok (decoded_of t w.winner w.runner-up (size call.logical))) (refused_by why.not_far_ahead)) (refused_by why.lists_disagree))
      by-agreed true a = by-gate (passed (size call.logical) w.winner.hits w.runner-up.hits) refl a
      by-agreed false a = winners_differ w p a

      by-judged : HardEnd (judged t w.winner w.runner-up s p.winner (size call.logical))
      unfolding judged
      by-judged = by-agreed (ListsAgree w p) refl

    by-physical : (y : Selection) → selection call.board call.physical call.transforms one_f ≡ y → PhysicalEnded y → HardEnd (after_physical call.logical call.transforms w.winner w.runner-up y)
    by-physical (Err r) e (inl h) = subst (λ (z : Refusal). HardEnd (Err z)) (sym h.0) (no_physical_confidence told.0 told.1 h.1)
    by-physical (Err r) e (inr h) = absurd (physical-within h.2)
    by-physical (Ok (x, o)) e h = by-judged (record { winner = x; runner-up = o; selected = e })

  by-logical : (x : Selection) → selection call.board call.logical call.transforms call.error_limit ≡ x → LogicalEnded x → HardEnd (after_logical call x)
  by-logical (Err r) e (inl h) = subst (λ (z : Refusal). HardEnd (Err z)) (sym h.0) (no_logical_confidence h.1)
  by-logical (Err r) e (inr h) = subst (λ (z : Refusal). HardEnd (Err z)) (sym h.0) (none_within h.1 h.2)
  by-logical (Ok (x, r)) e h =
      by-physical (record { winner = x; runner-up = r; selected = e }) (selection call.board call.physical call.transforms one_f) refl
      (ended call.board call.physical call.transforms one_f A.board A.physical L-few)

  -- HOW AN ACCEPTED HARD CALL ENDS
  pub hard-ends : HardEnd (hard_core call)
  unfolding hard_core
  hard-ends = by-logical (selection call.board call.logical call.transforms call.error_limit) refl (ended call.board call.logical call.transforms call.error_limit A.board A.logical L-few)

  -- refused late means 10 to 13, and about no edge
  pub hard-late : (r : Refusal) → hard_core call ≡ Err r → (why.no_confidence ≤ r.number) × (r.number ≤ why.not_far_ahead) × (r.place ≡ None)
  hard-late r e = go (hard_core call) hard-ends e
    where
      numbers : (n : ℕ) → why.no_confidence ≤ n → n ≤ why.not_far_ahead → refused_by n ≡ Err r → (why.no_confidence ≤ r.number) × (r.number ≤ why.not_far_ahead) × (r.place ≡ None)
      numbers n h k q = let z : numbered n ≡ r = cc in let y : n ≡ r.number = ap (λ (x : Refusal). x.number) z in (omega arith, omega arith, sym (ap (λ (x : Refusal). x.place) z))

      go : (a : Answer) → HardEnd a → a ≡ Err r → (why.no_confidence ≤ r.number) × (r.number ≤ why.not_far_ahead) × (r.place ≡ None)
      go a (no_logical_confidence h) q = numbers why.no_confidence (omega arith) (omega arith) q
      go a (none_within h k) q = numbers why.none_within_limit (omega arith) (omega arith) q
      go a (no_physical_confidence h k l) q = numbers why.no_confidence (omega arith) (omega arith) q
      go a (winners_differ w p h) q = numbers why.lists_disagree (omega arith) (omega arith) q
      go a (none_leads w p h k) q = numbers why.not_far_ahead (omega arith) (omega arith) q
      go a (found w p h k d) q = absurd (answers.apart d r q)

  -- ---- each number, given exactly when
  -- 10: the logical list has no confidence, or it has some and a placing within the limit, and the physical list has none
  abbrev HardNoConfidence : Type 0
  HardNoConfidence = (no_confidence call.logical ≡ true) ⊎ ((no_confidence call.logical ≡ false) × LogicalWithin × (no_confidence call.physical ≡ true))

  pub hard-10 : (hard_core call ≡ refused_by why.no_confidence → HardNoConfidence) × (HardNoConfidence → hard_core call ≡ refused_by why.no_confidence)
  unfolding hard_core
  hard-10 = ((λ e. go (hard_core call) hard-ends e), back)
    where
      go : (a : Answer) → HardEnd a → a ≡ refused_by why.no_confidence → HardNoConfidence
      go a (no_logical_confidence h) q = inl h
      go a (none_within h k) q = numbers_apart answers why.none_within_limit why.no_confidence (λ z. omega arith) q
      go a (no_physical_confidence h k l) q = inr (h, k, l)
      go a (winners_differ w p h) q = numbers_apart answers why.lists_disagree why.no_confidence (λ z. omega arith) q
      go a (none_leads w p h k) q = numbers_apart answers why.not_far_ahead why.no_confidence (λ z. omega arith) q
      go a (found w p h k d) q = found-not answers d why.no_confidence q

      back : HardNoConfidence → after_logical call (selection call.board call.logical call.transforms call.error_limit) ≡ refused_by why.no_confidence
      back (inl h) = ap (after_logical call) (none-refused call.board call.logical call.transforms call.error_limit A.board A.logical L-few h)
      back (inr h) =
          let w = some-winner call.board call.logical call.transforms call.error_limit A.board A.logical L-few h.0 h.1 in
          ap (after_logical call) w.selected
          ∙ ap (after_physical call.logical call.transforms w.winner w.runner-up) (none-refused call.board call.physical call.transforms one_f A.board A.physical L-few h.2)

  -- 11: some confidence, and no placing of the logical list is within the limit
  pub hard-11 : (hard_core call ≡ refused_by why.none_within_limit → (no_confidence call.logical ≡ false) × NoneWithinLimit call.board call.logical call.transforms call.error_limit)
      × ((no_confidence call.logical ≡ false) × NoneWithinLimit call.board call.logical call.transforms call.error_limit → hard_core call ≡ refused_by why.none_within_limit)
  unfolding hard_core
  hard-11 = (
    (λ e. go (hard_core call) hard-ends e),
    λ h. ap (after_logical call) (within-refused call.board call.logical call.transforms call.error_limit A.board A.logical L-few h.0 h.1),
  )
    where
      go : (a : Answer) → HardEnd a → a ≡ refused_by why.none_within_limit → (no_confidence call.logical ≡ false) × NoneWithinLimit call.board call.logical call.transforms call.error_limit
      go a (no_logical_confidence h) q = numbers_apart answers why.no_confidence why.none_within_limit (λ z. omega arith) q
      go a (none_within h k) q = (h, k)
      go a (no_physical_confidence h k l) q = numbers_apart answers why.no_confidence why.none_within_limit (λ z. omega arith) q
      go a (winners_differ w p h) q = numbers_apart answers why.lists_disagree why.none_within_limit (λ z. omega arith) q
      go a (none_leads w p h k) q = numbers_apart answers why.not_far_ahead why.none_within_limit (λ z. omega arith) q
      go a (found w p h k d) q = found-not answers d why.none_within_limit q

  -- what two winners come to
  judged-is : (w : LogicalWinner) (p : PhysicalWinner) → hard_core call ≡ judged (t w) w.winner w.runner-up (s w p) p.winner (size call.logical)
  unfolding hard_core
  judged-is w p = ap (after_logical call) w.selected ∙ ap (after_physical call.logical call.transforms w.winner w.runner-up) p.selected

  -- 12: both lists have a winner, and they differ
  pub record ListsDisagree : Type 0 where
    pub logical : LogicalWinner
    pub physical : PhysicalWinner
    pub differ : ListsAgree logical physical ≡ false

  pub hard-12 : (hard_core call ≡ refused_by why.lists_disagree → ListsDisagree) × (ListsDisagree → hard_core call ≡ refused_by why.lists_disagree)
  unfolding judged
  hard-12 = ((λ e. go (hard_core call) hard-ends e), λ d. judged-is d.logical d.physical ∙ rw d.differ)
    where
      go : (a : Answer) → HardEnd a → a ≡ refused_by why.lists_disagree → ListsDisagree
      go a (no_logical_confidence h) q = numbers_apart answers why.no_confidence why.lists_disagree (λ z. omega arith) q
      go a (none_within h k) q = numbers_apart answers why.none_within_limit why.lists_disagree (λ z. omega arith) q
      go a (no_physical_confidence h k l) q = numbers_apart answers why.no_confidence why.lists_disagree (λ z. omega arith) q
      go a (winners_differ w p h) q = record { logical = w; physical = p; differ = h }
      go a (none_leads w p h k) q = numbers_apart answers why.not_far_ahead why.lists_disagree (λ z. omega arith) q
      go a (found w p h k d) q = found-not answers d why.lists_disagree q

  -- 13: both lists have a winner, they agree, and no placing of the logical list leads
  pub record HardNotAhead : Type 0 where
    pub logical : LogicalWinner
    pub physical : PhysicalWinner
    pub agree : ListsAgree logical physical ≡ true
    pub none_lead : NoneLeads call.board call.logical call.transforms call.error_limit

  pub hard-13 : (hard_core call ≡ refused_by why.not_far_ahead → HardNotAhead) × (HardNotAhead → hard_core call ≡ refused_by why.not_far_ahead)
  unfolding judged
  hard-13 = ((λ e. go (hard_core call) hard-ends e), λ d. judged-is d.logical d.physical ∙ rw (d.agree, not-passed d))
    where
      go : (a : Answer) → HardEnd a → a ≡ refused_by why.not_far_ahead → HardNotAhead
      go a (no_logical_confidence h) q = numbers_apart answers why.no_confidence why.not_far_ahead (λ z. omega arith) q
      go a (none_within h k) q = numbers_apart answers why.none_within_limit why.not_far_ahead (λ z. omega arith) q
      go a (no_physical_confidence h k l) q = numbers_apart answers why.no_confidence why.not_far_ahead (λ z. omega arith) q
      go a (winners_differ w p h) q = numbers_apart answers why.lists_disagree why.not_far_ahead (λ z. omega arith) q
      go a (none_leads w p h k) q = record { logical = w; physical = p; agree = h; none_lead = k }
      go a (found w p h k d) q = found-not answers d why.not_far_ahead q

      not-passed : (d : HardNotAhead) → passed (size call.logical) d.logical.winner.hits d.logical.runner-up.hits ≡ false
      not-passed d =
          not_so (passed (size call.logical) d.logical.winner.hits d.logical.runner-up.hits)
          (λ g. d.none_lead d.logical.winner.placing (winner-leads call.board call.logical call.transforms call.error_limit A.board A.logical L-few d.logical.winner d.logical.runner-up d.logical.selected g))

  -- ---- the physical winner without tables
  module _ (W : PhysicalWinner) where
    -- no placing of the physical list has more hits than its winner, edge by edge
    pub physical-most : (Q : Placing) → OnBoard call.board call.transforms Q
        → hits_at call.board call.physical call.transforms Q ≤ hits_at call.board call.physical call.transforms W.winner.placing
    physical-most Q o =
        let m = winner-most call.board call.physical call.transforms one_f A.board A.physical L-few W in
        let h = m.2 Q o (never-over-one (size call.physical) (hits_at call.board call.physical call.transforms Q) A.some_physical A.physical.few) in
        omega (arith, m.1)

    -- a placing with more hits than every other is the winner, whatever the weights
    pub physical-clear : (Q : Placing) → OnBoard call.board call.transforms Q
        → ((R : Placing) → OnBoard call.board call.transforms R → (Same R Q → ⊥) → hits_at call.board call.physical call.transforms R < hits_at call.board call.physical call.transforms Q)
        → Same W.winner.placing Q
    physical-clear Q o h =
        let m = winner-most call.board call.physical call.transforms one_f A.board A.physical L-few W in
        ⊎_elim (λ s. s) (λ d. absurd (omega (arith, h W.winner.placing m.0 d, physical-most Q o))) (same_or_not W.winner.placing Q)
