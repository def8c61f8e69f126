-- What a selection on one list comes to, in words of placings: no confidence, no placing within the limit, or a winner. Hits are board's, edge by edge.
use Rattle.std.specs.Prelude.{◌≡◌, Bool, true, false, cond, List, ◌⊎◌, ℕ, ◌≤◌, length, Float, Err, None, Ok, Some}
use Rattle.std.proofs.Math.Path.{refl}
use Rattle.std.proofs.Common.{sym, ap, subst, ◌∙◌, inl, inr, le_trans, le_of_eq, arith}
use Rattle.laws.specs.Tests.{clash}
use Rattle.board.specs.declared.edge.Placing.{Placing}
use Rattle.board.specs.Hits.{EdgeList, Board, size, hits_at}
use Rattle.board.specs.Sides.{period_of}
use Rattle.board.specs.Domain.{ListOk, BoardOk}
use Rattle.scan.specs.Scan.{over_limit, chosen}
use Rattle.scan.specs.declared.scan.Candidate.{Candidate}
use Rattle.scan.specs.declared.scan.RunnerUp.{RunnerUp}
use Rattle.scan.specs.Kinds.{Choice}
use Rattle.figures.specs.Figures.{no_confidence}
use Rattle.figures.specs.Gate.{passed}
use Rattle.refusals.specs.declared.Refusal.{Refusal}
use Rattle.refusals.specs.Numbers.{numbered}
use Rattle.refusals.specs.Numbers as why
use Rattle.hard.specs.Kinds.{Selection}
use Rattle.hard.specs.Placings.{found, not-far-ahead, NoneWithin, SomeWithin, Right}
use Rattle.hard.specs.OneList.{key_at, origin_number, outcome_of}
use Rattle.hard.specs.Select.{of_choice, or_refused, scan_of, selection}
use Rattle.hard.proofs.SelectTheorems.{hits_at_key, selected-most, one-list-by-hits}
use Rattle.demand.specs.Demand.{OnBoard, Leads}
use Rattle.demand.specs.Winners.{winner-on}
use Rattle.demand.specs.DemandLaws.{key_of, placing, placing-on, key_below, hits-key, leads-sole}

-- ---- in words of placings
module _ (B : Board) (E : EdgeList) (ts : List ℕ) (limit : Float) where
  -- no placing of the list is within the error limit
  abbrev pub NoneWithinLimit : Type 0
  NoneWithinLimit = (Q : Placing) → OnBoard B ts Q → over_limit (size E) limit (hits_at B E ts Q) ≡ true

  -- some placing is
  pub record SomeWithinLimit : Type 0 where
    pub one : Placing
    pub on-board : OnBoard B ts one
    pub within : over_limit (size E) limit (hits_at B E ts one) ≡ false

  -- none leads: none is within the limit and ahead of every other by more than its own misses
  abbrev pub NoneLeads : Type 0
  NoneLeads = (Q : Placing) → Leads B E ts limit Q → ⊥

  not-both : NoneWithinLimit → SomeWithinLimit → ⊥
  not-both n s = clash (n s.one s.on-board) s.within

  module _ (board : BoardOk B) (list : ListOk E) (few : length ts ≤ 8) where
    abbrev origins : ℕ
    origins = origin_number (period_of B true) (period_of B false)

    by-placings : NoneWithin (length ts) origins (size E) limit (hits_at_key B E ts) → NoneWithinLimit
    by-placings h Q o = ap (over_limit (size E) limit) (sym (hits-key B board ts E limit Q o)) ∙ h Q.listed (key_of B board Q) o.in_list (key_below B board ts Q o)

    some-placing : SomeWithin (length ts) origins (size E) limit (hits_at_key B E ts) → SomeWithinLimit
    some-placing s = record {
      one = placing B board s.0 s.1;
      on-board = placing-on B board ts s.0 s.1 s.2 s.3;
      within = s.4;
    }

    -- the three ways in which a selection ends
    abbrev pub Ended : Selection → Type 0
    Ended (Err r) = ((r ≡ numbered why.no_confidence) × (no_confidence E ≡ true)) ⊎ ((r ≡ numbered why.none_within_limit) × (no_confidence E ≡ false) × NoneWithinLimit)
    Ended (Ok (w, r)) = (no_confidence E ≡ false) × SomeWithinLimit × ((passed (size E) w.hits r.hits ≡ true) ⊎ NoneLeads)

    by-gate : (b : Bool) (w : Candidate) (r : RunnerUp) → passed (size E) w.hits r.hits ≡ b
        → Right (length ts) origins (size E) limit (hits_at_key B E ts) (cond b (found w.placing.listed (key_at (period_of B false) w.placing.row w.placing.col) w.hits r.hits) not-far-ahead)
        → SomeWithinLimit × ((passed (size E) w.hits r.hits ≡ true) ⊎ NoneLeads)
    by-gate true w r g R = let s = R.0 in (some-placing (w.placing.listed, key_at (period_of B false) w.placing.row w.placing.col, s.listed, s.key, s.allowed), inl g)
    by-gate false w r g R = (some-placing R.0, inr (λ Q l. R.1 Q.listed (key_of B board Q) (leads-sole B board ts E limit Q l)))

    by-choice : (x : Choice) → no_confidence E ≡ false → Right (length ts) origins (size E) limit (hits_at_key B E ts) (outcome_of (period_of B false) (size E) x) → Ended (of_choice x)
    by-choice None k R = inr (refl, k, by-placings R)
    by-choice (Some (w, r)) k R = let g = by-gate (passed (size E) w.hits r.hits) w r refl R in (k, g.0, g.1)

    by-confidence : (b : Bool) → no_confidence E ≡ b → Ended (or_refused b (chosen (scan_of B E ts limit (length ts))))
    by-confidence true k = inl (refl, k)
    by-confidence false k = by-choice (chosen (scan_of B E ts limit (length ts))) k (one-list-by-hits B E ts limit board list few)

    -- HOW A SELECTION ENDS
    pub ended : Ended (selection B E ts limit)
    unfolding selection
    ended = by-confidence (no_confidence E) refl

    -- ---- each end, exactly when
    pub refused_none : selection B E ts limit ≡ Err (numbered why.no_confidence) → no_confidence E ≡ true
    refused_none e = go (subst Ended e ended)
      where
        go : Ended (Err (numbered why.no_confidence)) → no_confidence E ≡ true
        go (inl h) = h.1
        go (inr h) = let z : why.no_confidence ≡ why.none_within_limit = ap (λ (x : Refusal). x.number) h.0 in absurd (omega (arith, z))

    pub none-refused : no_confidence E ≡ true → selection B E ts limit ≡ Err (numbered why.no_confidence)
    unfolding selection
    none-refused h = rw h

    pub refused-within : selection B E ts limit ≡ Err (numbered why.none_within_limit) → (no_confidence E ≡ false) × NoneWithinLimit
    refused-within e = go (subst Ended e ended)
      where
        go : Ended (Err (numbered why.none_within_limit)) → (no_confidence E ≡ false) × NoneWithinLimit
        go (inl h) = let z : why.none_within_limit ≡ why.no_confidence = ap (λ (x : Refusal). x.number) h.0 in absurd (omega (arith, z))
        go (inr h) = (h.1, h.2)

    pub within-refused : no_confidence E ≡ false → NoneWithinLimit → selection B E ts limit ≡ Err (numbered why.none_within_limit)
    within-refused k n = go (selection B E ts limit) refl ended
      where
        go : (x : Selection) → selection B E ts limit ≡ x → Ended x → selection B E ts limit ≡ Err (numbered why.none_within_limit)
        go (Err r) e (inl h) = clash h.1 k
        go (Err r) e (inr h) = e ∙ ap Err h.0
        go (Ok (w, r)) e h = absurd (not-both n h.1)

    -- a winner exactly where there is some confidence and some placing is within the limit
    pub record Winner : Type 0 where
      pub winner : Candidate
      pub runner-up : RunnerUp
      pub selected : selection B E ts limit ≡ Ok (winner, runner-up)

    pub some-winner : no_confidence E ≡ false → SomeWithinLimit → Winner
    some-winner k s = go (selection B E ts limit) refl ended
      where
        go : (x : Selection) → selection B E ts limit ≡ x → Ended x → Winner
        go (Err r) e (inl h) = clash h.1 k
        go (Err r) e (inr h) = absurd (not-both h.2 s)
        go (Ok (w, r)) e h = record { winner = w; runner-up = r; selected = e }

    pub winner-some : (W : Winner) → (no_confidence E ≡ false) × SomeWithinLimit × ((passed (size E) W.winner.hits W.runner-up.hits ≡ true) ⊎ NoneLeads)
    winner-some W = subst Ended W.selected ended

    -- the winner is on the board and has the hits that it says, edge by edge, and no placing within the limit has more
    pub winner-most : (W : Winner) → OnBoard B ts W.winner.placing × (hits_at B E ts W.winner.placing ≡ W.winner.hits)
        × ((Q : Placing) → OnBoard B ts Q → over_limit (size E) limit (hits_at B E ts Q) ≡ false → hits_at B E ts Q ≤ W.winner.hits)
    winner-most W =
        let o = winner-on B E ts limit board list few W.winner W.runner-up W.selected in
        let m = selected-most B E ts limit board list few W.winner W.runner-up W.selected in (
          o,
          sym (hits-key B board ts E limit W.winner.placing o) ∙ m.0,
          λ Q u h.
              let e = hits-key B board ts E limit Q u in
              le_trans (le_of_eq (sym e)) (m.1 Q.listed (key_of B board Q) u.in_list (key_below B board ts Q u) (ap (over_limit (size E) limit) e ∙ h)),
        )
