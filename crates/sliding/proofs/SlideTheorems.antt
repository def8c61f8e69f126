-- C-21: SLIDE THE PICTURE, SLIDE THE SQUARE. Sliding permutes the placings of each list position and keeps hits; so whatever judges one list by hits slides: hard selection and the gate (`slides`), the
-- exact mode's (C-15, `exact-slides`) and the engine without tables (C-16, `located-slides`), both in OtherEngines.antt.
use Rattle.std.specs.Prelude.{◌≡◌, Bool, true, false, List, ◌⊎◌, ℕ, ◌*◌, ◌≤◌, ◌<◌, get_or, ℤ, pos, neg_ℤ, ◌+ℤ◌, ◌-ℤ◌, Float, Err, Ok}
use Rattle.std.proofs.Math.Path.{refl}
use Rattle.std.proofs.Common.{sym, ap, ◌∙◌, inl, inr, mod-eq_of_lt, arith}
use Rattle.std.proofs.Math.ListN.{length}
use Rattle.std.proofs.Math.IntN.{+ℤ_comm, +ℤ-neg_ℤ_cancel, -ℤ-+ℤ_cancel}
use Rattle.laws.specs.Tests.{clash}
use Rattle.laws.specs.Words.{emod}
use Rattle.laws.specs.RemainderLaws.{emod-lt}
use Rattle.board.specs.declared.edge.Placing.{Placing}
use Rattle.board.specs.Hits.{EdgeList, Board, size}
use Rattle.board.specs.Domain.{ListOk, BoardOk}
use Rattle.figures.specs.Gate.{passed}
use Rattle.figures.specs.Figures.{no_confidence}
use Rattle.scan.specs.declared.scan.Candidate.{Candidate}
use Rattle.scan.specs.declared.scan.RunnerUp.{RunnerUp}
use Rattle.hard.specs.Kinds.{Selection}
use Rattle.hard.specs.Select.{selection}
use Rattle.decide.specs.Kinds.{Outcome}
use Rattle.decide.specs.Decide.{when_passed, gated}
use Rattle.demand.specs.Winners.{runner-up-exists, winner-leads, winner-hits}
use Rattle.demand.specs.OneSelection.{Ended, ended, NoneLeads, SomeWithinLimit}
use Rattle.sliding.specs.Sliding.{Slid, shifted_rows, shifted_cols, slid_row, slid_col, slid_placing, SlidTo}
use Rattle.sliding.proofs.WholeLaws.{emod-within}
use Rattle.sliding.proofs.LookupLaws as look
use Rattle.sliding.proofs.PermutedLaws.{Permuted}
use Rattle.sliding.proofs.ByHits.{Told, refused, found, ByHits, no-confidence, none_within, none_leads, leads, ToldThere, told-there}

-- ---- there and back
round : (z w : ℤ) (n : ℕ) → 0 < n → emod (z +ℤ pos (emod w n)) n ≡ emod (z +ℤ w) n
round z w n h = let e : 1 * n ≡ n = omega arith in ap (λ (m : ℕ). emod (z +ℤ pos (emod w m)) n) (sym e) ∙ emod-within z w 1 n h (omega (arith, h))

small : (r n : ℕ) → r < n → emod (pos r) n ≡ r
unfolding emod
small r n h = mod-eq_of_lt h

returns : (r n : ℕ) (y : ℤ) → r < n → emod (pos (emod (pos r -ℤ y) n) +ℤ y) n ≡ r
returns r n y h =
    ap (λ (x : ℤ). emod x n) (+ℤ_comm (pos (emod (pos r -ℤ y) n)) y) ∙ round y (pos r -ℤ y) n (omega (arith, h)) ∙ ap (λ (x : ℤ). emod x n) (+ℤ_comm y (pos r -ℤ y) ∙ -ℤ-+ℤ_cancel (pos r) y) ∙ small r n h

comes : (r n : ℕ) (y : ℤ) → r < n → emod (pos (emod (pos r +ℤ y) n) -ℤ y) n ≡ r
comes r n y h =
    ap (λ (x : ℤ). emod x n) (+ℤ_comm (pos (emod (pos r +ℤ y) n)) (neg_ℤ y)) ∙ round (neg_ℤ y) (pos r +ℤ y) n (omega (arith, h)) ∙ ap (λ (x : ℤ). emod x n) (+ℤ_comm (neg_ℤ y) (pos r +ℤ y) ∙ +ℤ-neg_ℤ_cancel (pos r) y) ∙ small r n h

module _ (B : Board) (ts : List ℕ) (down right : ℤ) (board : BoardOk B) where
  abbrev slide : Placing → Placing
  slide = slid_placing B ts down right

  -- the way back
  abbrev pub unslide : Placing → Placing
  unslide P =
      let t = get_or ts P.listed 0 in
      record { listed = P.listed; row = emod (pos P.row +ℤ shifted_rows t down right) (3 * length B.h); col = emod (pos P.col +ℤ shifted_cols t down right) (3 * length B.v) }

  tall : 0 < 3 * length B.h
  tall = omega (arith, board.h.some)

  wide : 0 < 3 * length B.v
  wide = omega (arith, board.v.some)

  -- SLIDING PERMUTES THE PLACINGS AND KEEPS HITS
  pub slid-permuted : (E F : EdgeList) → Slid down right E F → Permuted B ts E F slide unslide
  unfolding slid_placing slid_row slid_col
  slid-permuted E F s = record {
    edges = s.edges;
    there = λ P o. record { in_list = o.in_list; row = emod-lt _ _ tall; col = emod-lt _ _ wide };
    back = λ P o. record { in_list = o.in_list; row = emod-lt _ _ tall; col = emod-lt _ _ wide };
    back_there = λ P o. (refl, returns P.row (3 * length B.h) (shifted_rows (get_or ts P.listed 0) down right) o.row, returns P.col (3 * length B.v) (shifted_cols (get_or ts P.listed 0) down right) o.col);
    there_back = λ P o. (refl, comes P.row (3 * length B.h) (shifted_rows (get_or ts P.listed 0) down right) o.row, comes P.col (3 * length B.v) (shifted_cols (get_or ts P.listed 0) down right) o.col);
    hits-stay = λ P o. look.hits-stay B board E F down right s (get_or ts P.listed 0) P.row P.col;
    f_same = λ P Q e. rw (e.0, e.1, e.2) (refl, refl, refl);
    g_same = λ P Q e. rw (e.0, e.1, e.2) (refl, refl, refl);
  }

-- ---- hard selection and the gate
-- an outcome as what it tells
abbrev pub outcome_told : Outcome → Told
outcome_told (Err r) = refused r
outcome_told (Ok (w, runner-up)) = found w.placing w.hits runner-up.hits

module _ (B : Board) (E : EdgeList) (ts : List ℕ) (limit : Float) (board : BoardOk B) (list : ListOk E) (few : length ts ≤ 8) where
  by-gate : (w : Candidate) (r : RunnerUp) (e : selection B E ts limit ≡ Ok (w, r)) → no_confidence E ≡ false → SomeWithinLimit B E ts limit
      → (b : Bool) → passed (size E) w.hits r.hits ≡ b → (passed (size E) w.hits r.hits ≡ true) ⊎ NoneLeads B E ts limit → ByHits B E ts limit (no_confidence E) (outcome_told (when_passed b w r))
  by-gate w r e k s true g h = leads k w.placing w.hits r.hits (winner-leads B E ts limit board list few w r e g) (winner-hits B E ts limit board list few w r e g) (runner-up-exists B E ts limit board list few w r e)
  by-gate w r e k s false g (inl h) = clash h g
  by-gate w r e k s false g (inr h) = none_leads k s h

  by-selection : (x : Selection) → selection B E ts limit ≡ x → Ended B E ts limit board list few x → ByHits B E ts limit (no_confidence E) (outcome_told (gated (size E) x))
  by-selection (Err r) e (inl h) = rw h.0 (no-confidence h.1)
  by-selection (Err r) e (inr h) = rw h.0 (none_within h.1 h.2)
  by-selection (Ok (w, r)) e h = by-gate w r e h.0 h.1 (passed (size E) w.hits r.hits) refl h.2

  -- hard selection and the gate judge by hits
  pub decided-told : ByHits B E ts limit (no_confidence E) (outcome_told (gated (size E) (selection B E ts limit)))
  decided-told = by-selection (selection B E ts limit) refl (ended B E ts limit board list few)

module _ (B : Board) (ts : List ℕ) (down right : ℤ) (board : BoardOk B) (E F : EdgeList) (limit : Float) (list : ListOk E) (slid-list : ListOk F) (few : length ts ≤ 8) (s : Slid down right E F) where
  confidence : no_confidence F ≡ no_confidence E
  unfolding no_confidence
  confidence = rw s.confidences refl

  -- what is told by two outcomes, in the words of C-21
  in_words : (x y : Outcome) → ToldThere (slid_placing B ts down right) (outcome_told x) (outcome_told y) → SlidTo B ts down right x y
  unfolding slid_placing
  in_words (Err one) (Err other) t = t
  in_words (Err one) (Ok (w, r)) t = t
  in_words (Ok (w, r)) (Err other) t = t
  in_words (Ok (w, r)) (Ok (v, q)) t = (t.0, t.1, t.2.0, t.2.1, t.2.2)

  -- SLIDE THE PICTURE, SLIDE THE SQUARE: the same number, or the same hits, runner-up hits and transform, and the origin moved by the transformed shift, negated
  pub slides : SlidTo B ts down right (gated (size E) (selection B E ts limit)) (gated (size F) (selection B F ts limit))
  slides =
      in_words (gated (size E) (selection B E ts limit)) (gated (size F) (selection B F ts limit))
      (told-there B ts E F (slid_placing B ts down right) (unslide B ts down right board) (slid-permuted B ts down right board E F s) limit (no_confidence E)
      (outcome_told (gated (size E) (selection B E ts limit))) (outcome_told (gated (size F) (selection B F ts limit)))
      (decided-told B E ts limit board list few)
      (rw (sym confidence) (decided-told B F ts limit board slid-list few)))
