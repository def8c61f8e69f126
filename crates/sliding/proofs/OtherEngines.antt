-- C-21 of the engines that judge one list by hits besides document 01's: the engine without tables (C-16), and the exact mode's selection with the gate (C-15).
use Rattle.std.specs.Prelude.{◌≡◌, refl, List, ℕ, ◌≤◌, ◌<◌, get_or, length, ℤ, Bool, true, false, Float, Err, Ok}
use Rattle.std.proofs.Common.{sym, ap, ◌∙◌, arith}
use borrow.Author.Tests.{eq-eqb, ne_eqb}
use Rattle.refusals.specs.Numbers.{numbered}
use Rattle.refusals.specs.Numbers as why
use Rattle.figures.specs.Gate.{passed}
use Rattle.scan.specs.declared.scan.RunnerUp.{RunnerUp}
use Rattle.exact_scan.specs.declared.kept.ExactWinner.{ExactWinner}
use Rattle.exact_scan.specs.Kinds.{ExactSelection}
use Rattle.exact.specs.Select.{no_units, exact_selection}
use Rattle.exact.proofs.ExactTheorems.{exact-runner-up}
use Rattle.exact_core.specs.ExactCore.{total_units}
use Rattle.exact_demand.proofs.ExactSelections.{SelectionEnd, no-units, selected, exact-ended, wins, hits-told, within, gate-leads, gate-none}
use Rattle.exact_demand.proofs.ExactSelections as ends
use Rattle.sliding.proofs.ByHits.{Told, refused, found, ByHits, no-confidence, none_within, none_leads, leads, ToldThere, told-there}
use Rattle.board.specs.Hits.{EdgeList, Board, size}
use Rattle.board.specs.Domain.{ListOk, BoardOk}
use Rattle.decide.specs.Kinds.{Outcome}
use Rattle.decide.specs.Decide.{gated}
use Rattle.hard.specs.Select.{selection}
use Rattle.locate_answer.specs.Answers.{LocateAnswer}
use Rattle.locate.specs.Located.{LocatedAs}
use Rattle.locate_equal.specs.Equal.{Same}
use Rattle.locate_equal.specs.EqualTheorems.{located-same}
use Rattle.sliding.specs.Sliding.{Slid, slid_row, slid_col, slid_placing, SlidTo}
use Rattle.sliding.proofs.SlideTheorems.{unslide, slid-permuted, slides}

-- the unit sum stays
units-stay : (E F : EdgeList) (down right : ℤ) → Slid down right E F → no_units F ≡ no_units E
unfolding no_units
units-stay E F down right s = rw s.confidences refl

-- ---- the engine without tables
-- the same refusal; or the same hits, runner-up hits and transform, at the slid origin
abbrev pub LocatedSlidTo : Board → ℤ → ℤ → LocateAnswer → LocateAnswer → Type 0
LocatedSlidTo B down right (Err one) (Err other) = other ≡ one
LocatedSlidTo B down right (Err one) (Ok l) = ⊥
LocatedSlidTo B down right (Ok l) (Err other) = ⊥
LocatedSlidTo B down right (Ok l) (Ok m) =
    (m.hits ≡ l.hits) × (m.runner_up_hits ≡ l.runner_up_hits) × (m.square.transform ≡ l.square.transform)
    × (m.square.row ≡ slid_row B l.square.transform down right l.square.row) × (m.square.col ≡ slid_col B l.square.transform down right l.square.col)

module _ (B : Board) (ts : List ℕ) (down right : ℤ) (board : BoardOk B) (E F : EdgeList) (limit : Float) (list : ListOk E) (slid-list : ListOk F) (few : length ts ≤ 8) (s : Slid down right E F) where
  by-outcomes : (x y : Outcome) (a b : LocateAnswer) → Same ts x a → Same ts y b → SlidTo B ts down right x y → LocatedSlidTo B down right a b
  by-outcomes (Err r) (Err q) a b X Y t = rw (X, Y) t
  by-outcomes (Err r) (Ok (v, p)) a b X Y t = absurd t
  by-outcomes (Ok (w, r)) (Err q) a b X Y t = absurd t
  by-outcomes (Ok (w, r)) (Ok (v, p)) a b X Y t =
      rw (X.1, Y.1)
      (rw (X.2, Y.2)
      (Y.3 ∙ t.0 ∙ sym X.3, Y.4 ∙ t.1 ∙ sym X.4, ap (λ (i : ℕ). get_or ts i 0) t.2, t.3, t.4))

  -- THE ENGINE WITHOUT TABLES SLIDES
  pub located-slides : (a b : LocateAnswer) → LocatedAs B E ts limit a → LocatedAs B F ts limit b → LocatedSlidTo B down right a b
  located-slides a b X Y =
      by-outcomes (gated (size E) (selection B E ts limit)) (gated (size F) (selection B F ts limit)) a b
      (located-same B E ts limit board list few a X) (located-same B F ts limit board slid-list few b Y) (slides B ts down right board E F limit list slid-list few s)

-- ---- the exact mode's selection with the gate, on one list
-- the winner where the gate is passed
abbrev pub when_ahead : Bool → ExactWinner → RunnerUp → Told
when_ahead true w r = found w.placing w.hits r.hits
when_ahead false w r = refused (numbered why.not_far_ahead)

-- what an exact selection of a list of so many edges tells, once the gate is asked
abbrev pub exact_told : ℕ → ExactSelection → Told
exact_told edges (Err r) = refused r
exact_told edges (Ok (w, r)) = when_ahead (passed edges w.hits r.hits) w r

module _ (B : Board) (E : EdgeList) (ts : List ℕ) (limit : Float) (board : BoardOk B) (list : ListOk E) (some : 0 < length ts) (few : length ts ≤ 8) where
  none : total_units E ≡ 0 → no_units E ≡ true
  unfolding no_units
  none e = eq-eqb (total_units E) 0 e

  has : 0 < total_units E → no_units E ≡ false
  unfolding no_units
  has h = ne_eqb (total_units E) 0 (λ e. omega (arith, h, e))

  by-gate : (w : ExactWinner) (r : RunnerUp) (e : exact_selection B E ts limit ≡ Ok (w, r)) → no_units E ≡ false
      → (b : Bool) → passed (size E) w.hits r.hits ≡ b → ByHits B E ts limit (no_units E) (when_ahead b w r)
  by-gate w r e k true g = leads k w.placing w.hits r.hits (gate-leads B E ts limit board list some few w r e g) (hits-told B E ts limit board list some few w r e) (exact-runner-up B E ts board list some limit w r e few)
  by-gate w r e k false g =
      none_leads k (record { one = w.placing; on-board = (wins B E ts limit board list some few w r e).on-board; within = within B E ts limit board list some few w r e }) (gate-none B E ts limit board list some few w r e g)

  by_end : (x : ExactSelection) → SelectionEnd B E ts limit board list some x → ByHits B E ts limit (no_units E) (exact_told (size E) x)
  by_end x (no-units h) = no-confidence (none h)
  by_end x (ends.none_within h n) = none_within (has h) n
  by_end x (selected h w r e) = by-gate w r e (has h) (passed (size E) w.hits r.hits) refl

  -- the exact mode judges one list by hits
  pub exact-told : ByHits B E ts limit (no_units E) (exact_told (size E) (exact_selection B E ts limit))
  exact-told = by_end (exact_selection B E ts limit) (exact-ended B E ts limit board list some)

-- THE EXACT MODE SLIDES
pub exact-slides : (B : Board) (ts : List ℕ) (down right : ℤ) → BoardOk B → (E F : EdgeList) (limit : Float) → ListOk E → ListOk F → 0 < length ts → length ts ≤ 8 → Slid down right E F
    → ToldThere (slid_placing B ts down right) (exact_told (size E) (exact_selection B E ts limit)) (exact_told (size F) (exact_selection B F ts limit))
exact-slides B ts down right board E F limit list slid-list some few s =
    told-there B ts E F (slid_placing B ts down right) (unslide B ts down right board) (slid-permuted B ts down right board E F s) limit (no_units E)
    (exact_told (size E) (exact_selection B E ts limit)) (exact_told (size F) (exact_selection B F ts limit))
    (exact-told B E ts limit board list some few) (rw (sym units) (exact-told B F ts limit board slid-list some few))
  where
    units : no_units F ≡ no_units E
    units = units-stay E F down right s
