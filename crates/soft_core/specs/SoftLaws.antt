-- Laws of an accepted soft call: the figures that are read off the room, what its two selections ask, and the ways in which it ends.
use Rattle.std.specs.Prelude.{◌≡◌, Bool, List, ℕ, ◌<◌, length, ℤ, pos, Float, None, Some}
use Rattle.std.proofs.Math.Path.{refl, sym, ap}
use Rattle.std.proofs.Common.{subst, ◌∙◌, arith}
use Rattle.std.proofs.Math.Bool.{true, false}
use Rattle.std.specs.Float.Ieee.{nan, eq}
use Rattle.laws.specs.Tests.{clash}
use Rattle.laws.specs.Words.{zero_f}
use Rattle.laws.specs.Cleared.{SameBeyond, beyond-refl}
use Rattle.board.specs.Hits.{size}
use Rattle.room.specs.Room.{tables_room, sums_room}
use Rattle.sums.specs.Sums.{LikelihoodsOk}
use Rattle.refusals.specs.Numbers as why
use Rattle.admission.specs.Calls.{HardCall, SoftCall}
use Rattle.admission.specs.Accepted.{SoftAccepted}
use Rattle.figures.specs.Figures.{total_confidence, no_confidence}
use Rattle.hard.specs.Select.{selection}
use Rattle.margin.specs.declared.slots.SoftCandidate.{SoftCandidate}
use Rattle.margin.specs.declared.slots.SoftScan.{SoftScan}
use Rattle.margin.specs.Kinds.{SoftChoice}
use Rattle.margin.specs.Choice.{soft_chosen}
use Rattle.margin.specs.Margin.{soft_margin, below_margin}
use Rattle.soft.specs.Select.{soft_scan_of, soft_selection, SoftReady, SoftScanned}
use Rattle.soft.specs.SelectLaws.{room-beyond, scanned-unique, soft-best-edges}
use Rattle.answer.specs.Answers.{SoftAnswer}
use Rattle.soft_verdict.specs.SoftVerdict.{soft_refused_by, best_of}
use Rattle.soft_logical.specs.LogicalLaws.{logical-same}
use Rattle.soft_logical.specs.Logical.{after_hard, LogicalRooms, LogicalDone}
use Rattle.soft_core.specs.Soft.{after_soft, too_close, soft_core, By, PastMargin, CoreRooms, SoftCoreDone}

-- ---- a statement by a test
by-true : (b : Bool) (A B : Type 0) → b ≡ true → A → By b A B
unfolding By
by-true true A B e x = x
by-true false A B e x = clash e refl

by-false : (b : Bool) (A B : Type 0) → b ≡ false → B → By b A B
unfolding By
by-false true A B e x = clash refl e
by-false false A B e x = x

-- ---- the accepted call
-- the list position that a choice holds in first place
abbrev first_place_of : SoftChoice → ℕ
first_place_of None = 0
first_place_of (Some (first, second)) = first.placing.listed

-- and in second place
abbrev second_place_of : SoftChoice → ℕ
second_place_of None = 0
second_place_of (Some (first, second)) = second.placing.listed

module _ (call : SoftCall) (m n o : ℕ) (A : SoftAccepted call m n o) where
  pub likelihoods-ok : LikelihoodsOk call.hard.physical call.likelihoods
  likelihoods-ok = record { matches = A.matches; mismatches = A.mismatches; match = λ i h. (A.likely i h).0; mismatch = λ i h. (A.likely i h).1 }

  pub first-listed : (first second : SoftCandidate) → soft_selection call.hard.board call.hard.physical call.likelihoods call.hard.transforms ≡ Some (first, second) → first.placing.listed < length call.hard.transforms
  first-listed first second e =
      let b = soft-best-edges call.hard.board call.hard.physical call.likelihoods call.hard.transforms A.hard.board A.hard.physical likelihoods-ok A.hard.transforms.some in
      let p : first.placing.listed ≡ b.p = ap first_place_of (sym e ∙ b.chosen) in
      omega (arith, b.first.listed)

  pub second-listed : (first second : SoftCandidate) → soft_selection call.hard.board call.hard.physical call.likelihoods call.hard.transforms ≡ Some (first, second) → second.placing.listed < length call.hard.transforms
  second-listed first second e =
      let b = soft-best-edges call.hard.board call.hard.physical call.likelihoods call.hard.transforms A.hard.board A.hard.physical likelihoods-ok A.hard.transforms.some in
      let p : second.placing.listed ≡ b.q = ap second_place_of (sym e ∙ b.chosen) in
      omega (arith, b.second.listed)

module _ (call : SoftCall) (c : List ℕ) (w : List Float) (a : List ℤ) (A : SoftAccepted call (length c) (length w) (length a)) where
  pub ready-soft : SoftReady call.hard.board call.hard.physical call.likelihoods call.hard.transforms a
  ready-soft = record {
    list = A.hard.physical;
    likelihoods = likelihoods-ok call (length c) (length w) (length a) A;
    board = A.hard.board;
    transforms = (A.hard.transforms.some, A.hard.transforms.few);
    small = A.hard.transforms.small;
    room = A.room;
  }

  -- no confidence
  pub core-none : (r : SoftAnswer) → eq (total_confidence call.hard.physical) zero_f ≡ true → r ≡ soft_refused_by why.no_confidence → SoftCoreDone call c c w w a a r
  unfolding soft_core no_confidence CoreRooms
  core-none r h e = record { answer = e ∙ sym (rw h); rooms = by-true _ _ _ h (refl, refl, refl); counts = beyond-refl 0 (tables_room call.hard.board) c; weights = beyond-refl nan (tables_room call.hard.board) w; sums = beyond-refl (pos 0) (sums_room call.hard.board) a }

  module _ (h : eq (total_confidence call.hard.physical) zero_f ≡ false) (a' : List ℤ) (s : SoftScan) (S : SoftScanned call.hard.board call.hard.physical call.likelihoods call.hard.transforms (length call.hard.transforms) a a' s) (x : SoftChoice) (g : x ≡ soft_chosen s) where
    sums-beyond : SameBeyond (pos 0) (sums_room call.hard.board) a a'
    sums-beyond = room-beyond call.hard.board call.hard.physical call.likelihoods call.hard.transforms a ready-soft (length call.hard.transforms) a' S.room

    pub choice-told : x ≡ soft_selection call.hard.board call.hard.physical call.likelihoods call.hard.transforms
    choice-told = g ∙ ap soft_chosen S.answer

    core-answer : (y : SoftChoice) → x ≡ y → after_soft call.hard call.soft-margin y ≡ soft_core call
    unfolding soft_core no_confidence
    core-answer y e = ap (after_soft call.hard call.soft-margin) (sym e ∙ choice-told) ∙ sym (rw h)

    -- past the physical list's confidence: its sums are built, and the choice decides
    core-rooms : (y : SoftChoice) (c' : List ℕ) (w' : List Float) (r : SoftAnswer) → x ≡ y → PastMargin call.hard call.soft-margin y r c c' w w' → CoreRooms call r c c' w w' a a'
    unfolding no_confidence CoreRooms
    core-rooms y c' w' r e p =
        by-false _ _ _ h (subst (λ (z : SoftChoice). PastMargin call.hard call.soft-margin z r c c' w w') (sym e ∙ choice-told) p, S.room)

    -- no two candidates
    pub core-nothing : (r : SoftAnswer) → x ≡ None → r ≡ soft_refused_by why.soft_margin → SoftCoreDone call c c w w a a' r
    unfolding PastMargin
    core-nothing r k e = record { answer = e ∙ core-answer None k; rooms = core-rooms None c w r k (refl, refl); counts = beyond-refl 0 (tables_room call.hard.board) c; weights = beyond-refl nan (tables_room call.hard.board) w; sums = sums-beyond }

    module _ (first second : SoftCandidate) (k : x ≡ Some (first, second)) (m : Float) (f : m ≡ soft_margin first second (size call.hard.physical)) where
      -- the margin is too small
      pub core-below : (b : Bool) (r : SoftAnswer) → b ≡ below_margin m call.soft-margin → b ≡ true → r ≡ soft_refused_by why.soft_margin → SoftCoreDone call c c w w a a' r
      unfolding PastMargin
      core-below b r d t e =
          let q : below_margin (soft_margin first second (size call.hard.physical)) call.soft-margin ≡ true = ap (λ (z : Float). below_margin z call.soft-margin) (sym f) ∙ sym d ∙ t in
          record { answer = e ∙ sym (rw q) ∙ core-answer (Some (first, second)) k; rooms = core-rooms (Some (first, second)) c w r k (by-true _ _ _ q (refl, refl)); counts = beyond-refl 0 (tables_room call.hard.board) c; weights = beyond-refl nan (tables_room call.hard.board) w; sums = sums-beyond }

      -- else the logical list decides
      pub core-logical : (b : Bool) (c' : List ℕ) (w' : List Float) (r : SoftAnswer) → b ≡ below_margin m call.soft-margin → b ≡ false → LogicalDone call.hard (record { first = first; second = second; margin = m }) c c' w w' r → SoftCoreDone call c c' w w' a a' r
      unfolding PastMargin
      core-logical b c' w' r d t D =
          let q : below_margin (soft_margin first second (size call.hard.physical)) call.soft-margin ≡ false = ap (λ (z : Float). below_margin z call.soft-margin) (sym f) ∙ sym d ∙ t in
          record {
            answer = D.answer ∙ ap (λ (z : Float). after_hard call.hard (record { first = first; second = second; margin = z }) (selection call.hard.board call.hard.logical call.hard.transforms call.hard.error_limit)) f ∙ sym (rw q) ∙ core-answer (Some (first, second)) k;
            rooms =
                core-rooms (Some (first, second)) c' w' r k
                (by-false _ _ _ q (subst (λ (z : Float). LogicalRooms call.hard (record { first = first; second = second; margin = z }) r c c' w w') f D.rooms));
            counts = D.counts;
            weights = D.weights;
            sums = sums-beyond;
          }

-- ---- any two results that the core's promise allows are equal, and so are the rooms
by-same : (b : Bool) (A A' B B' C : Type 0) → (A → A' → C) → (B → B' → C) → By b A B → By b A' B' → C
unfolding By
by-same true A A' B B' C f g p q = f p q
by-same false A A' B B' C f g p q = g p q

margin-same : (call : HardCall) (least : Float) (y : SoftChoice) (r : SoftAnswer) (c c' d' : List ℕ) (w w' x' : List Float) → PastMargin call least y r c c' w w' → PastMargin call least y r c d' w x' → (c' ≡ d') × (w' ≡ x')
unfolding PastMargin
margin-same call least None r c c' d' w w' x' p q = (p.0 ∙ sym q.0, p.1 ∙ sym q.1)
margin-same call least (Some (first, second)) r c c' d' w w' x' p q =
    by-same (too_close call least first second) _ _ _ _ _ (λ f g. (f.0 ∙ sym g.0, f.1 ∙ sym g.1))
    (λ f g. logical-same call (best_of first second (size call.physical)) r c c' d' w w' x' f g) p q

pub core_unique : (call : SoftCall) (c c' d' : List ℕ) (w w' x' : List Float) (a a' b' : List ℤ) (r s : SoftAnswer) → SoftCoreDone call c c' w w' a a' r → SoftCoreDone call c d' w x' a b' s → (r ≡ s) × (c' ≡ d') × (w' ≡ x') × (a' ≡ b')
unfolding CoreRooms
core_unique call c c' d' w w' x' a a' b' r s p q =
    let e : r ≡ s = p.answer ∙ sym q.answer in
    let B = call.hard.board in
    let E = call.hard.physical in
    let X = call.likelihoods in
    let ts = call.hard.transforms in
    let z = soft_scan_of B E X ts (length ts) in
    by-same (no_confidence E) _ _ _ _ _ (λ f g. (e, f.0 ∙ sym g.0, f.1 ∙ sym g.1, f.2 ∙ sym g.2))
    (λ f g.
    let m = margin-same call.hard call.soft-margin (soft_selection B E X ts) r c c' d' w w' x' f.0 (subst (λ (y : SoftAnswer). PastMargin call.hard call.soft-margin (soft_selection B E X ts) y c d' w x') (sym e) g.0) in
    (e, m.0, m.1, (scanned-unique B E X ts (length ts) a a' b' z z (record { answer = refl; room = f.1 }) (record { answer = refl; room = g.1 })).1)) p.rooms q.rooms
