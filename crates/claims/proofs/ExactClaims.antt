-- THE PROMISES OF THE EXACT MODE ARE KEPT: each record of ExactPromises.antt follows from the contract of `decode_exact` (`ExactGave ..`), which has no `requires`, for all inputs; and the two hard
-- modes agree.
use Rattle.std.specs.Prelude.{◌≡◌, refl, List, ◌++◌, ℕ, ◌≤◌, ◌<◌, length, Err, None, Ok}
use Rattle.std.proofs.Common.{sym, ap₂, subst, ◌∙◌}
use Rattle.std.proofs.Math.Path.{ap}
use Rattle.board.specs.declared.edge.Placing.{Placing}
use Rattle.board.specs.Hits.{EdgeList, Board}
use Rattle.board.specs.Domain.{BoardOk, ListOk}
use Rattle.refusals.specs.declared.Refusal.{Refusal}
use Rattle.refusals.specs.Admission.{Admission, accepted}
use Rattle.room.specs.Room.{tables_room, tables_for, pole-rooms}
use Rattle.admission.specs.Calls.{HardCall, HardRoom}
use Rattle.admission.specs.Refusals.{hard_admission, hard_checked}
use Rattle.admission.specs.PlaceTheorems.{hard-place}
use Rattle.admission.specs.Document01Laws.{hard-document-01}
use Rattle.admission.specs.Conditions.{FirstFails}
use Rattle.admission.specs.Accepted.{HardAccepted, hard-accepted}
use Rattle.answer.specs.declared.Decoded.{Decoded}
use Rattle.answer.specs.Answers.{Answer}
use Rattle.verdict.specs.Verdict.{when_accepted}
use Rattle.verdict.specs.Answers.{found-only}
use Rattle.demand.specs.Demand.{Same, Leads, Names}
use Rattle.demand.specs.DemandLaws.{leader-named}
use Rattle.hard_core.proofs.HardTheorems.{hard-sound}
use Rattle.exact.specs.Winner.{IsWinner}
use Rattle.exact.proofs.ExactTheorems as one_list_lem
use Rattle.exact_answer.specs.declared.ExactDecoded.{ExactDecoded}
use Rattle.exact_answer.specs.Answers.{ExactAnswer}
use Rattle.exact_core.specs.ExactCore.{total_units, exact_core}
use Rattle.exact_demand.specs.ExactDemand.{ExactWins, ExactAnswered}
use Rattle.exact_demand.specs.ExactDomain.{ExactRoom, exact_checked, exact_early, exact-domain, exact-first}
use Rattle.exact_demand.proofs.ExactSelections.{leads-wins}
use Rattle.exact_demand.proofs.ExactEnds.{exact-answers}
use Rattle.exact_demand.proofs.ExactTheorems as both-lists
use Rattle.exact_demand.proofs.ExactRange.{ExactInRange, exact-in-range}
use Rattle.decode_exact.specs.ExactAnswer.{exact_answer}
use Rattle.claims.specs.Late.{exact_late}
use Rattle.claims.specs.Promises.{Emptied, InHardDomain, HardGave}
use Rattle.claims.specs.ExactPromises.{OneWinner, ExactPromise, InExactDomain, ExactGave, ExactParticulars, SameFound, ModesAgree, both_refuse}
use Rattle.claims.proofs.DemandsLaws.{demands-met, refuses-by}
use Rattle.claims.proofs.Claims as claims
use Rattle.claims.proofs.ExactLateLaws.{exact-right}
use Rattle.claims.proofs.ModesLaws.{found_alike, hard-rate, cores-agree}

-- ---- THE WINNER OF A LIST, without tables
-- every accepted list, with transforms to search, has a winner
pub winner-exists : (B : Board) (E : EdgeList) (ts : List ℕ) → BoardOk B → ListOk E → 0 < length ts → (P : Placing) × IsWinner B E ts P
winner-exists B E ts board list some = (one_list_lem.P B E ts board list some, one_list_lem.winner-exists B E ts board list some)

-- and only one
pub winner-once : (B : Board) (E : EdgeList) (ts : List ℕ) (P Q : Placing) → IsWinner B E ts P → IsWinner B E ts Q → Same P Q
winner-once = one_list_lem.winner-once

one-winner : (B : Board) (E : EdgeList) (ts : List ℕ) → BoardOk B → ListOk E → 0 < length ts → OneWinner B E ts
one-winner B E ts board list some = let w = winner-exists B E ts board list some in record { winner = w.0; wins = w.1; once = λ P p. winner-once B E ts P w.0 p w.1 }

-- ---- EXACT DECODE
module _ (call : HardCall) (before after : ExactRoom) (answer : ExactAnswer) (done : ExactGave call before after answer) where
  -- which calls are accepted, from both sides: those in the domain
  pub exact-accepts : (exact_checked call before ≡ accepted → InExactDomain call before) × (InExactDomain call before → exact_checked call before ≡ accepted)
  exact-accepts = exact-domain call before

  pub taken : InExactDomain call before → HardAccepted call (length before.counts) (length before.units)
  taken domain = hard-accepted call (length before.counts) (length before.units) (exact-accepts.1 domain)

  -- an early refusal: handed on whole, with its place, and both slices as they were
  pub exact-refused-early : (refusal : Refusal) → exact_checked call before ≡ Err refusal → (answer ≡ Err refusal) × (after.counts ≡ before.counts) × (after.units ≡ before.units)
  unfolding exact_answer
  exact-refused-early x h = (
    done.answer ∙ ap (λ (y : Admission). when_accepted Err y (exact_core call)) h,
    done.counts ∙ claims.left-untouched 0 0 (tables_room call.board) (exact_checked call before) before.counts x h,
    done.units ∙ claims.left-untouched 0 0 (tables_room call.board) (exact_checked call before) before.units x h,
  )

  -- in the domain the answer is the decoder's
  pub exact-core : InExactDomain call before → answer ≡ exact_core call
  unfolding exact_answer
  exact-core domain = done.answer ∙ ap (λ (y : Admission). when_accepted Err y (exact_core call)) (exact-accepts.1 domain)

  -- every call in the domain: the first 9L + 1,503 places are zero, the surplus as it was
  pub exact-room-zero : InExactDomain call before
      → Emptied 0 0 (tables_for (length call.board.h)) before.counts after.counts × Emptied 0 0 (tables_for (length call.board.h)) before.units after.units
  exact-room-zero domain =
      let h = exact-accepts.1 domain in
      let A = taken domain in
      let u = (pole-rooms call.board A.vertical).0 in (
        claims.left-zero 0 0 (tables_room call.board) (tables_for (length call.board.h)) (exact_checked call before) before.counts after.counts u h A.room.0 done.counts,
        claims.left-zero 0 0 (tables_room call.board) (tables_for (length call.board.h)) (exact_checked call before) before.units after.units u h A.room.1 done.units,
      )

  -- refused late means 10 to 13
  pub exact-refused-late : InExactDomain call before → (refusal : Refusal) → answer ≡ Err refusal → (10 ≤ refusal.number) × (refusal.number ≤ 13) × (refusal.place ≡ None)
  exact-refused-late domain x e = both-lists.exact-late call (length before.counts) (length before.units) (taken domain) x (sym (exact-core domain) ∙ e)

  -- a found answer: the call is in the domain, and it is the decoder's
  pub told : (found : ExactDecoded) → answer ≡ Ok found → InExactDomain call before × (exact_core call ≡ Ok found)
  unfolding exact_answer
  told d e = let f = found-only exact-answers (exact_checked call before) (exact_core call) d (sym e ∙ done.answer) in (exact-accepts.0 f.0, f.1)

  pub exact-answer-in-range : (found : ExactDecoded) → answer ≡ Ok found → ExactInRange (length call.board.h) found
  exact-answer-in-range d e = let f = told d e in exact-in-range call (length before.counts) (length before.units) (taken f.0) d f.1

  pub exact-no-influence : (before' after' : ExactRoom) (answer' : ExactAnswer) → ExactGave call before' after' answer' → length before'.counts ≡ length before.counts → length before'.units ≡ length before.units → answer' ≡ answer
  exact-no-influence before' after' answer' other p q = other.answer ∙ ap₂ (exact_answer call) p q ∙ sym done.answer

  -- DEMAND 2
  pub exact-by-the-rules : answer ≡ exact_answer call (length before.counts) (length before.units)
  exact-by-the-rules = done.answer

  -- DEMAND 3, found means true
  pub exact-found : (found : ExactDecoded) → answer ≡ Ok found → InExactDomain call before × ExactAnswered call found
  exact-found d e = let f = told d e in (f.0, (both-lists.exact-sound call (length before.counts) (length before.units) (taken f.0) d f.1).1)

  -- DEMAND 3, a true square is found
  pub exact-finds : InExactDomain call before → 0 < total_units call.logical → 0 < total_units call.physical → (square : Placing)
      → Leads call.board call.logical call.transforms call.error_limit square → ExactWins call.board call.physical call.transforms square
      → (found : ExactDecoded) × (answer ≡ Ok found) × Names call.transforms square found.square
  exact-finds domain u v square l x =
      let f = both-lists.exact-complete call (length before.counts) (length before.units) (taken domain) u v square l x in
      let s = (both-lists.exact-sound call (length before.counts) (length before.units) (taken domain) f.0 f.1).1 in
      (f.0, exact-core domain ∙ f.1, leader-named call.board call.logical call.transforms call.error_limit square s.square f.0.square l s.leads s.tells.square)

  -- THE SQUARE THAT IS FOUND IS THE WINNER'S: of the logical list, and of the physical one
  pub exact-winner : (found : ExactDecoded) → answer ≡ Ok found
      → (P : Placing) × IsWinner call.board call.logical call.transforms P × ExactWins call.board call.physical call.transforms P × Names call.transforms P found.square
  exact-winner d e =
      let f = exact-found d e in
      let A = taken f.0 in
      let a = f.1 in
      let w = winner-exists call.board call.logical call.transforms A.board A.logical A.transforms.some in
      let s = leads-wins call.board call.logical call.transforms call.error_limit a.square w.0 a.leads w.1 in
      let same : a.square ≡ w.0 = λ i. record { listed = s.0 i; row = s.1 i; col = s.2 i } in
      (a.square, subst (IsWinner call.board call.logical call.transforms) (sym same) w.1, a.agrees, a.tells.square)

  -- WHAT EXACT DECODE PROMISES
  pub exact-promise : ExactPromise (exact_early call before) (tables_for (length call.board.h)) call before after answer
  exact-promise = record {
    demands = demands-met Err Ok exact-answers (exact_early call before) (exact_late call) (after ≡ before) _ (ExactAnswered call) answer (exact_core call) (exact_checked call before) exact-accepts (exact-first call before)
        (λ x h. let e = exact-refused-early x h in (e.0, λ i. record { counts = e.1 i; units = e.2 i })) exact-core
        (λ domain. exact-right call (length before.counts) (length before.units) (taken domain)) exact-room-zero (λ d e. (exact-found d e).1);
    finds_square = exact-finds;
    logical-winner = λ domain. let A = taken domain in one-winner call.board call.logical call.transforms A.board A.logical A.transforms.some;
    physical-winner = λ domain. let A = taken domain in one-winner call.board call.physical call.transforms A.board A.physical A.transforms.some;
    names_winner = λ d e. let w = exact-winner d e in (w.0, w.1, w.3);
  }

  -- each number exactly when
  pub exact-refused-exactly : (n : ℕ) → FirstFails (exact_early call before ++ exact_late call) n → (refusal : Refusal) × (answer ≡ Err refusal) × (refusal.number ≡ n)
  exact-refused-exactly = refuses-by exact-answers exact-promise.demands

  pub exact-particulars : ExactParticulars call before after answer
  exact-particulars = record {
    early = record {
      accepts = exact-accepts;
      number = claims.hard-early call (length before.counts) (length before.units);
      place = hard-place call (length before.counts) (length before.units);
      old_number = hard-document-01 call (length before.counts) (length before.units);
      refuses = exact-refused-early;
    };
    refused_late = exact-refused-late;
    refused_exactly = exact-refused-exactly;
    answer_in_range = exact-answer-in-range;
    no_influence = exact-no-influence;
    by_the_rules = exact-by-the-rules;
  }

  -- ---- THE TWO HARD MODES, on one call
  module _ (lent left : HardRoom) (answer-hard : Answer) (gave : HardGave call lent left answer-hard) where
    -- both accept the call: they agree, or one of them answers 10 or 12
    pub modes-agree : InHardDomain call lent → InExactDomain call before → ModesAgree answer-hard answer
    modes-agree k domain =
        subst (λ (x : ExactAnswer). ModesAgree answer-hard x) (sym (exact-core domain))
        (subst (λ (h : Answer). ModesAgree h (exact_core call)) (sym (claims.core call lent left answer-hard gave k)) (cores-agree call (length before.counts) (length before.units) (taken domain)))

    -- with room as long, on all inputs: what one refuses early the other refuses too
    pub modes-agree-always : length lent.counts ≡ length before.counts → length lent.weights ≡ length before.units → ModesAgree answer-hard answer
    modes-agree-always p q = go (exact_checked call before) refl
      where
        alike : hard_checked call lent ≡ exact_checked call before
        alike = ap₂ (hard_admission call) p q

        go : (a : Admission) → exact_checked call before ≡ a → ModesAgree answer-hard answer
        go (Ok _) h = modes-agree ((claims.hard-accepts call lent left answer-hard gave).0 (alike ∙ h)) (exact-accepts.0 h)
        go (Err r) h =
            subst (λ (x : ExactAnswer). ModesAgree answer-hard x) (sym (exact-refused-early r h).0)
            (subst (λ (y : Answer). ModesAgree y (Err r)) (sym (claims.hard-refused-early call lent left answer-hard gave r (alike ∙ h)).0) (both_refuse r))

    -- where both find a square, it is the same placing, with the same hits, edges, error rate and runner-up hits
    pub modes-find-alike : (d : Decoded) (e : ExactDecoded) → answer-hard ≡ Ok d → answer ≡ Ok e → SameFound d e
    modes-find-alike d e h x =
        let f = claims.told call lent left answer-hard gave d h in
        let A = claims.taken call lent left answer-hard gave f.0 in
        found_alike call d e (hard-sound call (length lent.counts) (length lent.weights) A d f.1) (exact-found e x).1 (hard-rate call (length lent.counts) (length lent.weights) A d f.1)
