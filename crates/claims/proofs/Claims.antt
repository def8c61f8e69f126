-- THE PROMISES ARE KEPT: each record of Promises.antt follows from the contract of its entry point, for all inputs. `HardGave ..`, `SoftGave ..` and
-- `answer ≡ stats_answer ..` are the contracts of `decode_hard`, `decode_soft` and `match_stats`, which have no `requires`.
use Rattle.std.proofs.Math.Path.{◌≡◌, refl, ap, subst}
use Rattle.std.proofs.Common.{sym, ap₂, ◌∙◌, arith}
use Rattle.std.specs.Prelude.{false, ℕ, ◌-◌, ◌≤◌, ◌<◌, length, pos, Float, Err, None, Ok}
use mathlib.Core.List.{List, []}
use Rattle.std.specs.Float.Ieee.{nan, sub, div, of_int}
use Rattle.std.specs.Float.{binary32}
use Rattle.laws.specs.Words.{zero_f}
use Rattle.laws.specs.Cleared.{cleared-written}
use Rattle.board.specs.declared.edge.Placing.{Placing}
use Rattle.board.specs.Hits.{EdgeList, Board, size, hits, hits_at}
use Rattle.board.specs.Domain.{BoardOk, ListOk}
use Rattle.refusals.specs.declared.Refusal.{Refusal}
use Rattle.refusals.specs.Admission.{Admission, accepted}
use Rattle.room.specs.Room.{tables_room, sums_room, tables_for, sums_for, pole-rooms}
use Rattle.admission.specs.Calls.{HardCall, SoftCall, HardRoom, SoftRoom}
use Rattle.admission.specs.Refusals.{hard_admission, soft_admission, stats_admission, hard_checked, soft_checked}
use Rattle.admission.specs.RefusalLaws as refusals
use Rattle.admission.specs.PlaceTheorems.{hard-place, soft-place, stats-place}
use Rattle.admission.specs.Document01Laws.{hard-document-01, soft-document-01, stats-document-01}
use Rattle.admission.specs.Conditions.{AllMet}
use Rattle.admission.specs.Domain.{hard_early, soft_early, stats_early}
use Rattle.admission.proofs.DomainLaws.{hard-domain, hard-first, soft-domain, soft-first, stats-domain, stats-first}
use Rattle.admission.specs.Accepted.{HardAccepted, hard-accepted, SoftAccepted, soft-accepted, stats-accepted}
use Rattle.figures.specs.Figures.{no_confidence}
use Rattle.margin.specs.Margin.{below_margin}
use Rattle.answer.specs.declared.Decoded.{Decoded}
use Rattle.answer.specs.Answers.{Answer}
use Rattle.answer.specs.declared.SoftDecoded.{SoftDecoded}
use Rattle.answer.specs.Answers.{SoftAnswer}
use Rattle.answer.specs.declared.MatchStats.{MatchStats}
use Rattle.answer.specs.Answers.{StatsAnswer}
use Rattle.verdict.specs.Verdict.{when_accepted, decoded_of}
use Rattle.verdict.specs.Answers.{answers, found-only}
use Rattle.soft_verdict.specs.SoftVerdictTheorems.{soft-answers}
use Rattle.demand.specs.Left.{left}
use Rattle.demand.specs.Demand.{OnBoard, Same, Leads, Names, AgreesPhysical}
use Rattle.demand.specs.DemandLaws.{leader-named}
use Rattle.demand.specs.Winners as winners
use Rattle.demand.specs.AgreesLaws as agrees
use Rattle.demand.specs.FoundRange.{AnswerInRange, SoftAnswerInRange}
use Rattle.hard_core.specs.Hard.{hard_core}
use Rattle.decode_hard.specs.HardAnswer.{hard_answer}
use Rattle.hard_core.proofs.HardRange.{hard-in-range}
use Rattle.hard_core.proofs.HardNumbers.{hard-late}
use Rattle.hard_core.specs.HardDemand.{HardAnswered}
use Rattle.hard_core.specs.HardLate.{HardLate}
use Rattle.hard_core.proofs.HardLateLaws.{hard-late-numbers}
use Rattle.hard_core.proofs.HardTheorems.{hard-sound, hard-complete}
use Rattle.soft_core.specs.Soft.{soft_core}
use Rattle.decode_soft.specs.SoftAnswer.{soft_answer}
use Rattle.soft_core.proofs.SoftRange.{soft-in-range}
use Rattle.soft_core.proofs.SoftNumbers.{soft-late}
use Rattle.soft_core.specs.SoftDemand.{margin_of, BestByLikelihood, Clears, SoftAnswered, SoftKept}
use Rattle.soft_core.specs.SoftLate.{SoftLate}
use Rattle.soft_core.proofs.SoftLateLaws.{soft-late-numbers}
use Rattle.soft_core.specs.SoftPlaces.{best-by-rows}
use Rattle.soft_core.proofs.SoftTheorems.{soft-sound, soft-kept, soft-complete-by-rows}
use Rattle.stats.specs.Stats.{stats_answer, stats_of, or_counted}
use Rattle.stats.specs.StatsRange.{StatsInRange, stats-in-range}
use Rattle.claims.proofs.TenFieldsTheorems.{HardTold, hard-ten-fields, SoftTold, soft-ten-fields}
use Rattle.claims.specs.Late.{hard_late, soft_late}
use Rattle.claims.specs.Promises.{NumberAndPlace, Emptied, WinsByHits, HardPromise, SoftPromise, StatsPromise, EarlyNumber, RunnerUpAlways, InHardDomain, HardGave, HardParticulars, InSoftDomain, SoftGave, MarginOfTheTwo, SoftParticulars, StatsParticulars}
use Rattle.claims.proofs.DemandsLaws.{stats-answers, right-found, demands-met}
use Rattle.claims.proofs.LateLaws.{hard-right, soft-right}

-- ---- EARLY REFUSALS
pub refusal-is-number-and-place : NumberAndPlace
refusal-is-number-and-place one other e f = λ i. record { number = e i; place = f i }

pub hard-early : (call : HardCall) (m n : ℕ) → EarlyNumber (hard_admission call m n)
hard-early = refusals.hard-early

pub soft-early : (call : SoftCall) (m n k : ℕ) → EarlyNumber (soft_admission call m n k)
soft-early = refusals.soft-early

pub stats-early : (list : EdgeList) (transform row col : ℕ) (board : Board) → EarlyNumber (stats_admission list transform row col board)
stats-early = refusals.stats-early

-- ---- RUNNER-UP
pub runner-up-exists : RunnerUpAlways
runner-up-exists = winners.runner-up-exists

-- ---- THE WINNER OF A LIST, in hits
wins-by-hits : (B : Board) (E : EdgeList) (ts : List ℕ) (limit : Float) → BoardOk B → ListOk E → length ts ≤ 8 → WinsByHits B E ts limit
wins-by-hits B E ts limit board list few = record { wins-most = agrees.wins-most B E ts limit board list few; most-wins = agrees.most-wins B E ts limit board list few }

-- ---- ROOM
module _ {A : Type 0} (d zero : A) (n : ℕ) (a : Admission) (old : List A) where
  -- "After refusals 1 to 9 the lent room is untouched", nor after 16 and 17
  pub left-untouched : (x : Refusal) → a ≡ Err x → left zero n a old ≡ old
  unfolding left
  left-untouched x h = ap (λ (y : Admission). left zero n y old) h

  -- "after every other call the used room is zero"
  left-emptied : a ≡ accepted → n ≤ length old → Emptied d zero n old (left zero n a old)
  unfolding left
  left-emptied h room = rw h (let w = cleared-written d zero n old room in record { room = room; len = w.len; used = w.front; surplus = w.back })

-- the same of what a call left, where n is m
pub left-zero : {A : Type 0} (d zero : A) (n m : ℕ) (a : Admission) (old new : List A) → n ≡ m → a ≡ accepted → n ≤ length old → new ≡ left zero n a old → Emptied d zero m old new
left-zero d zero n m a old new u h room e = rw (e, ← u) (left-emptied d zero n a old h room)

-- ---- HARD DECODE
module _ (call : HardCall) (before after : HardRoom) (answer : Answer) (done : HardGave call before after answer) where
  -- which calls are accepted, from both sides: those in the domain
  pub hard-accepts : (hard_checked call before ≡ accepted → InHardDomain call before) × (InHardDomain call before → hard_checked call before ≡ accepted)
  hard-accepts = hard-domain call before

  pub taken : InHardDomain call before → HardAccepted call (length before.counts) (length before.weights)
  taken domain = hard-accepted call (length before.counts) (length before.weights) (hard-accepts.1 domain)

  -- an early refusal: handed on whole, with its place, and both slices as they were
  pub hard-refused-early : (refusal : Refusal) → hard_checked call before ≡ Err refusal → (answer ≡ Err refusal) × (after.counts ≡ before.counts) × (after.weights ≡ before.weights)
  unfolding hard_answer
  hard-refused-early x h = (
    done.answer ∙ ap (λ (y : Admission). when_accepted Err y (hard_core call)) h,
    done.counts ∙ left-untouched 0 0 (tables_room call.board) (hard_checked call before) before.counts x h,
    done.weights ∙ left-untouched nan zero_f (tables_room call.board) (hard_checked call before) before.weights x h,
  )

  -- in the domain the answer is the decoder's
  pub core : InHardDomain call before → answer ≡ hard_core call
  unfolding hard_answer
  core domain = done.answer ∙ ap (λ (y : Admission). when_accepted Err y (hard_core call)) (hard-accepts.1 domain)

  -- every call in the domain: the first 9L + 1,503 places are zero, the surplus as it was
  pub hard-room-zero : InHardDomain call before
      → Emptied 0 0 (tables_for (length call.board.h)) before.counts after.counts × Emptied nan zero_f (tables_for (length call.board.h)) before.weights after.weights
  hard-room-zero domain =
      let h = hard-accepts.1 domain in
      let A = taken domain in
      let u = (pole-rooms call.board A.vertical).0 in (
        left-zero 0 0 (tables_room call.board) (tables_for (length call.board.h)) (hard_checked call before) before.counts after.counts u h A.room.0 done.counts,
        left-zero nan zero_f (tables_room call.board) (tables_for (length call.board.h)) (hard_checked call before) before.weights after.weights u h A.room.1 done.weights,
      )

  -- refused late means 10 to 13
  pub hard-refused-late : InHardDomain call before → (refusal : Refusal) → answer ≡ Err refusal → (10 ≤ refusal.number) × (refusal.number ≤ 13) × (refusal.place ≡ None)
  hard-refused-late domain x e = hard-late call (length before.counts) (length before.weights) (taken domain) x (sym (core domain) ∙ e)

  -- each exactly when (`hard-10` to `hard-13` of HardNumbers.antt)
  pub hard-refused-exactly : InHardDomain call before → HardLate call answer
  hard-refused-exactly domain = subst (HardLate call) (sym (core domain)) (hard-late-numbers call (length before.counts) (length before.weights) (taken domain))

  -- a found answer: the call is in the domain, and it is the decoder's
  pub told : (found : Decoded) → answer ≡ Ok found → InHardDomain call before × (hard_core call ≡ Ok found)
  unfolding hard_answer
  told d e = let f = found-only answers (hard_checked call before) (hard_core call) d (sym e ∙ done.answer) in (hard-accepts.0 f.0, f.1)

  pub hard-answer-in-range : (found : Decoded) → answer ≡ Ok found → AnswerInRange (length call.board.h) found
  hard-answer-in-range d e = let f = told d e in hard-in-range call (length before.counts) (length before.weights) (taken f.0) d f.1

  pub hard-no-influence : (before' after' : HardRoom) (answer' : Answer) → HardGave call before' after' answer' → length before'.counts ≡ length before.counts → length before'.weights ≡ length before.weights → answer' ≡ answer
  hard-no-influence before' after' answer' other p q = other.answer ∙ ap₂ (hard_answer call) p q ∙ sym done.answer

  -- C-12: document 01's ten fields come out of a found answer
  pub hard-old-fields : (found : Decoded) (e : answer ≡ Ok found) → HardTold call (length before.counts) (length before.weights) (taken (told found e).0) found
  hard-old-fields d e = let f = told d e in hard-ten-fields call (length before.counts) (length before.weights) (taken f.0) d f.1

  -- and its margin is that of the two counts
  pub hard-margin-of-the-two : (found : Decoded) → answer ≡ Ok found → found.margin_hits ≡ found.hits - found.runner_up_hits
  unfolding decoded_of
  hard-margin-of-the-two d e = subst (λ (z : Decoded). z.margin_hits ≡ z.hits - z.runner_up_hits) (hard-old-fields d e).decoded refl

  -- DEMAND 2
  pub hard-by-the-rules : answer ≡ hard_answer call (length before.counts) (length before.weights)
  hard-by-the-rules = done.answer

  -- DEMAND 3, found means true
  pub hard-found : (found : Decoded) → answer ≡ Ok found → InHardDomain call before × HardAnswered call found
  hard-found d e = let f = told d e in (f.0, hard-sound call (length before.counts) (length before.weights) (taken f.0) d f.1)

  -- DEMAND 3, a true square is found
  pub hard-finds : InHardDomain call before → no_confidence call.logical ≡ false → (square : Placing) → Leads call.board call.logical call.transforms call.error_limit square
      → AgreesPhysical call.board call.physical call.transforms square → (found : Decoded) × (answer ≡ Ok found) × Names call.transforms square found.square
  hard-finds domain k square l a =
      let f = hard-complete call (length before.counts) (length before.weights) (taken domain) k square l a in
      let s = hard-sound call (length before.counts) (length before.weights) (taken domain) f.0 f.1 in
      (f.0, core domain ∙ f.1, leader-named call.board call.logical call.transforms call.error_limit square s.square f.0.square l s.leads s.tells.square)

  -- the physical winner, by hits
  pub hard-agrees-most : InHardDomain call before → (square : Placing) → AgreesPhysical call.board call.physical call.transforms square
      → (other : Placing) → OnBoard call.board call.transforms other → hits_at call.board call.physical call.transforms other ≤ hits_at call.board call.physical call.transforms square
  hard-agrees-most domain = let A = taken domain in agrees.agrees-most call.board call.physical call.transforms A.board A.physical A.transforms.few A.some_physical

  pub hard-most-agrees : InHardDomain call before → no_confidence call.physical ≡ false → (square : Placing) → OnBoard call.board call.transforms square
      → ((other : Placing) → OnBoard call.board call.transforms other → (Same other square → ⊥) → hits_at call.board call.physical call.transforms other < hits_at call.board call.physical call.transforms square)
      → AgreesPhysical call.board call.physical call.transforms square
  hard-most-agrees domain = let A = taken domain in agrees.most-agrees call.board call.physical call.transforms A.board A.physical A.transforms.few A.some_physical

  -- WHAT HARD DECODE PROMISES. Where an edit in must-fail/ turns a theorem of this file, the promise is proved beside it and does not cite it, so that both refuse the edit
  pub hard-promise : HardPromise (hard_early call before) (tables_for (length call.board.h)) call before after answer
  hard-promise = record {
    demands = demands-met Err Ok answers (hard_early call before) (hard_late call) (after ≡ before) _ (HardAnswered call) answer (hard_core call) (hard_checked call before) hard-accepts (hard-first call before)
        (λ x h. let e = hard-refused-early x h in (e.0, λ i. record { counts = e.1 i; weights = e.2 i })) core
        (λ domain. hard-right call (length before.counts) (length before.weights) (taken domain)) hard-room-zero (λ d e. (hard-found d e).1);
    finds_square = hard-finds;
    logical-winner = λ domain.
        let A = taken domain in
        record {
          wins-most = agrees.wins-most call.board call.logical call.transforms call.error_limit A.board A.logical A.transforms.few;
          most-wins = agrees.most-wins call.board call.logical call.transforms call.error_limit A.board A.logical A.transforms.few;
        };
    physical-winner = λ domain.
        let A = taken domain in
        record {
          wins-most = λ P a Q w. agrees.agrees-most call.board call.physical call.transforms A.board A.physical A.transforms.few A.some_physical P a Q w.0;
          most-wins = λ k P w. hard-most-agrees domain k P w.0;
        };
  }

  pub hard-particulars : HardParticulars call before after answer
  hard-particulars = record {
    early = record {
      accepts = hard-accepts;
      number = hard-early call (length before.counts) (length before.weights);
      place = hard-place call (length before.counts) (length before.weights);
      old_number = hard-document-01 call (length before.counts) (length before.weights);
      refuses = hard-refused-early;
    };
    refused_late = λ domain x e. hard-late call (length before.counts) (length before.weights) (taken domain) x (sym (core domain) ∙ e);
    refused_exactly = hard-refused-exactly;
    answer_in_range = hard-answer-in-range;
    no_influence = hard-no-influence;
    margin-of-the-two = hard-margin-of-the-two;
    by_the_rules = hard-by-the-rules;
  }

-- ---- SOFT DECODE
module _ (call : SoftCall) (before after : SoftRoom) (answer : SoftAnswer) (done : SoftGave call before after answer) where
  -- which calls are accepted, from both sides: those in the domain
  pub soft-accepts : (soft_checked call before ≡ accepted → InSoftDomain call before) × (InSoftDomain call before → soft_checked call before ≡ accepted)
  soft-accepts = soft-domain call before

  pub admitted : InSoftDomain call before → SoftAccepted call (length before.counts) (length before.weights) (length before.sums)
  admitted domain = soft-accepted call (length before.counts) (length before.weights) (length before.sums) (soft-accepts.1 domain)

  -- an early refusal: handed on whole, with its place, and all three slices as they were
  pub soft-refused-early : (refusal : Refusal) → soft_checked call before ≡ Err refusal
      → (answer ≡ Err refusal) × (after.counts ≡ before.counts) × (after.weights ≡ before.weights) × (after.sums ≡ before.sums)
  unfolding soft_answer
  soft-refused-early x h = (
    done.answer ∙ ap (λ (y : Admission). when_accepted Err y (soft_core call)) h,
    done.counts ∙ left-untouched 0 0 (tables_room call.hard.board) (soft_checked call before) before.counts x h,
    done.weights ∙ left-untouched nan zero_f (tables_room call.hard.board) (soft_checked call before) before.weights x h,
    done.sums ∙ left-untouched (pos 0) (pos 0) (sums_room call.hard.board) (soft_checked call before) before.sums x h,
  )

  -- in the domain the answer is the decoder's
  soft-core : InSoftDomain call before → answer ≡ soft_core call
  unfolding soft_answer
  soft-core domain = done.answer ∙ ap (λ (y : Admission). when_accepted Err y (soft_core call)) (soft-accepts.1 domain)

  -- every call in the domain: the first 9L + 1,503, as many and 15L + 2,505 places are zero, the surplus as it was
  pub soft-room-zero : InSoftDomain call before
      → Emptied 0 0 (tables_for (length call.hard.board.h)) before.counts after.counts × Emptied nan zero_f (tables_for (length call.hard.board.h)) before.weights after.weights
      × Emptied (pos 0) (pos 0) (sums_for (length call.hard.board.h)) before.sums after.sums
  soft-room-zero domain =
      let h = soft-accepts.1 domain in
      let A = admitted domain in
      let u = pole-rooms call.hard.board A.hard.vertical in (
        left-zero 0 0 (tables_room call.hard.board) (tables_for (length call.hard.board.h)) (soft_checked call before) before.counts after.counts u.0 h A.hard.room.0 done.counts,
        left-zero nan zero_f (tables_room call.hard.board) (tables_for (length call.hard.board.h)) (soft_checked call before) before.weights after.weights u.0 h A.hard.room.1 done.weights,
        left-zero (pos 0) (pos 0) (sums_room call.hard.board) (sums_for (length call.hard.board.h)) (soft_checked call before) before.sums after.sums u.1 h A.room done.sums,
      )

  -- refused late means 10, 11, 13, 14 or 15
  pub soft-refused-late : InSoftDomain call before → (refusal : Refusal) → answer ≡ Err refusal → ((10 ≤ refusal.number) × (refusal.number ≤ 15) × (refusal.number ≡ 12 → ⊥)) × (refusal.place ≡ None)
  soft-refused-late domain x e = soft-late call (length before.counts) (length before.weights) (length before.sums) (admitted domain) x (sym (soft-core domain) ∙ e)

  -- each exactly when (`soft-10` to `soft-15` of SoftNumbers.antt)
  pub soft-refused-exactly : InSoftDomain call before → SoftLate call answer
  soft-refused-exactly domain =
      subst (SoftLate call) (sym (soft-core domain)) (soft-late-numbers call (length before.counts) (length before.weights) (length before.sums) (admitted domain))

  pub soft-told : (found : SoftDecoded) → answer ≡ Ok found → InSoftDomain call before × (soft_core call ≡ Ok found)
  unfolding soft_answer
  soft-told d e = let f = found-only soft-answers (soft_checked call before) (soft_core call) d (sym e ∙ done.answer) in (soft-accepts.0 f.0, f.1)

  pub soft-answer-in-range : (found : SoftDecoded) → answer ≡ Ok found → SoftAnswerInRange (length call.hard.board.h) found
  soft-answer-in-range d e = let f = soft-told d e in soft-in-range call (length before.counts) (length before.weights) (length before.sums) (admitted f.0) d f.1

  pub soft-no-influence : (before' after' : SoftRoom) (answer' : SoftAnswer) → SoftGave call before' after' answer'
      → length before'.counts ≡ length before.counts → length before'.weights ≡ length before.weights → length before'.sums ≡ length before.sums → answer' ≡ answer
  soft-no-influence before' after' answer' other p q r = other.answer ∙ (λ i. soft_answer call (p i) (q i) (r i)) ∙ sym done.answer

  -- C-12, the margin of the two totals
  pub soft-margin-of-the-two : (found : SoftDecoded) → answer ≡ Ok found → MarginOfTheTwo found
  soft-margin-of-the-two d e =
      let f = soft-told d e in
      let a = soft-sound call (length before.counts) (length before.weights) (length before.sums) (admitted f.0) d f.1 in
      a.margin ∙ (λ i. div binary32 (sub binary32 (sym a.best_score i) (sym a.second_score i)) (of_int binary32 (pos (sym a.tells.edges i))))

  -- and document 01's ten fields come out
  pub soft-old-fields : (found : SoftDecoded) (e : answer ≡ Ok found) → SoftTold call (length before.counts) (length before.weights) (length before.sums) (admitted (soft-told found e).0) found
  soft-old-fields d e = let f = soft-told d e in soft-ten-fields call (length before.counts) (length before.weights) (length before.sums) (admitted f.0) d f.1

  -- DEMAND 2
  pub soft-by-the-rules : answer ≡ soft_answer call (length before.counts) (length before.weights) (length before.sums)
  soft-by-the-rules = done.answer

  -- DEMAND 3, found means true
  pub soft-found : (found : SoftDecoded) → answer ≡ Ok found → InSoftDomain call before × SoftAnswered call found
  soft-found d e = let f = soft-told d e in (f.0, soft-sound call (length before.counts) (length before.weights) (length before.sums) (admitted f.0) d f.1)

  -- DEMAND 3, a true square is found. Of second place the margin takes the total alone, so any placing that has it will do
  pub soft-finds-by-rows : InSoftDomain call before → no_confidence call.hard.physical ≡ false → no_confidence call.hard.logical ≡ false → (square second : Placing)
      → Clears call square second → Leads call.hard.board call.hard.logical call.hard.transforms call.hard.error_limit square
      → (found : SoftDecoded) × (answer ≡ Ok found) × Names call.hard.transforms square found.square
  soft-finds-by-rows domain k g square second c l =
      let f = soft-complete-by-rows call (length before.counts) (length before.weights) (length before.sums) (admitted domain) k g square second c.first c.second c.margin l in
      let s = soft-sound call (length before.counts) (length before.weights) (length before.sums) (admitted domain) f.0 f.1 in
      (f.0, soft-core domain ∙ f.1, leader-named call.hard.board call.hard.logical call.hard.transforms call.hard.error_limit square s.square f.0.square l s.leads s.tells.square)

  -- the same of the two that soft selection keeps, by keys and cells
  pub soft-finds : InSoftDomain call before → no_confidence call.hard.physical ≡ false → no_confidence call.hard.logical ≡ false → (square second : Placing)
      → BestByLikelihood call.hard.board call.hard.physical call.likelihoods call.hard.transforms square second
      → below_margin (margin_of call.hard.board call.hard.physical call.likelihoods call.hard.transforms square second) call.soft-margin ≡ false
      → Leads call.hard.board call.hard.logical call.hard.transforms call.hard.error_limit square → (found : SoftDecoded) × (answer ≡ Ok found) × Names call.hard.transforms square found.square
  soft-finds domain k g square second b m =
      let p = best-by-rows call.hard.board call.hard.physical call.likelihoods call.hard.transforms (admitted domain).hard.board square second b in
      soft-finds-by-rows domain k g square second (record { first = p.0; second = p.1; margin = m })

  -- which of the second-best placings is meant, where several tie
  pub soft-second-kept : (found : SoftDecoded) → answer ≡ Ok found → SoftKept call found
  soft-second-kept d e = let f = soft-told d e in soft-kept call (length before.counts) (length before.weights) (length before.sums) (admitted f.0) d f.1

  -- WHAT SOFT DECODE PROMISES
  pub soft-promise : SoftPromise (soft_early call before) (tables_for (length call.hard.board.h)) (sums_for (length call.hard.board.h)) call before after answer
  soft-promise = record {
    demands = demands-met Err Ok soft-answers (soft_early call before) (soft_late call) (after ≡ before) _ (SoftAnswered call) answer (soft_core call) (soft_checked call before) soft-accepts (soft-first call before)
        (λ x h. let e = soft-refused-early x h in (e.0, λ i. record { counts = e.1 i; weights = e.2 i; sums = e.3 i })) soft-core
        (λ domain. soft-right call (length before.counts) (length before.weights) (length before.sums) (admitted domain))
        (λ domain.
        let h = soft-accepts.1 domain in
        let A = admitted domain in
        let u = pole-rooms call.hard.board A.hard.vertical in (
          left-zero 0 0 (tables_room call.hard.board) (tables_for (length call.hard.board.h)) (soft_checked call before) before.counts after.counts u.0 h A.hard.room.0 done.counts,
          left-zero nan zero_f (tables_room call.hard.board) (tables_for (length call.hard.board.h)) (soft_checked call before) before.weights after.weights u.0 h A.hard.room.1 done.weights,
          left-zero (pos 0) (pos 0) (sums_room call.hard.board) _ (soft_checked call before) before.sums after.sums u.1 h A.room done.sums,
        ))
        (λ d e. (soft-found d e).1);
    finds_square = soft-finds-by-rows;
    logical-winner = λ domain.
        let A = (admitted domain).hard in
        record {
          wins-most = agrees.wins-most call.hard.board call.hard.logical call.hard.transforms call.hard.error_limit A.board A.logical A.transforms.few;
          most-wins = agrees.most-wins call.hard.board call.hard.logical call.hard.transforms call.hard.error_limit A.board A.logical A.transforms.few;
        };
  }

  pub soft-particulars : SoftParticulars call before after answer
  soft-particulars = record {
    early = record {
      accepts = soft-accepts;
      number = soft-early call (length before.counts) (length before.weights) (length before.sums);
      place = soft-place call (length before.counts) (length before.weights) (length before.sums);
      old_number = soft-document-01 call (length before.counts) (length before.weights) (length before.sums);
      refuses = soft-refused-early;
    };
    refused_late = λ domain x e. soft-late call (length before.counts) (length before.weights) (length before.sums) (admitted domain) x (sym (soft-core domain) ∙ e);
    refused_exactly = soft-refused-exactly;
    answer_in_range = soft-answer-in-range;
    no_influence = soft-no-influence;
    margin-of-the-two = soft-margin-of-the-two;
    by_the_rules = soft-by-the-rules;
    kept = soft-second-kept;
  }

-- ---- MATCH STATISTICS
module _ (list : EdgeList) (transform row col : ℕ) (board : Board) (answer : StatsAnswer) (done : answer ≡ stats_answer list transform row col board) where
  -- what the checks say of the call
  abbrev stats_checked : Admission
  stats_checked = stats_admission list transform row col board

  -- which calls are accepted, from both sides: those in the domain
  pub stats-accepts : (stats_checked ≡ accepted → AllMet (stats_early list transform row col board)) × (AllMet (stats_early list transform row col board) → stats_checked ≡ accepted)
  stats-accepts = stats-domain list transform row col board

  -- DEMAND 1, refusals: the number of document 01
  pub stats-refused : (refusal : Refusal) → stats_checked ≡ Err refusal → answer ≡ Err refusal
  unfolding stats_answer
  stats-refused x h = done ∙ ap (λ (y : Admission). or_counted y (stats_of list transform row col board)) h

  -- DEMAND 2: every other call gives the statistics of document 01
  pub stats-by-the-rules : AllMet (stats_early list transform row col board) → answer ≡ Ok (stats_of list transform row col board)
  unfolding stats_answer
  stats-by-the-rules domain = done ∙ ap (λ (y : Admission). or_counted y (stats_of list transform row col board)) (stats-accepts.1 domain)

  -- what is counted is in range: its whole numbers, and no float is a NaN or an infinity
  pub stats-answer-in-range : (counted : MatchStats) → answer ≡ Ok counted → StatsInRange counted
  unfolding stats_answer
  stats-answer-in-range s k = go stats_checked refl (sym k ∙ done)
    where
      go : (a : Admission) → stats_checked ≡ a → Ok s ≡ or_counted a (stats_of list transform row col board) → StatsInRange s
      go (Ok _) h q = let z : stats_of list transform row col board ≡ s = cc in subst StatsInRange z (stats-in-range list transform row col board (stats-accepted list transform row col board h).list)
      go (Err x) h q = let z : ◌≡◌ {A = ℕ} 0 1 = cc in absurd (omega arith)

  -- DEMAND 2, counted means: the hits are board's, edge by edge, of all the edges
  pub stats-hits : (counted : MatchStats) → answer ≡ Ok counted → (counted.hits ≡ hits board list transform row col) × (counted.edges ≡ size list)
  unfolding stats_answer stats_of
  stats-hits s k = go stats_checked (sym k ∙ done)
    where
      go : (a : Admission) → Ok s ≡ or_counted a (stats_of list transform row col board) → (s.hits ≡ hits board list transform row col) × (s.edges ≡ size list)
      go (Ok _) q = let z : s ≡ stats_of list transform row col board = cc in (ap (λ (x : MatchStats). x.hits) z, ap (λ (x : MatchStats). x.edges) z)
      go (Err x) q = let z : ◌≡◌ {A = ℕ} 0 1 = cc in absurd (omega arith)

  -- WHAT MATCH STATISTICS PROMISE
  pub stats-promise : StatsPromise (stats_early list transform row col board) list transform row col board answer
  unfolding AllMet
  stats-promise = record {
    demands = demands-met Err Ok stats-answers (stats_early list transform row col board) [] (Unit {0}) (Unit {0}) _ answer (Ok (stats_of list transform row col board)) stats_checked stats-accepts
        (stats-first list transform row col board) (λ x h. (stats-refused x h, tt)) stats-by-the-rules (λ domain. right-found Err Ok stats-answers [] (stats_of list transform row col board) tt) (λ domain. tt) stats-hits;
  }

  pub stats-particulars : StatsParticulars list transform row col board answer
  stats-particulars = record {
    early = record { accepts = stats-accepts; number = stats-early list transform row col board; place = stats-place list transform row col board; old_number = stats-document-01 list transform row col board; refuses = stats-refused };
    by_the_rules = stats-by-the-rules;
    answer_in_range = stats-answer-in-range;
  }
