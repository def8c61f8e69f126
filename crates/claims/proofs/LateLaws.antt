-- An accepted call is found when it meets all conditions of Late.antt, and else refused by the number of the first that it does not meet.
use Rattle.std.specs.Prelude.{◌≡◌, Bool, true, false, ◌&&◌, List, ℕ, ◌≤◌, eqb, get_or, length, pos, Float, Err, Ok}
use Rattle.std.proofs.Math.Path.{refl}
use Rattle.std.proofs.Common.{sym, ap, ap₂, subst, ◌∙◌, eq-eqb, eqb-true}
use Rattle.std.proofs.Math.Logic.{inl, inr}
use Rattle.std.specs.Float.{binary32}
use Rattle.std.specs.Float.Ieee.{lt, sub, div, of_int}
use Rattle.laws.specs.Tests.{and-true, clash}
use Rattle.laws.specs.Words.{one_f}
use Rattle.board.specs.declared.edge.Placing.{Placing}
use Rattle.board.specs.Hits.{EdgeList, Board, size}
use Rattle.refusals.specs.Numbers.{numbered}
use Rattle.refusals.specs.Numbers as why
use Rattle.admission.specs.Calls.{HardCall, SoftCall}
use Rattle.admission.specs.Conditions.{AllMet, FirstFails}
use Rattle.admission.specs.Accepted.{HardAccepted, SoftAccepted}
use Rattle.figures.specs.Figures.{no_confidence}
use Rattle.scan.specs.Pairs.{ok-first}
use Rattle.scan.specs.declared.scan.Candidate.{Candidate}
use Rattle.scan.specs.declared.scan.RunnerUp.{RunnerUp}
use Rattle.hard.specs.Select.{selection}
use Rattle.answer.specs.Answers.{Answer}
use Rattle.answer.specs.Answers.{SoftAnswer}
use Rattle.verdict.specs.Verdict.{refused_by, agreed}
use Rattle.verdict.specs.Answers.{answers}
use Rattle.soft_verdict.specs.SoftVerdict.{soft_refused_by}
use Rattle.soft_verdict.specs.SoftVerdictTheorems.{soft-answers}
use Rattle.demand.specs.Demand.{WithinLimit, Wins, AgreesPhysical}
use Rattle.demand.specs.Late.{SameSquare}
use Rattle.demand.specs.OneSelection.{SomeWithinLimit, NoneWithinLimit, Winner, winner-some}
use Rattle.demand.specs.Winners.{winner-leads}
use Rattle.hard_core.specs.Hard.{hard_core}
use Rattle.hard_core.proofs.HardNumbers as hard
use Rattle.soft_core.specs.Soft.{soft_core}
use Rattle.soft_core.specs.SoftDemand.{total, margin_of, FirstByLikelihood, SecondByLikelihood, Clears}
use Rattle.soft_core.specs.SoftLaws.{likelihoods-ok}
use Rattle.soft_core.specs.SoftPlaces.{first-once, second-total}
use Rattle.soft_core.proofs.SoftTheorems.{places-exist, soft-sound}
use Rattle.soft_core.proofs.SoftNumbers as soft
use Rattle.claims.proofs.DemandsLaws.{Right, right-found, right-refused}
use Rattle.claims.specs.Late.{hard_late, soft_late}

-- a list has one winner, so whoever wins has its transform and origin
wins-as : (B : Board) (E : EdgeList) (ts : List ℕ) (limit : Float) (P : Placing) (x : Candidate) (r : RunnerUp) → Wins B E ts limit P → selection B E ts limit ≡ Ok (x, r) → SameSquare ts x.placing P
wins-as B E ts limit P x r w e =
    let same : w.winner ≡ x = ok-first (sym w.chosen ∙ e) in (
      ap (λ (c : Candidate). get_or ts c.placing.listed 0) (sym same) ∙ w.transform,
      ap (λ (c : Candidate). c.placing.row) (sym same) ∙ w.row,
      ap (λ (c : Candidate). c.placing.col) (sym same) ∙ w.col,
    )

-- the winner wins, and so does every placing with its transform and origin
winner-wins : (B : Board) (E : EdgeList) (ts : List ℕ) (limit : Float) (P : Placing) (x : Candidate) (r : RunnerUp) → selection B E ts limit ≡ Ok (x, r) → SameSquare ts x.placing P → Wins B E ts limit P
winner-wins B E ts limit P x r e s = record { winner = x; runner = r; chosen = e; transform = s.0; row = s.1; col = s.2 }

-- the test of two placings is true exactly where they have one transform and origin
abbrev level : List ℕ → Placing → Placing → Bool
level ts P S = eqb (get_or ts P.listed 0) (get_or ts S.listed 0) && (eqb P.row S.row && eqb P.col S.col)

level-same : (ts : List ℕ) (P S : Placing) → level ts P S ≡ true → SameSquare ts S P
level-same ts P S h =
    let u = and-true (eqb (get_or ts P.listed 0) (get_or ts S.listed 0)) _ h in
    let v = and-true (eqb P.row S.row) (eqb P.col S.col) u.1 in
    (sym (eqb-true _ _ u.0), sym (eqb-true _ _ v.0), sym (eqb-true _ _ v.1))

same-level : (ts : List ℕ) (P S : Placing) → SameSquare ts S P → level ts P S ≡ true
same-level ts P S e = rw (eq-eqb _ _ (sym e.0), eq-eqb _ _ (sym e.1), eq-eqb _ _ (sym e.2))

-- two placings that have the transform and origin of a third
same-through : (ts : List ℕ) (P S Z : Placing) → SameSquare ts P Z → SameSquare ts S Z → SameSquare ts S P
same-through ts P S Z a b = (b.0 ∙ sym a.0, b.1 ∙ sym a.1, b.2 ∙ sym a.2)

-- some placing of the logical list is within the limit, as the condition says it
abbrev Some : HardCall → Type 0
Some call = (P : Placing) × WithinLimit call.board call.logical call.transforms call.error_limit P

some_of : (call : HardCall) → SomeWithinLimit call.board call.logical call.transforms call.error_limit → Some call
some_of call s = (s.one, (s.on-board, s.within))

not_within : (call : HardCall) → NoneWithinLimit call.board call.logical call.transforms call.error_limit → Some call → ⊥
not_within call none some = clash (none some.0 some.1.0) some.1.1

-- ---- hard decode
module _ (call : HardCall) (m n : ℕ) (A : HardAccepted call m n) where
  abbrev few : length call.transforms ≤ 8
  few = A.transforms.few

  abbrev LogicalWinner : Type 0
  LogicalWinner = Winner call.board call.logical call.transforms call.error_limit A.board A.logical few

  abbrev PhysicalWinner : Type 0
  PhysicalWinner = Winner call.board call.physical call.transforms one_f A.board A.physical few

  -- the test of two winners
  abbrev agree : Candidate → Candidate → Bool
  agree w p = agreed (get_or call.transforms w.placing.listed 0) w (get_or call.transforms p.placing.listed 0) p

  agree_same : (w p : Candidate) → agree w p ≡ true → SameSquare call.transforms p.placing w.placing
  unfolding agreed
  agree_same w p h = level-same call.transforms w.placing p.placing h

  same-agree : (w p : Candidate) → SameSquare call.transforms p.placing w.placing → agree w p ≡ true
  unfolding agreed
  same-agree w p e = same-level call.transforms w.placing p.placing e

  -- what is known where the logical list has a winner
  logical-known : (w : LogicalWinner) → (no_confidence call.logical ≡ false) × Some call
  logical-known w =
      let k = winner-some call.board call.logical call.transforms call.error_limit A.board A.logical few w in (k.0, some_of call k.1)

  physical-known : (p : PhysicalWinner) → no_confidence call.physical ≡ false
  physical-known p = (winner-some call.board call.physical call.transforms one_f A.board A.physical few p).0

  -- they agree
  both-win : (w : LogicalWinner) (p : PhysicalWinner) → agree w.winner p.winner ≡ true
      → (P : Placing) × Wins call.board call.logical call.transforms call.error_limit P × AgreesPhysical call.board call.physical call.transforms P
  both-win w p h = (
    w.winner.placing,
    winner-wins call.board call.logical call.transforms call.error_limit w.winner.placing w.winner w.runner-up w.selected (refl, refl, refl),
    winner-wins call.board call.physical call.transforms one_f w.winner.placing p.winner p.runner-up p.selected (agree_same w.winner p.winner h),
  )

  -- a refusal by the number of the first condition that is not met is right
  hard-refused : (k : ℕ) → FirstFails (hard_late call) k → Right Err Ok (hard_late call) (refused_by k)
  hard-refused k = right-refused Err Ok answers (hard_late call) (numbered k)

  -- however an accepted call ends, its answer is right
  hard-ended : (a : Answer) → hard.HardEnd call m n A a → Right Err Ok (hard_late call) a
  unfolding hard_late AllMet FirstFails
  hard-ended a (hard.no_logical_confidence h) = hard-refused why.no_confidence (inl ((λ k. clash h k), refl))
  hard-ended a (hard.none_within h k) = hard-refused why.none_within_limit (inr (h, inl (not_within call k, refl)))
  hard-ended a (hard.no_physical_confidence h s k) = hard-refused why.no_confidence (inr (h, inr (some_of call s, inl ((λ l. clash k l), refl))))
  hard-ended a (hard.winners_differ w p h) =
      let k = logical-known w in
      hard-refused why.lists_disagree (inr (
        k.0,
        inr (
          k.1,
          inr (
            physical-known p,
            inl (
              (λ b. clash (same-agree w.winner p.winner (same-through call.transforms w.winner.placing p.winner.placing b.0
                  (wins-as call.board call.logical call.transforms call.error_limit b.0 w.winner w.runner-up b.1 w.selected)
                  (wins-as call.board call.physical call.transforms one_f b.0 p.winner p.runner-up b.2 p.selected))) h),
              refl,
            ),
          ),
        ),
      ))
  hard-ended a (hard.none_leads w p h none) =
      let k = logical-known w in
      hard-refused why.not_far_ahead (inr (k.0, inr (k.1, inr (physical-known p, inr (both-win w p h, inl ((λ l. none l.0 l.1), refl))))))
  hard-ended a (hard.found w p h g d) =
      let k = logical-known w in
      right-found Err Ok answers (hard_late call) d
      (k.0, (k.1, (physical-known p, (both-win w p h, ((w.winner.placing, winner-leads call.board call.logical call.transforms call.error_limit A.board A.logical few w.winner w.runner-up w.selected g), tt)))))

  -- HARD
  pub hard-right : Right Err Ok (hard_late call) (hard_core call)
  hard-right = hard-ended (hard_core call) (hard.hard-ends call m n A)

-- ---- soft decode
module _ (call : SoftCall) (m n o : ℕ) (A : SoftAccepted call m n o) where
  -- the two placings that soft selection keeps, and whether their margin is below the soft margin
  abbrev first : Placing
  first = soft.Q call m n o A

  abbrev other : Placing
  other = soft.R call m n o A

  abbrev under : Placing → Placing → Bool
  under P S = lt (margin_of call.hard.board call.hard.physical call.likelihoods call.hard.transforms P S) call.soft-margin

  -- who has first place by likelihood is the one that it keeps
  first-is : (P : Placing) → FirstByLikelihood call.hard.board call.hard.physical call.likelihoods call.hard.transforms P → P ≡ first
  first-is P f =
      let s = first-once call.hard.board call.hard.physical call.likelihoods call.hard.transforms A.hard.board P first f (places-exist call m n o A).0 in
      λ i. record { listed = s.0 i; row = s.1 i; col = s.2 i }

  -- so its margin is the one that is tested
  clears : under first other ≡ false → Clears call first other
  clears k = record { first = (places-exist call m n o A).0; second = (places-exist call m n o A).1; margin = k }

  clear-only : (P S : Placing) → Clears call P S → under first other ≡ false
  clear-only P S c =
      let B = call.hard.board in
      let E = call.hard.physical in
      let X = call.likelihoods in
      let ts = call.hard.transforms in
      let e = first-is P c.first in
      let second = subst (λ (Z : Placing). SecondByLikelihood B E X ts Z S) e c.second in
      let t = second-total B E X ts A.hard.board A.hard.physical (likelihoods-ok call m n o A) first S other second (places-exist call m n o A).1 in
      ap₂ (λ (Z : Placing) (x : Float). lt (div binary32 (sub binary32 (total B E X ts Z) x) (of_int binary32 (pos (size E)))) call.soft-margin) (sym e) (sym t) ∙ c.margin

  abbrev SoftLogical : Type 0
  SoftLogical = Winner call.hard.board call.hard.logical call.hard.transforms call.hard.error_limit A.hard.board A.hard.logical A.hard.transforms.few

  soft-known : (w : SoftLogical) → (no_confidence call.hard.logical ≡ false) × Some call.hard
  soft-known w =
      let k = winner-some call.hard.board call.hard.logical call.hard.transforms call.hard.error_limit A.hard.board A.hard.logical A.hard.transforms.few w in
      (k.0, some_of call.hard k.1)

  first-wins : under first other ≡ false → (w : SoftLogical) → level call.hard.transforms first w.winner.placing ≡ true
      → (P : Placing) × (S : Placing) × Clears call P S × Wins call.hard.board call.hard.logical call.hard.transforms call.hard.error_limit P
  first-wins b w h = (
    first,
    other,
    clears b,
    winner-wins call.hard.board call.hard.logical call.hard.transforms call.hard.error_limit first w.winner w.runner-up w.selected (level-same call.hard.transforms first w.winner.placing h),
  )

  -- the same of a soft refusal, and of every end
  soft-refused : (k : ℕ) → FirstFails (soft_late call) k → Right Err Ok (soft_late call) (soft_refused_by k)
  soft-refused k = right-refused Err Ok soft-answers (soft_late call) (numbered k)

  soft-ended : (a : SoftAnswer) → soft_core call ≡ a → soft.SoftEnd call m n o A a → Right Err Ok (soft_late call) a
  unfolding soft_late AllMet FirstFails
  soft-ended a e (soft.no_physical_confidence h) = soft-refused why.no_confidence (inl ((λ k. clash h k), refl))
  soft-ended a e (soft.margin_below h b) = soft-refused why.soft_margin (inr (h, inl ((λ c. clash b (clear-only c.0 c.1 c.2)), refl)))
  soft-ended a e (soft.no_logical_confidence h b l) = soft-refused why.no_confidence (inr (h, inr ((first, other, clears b), inl ((λ k. clash l k), refl))))
  soft-ended a e (soft.none_within h b l none) = soft-refused why.none_within_limit (inr (h, inr ((first, other, clears b), inr (l, inl (not_within call.hard none, refl)))))
  soft-ended a e (soft.winners_differ h b w d) =
      let k = soft-known w in
      soft-refused why.soft_hard_disagree (inr (
        h,
        inr (
          (first, other, clears b),
          inr (
            k.0,
            inr (
              k.1,
              inl (
                (λ f. clash (same-level call.hard.transforms first w.winner.placing (subst (SameSquare call.hard.transforms w.winner.placing) (first-is f.0 f.2.first)
                    (wins-as call.hard.board call.hard.logical call.hard.transforms call.hard.error_limit f.0 w.winner w.runner-up f.3 w.selected))) d),
                refl,
              ),
            ),
          ),
        ),
      ))
  soft-ended a e (soft.none_leads h b w d none) =
      let k = soft-known w in
      soft-refused why.not_far_ahead (inr (h, inr ((first, other, clears b), inr (k.0, inr (k.1, inr (first-wins b w d, inl ((λ l. none l.0 l.1), refl)))))))
  soft-ended a e (soft.found h b w d f) =
      let k = soft-known w in
      let s = soft-sound call m n o A f e in
      right-found Err Ok soft-answers (soft_late call) f (h, ((first, other, clears b), (k.0, (k.1, (first-wins b w d, ((s.square, s.leads), tt))))))

  -- SOFT
  pub soft-right : Right Err Ok (soft_late call) (soft_core call)
  soft-right = soft-ended (soft_core call) refl (soft.soft-ends call m n o A)
