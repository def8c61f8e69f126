-- An accepted exact call is found when it meets all conditions of `exact_late` (Late.antt), and else refused by the number of the first that it does not meet.
use Rattle.std.specs.Prelude.{refl, ℕ, Err, Ok}
use Rattle.std.proofs.Math.Logic.{inl, inr}
use Rattle.std.proofs.Common.{arith}
use Rattle.board.specs.declared.edge.Placing.{Placing}
use Rattle.refusals.specs.Numbers.{numbered}
use Rattle.refusals.specs.Numbers as why
use Rattle.laws.specs.Tests.{clash}
use Rattle.admission.specs.Calls.{HardCall}
use Rattle.admission.specs.Conditions.{AllMet, FirstFails}
use Rattle.admission.specs.Accepted.{HardAccepted}
use Rattle.demand.specs.Demand.{WithinLimit}
use Rattle.demand.specs.Late.{SameSquare}
use Rattle.exact_answer.specs.Answers.{ExactAnswer}
use Rattle.exact_verdict.specs.ExactVerdict.{exact_refused_by}
use Rattle.exact_core.specs.ExactCore.{exact_core}
use Rattle.exact_demand.specs.ExactDemand.{ExactWins}
use Rattle.exact_demand.proofs.ExactEnds.{exact-answers, BothWin, ExactEnd, no_logical_units, none-within-limit, no_physical_units, winners_differ, none_leads, found, exact-ends}
use Rattle.exact_demand.proofs.ExactTheorems.{agreeing}
use Rattle.claims.proofs.DemandsLaws.{Right, right-found, right-refused}
use Rattle.claims.specs.Late.{exact_late}

module _ (call : HardCall) where
  -- the logical winner is within the limit
  some-within : BothWin call → (P : Placing) × WithinLimit call.board call.logical call.transforms call.error_limit P
  some-within b = (b.logical, (b.logical_wins.on-board, b.within))

  -- winners that have one transform and origin are one placing that wins on both lists
  both-win : (b : BothWin call) → SameSquare call.transforms b.physical b.logical
      → (P : Placing) × ExactWins call.board call.logical call.transforms P × ExactWins call.board call.physical call.transforms P
  both-win b q = (b.logical, record { winner = b.logical; wins = b.logical_wins; square = (refl, refl, refl) }, record { winner = b.physical; wins = b.physical_wins; square = q })

  -- a refusal by the number of the first condition that is not met is right
  exact-refused : (k : ℕ) → FirstFails (exact_late call) k → Right Err Ok (exact_late call) (exact_refused_by k)
  exact-refused k = right-refused Err Ok exact-answers (exact_late call) (numbered k)

  -- however an accepted call ends, its answer is right
  exact-ended : (a : ExactAnswer) → ExactEnd call a → Right Err Ok (exact_late call) a
  unfolding exact_late AllMet FirstFails
  exact-ended a (no_logical_units z) = exact-refused why.no_confidence (inl ((λ u. omega (arith, u, z)), refl))
  exact-ended a (none-within-limit u h) = exact-refused why.none_within_limit (inr (u, inl ((λ s. clash (h s.0 s.1.0) s.1.1), refl)))
  exact-ended a (no_physical_units u P w z) = exact-refused why.no_confidence (inr (u, inr ((P, w), inl ((λ v. omega (arith, v, z)), refl))))
  exact-ended a (winners_differ b h) =
      exact-refused why.lists_disagree (inr (b.logical_units, inr (some-within b, inr (b.physical_units, inl ((λ s. h (agreeing call b s.0 s.1 s.2)), refl)))))
  exact-ended a (none_leads b q none) =
      exact-refused why.not_far_ahead (inr (b.logical_units, inr (some-within b, inr (b.physical_units, inr (both-win b q, inl ((λ s. none s.0 s.1), refl))))))
  exact-ended a (found b q d x) =
      right-found Err Ok exact-answers (exact_late call) d (b.logical_units, (some-within b, (b.physical_units, (both-win b q, ((x.square, x.leads), tt)))))

  -- EXACT
  pub exact-right : (m n : ℕ) → HardAccepted call m n → Right Err Ok (exact_late call) (exact_core call)
  exact-right m n A = exact-ended (exact_core call) (exact-ends call m n A)
