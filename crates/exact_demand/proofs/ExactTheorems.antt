-- DEMAND 3, EXACT. For accepted inputs with a unit sum above 0 of each list, exact decode answers exactly when one placing of the logical list leads and agrees with the winner of the physical list by
-- hits, weight, list position, row and column; it gives that placing, and a runner-up that is another placing with hits no third exceeds. Hits and weights are counted edge by edge.
use Rattle.std.specs.Prelude.{◌≡◌, refl, ℕ, ◌≤◌, ◌<◌, get_or, Err, None, Ok}
use Rattle.std.proofs.Common.{sym, ap, subst, ◌∙◌, arith}
use Rattle.laws.specs.Tests.{clash}
use Rattle.board.specs.declared.edge.Placing.{Placing}
use Rattle.refusals.specs.declared.Refusal.{Refusal}
use Rattle.refusals.specs.Numbers.{numbered}
use Rattle.refusals.specs.Numbers as why
use Rattle.admission.specs.Calls.{HardCall}
use Rattle.admission.specs.Accepted.{HardAccepted}
use Rattle.verdict.specs.Answers.{never_both}
use Rattle.demand.specs.Demand.{Leads}
use Rattle.demand.specs.Late.{SameSquare}
use Rattle.exact.proofs.ExactTheorems.{winner-once}
use Rattle.exact_answer.specs.declared.ExactDecoded.{ExactDecoded}
use Rattle.exact_answer.specs.Answers.{ExactAnswer}
use Rattle.exact_verdict.specs.ExactVerdict.{exact_refused_by}
use Rattle.exact_core.specs.ExactCore.{total_units, exact_core}
use Rattle.exact_demand.specs.ExactDemand.{ExactWins, ExactAnswered}
use Rattle.exact_demand.proofs.Leader.{leader}
use Rattle.exact_demand.proofs.ExactEnds.{exact-answers, BothWin, ExactEnd, no_logical_units, none-within-limit, no_physical_units, winners_differ, none_leads, found, exact-ends}

-- where a placing wins on both lists, the two winners have one transform and origin
pub agreeing : (call : HardCall) (b : BothWin call) (Q : Placing) → ExactWins call.board call.logical call.transforms Q → ExactWins call.board call.physical call.transforms Q
    → SameSquare call.transforms b.physical b.logical
agreeing call b Q x y =
    let p = winner-once call.board call.physical call.transforms b.physical y.winner b.physical_wins y.wins in
    let q = winner-once call.board call.logical call.transforms x.winner b.logical x.wins b.logical_wins in (
      ap (λ (i : ℕ). get_or call.transforms i 0) p.0 ∙ y.square.0 ∙ sym x.square.0 ∙ ap (λ (i : ℕ). get_or call.transforms i 0) q.0,
      p.1 ∙ y.square.1 ∙ sym x.square.1 ∙ q.1,
      p.2 ∙ y.square.2 ∙ sym x.square.2 ∙ q.2,
    )

module _ (call : HardCall) (m n : ℕ) (A : HardAccepted call m n) where
  -- FOUND MEANS TRUE, and the logical list has units
  pub exact-sound : (d : ExactDecoded) → exact_core call ≡ Ok d → (0 < total_units call.logical) × ExactAnswered call d
  exact-sound d e = go (exact_core call) (exact-ends call m n A) e
    where
      go : (a : ExactAnswer) → ExactEnd call a → a ≡ Ok d → (0 < total_units call.logical) × ExactAnswered call d
      go a (no_logical_units z) q = absurd (never_both exact-answers d (numbered why.no_confidence) q)
      go a (none-within-limit u h) q = absurd (never_both exact-answers d (numbered why.none_within_limit) q)
      go a (no_physical_units u P h z) q = absurd (never_both exact-answers d (numbered why.no_confidence) q)
      go a (winners_differ b h) q = absurd (never_both exact-answers d (numbered why.lists_disagree) q)
      go a (none_leads b h k) q = absurd (never_both exact-answers d (numbered why.not_far_ahead) q)
      go a (found b h f x) q = let z : f ≡ d = cc in (b.logical_units, subst (ExactAnswered call) z x)

  -- A TRUE SQUARE IS FOUND
  pub exact-complete : 0 < total_units call.logical → 0 < total_units call.physical → (Q : Placing) → Leads call.board call.logical call.transforms call.error_limit Q
      → ExactWins call.board call.physical call.transforms Q → (d : ExactDecoded) × (exact_core call ≡ Ok d)
  exact-complete u v Q l x = go (exact_core call) (exact-ends call m n A) refl
    where
      go : (a : ExactAnswer) → ExactEnd call a → exact_core call ≡ a → (d : ExactDecoded) × (exact_core call ≡ Ok d)
      go a (no_logical_units z) q = absurd (omega (arith, u, z))
      go a (none-within-limit k h) q = clash (h Q l.on-board) l.within
      go a (no_physical_units k P h z) q = absurd (omega (arith, v, z))
      go a (winners_differ b h) q = absurd (h (agreeing call b Q (leader call b Q l) x))
      go a (none_leads b h k) q = absurd (k Q l)
      go a (found b h d y) q = (d, q)

  -- refused late means 10 to 13, and about no edge
  pub exact-late : (r : Refusal) → exact_core call ≡ Err r → (why.no_confidence ≤ r.number) × (r.number ≤ why.not_far_ahead) × (r.place ≡ None)
  exact-late r e = go (exact_core call) (exact-ends call m n A) e
    where
      numbers : (k : ℕ) → why.no_confidence ≤ k → k ≤ why.not_far_ahead → exact_refused_by k ≡ Err r → (why.no_confidence ≤ r.number) × (r.number ≤ why.not_far_ahead) × (r.place ≡ None)
      numbers k h l q = let z = exact-answers.once (numbered k) r q in let y : k ≡ r.number = ap (λ (x : Refusal). x.number) z in (omega arith, omega arith, sym (ap (λ (x : Refusal). x.place) z))

      go : (a : ExactAnswer) → ExactEnd call a → a ≡ Err r → (why.no_confidence ≤ r.number) × (r.number ≤ why.not_far_ahead) × (r.place ≡ None)
      go a (no_logical_units z) q = numbers why.no_confidence (omega arith) (omega arith) q
      go a (none-within-limit u h) q = numbers why.none_within_limit (omega arith) (omega arith) q
      go a (no_physical_units u P h z) q = numbers why.no_confidence (omega arith) (omega arith) q
      go a (winners_differ b h) q = numbers why.lists_disagree (omega arith) (omega arith) q
      go a (none_leads b h k) q = numbers why.not_far_ahead (omega arith) (omega arith) q
      go a (found b h d x) q = absurd (exact-answers.apart d r q)
