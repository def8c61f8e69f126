-- DEMAND 3 OVER A PART. For accepted inputs with a unit sum above 0 of each list, decode over a part answers exactly when one placing of the part leads on the logical list and agrees with the
-- winner of the physical list over the part; it gives that placing, and the runner-up over the part, or none in the one case in which there is none. Hits and weights are counted edge by edge.
use Rattle.std.specs.Prelude.{◌≡◌, refl, List, ℕ, ◌≤◌, ◌<◌, get_or, length, Float, Err, None, Ok}
use Rattle.std.proofs.Common.{sym, ap, subst, ◌∙◌, arith}
use Rattle.laws.specs.Tests.{clash}
use Rattle.board.specs.declared.edge.Placing.{Placing}
use Rattle.board.specs.Hits.{EdgeList, Board}
use Rattle.refusals.specs.declared.Refusal.{Refusal}
use Rattle.refusals.specs.Numbers.{numbered}
use Rattle.refusals.specs.Numbers as why
use Rattle.admission.specs.Calls.{HardCall}
use Rattle.admission.specs.Accepted.{HardAccepted}
use Rattle.verdict.specs.Answers.{never_both}
use Rattle.answer.specs.declared.Square.{Square}
use Rattle.demand.specs.Demand.{Names}
use Rattle.demand.specs.Late.{SameSquare}
use Rattle.exact_core.specs.ExactCore.{total_units}
use Rattle.part.specs.declared.Part.{Part}
use Rattle.part.specs.Part.{PartOk}
use Rattle.part_select.specs.PartWinner.{IsPartWinner}
use Rattle.part_select.proofs.PartTheorems.{part-winner-once}
use Rattle.part_answer.specs.declared.PartDecoded.{PartDecoded}
use Rattle.part_answer.specs.Answers.{PartAnswer}
use Rattle.part_verdict.specs.PartVerdict.{part_refused_by}
use Rattle.part_core.specs.PartCore.{part_core}
use Rattle.part_demand.specs.PartDemand.{PartLeads, PartWins, PartAnswered}
use Rattle.part_demand.proofs.PartSelections.{leads-wins-part}
use Rattle.part_demand.proofs.PartEnds.{part-answers, BothWinPart, PartEnd, no_logical_units, none-within-limit, no_physical_units, winners_differ, none_leads, found, part-ends}

-- where a placing wins on both lists over the part, the two winners have one transform and origin
pub agreeing-part : (call : HardCall) (part : Part) (b : BothWinPart call part) (Q : Placing) → PartWins call.board call.logical call.transforms part Q → PartWins call.board call.physical call.transforms part Q
    → SameSquare call.transforms b.physical b.logical
agreeing-part call part b Q x y =
    let p = part-winner-once call.board call.physical call.transforms part b.physical y.winner b.physical_wins y.wins in
    let q = part-winner-once call.board call.logical call.transforms part x.winner b.logical x.wins b.logical_wins in (
      ap (λ (i : ℕ). get_or call.transforms i 0) p.0 ∙ y.square.0 ∙ sym x.square.0 ∙ ap (λ (i : ℕ). get_or call.transforms i 0) q.0,
      p.1 ∙ y.square.1 ∙ sym x.square.1 ∙ q.1,
      p.2 ∙ y.square.2 ∙ sym x.square.2 ∙ q.2,
    )

-- who leads over the part is its winner
pub leads-same : (B : Board) (E : EdgeList) (ts : List ℕ) (part : Part) (limit : Float) (Q P : Placing) → PartLeads B E ts part limit Q → IsPartWinner B E ts part P → Q ≡ P
leads-same B E ts part limit Q P l w = let s = leads-wins-part B E ts part limit Q P l w in λ i. record { listed = s.0 i; row = s.1 i; col = s.2 i }

-- so it wins
pub leader-wins : (B : Board) (E : EdgeList) (ts : List ℕ) (part : Part) (limit : Float) (Q P : Placing) → PartLeads B E ts part limit Q → IsPartWinner B E ts part P → PartWins B E ts part Q
leader-wins B E ts part limit Q P l w =
    let s = leads-wins-part B E ts part limit Q P l w in
    record { winner = P; wins = w; square = (ap (λ (i : ℕ). get_or ts i 0) (sym s.0), sym s.1, sym s.2) }

module _ (call : HardCall) (part : Part) (m n : ℕ) (A : HardAccepted call m n) (flat : length call.board.h ≡ 167) (ok : PartOk part) where
  -- FOUND MEANS TRUE, and the logical list has units and a winner over the part
  pub part_sound : (d : PartDecoded) → part_core call part ≡ Ok d → BothWinPart call part × PartAnswered call part d
  part_sound d e = go (part_core call part) (part-ends call part m n A flat ok) e
    where
      go : (a : PartAnswer) → PartEnd call part a → a ≡ Ok d → BothWinPart call part × PartAnswered call part d
      go a (no_logical_units z) q = absurd (never_both part-answers d (numbered why.no_confidence) q)
      go a (none-within-limit u h) q = absurd (never_both part-answers d (numbered why.none_within_limit) q)
      go a (no_physical_units u P h z) q = absurd (never_both part-answers d (numbered why.no_confidence) q)
      go a (winners_differ b h) q = absurd (never_both part-answers d (numbered why.lists_disagree) q)
      go a (none_leads b h k) q = absurd (never_both part-answers d (numbered why.not_far_ahead) q)
      go a (found b h f x) q = let z : f ≡ d = cc in (b, subst (PartAnswered call part) z x)

  -- A TRUE SQUARE IS FOUND
  pub part-complete : 0 < total_units call.logical → 0 < total_units call.physical → (Q : Placing) → PartLeads call.board call.logical call.transforms part call.error_limit Q
      → PartWins call.board call.physical call.transforms part Q → (d : PartDecoded) × (part_core call part ≡ Ok d)
  part-complete u v Q l x = go (part_core call part) (part-ends call part m n A flat ok) refl
    where
      leader : (b : BothWinPart call part) → PartWins call.board call.logical call.transforms part Q
      leader b = leader-wins call.board call.logical call.transforms part call.error_limit Q b.logical l b.logical_wins

      go : (a : PartAnswer) → PartEnd call part a → part_core call part ≡ a → (d : PartDecoded) × (part_core call part ≡ Ok d)
      go a (no_logical_units z) q = absurd (omega (arith, u, z))
      go a (none-within-limit k h) q = clash (h Q l.on_part) l.within
      go a (no_physical_units k P h z) q = absurd (omega (arith, v, z))
      go a (winners_differ b h) q = absurd (h (agreeing-part call part b Q (leader b) x))
      go a (none_leads b h k) q = absurd (k Q l)
      go a (found b h d y) q = (d, q)

  -- refused late means 10 to 13, and about no edge
  pub part-late : (r : Refusal) → part_core call part ≡ Err r → (why.no_confidence ≤ r.number) × (r.number ≤ why.not_far_ahead) × (r.place ≡ None)
  part-late r e = go (part_core call part) (part-ends call part m n A flat ok) e
    where
      numbers : (k : ℕ) → why.no_confidence ≤ k → k ≤ why.not_far_ahead → part_refused_by k ≡ Err r → (why.no_confidence ≤ r.number) × (r.number ≤ why.not_far_ahead) × (r.place ≡ None)
      numbers k h l q = let z = part-answers.once (numbered k) r q in let y : k ≡ r.number = ap (λ (x : Refusal). x.number) z in (omega arith, omega arith, sym (ap (λ (x : Refusal). x.place) z))

      go : (a : PartAnswer) → PartEnd call part a → a ≡ Err r → (why.no_confidence ≤ r.number) × (r.number ≤ why.not_far_ahead) × (r.place ≡ None)
      go a (no_logical_units z) q = numbers why.no_confidence (omega arith) (omega arith) q
      go a (none-within-limit u h) q = numbers why.none_within_limit (omega arith) (omega arith) q
      go a (no_physical_units u P h z) q = numbers why.no_confidence (omega arith) (omega arith) q
      go a (winners_differ b h) q = numbers why.lists_disagree (omega arith) (omega arith) q
      go a (none_leads b h k) q = numbers why.not_far_ahead (omega arith) (omega arith) q
      go a (found b h d x) q = absurd (part-answers.apart d r q)

-- of two placings that lead over the part, what names one names the other
pub part-leader-named : (B : Board) (E : EdgeList) (ts : List ℕ) (part : Part) (limit : Float) (P Q W : Placing) (s : Square) → IsPartWinner B E ts part W → PartLeads B E ts part limit P → PartLeads B E ts part limit Q
    → Names ts Q s → Names ts P s
part-leader-named B E ts part limit P Q W s w l k n =
    let a = leads-wins-part B E ts part limit P W l w in
    let b = leads-wins-part B E ts part limit Q W k w in
    (ap (λ (i : ℕ). get_or ts i 0) (a.0 ∙ sym b.0) ∙ n.0, a.1 ∙ sym b.1 ∙ n.1, a.2 ∙ sym b.2 ∙ n.2)
