-- Laws of decode over a part: the two ways in which it ends, how much room it leaves zero, and that the promise determines the result.
use Rattle.std.specs.Prelude.{◌≡◌, List, ℕ, length, Err}
use Rattle.std.proofs.Math.Path.{sym, ap}
use Rattle.std.proofs.Common.{◌∙◌}
use Rattle.laws.specs.Words.{cleared}
use Rattle.laws.specs.Cleared.{cleared-forgets}
use Rattle.room.specs.Room.{tables_room, tables_for, pole-rooms}
use Rattle.refusals.specs.declared.Refusal.{Refusal}
use Rattle.refusals.specs.Admission.{Admission, accepted}
use Rattle.admission.specs.Calls.{HardCall}
use Rattle.verdict.specs.Verdict.{when_accepted}
use Rattle.demand.specs.Left.{left}
use Rattle.part.specs.declared.Part.{Part}
use Rattle.part_answer.specs.Answers.{PartAnswer}
use Rattle.part_admission.specs.PartAdmission.{part_admission, PartAccepted}
use Rattle.part_admission.proofs.PartAdmissionLaws.{part-accepted}
use Rattle.part_core.specs.PartCore.{part_core, PartCoreDone}
use Rattle.decode_part.specs.PartAnswer.{part_answer, PartCallDone}

-- the room of an accepted call: 3,006 places of each slice
pub part_room : (call : HardCall) (part : Part) (m n : ℕ) → part_admission call part m n ≡ accepted → tables_room call.board ≡ 3006
part_room call part m n h =
    let A = part-accepted call part m n h in
    (pole-rooms call.board A.hard.vertical).0 ∙ ap tables_for A.flat

-- ---- the two ways in which decode over a part ends
module _ (call : HardCall) (part : Part) (c u : List ℕ) where
  module _ (a : Admission) (e : a ≡ part_admission call part (length c) (length u)) where
    pub part-refused : (x : Refusal) → a ≡ Err x → PartCallDone call part c c u u (Err x)
    unfolding part_answer left
    part-refused x n =
        let f = sym n ∙ e in
        record {
          answer = ap (λ (y : Admission). when_accepted Err y (part_core call part)) f;
          counts = ap (λ (y : Admission). left 0 (tables_room call.board) y c) f;
          units = ap (λ (y : Admission). left 0 (tables_room call.board) y u) f;
        }

    pub part-done : (c' u' u'' : List ℕ) (r : PartAnswer) → a ≡ accepted → PartAccepted call part (length c) (length u) → PartCoreDone call part u u' r
        → c' ≡ cleared 0 (tables_room call.board) c → u'' ≡ cleared 0 (tables_room call.board) u' → PartCallDone call part c c' u u'' r
    unfolding part_answer left
    part-done c' u' u'' r z A D k l =
        let f = sym z ∙ e in
        record {
          answer = D.answer ∙ ap (λ (y : Admission). when_accepted Err y (part_core call part)) f;
          counts = k ∙ ap (λ (y : Admission). left 0 (tables_room call.board) y c) f;
          units = l ∙ cleared-forgets 0 (tables_room call.board) 0 u u' A.hard.room.1 D.units ∙ ap (λ (y : Admission). left 0 (tables_room call.board) y u) f;
        }

  -- any two results that the promise allows are equal
  pub part-call-unique : (c' d' u' v' : List ℕ) (r s : PartAnswer) → PartCallDone call part c c' u u' r → PartCallDone call part c d' u v' s → (r ≡ s) × (c' ≡ d') × (u' ≡ v')
  part-call-unique c' d' u' v' r s p q = (p.answer ∙ sym q.answer, p.counts ∙ sym q.counts, p.units ∙ sym q.units)
