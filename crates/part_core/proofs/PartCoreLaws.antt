-- Laws of an accepted call over a part: the ways in which it ends, and that its promise determines the result.
use Rattle.std.specs.Prelude.{◌≡◌, ℕ, ◌≤◌, get_or, length, Err, Ok}
use Rattle.std.proofs.Math.Path.{refl, sym, ap, subst}
use Rattle.std.proofs.Common.{ap₂, ◌∙◌, le_trans, le_of_eq}
use mathlib.Core.List.{List}
use Rattle.laws.specs.Words.{one_f}
use Rattle.laws.specs.Cleared.{SameBeyond, beyond-trans}
use Rattle.board.specs.Hits.{size}
use Rattle.room.specs.Room.{tables_room}
use Rattle.refusals.specs.declared.Refusal.{Refusal}
use Rattle.admission.specs.Calls.{HardCall}
use Rattle.admission.specs.Accepted.{HardAccepted}
use Rattle.exact_scan.specs.declared.kept.ExactWinner.{ExactWinner}
use Rattle.exact_core.specs.ExactCore.{total_units}
use Rattle.exact_core.specs.ExactReady.{ready-logical, ready-physical}
use Rattle.part.specs.declared.Part.{Part}
use Rattle.part_select.specs.Kinds.{PartNext}
use Rattle.part_select.specs.Kinds.{PartSelection}
use Rattle.part_select.specs.Select.{part_selection, PartDone}
use Rattle.part_select.proofs.SelectLaws.{part-beyond, part-unique}
use Rattle.part_answer.specs.Answers.{PartRunnerUp}
use Rattle.part_answer.specs.Answers.{PartAnswer}
use Rattle.part_verdict.specs.PartVerdict.{part_judged}
use Rattle.part_core.specs.PartCore.{shown_beside, judged_part, part_after_physical, part_after_logical, part_core, PhysicalLeft, PartCoreRoom, PartCoreDone}

-- ---- the winners judged, with the total that was counted and the runner-up as it is shown
pub winners-judged : (edges sum : ℕ) (ts : List ℕ) (w : ExactWinner) (next : PartNext) (p : ExactWinner) (total : ℕ) (beside : PartRunnerUp) (a : PartAnswer) → total ≡ sum → beside ≡ shown_beside ts next
    → a ≡ part_judged (get_or ts w.placing.listed 0) w beside (get_or ts p.placing.listed 0) p edges total → a ≡ judged_part edges sum ts w next p
winners-judged edges sum ts w next p total beside a t b e = e ∙ ap₂ (λ (x : PartRunnerUp) (y : ℕ). part_judged (get_or ts w.placing.listed 0) w x (get_or ts p.placing.listed 0) p edges y) b t

-- ---- the three ways in which the core ends
module _ (call : HardCall) (part : Part) (m n : ℕ) (A : HardAccepted call m n) (u : List ℕ) (room : tables_room call.board ≤ length u) where
  module _ (v : List ℕ) (r : PartSelection) (D : PartDone call.board call.logical call.transforms part call.error_limit u v r) where
    first : SameBeyond 0 (tables_room call.board) u v
    first = part-beyond call.board call.logical call.transforms part call.error_limit u (ready-logical call m n A u room) v r D

    -- the room is still long enough for the physical list
    pub still-room : tables_room call.board ≤ length v
    still-room = le_trans room (le_of_eq (sym first.len))

    -- the logical list was refused
    pub core-refused : (x : Refusal) → r ≡ Err x → PartCoreDone call part u v (Err x)
    unfolding part_core PhysicalLeft
    core-refused x k = record {
      answer = ap (part_after_logical call part) (sym k ∙ D.answer);
      room = record { between = v; logical = D.room; physical = subst (λ (z : PartSelection). PhysicalLeft z call v v) (sym k ∙ D.answer) refl };
      units = first;
    }

    module _ (w : ExactWinner) (next : PartNext) (k : r ≡ Ok (w, next)) (v' : List ℕ) (q : PartSelection) (F : PartDone call.board call.physical call.transforms part one_f v v' q) where
      both : SameBeyond 0 (tables_room call.board) u v'
      both = beyond-trans 0 (tables_room call.board) u v v' first (part-beyond call.board call.physical call.transforms part one_f v (ready-physical call m n A v still-room) v' q F)

      core-room : PartCoreRoom call part u v'
      unfolding PhysicalLeft
      core-room = record { between = v; logical = D.room; physical = subst (λ (z : PartSelection). PhysicalLeft z call v v') (sym k ∙ D.answer) F.room }

      core-answer : part_after_physical call.logical call.transforms w next q ≡ part_core call part
      unfolding part_core
      core-answer = ap (part_after_physical call.logical call.transforms w next) F.answer ∙ ap (part_after_logical call part) (sym k ∙ D.answer)

      -- the physical list was refused
      pub core-physical-refused : (x : Refusal) → q ≡ Err x → PartCoreDone call part u v' (Err x)
      core-physical-refused x g = record { answer = ap (part_after_physical call.logical call.transforms w next) (sym g) ∙ core-answer; room = core-room; units = both }

      -- both lists have a winner
      pub core-judged : (p : ExactWinner) (other : PartNext) (a : PartAnswer) → q ≡ Ok (p, other) → a ≡ judged_part (size call.logical) (total_units call.logical) call.transforms w next p → PartCoreDone call part u v' a
      core-judged p other a g e = record { answer = e ∙ ap (part_after_physical call.logical call.transforms w next) (sym g) ∙ core-answer; room = core-room; units = both }

-- ---- any two results that the core's promise allows are equal, and so are the rooms
module _ (call : HardCall) (part : Part) where
  physical-same : (s : PartSelection) (m n c d : List ℕ) → m ≡ n → PhysicalLeft s call m c → PhysicalLeft s call n d → c ≡ d
  unfolding PhysicalLeft
  physical-same (Err x) m n c d e f g = f ∙ e ∙ sym g
  physical-same (Ok (w, next)) m n c d e f g =
      let s = part_selection call.board call.physical call.transforms part one_f in
      let h : PhysicalLeft (Ok (w, next)) call m d = subst (λ (k : List ℕ). PhysicalLeft (Ok (w, next)) call k d) (sym e) g in
      (part-unique call.board call.physical call.transforms part one_f m c d s s (record { answer = refl; room = f }) (record { answer = refl; room = h })).1

  pub part-core-unique : (u u' v' : List ℕ) (r s : PartAnswer) → PartCoreDone call part u u' r → PartCoreDone call part u v' s → (r ≡ s) × (u' ≡ v')
  part-core-unique u u' v' r s a b =
      let p = a.room in
      let q = b.room in
      let z = part_selection call.board call.logical call.transforms part call.error_limit in
      let e = (part-unique call.board call.logical call.transforms part call.error_limit u p.between q.between z z (record { answer = refl; room = p.logical }) (record { answer = refl; room = q.logical })).1 in
      (a.answer ∙ sym b.answer, physical-same z p.between q.between u' v' e p.physical q.physical)
