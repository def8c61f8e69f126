-- Laws of an accepted exact call: the ways in which it ends, and that its promise determines the result.
use Rattle.std.specs.Prelude.{◌≡◌, ℕ, ◌≤◌, get_or, length, Err, Ok}
use Rattle.std.proofs.Math.Path.{refl, sym, ap, subst}
use Rattle.std.proofs.Common.{ap₂, ◌∙◌, le_trans, le_of_eq}
use mathlib.Core.List.{List}
use Rattle.laws.specs.Words.{one_f}
use Rattle.laws.specs.Cleared.{SameBeyond, beyond-trans}
use Rattle.board.specs.Hits.{EdgeList, Board, size}
use Rattle.room.specs.Room.{tables_room}
use Rattle.refusals.specs.declared.Refusal.{Refusal}
use Rattle.admission.specs.Calls.{HardCall}
use Rattle.admission.specs.Accepted.{HardAccepted}
use Rattle.scan.specs.declared.scan.RunnerUp.{RunnerUp}
use Rattle.exact_scan.specs.declared.kept.ExactWinner.{ExactWinner}
use Rattle.exact_scan.specs.Kinds.{ExactSelection}
use Rattle.exact.specs.Select.{exact_selection, ExactDone}
use Rattle.exact.specs.SelectLaws.{exact-beyond, exact-unique}
use Rattle.exact_answer.specs.Answers.{ExactAnswer}
use Rattle.exact_verdict.specs.ExactVerdict.{exact_judged}
use Rattle.exact_core.specs.ExactCore.{total_units, runner_weight_of, judged_winners, exact_after_physical, exact_after_logical, exact_core, PhysicalValues, ExactCoreRoom, ExactCoreDone}
use Rattle.exact_core.specs.ExactReady.{ready-logical, ready-physical}

-- ---- the winners judged, with the total and the runner-up's weight that were counted
pub winners-judged : (B : Board) (L : EdgeList) (ts : List ℕ) (w : ExactWinner) (runner : RunnerUp) (p : ExactWinner) (total weight : ℕ) (a : ExactAnswer) → total ≡ total_units L → weight ≡ runner_weight_of B L runner
    → a ≡ exact_judged (get_or ts w.placing.listed 0) w runner (get_or ts p.placing.listed 0) p (size L) total weight → a ≡ judged_winners B L ts w runner p
winners-judged B L ts w runner p total weight a t r e = e ∙ ap₂ (λ (x y : ℕ). exact_judged (get_or ts w.placing.listed 0) w runner (get_or ts p.placing.listed 0) p (size L) x y) t r

-- ---- the three ways in which the core ends
module _ (call : HardCall) (m n : ℕ) (A : HardAccepted call m n) (u : List ℕ) (room : tables_room call.board ≤ length u) where
  module _ (v : List ℕ) (r : ExactSelection) (D : ExactDone call.board call.logical call.transforms call.error_limit u v r) where
    first : SameBeyond 0 (tables_room call.board) u v
    first = exact-beyond call.board call.logical call.transforms call.error_limit u (ready-logical call m n A u room) v r D

    -- the room is still long enough for the physical list
    pub still-room : tables_room call.board ≤ length v
    still-room = le_trans room (le_of_eq (sym first.len))

    -- the logical list was refused
    pub core-refused : (x : Refusal) → r ≡ Err x → ExactCoreDone call u v (Err x)
    unfolding exact_core PhysicalValues
    core-refused x k = record {
      answer = ap (exact_after_logical call) (sym k ∙ D.answer);
      room = record { between = v; logical = D.room; physical = subst (λ (z : ExactSelection). PhysicalValues z call v v) (sym k ∙ D.answer) refl };
      units = first;
    }

    module _ (w : ExactWinner) (runner : RunnerUp) (k : r ≡ Ok (w, runner)) (v' : List ℕ) (q : ExactSelection) (F : ExactDone call.board call.physical call.transforms one_f v v' q) where
      both : SameBeyond 0 (tables_room call.board) u v'
      both = beyond-trans 0 (tables_room call.board) u v v' first (exact-beyond call.board call.physical call.transforms one_f v (ready-physical call m n A v still-room) v' q F)

      core-room : ExactCoreRoom call u v'
      unfolding PhysicalValues
      core-room = record { between = v; logical = D.room; physical = subst (λ (z : ExactSelection). PhysicalValues z call v v') (sym k ∙ D.answer) F.room }

      core-answer : exact_after_physical call.board call.logical call.transforms w runner q ≡ exact_core call
      unfolding exact_core
      core-answer = ap (exact_after_physical call.board call.logical call.transforms w runner) F.answer ∙ ap (exact_after_logical call) (sym k ∙ D.answer)

      -- the physical list was refused
      pub core-physical-refused : (x : Refusal) → q ≡ Err x → ExactCoreDone call u v' (Err x)
      core-physical-refused x g = record { answer = ap (exact_after_physical call.board call.logical call.transforms w runner) (sym g) ∙ core-answer; room = core-room; units = both }

      -- both lists have a winner
      pub core-judged : (p : ExactWinner) (other : RunnerUp) (a : ExactAnswer) → q ≡ Ok (p, other) → a ≡ judged_winners call.board call.logical call.transforms w runner p → ExactCoreDone call u v' a
      core-judged p other a g e = record { answer = e ∙ ap (exact_after_physical call.board call.logical call.transforms w runner) (sym g) ∙ core-answer; room = core-room; units = both }

-- ---- any two results that the core's promise allows are equal, and so are the rooms
module _ (call : HardCall) where
  physical-same : (s : ExactSelection) (m n c d : List ℕ) → m ≡ n → PhysicalValues s call m c → PhysicalValues s call n d → c ≡ d
  unfolding PhysicalValues
  physical-same (Err x) m n c d e f g = f ∙ e ∙ sym g
  physical-same (Ok (w, runner)) m n c d e f g =
      let s = exact_selection call.board call.physical call.transforms one_f in
      let h : PhysicalValues (Ok (w, runner)) call m d = subst (λ (k : List ℕ). PhysicalValues (Ok (w, runner)) call k d) (sym e) g in
      (exact-unique call.board call.physical call.transforms one_f m c d s s (record { answer = refl; room = f }) (record { answer = refl; room = h })).1

  pub exact-core-unique : (u u' v' : List ℕ) (r s : ExactAnswer) → ExactCoreDone call u u' r → ExactCoreDone call u v' s → (r ≡ s) × (u' ≡ v')
  exact-core-unique u u' v' r s a b =
      let p = a.room in
      let q = b.room in
      let z = exact_selection call.board call.logical call.transforms call.error_limit in
      let e = (exact-unique call.board call.logical call.transforms call.error_limit u p.between q.between z z (record { answer = refl; room = p.logical }) (record { answer = refl; room = q.logical })).1 in
      (a.answer ∙ sym b.answer, physical-same z p.between q.between u' v' e p.physical q.physical)
