-- Laws of an accepted hard call: the ways in which it ends, and that its promise determines the result.
use Rattle.std.specs.Prelude.{◌≡◌, refl, List, ℕ, get_or, length, Float, Err, Ok}
use Rattle.std.proofs.Math.Path.{sym, ap, subst}
use Rattle.std.proofs.Common.{◌∙◌}
use Rattle.std.specs.Float.{nan}
use Rattle.laws.specs.Words.{one_f}
use Rattle.laws.specs.Cleared.{SameBeyond, beyond-trans}
use Rattle.board.specs.Hits.{size}
use Rattle.room.specs.Room.{tables_room}
use Rattle.refusals.specs.declared.Refusal.{Refusal}
use Rattle.admission.specs.Calls.{HardCall}
use Rattle.admission.specs.Accepted.{HardAccepted}
use Rattle.scan.specs.declared.scan.Candidate.{Candidate}
use Rattle.scan.specs.declared.scan.RunnerUp.{RunnerUp}
use Rattle.hard.specs.Kinds.{Selection}
use Rattle.hard.specs.Select.{selection, SelectDone}
use Rattle.hard.specs.SelectLaws.{select-unique}
use Rattle.answer.specs.Answers.{Answer}
use Rattle.verdict.specs.Verdict.{judged}
use Rattle.hard.proofs.Ready.{ready-logical, ready-physical, beyond}
use Rattle.hard_core.specs.Hard.{after_physical, after_logical, hard_core, PhysicalRooms, CoreRooms, CoreDone}

-- ---- the three ways in which the core ends
module _ (call : HardCall) (c : List ℕ) (w : List Float) (A : HardAccepted call (length c) (length w)) where
  module _ (c' : List ℕ) (w' : List Float) (r : Selection) (D : SelectDone call.board call.logical call.transforms call.error_limit c c' w w' r) where
    pub core-refused : (n : Refusal) → r ≡ Err n → CoreDone call c c' w w' (Err n)
    unfolding hard_core PhysicalRooms
    core-refused n k =
        let s = beyond call c w A call.logical call.error_limit c c' w w' r (ready-logical call c w A) D in
        record {
          answer = ap (after_logical call) (sym k ∙ D.answer);
          rooms = record { counts = c'; weights = w'; logical = D.rooms; physical = subst (λ (z : Selection). PhysicalRooms z call c' c' w' w') (sym k ∙ D.answer) (refl, refl) };
          counts = s.0;
          weights = s.1;
        }

    module _ (x : Candidate) (runner : RunnerUp) (k : r ≡ Ok (x, runner)) (c'' : List ℕ) (w'' : List Float) (q : Selection) (F : SelectDone call.board call.physical call.transforms one_f c' c'' w' w'' q) where
      both : SameBeyond 0 (tables_room call.board) c c'' × SameBeyond nan (tables_room call.board) w w''
      both =
          let s = beyond call c w A call.logical call.error_limit c c' w w' r (ready-logical call c w A) D in
          let t = beyond call c w A call.physical one_f c' c'' w' w'' q (ready-physical call c w A c' w' s.0.len s.1.len) F in
          (beyond-trans 0 (tables_room call.board) c c' c'' s.0 t.0, beyond-trans nan (tables_room call.board) w w' w'' s.1 t.1)

      core-rooms : CoreRooms call c c'' w w''
      unfolding PhysicalRooms
      core-rooms = record { counts = c'; weights = w'; logical = D.rooms; physical = subst (λ (z : Selection). PhysicalRooms z call c' c'' w' w'') (sym k ∙ D.answer) F.rooms }

      core-answer : after_physical call.logical call.transforms x runner q ≡ hard_core call
      unfolding hard_core
      core-answer = ap (after_physical call.logical call.transforms x runner) F.answer ∙ ap (after_logical call) (sym k ∙ D.answer)

      pub core-physical-refused : (n : Refusal) → q ≡ Err n → CoreDone call c c'' w w'' (Err n)
      core-physical-refused n g = record { answer = ap (after_physical call.logical call.transforms x runner) (sym g) ∙ core-answer; rooms = core-rooms; counts = both.0; weights = both.1 }

      pub core-judged : (p : Candidate) (other : RunnerUp) (a : Answer) → q ≡ Ok (p, other) → a ≡ judged (get_or call.transforms x.placing.listed 0) x runner (get_or call.transforms p.placing.listed 0) p (size call.logical) → CoreDone call c c'' w w'' a
      core-judged p other a g e = record { answer = e ∙ ap (after_physical call.logical call.transforms x runner) (sym g) ∙ core-answer; rooms = core-rooms; counts = both.0; weights = both.1 }

-- ---- any two results that the core's promise allows are equal, and so are the rooms
module _ (call : HardCall) where
  physical-same : (s : Selection) (m c d : List ℕ) (v w x : List Float) → PhysicalRooms s call m c v w → PhysicalRooms s call m d v x → (c ≡ d) × (w ≡ x)
  unfolding PhysicalRooms
  physical-same (Err n) m c d v w x f g = (f.0 ∙ sym g.0, f.1 ∙ sym g.1)
  physical-same (Ok (y, runner)) m c d v w x f g =
      let s = selection call.board call.physical call.transforms one_f in
      let e = select-unique call.board call.physical call.transforms one_f m v c d w x s s (record { answer = refl; rooms = f }) (record { answer = refl; rooms = g }) in
      (e.1, e.2)

  physical-over : (s : Selection) (m n c d : List ℕ) (v u w x : List Float) → m ≡ n → v ≡ u → PhysicalRooms s call m c v w → PhysicalRooms s call n d u x → (c ≡ d) × (w ≡ x)
  physical-over s m n c d v u w x e o f g =
      physical-same s m c d v w x f (subst (λ (k : List ℕ). PhysicalRooms s call k d v x) (sym e) (subst (λ (k : List Float). PhysicalRooms s call n d k x) (sym o) g))

  pub core_unique : (c c' d' : List ℕ) (w w' x' : List Float) (r s : Answer) → CoreDone call c c' w w' r → CoreDone call c d' w x' s → (r ≡ s) × (c' ≡ d') × (w' ≡ x')
  core_unique c c' d' w w' x' r s a b =
      let p = a.rooms in
      let q = b.rooms in
      let z = selection call.board call.logical call.transforms call.error_limit in
      let e =
      select-unique call.board call.logical call.transforms call.error_limit c w p.counts q.counts p.weights q.weights z z (record { answer = refl; rooms = p.logical })
      (record { answer = refl; rooms = q.logical }) in
      let f = physical-over z p.counts q.counts c' d' p.weights q.weights w' x' e.1 e.2 p.physical q.physical in
      (a.answer ∙ sym b.answer, f.0, f.1)
