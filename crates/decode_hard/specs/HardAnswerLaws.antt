-- Laws of hard decode: the two ways in which it ends, and that the promise determines the result.
use Rattle.std.specs.Prelude.{◌≡◌, List, ℕ, length, Float, Err}
use Rattle.std.proofs.Math.Path.{sym, ap}
use Rattle.std.proofs.Common.{◌∙◌}
use Rattle.std.specs.Float.Ieee.{nan}
use Rattle.laws.specs.Words.{zero_f, cleared}
use Rattle.laws.specs.Cleared.{cleared-forgets}
use Rattle.room.specs.Room.{tables_room}
use Rattle.refusals.specs.declared.Refusal.{Refusal}
use Rattle.refusals.specs.Admission.{Admission, accepted}
use Rattle.admission.specs.Calls.{HardCall}
use Rattle.admission.specs.Refusals.{hard_admission}
use Rattle.admission.specs.Accepted.{HardAccepted}
use Rattle.answer.specs.Answers.{Answer}
use Rattle.verdict.specs.Verdict.{when_accepted}
use Rattle.demand.specs.Left.{left}
use Rattle.hard_core.specs.Hard.{hard_core, CoreDone}
use Rattle.decode_hard.specs.HardAnswer.{hard_answer, HardDone}

-- ---- the two ways in which hard decode ends
module _ (call : HardCall) (c : List ℕ) (w : List Float) where
  module _ (a : Admission) (e : a ≡ hard_admission call (length c) (length w)) where
    pub hard-refused : (x : Refusal) → a ≡ Err x → HardDone call c c w w (Err x)
    unfolding hard_answer left
    hard-refused x n =
        let f = sym n ∙ e in
        record {
          answer = ap (λ (y : Admission). when_accepted Err y (hard_core call)) f;
          counts = ap (λ (y : Admission). left 0 (tables_room call.board) y c) f;
          weights = ap (λ (y : Admission). left zero_f (tables_room call.board) y w) f;
        }

    pub hard-done : (c' c'' : List ℕ) (w' w'' : List Float) (r : Answer) → a ≡ accepted → HardAccepted call (length c) (length w) → CoreDone call c c' w w' r
        → c'' ≡ cleared 0 (tables_room call.board) c' → w'' ≡ cleared zero_f (tables_room call.board) w' → HardDone call c c'' w w'' r
    unfolding hard_answer left
    hard-done c' c'' w' w'' r z A D u v =
        let f = sym z ∙ e in
        record {
          answer = D.answer ∙ ap (λ (y : Admission). when_accepted Err y (hard_core call)) f;
          counts = u ∙ cleared-forgets 0 (tables_room call.board) 0 c c' A.room.0 D.counts ∙ ap (λ (y : Admission). left 0 (tables_room call.board) y c) f;
          weights = v ∙ cleared-forgets nan (tables_room call.board) zero_f w w' A.room.1 D.weights ∙ ap (λ (y : Admission). left zero_f (tables_room call.board) y w) f;
        }

  -- any two results that the promise allows are equal
  pub hard-unique : (c' d' : List ℕ) (w' x' : List Float) (r s : Answer) → HardDone call c c' w w' r → HardDone call c d' w x' s → (r ≡ s) × (c' ≡ d') × (w' ≡ x')
  hard-unique c' d' w' x' r s p q = (p.answer ∙ sym q.answer, p.counts ∙ sym q.counts, p.weights ∙ sym q.weights)
