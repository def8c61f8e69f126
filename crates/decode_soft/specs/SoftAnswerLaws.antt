-- Laws of soft decode: the two ways in which it ends, and that the promise determines the result.
use Rattle.std.specs.Prelude.{◌≡◌, List, ℕ, length, ℤ, pos, Float, Err}
use Rattle.std.proofs.Math.Path.{sym, ap}
use Rattle.std.proofs.Common.{◌∙◌}
use Rattle.std.specs.Float.Ieee.{nan}
use Rattle.laws.specs.Words.{zero_f, cleared}
use Rattle.laws.specs.Cleared.{cleared-forgets}
use Rattle.room.specs.Room.{tables_room, sums_room}
use Rattle.refusals.specs.declared.Refusal.{Refusal}
use Rattle.refusals.specs.Admission.{Admission, accepted}
use Rattle.admission.specs.Calls.{SoftCall}
use Rattle.admission.specs.Refusals.{soft_admission}
use Rattle.admission.specs.Accepted.{SoftAccepted}
use Rattle.answer.specs.Answers.{SoftAnswer}
use Rattle.demand.specs.Left.{left}
use Rattle.soft_core.specs.Soft.{soft_core, SoftCoreDone}
use Rattle.decode_soft.specs.SoftAnswer.{soft_answer, SoftDone}
use Rattle.verdict.specs.Verdict.{when_accepted}

-- ---- the two ways in which soft decode ends
module _ (call : SoftCall) (c : List ℕ) (w : List Float) (a : List ℤ) where
  module _ (b : Admission) (e : b ≡ soft_admission call (length c) (length w) (length a)) where
    pub soft-refused : (x : Refusal) → b ≡ Err x → SoftDone call c c w w a a (Err x)
    unfolding soft_answer left
    soft-refused x n =
        let f = sym n ∙ e in
        record {
          answer = ap (λ (y : Admission). when_accepted Err y (soft_core call)) f;
          counts = ap (λ (y : Admission). left 0 (tables_room call.hard.board) y c) f;
          weights = ap (λ (y : Admission). left zero_f (tables_room call.hard.board) y w) f;
          sums = ap (λ (y : Admission). left (pos 0) (sums_room call.hard.board) y a) f;
        }

    pub soft-done : (c' c'' : List ℕ) (w' w'' : List Float) (a' a'' : List ℤ) (o : SoftAnswer) → b ≡ accepted
        → SoftAccepted call (length c) (length w) (length a) → SoftCoreDone call c c' w w' a a' o
        → c'' ≡ cleared 0 (tables_room call.hard.board) c' → w'' ≡ cleared zero_f (tables_room call.hard.board) w' → a'' ≡ cleared (pos 0) (sums_room call.hard.board) a' → SoftDone call c c'' w w'' a a'' o
    unfolding soft_answer left
    soft-done c' c'' w' w'' a' a'' o z A D u v t =
        let f = sym z ∙ e in
        record {
          answer = D.answer ∙ ap (λ (y : Admission). when_accepted Err y (soft_core call)) f;
          counts = u ∙ cleared-forgets 0 (tables_room call.hard.board) 0 c c' A.hard.room.0 D.counts ∙ ap (λ (y : Admission). left 0 (tables_room call.hard.board) y c) f;
          weights = v ∙ cleared-forgets nan (tables_room call.hard.board) zero_f w w' A.hard.room.1 D.weights ∙ ap (λ (y : Admission). left zero_f (tables_room call.hard.board) y w) f;
          sums = t ∙ cleared-forgets (pos 0) (sums_room call.hard.board) (pos 0) a a' A.room D.sums ∙ ap (λ (y : Admission). left (pos 0) (sums_room call.hard.board) y a) f;
        }

  -- any two results that the promise allows are equal
  pub soft-unique : (c' d' : List ℕ) (w' x' : List Float) (a' b' : List ℤ) (r s : SoftAnswer) → SoftDone call c c' w w' a a' r → SoftDone call c d' w x' a b' s → (r ≡ s) × (c' ≡ d') × (w' ≡ x') × (a' ≡ b')
  soft-unique c' d' w' x' a' b' r s p q = (p.answer ∙ sym q.answer, p.counts ∙ sym q.counts, p.weights ∙ sym q.weights, p.sums ∙ sym q.sums)
