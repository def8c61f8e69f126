-- Laws of exact decode: the two ways in which it ends, and that the promise determines the result.
use Rattle.std.specs.Prelude.{◌≡◌, List, ℕ, length, Err}
use Rattle.std.proofs.Math.Path.{sym, ap}
use Rattle.std.proofs.Common.{◌∙◌}
use Rattle.laws.specs.Words.{cleared}
use Rattle.laws.specs.Cleared.{cleared-forgets}
use Rattle.room.specs.Room.{tables_room}
use Rattle.refusals.specs.declared.Refusal.{Refusal}
use Rattle.refusals.specs.Admission.{Admission, accepted}
use Rattle.admission.specs.Calls.{HardCall}
use Rattle.admission.specs.Refusals.{hard_admission}
use Rattle.admission.specs.Accepted.{HardAccepted}
use Rattle.verdict.specs.Verdict.{when_accepted}
use Rattle.demand.specs.Left.{left}
use Rattle.exact_answer.specs.Answers.{ExactAnswer}
use Rattle.exact_core.specs.ExactCore.{exact_core, ExactCoreDone}
use Rattle.decode_exact.specs.ExactAnswer.{exact_answer, ExactCallDone}

-- what the core asks: of room it uses the u64 alone
pub core-accepted : (call : HardCall) (m n : ℕ) → HardAccepted call m n → HardAccepted call n n
core-accepted call m n A = record {
  room = (A.room.1, A.room.1);
  logical = A.logical;
  some_logical = A.some_logical;
  physical = A.physical;
  some_physical = A.some_physical;
  transforms = A.transforms;
  board = A.board;
  vertical = A.vertical;
  within_limit = A.within_limit;
}

-- ---- the two ways in which exact decode ends
module _ (call : HardCall) (c u : List ℕ) where
  module _ (a : Admission) (e : a ≡ hard_admission call (length c) (length u)) where
    pub exact-refused : (x : Refusal) → a ≡ Err x → ExactCallDone call c c u u (Err x)
    unfolding exact_answer left
    exact-refused x n =
        let f = sym n ∙ e in
        record {
          answer = ap (λ (y : Admission). when_accepted Err y (exact_core call)) f;
          counts = ap (λ (y : Admission). left 0 (tables_room call.board) y c) f;
          units = ap (λ (y : Admission). left 0 (tables_room call.board) y u) f;
        }

    pub exact-done : (c' u' u'' : List ℕ) (r : ExactAnswer) → a ≡ accepted → HardAccepted call (length c) (length u) → ExactCoreDone call u u' r
        → c' ≡ cleared 0 (tables_room call.board) c → u'' ≡ cleared 0 (tables_room call.board) u' → ExactCallDone call c c' u u'' r
    unfolding exact_answer left
    exact-done c' u' u'' r z A D k l =
        let f = sym z ∙ e in
        record {
          answer = D.answer ∙ ap (λ (y : Admission). when_accepted Err y (exact_core call)) f;
          counts = k ∙ ap (λ (y : Admission). left 0 (tables_room call.board) y c) f;
          units = l ∙ cleared-forgets 0 (tables_room call.board) 0 u u' A.room.1 D.units ∙ ap (λ (y : Admission). left 0 (tables_room call.board) y u) f;
        }

  -- any two results that the promise allows are equal
  pub exact-call-unique : (c' d' u' v' : List ℕ) (r s : ExactAnswer) → ExactCallDone call c c' u u' r → ExactCallDone call c d' u v' s → (r ≡ s) × (c' ≡ d') × (u' ≡ v')
  exact-call-unique c' d' u' v' r s p q = (p.answer ∙ sym q.answer, p.counts ∙ sym q.counts, p.units ∙ sym q.units)
