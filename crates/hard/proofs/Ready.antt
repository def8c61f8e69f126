-- What the selections of an accepted call ask, what their winners are known for, and the room that they leave: for hard and for soft decode.
use Rattle.std.specs.Prelude.{◌≡◌, List, ℕ, ◌≤◌, ◌<◌, length, Float, Ok}
use Rattle.std.proofs.Common.{sym, ap, ◌∙◌, le_trans, le_of_eq}
use Rattle.std.specs.Float.{nan}
use Rattle.laws.specs.Words.{one_f, cleared}
use Rattle.laws.specs.Cleared.{SameBeyond}
use Rattle.board.specs.Hits.{EdgeList, Board, size}
use Rattle.board.specs.Domain.{ListOk, BoardOk}
use Rattle.room.specs.Room.{tables_room}
use Rattle.admission.specs.Calls.{HardCall}
use Rattle.admission.specs.Accepted.{TransformsOk, HardAccepted}
use Rattle.scan.specs.declared.scan.Candidate.{Candidate}
use Rattle.scan.specs.declared.scan.RunnerUp.{RunnerUp}
use Rattle.hard.specs.Kinds.{Selection}
use Rattle.hard.specs.Select.{selection, SelectReady, SelectDone}
use Rattle.hard.specs.SelectLaws.{select-beyond}
use Rattle.hard.proofs.SelectTheorems.{selected-in-range}

-- ---- what a selection asks
pub ready : (B : Board) (E : EdgeList) (ts : List ℕ) (c : List ℕ) (w : List Float) → ListOk E → 0 < size E → BoardOk B → TransformsOk ts → tables_room B ≤ length c → tables_room B ≤ length w → SelectReady B E ts c w
ready B E ts c w list some board t rc rw = record {
  list = list;
  some = some;
  board = board;
  transforms = (t.some, t.few);
  small = t.small;
  room = (rc, rw);
}

module _ (call : HardCall) (c : List ℕ) (w : List Float) (A : HardAccepted call (length c) (length w)) where
  pub ready-logical : SelectReady call.board call.logical call.transforms c w
  ready-logical = ready call.board call.logical call.transforms c w A.logical A.some_logical A.board A.transforms A.room.0 A.room.1

  pub ready-physical : (c' : List ℕ) (w' : List Float) → length c' ≡ length c → length w' ≡ length w → SelectReady call.board call.physical call.transforms c' w'
  ready-physical c' w' e d = ready call.board call.physical call.transforms c' w' A.physical A.some_physical A.board A.transforms (le_trans A.room.0 (le_of_eq (sym e))) (le_trans A.room.1 (le_of_eq (sym d)))

  -- ---- what the winners are known for
  pub logical-winner : (r : Selection) (x : Candidate) (runner : RunnerUp) → r ≡ selection call.board call.logical call.transforms call.error_limit → r ≡ Ok (x, runner) → (x.placing.listed < length call.transforms) × (x.hits ≤ size call.logical) × (runner.hits ≤ size call.logical)
  logical-winner r x runner e k =
      let i = selected-in-range call.board call.logical call.transforms call.error_limit A.board A.logical A.transforms.few x runner (sym e ∙ k) in (i.listed, i.hits, i.runner_up_hits)

  pub physical-winner : (r : Selection) (x : Candidate) (runner : RunnerUp) → r ≡ selection call.board call.physical call.transforms one_f → r ≡ Ok (x, runner) → x.placing.listed < length call.transforms
  physical-winner r x runner e k = (selected-in-range call.board call.physical call.transforms one_f A.board A.physical A.transforms.few x runner (sym e ∙ k)).listed

  -- ---- the rooms
  pub beyond : (E : EdgeList) (limit' : Float) (d d' : List ℕ) (x x' : List Float) (r : Selection) → SelectReady call.board E call.transforms d x → SelectDone call.board E call.transforms limit' d d' x x' r → SameBeyond 0 (tables_room call.board) d d' × SameBeyond nan (tables_room call.board) x x'
  beyond E limit' d d' x x' r R D = select-beyond call.board E call.transforms limit' d x R d' x' r D

-- as many places cleared as were counted to be used
pub cleared-used : {A : Type 0} (a : A) (n m : ℕ) (old new : List A) → n ≡ m → new ≡ cleared a n old → new ≡ cleared a m old
cleared-used a n m old new e h = h ∙ ap (λ (k : ℕ). cleared a k old) e
