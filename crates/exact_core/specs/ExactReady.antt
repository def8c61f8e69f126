-- What the selections of an accepted exact call ask, what their winners are known for, and that the surplus of the room stays.
use Rattle.std.specs.Prelude.{◌≡◌, List, ℕ, ◌≤◌, ◌<◌, get_or, length, Ok}
use Rattle.std.proofs.Common.{subst, arith}
use Rattle.laws.specs.Words.{one_f}
use Rattle.board.specs.Hits.{EdgeList, Board, size}
use Rattle.board.proofs.HitsLaws.{hits-le}
use Rattle.board.specs.Domain.{ListOk, BoardOk}
use Rattle.room.specs.Room.{tables_room}
use Rattle.admission.specs.Calls.{HardCall}
use Rattle.admission.specs.Accepted.{TransformsOk, StatsAccepted, HardAccepted}
use Rattle.scan.specs.declared.scan.RunnerUp.{RunnerUp}
use Rattle.exact_scan.specs.declared.kept.ExactWinner.{ExactWinner}
use Rattle.exact.specs.Select.{exact_selection, ExactSelectReady}
use Rattle.exact.proofs.ExactTheorems.{exact-winner, exact-runner-up-on}

-- ---- what a selection asks
exact-ready : (B : Board) (E : EdgeList) (ts u : List ℕ) → ListOk E → 0 < size E → BoardOk B → TransformsOk ts → tables_room B ≤ length u → ExactSelectReady B E ts u
exact-ready B E ts u list some board t room = record { list = list; some = some; board = board; transforms = (t.some, t.few); small = t.small; room = room }

-- what judging the winners asks: the list was accepted, the runner-up's square is on the board, the winner has no more hits than edges, and both winners stand in the list of transforms
pub record JudgeReady (B : Board) (L : EdgeList) (ts : List ℕ) (w : ExactWinner) (runner : RunnerUp) (p : ExactWinner) : Type 0 where
  pub runner-up : StatsAccepted L runner.transform runner.row runner.col B
  pub hits : w.hits ≤ size L
  pub listed : w.placing.listed < length ts
  pub other : p.placing.listed < length ts

module _ (call : HardCall) (m n : ℕ) (A : HardAccepted call m n) where
  pub ready-logical : (u : List ℕ) → tables_room call.board ≤ length u → ExactSelectReady call.board call.logical call.transforms u
  ready-logical u r = exact-ready call.board call.logical call.transforms u A.logical A.some_logical A.board A.transforms r

  pub ready-physical : (u : List ℕ) → tables_room call.board ≤ length u → ExactSelectReady call.board call.physical call.transforms u
  ready-physical u r = exact-ready call.board call.physical call.transforms u A.physical A.some_physical A.board A.transforms r

  -- ---- what the winners are known for
  module _ (w : ExactWinner) (runner : RunnerUp) (e : exact_selection call.board call.logical call.transforms call.error_limit ≡ Ok (w, runner)) where
    few-hits : w.hits ≤ size call.logical
    few-hits =
        let x = exact-winner call.board call.logical call.transforms A.board A.logical A.transforms.some call.error_limit w runner e in
        omega (arith, x.1, hits-le call.board call.logical (get_or call.transforms w.placing.listed 0) w.placing.row w.placing.col)

    -- the runner-up's square is on the board
    on-board : StatsAccepted call.logical runner.transform runner.row runner.col call.board
    on-board =
        let o = exact-runner-up-on call.board call.logical call.transforms A.board A.logical A.transforms.some call.error_limit w runner e A.transforms.few in
        record {
          list = A.logical;
          transform = subst (λ (t : ℕ). t < 8) o.2 (A.transforms.small o.0 o.1);
          board = A.board;
          origin = (o.3, omega (arith, o.4, A.vertical));
        }

    -- what judging asks
    pub judge-ready : (p : ExactWinner) (other : RunnerUp) → exact_selection call.board call.physical call.transforms one_f ≡ Ok (p, other) → JudgeReady call.board call.logical call.transforms w runner p
    judge-ready p other f = record {
      runner-up = on-board;
      hits = few-hits;
      listed = (exact-winner call.board call.logical call.transforms A.board A.logical A.transforms.some call.error_limit w runner e).0.on-board.in_list;
      other = (exact-winner call.board call.physical call.transforms A.board A.physical A.transforms.some one_f p other f).0.on-board.in_list;
    }
