-- A list that the checks of soft decode take, beside itself and under one transform, is ready for its tables and its sums.
use Rattle.std.specs.Prelude.{◌≡◌, ℕ, List, [], ◌∷◌, length, ℤ, Float}
use Rattle.std.proofs.Common.{lit<}
use Rattle.board.specs.Hits.{EdgeList, Board}
use Rattle.likelihood.specs.Likelihood.{Likelihoods}
use Rattle.tables.specs.Built.{TablesReady}
use Rattle.sums.specs.SumsRoom.{SumsReady}
use Rattle.admission.specs.Calls.{soft_call}
use Rattle.admission.specs.Accepted.{SoftAccepted}

module _ (E : EdgeList) (X : Likelihoods) (t : ℕ) (B : Board) (limit margin : Float) (m n k : ℕ) (A : SoftAccepted (soft_call E E X (t ∷ []) B limit margin) m n k) where
  pub tables-ready : (c : List ℕ) (w : List Float) → length c ≡ m → length w ≡ n → TablesReady B E t c w
  tables-ready c w e d = record { list = A.hard.physical; board = A.hard.board; transform = A.hard.transforms.small 0 (lit< tt); room = (rw e A.hard.room.0, rw d A.hard.room.1) }

  pub sums-ready : (a : List ℤ) → length a ≡ k → SumsReady B E X t a
  sums-ready a e = record {
    list =
        let L = A.hard.physical in
        record { few = L.few; cols = L.cols; orientations = L.orientations; bits = L.bits; near-row = L.near-row; near-col = L.near-col; bit = L.bit };
    likelihoods = record { matches = A.matches; mismatches = A.mismatches; match = λ i h. (A.likely i h).0; mismatch = λ i h. (A.likely i h).1 };
    board = A.hard.board;
    transform = A.hard.transforms.small 0 (lit< tt);
    room = rw e A.room;
  }
