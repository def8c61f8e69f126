-- Laws of the soft selection on one list: the room after each transform, the scan one transform further, and what both best candidates are, edge by edge.
use Rattle.std.specs.Prelude.{◌≡◌, true, false, ℤ, pos}
use Rattle.std.proofs.Math.Path.{refl, sym, ap, ap₂, subst}
use Rattle.std.proofs.Common.{◌∙◌, arith}
use mathlib.Core.List.{List}
use Prim.Native.Nat.{ℕ, zero, suc, ◌+◌, ◌*◌, ◌/◌, ◌%◌, ◌≤◌, ◌<◌}
use Rattle.std.proofs.Math.Numerals.{add-one}
use Rattle.std.proofs.Math.ListN.{get_or, length}
use Rattle.laws.specs.Part.{view}
use Rattle.laws.specs.Cleared.{SameBeyond}
use Rattle.board.specs.Hits.{EdgeList, Board}
use Rattle.board.specs.Sides.{period_of}
use Rattle.board.specs.DomainLaws.{edges-ok}
use Rattle.board.specs.Domain.{ListOk, BoardOk}
use Rattle.room.specs.Room.{used}
use Rattle.sums.specs.Sums.{Likelihoods, LikelihoodsOk, score}
use Rattle.sums.specs.SumsRoom.{SumsReady, SumsBuilt}
use Rattle.sums.specs.SumsTheorems.{length-sums, sums-small, read-sums, sums-again, key-sum, sum-rooms-equal}
use Rattle.best.specs.CellTables.{Period}
use Rattle.grid.specs.BoardGrid.{period-h, period-v}
use Rattle.level.specs.Sums.{SumTables, sums, SumsOk}
use Rattle.soft.specs.Scan.{soft_empty, soft_folded}
use Rattle.soft.specs.ScanLaws.{soft-selected-none, soft-selected-more, soft-selected-count}
use Rattle.soft.specs.BestPlacing.{BestTwo}
use Rattle.soft.specs.BestPlacingLaws.{soft-best}
use Rattle.margin.specs.declared.slots.SoftScan.{SoftScan}
use Rattle.soft.specs.Select.{sum_tables, soft_scan_of, soft_selection, SoftReady, SumRoom, SoftScanned}

-- the two tables in a room: horizontal cells, then vertical cells
unfoldable pub room_sums : ℕ → ℕ → List ℤ → SumTables
room_sums L M a = sums (view 0 (3 * L) a) (view (3 * L) (3 * M) a)

-- a room whose cells can be folded into the scan: both periods in range, all cells there, and their sums in range
pub record SumsRoomReady (L M : ℕ) (a : List ℤ) : Type 0 where
  pub h : Period L
  pub v : Period M
  pub room : 3 * L + 3 * M ≤ length a
  pub sums : SumsOk L M (room_sums L M a).hs (room_sums L M a).vs

-- the sums of a transform are as the fold asks
pub sums-ok : (B : Board) (E : EdgeList) (X : Likelihoods) (t : ℕ) → ListOk E → LikelihoodsOk E X → SumsOk (period_of B true) (period_of B false) (sum_tables B E X t).hs (sum_tables B E X t).vs
unfolding sum_tables
sums-ok B E X t list ok = record { hlen = length-sums B E X t true; vlen = length-sums B E X t false; bounded = sums-small B E X t list ok }

module _ (B : Board) (E : EdgeList) (X : Likelihoods) (ts : List ℕ) (a : List ℤ) (R : SoftReady B E X ts a) where
  pub room-length : (n : ℕ) (a' : List ℤ) → SumRoom B E X ts n a a' → length a' ≡ length a
  unfolding SumRoom
  room-length zero a' d = ap length d
  room-length (suc p) a' d = d.len

  -- whatever was built, the surplus is what it was
  pub room-beyond : (n : ℕ) (a' : List ℤ) → SumRoom B E X ts n a a' → SameBeyond (pos 0) (used (period_of B) 2) a a'
  unfolding SumRoom
  room-beyond zero a' d = record { len = ap length d; same = λ k h. ap (λ (l : List ℤ). get_or l k (pos 0)) d }
  room-beyond (suc p) a' d = record { len = d.len; same = d.surplus }

  pub room_next : (n : ℕ) (a' : List ℤ) → SumRoom B E X ts n a a' → n < length ts → SumsReady B E X (get_or ts n 0) a'
  room_next n a' d h =
      record { list = edges-ok E R.list; likelihoods = R.likelihoods; board = R.board; transform = R.small n h; room = omega (arith, R.room, room-length n a' d) }

  pub room-more : (n : ℕ) (a' a'' : List ℤ) → SumRoom B E X ts n a a' → SumsBuilt B E X (get_or ts n 0) a' a'' → SumRoom B E X ts (n + 1) a a''
  unfolding SumRoom
  room-more zero a' a'' d b = subst (λ (x : List ℤ). SumsBuilt B E X (get_or ts 0 0) x a'') d b
  room-more (suc p) a' a'' d b = rw add-one (sums-again B E E X X (get_or ts p 0) (get_or ts (suc p) 0) a a' a'' d b)

  pub built-sums : (t : ℕ) (a' a'' : List ℤ) → SumsReady B E X t a' → SumsBuilt B E X t a' a'' → room_sums (period_of B true) (period_of B false) a'' ≡ sum_tables B E X t
  unfolding room_sums sum_tables
  built-sums t a' a'' ready b = ap₂ sums (read-sums B E X t a' a'' ready b true) (read-sums B E X t a' a'' ready b false)

  pub room-ready : (t : ℕ) (a' a'' : List ℤ) → SumsReady B E X t a' → SumsBuilt B E X t a' a'' → SumsRoomReady (period_of B true) (period_of B false) a''
  room-ready t a' a'' ready b = record {
    h = period-h B R.board;
    v = period-v B R.board;
    room = omega (arith, ready.room, b.len);
    sums = subst (λ (Y : SumTables). SumsOk (period_of B true) (period_of B false) Y.hs Y.vs) (sym (built-sums t a' a'' ready b)) (sums-ok B E X t R.list R.likelihoods);
  }

  -- ---- the scan
  pub scan-none : SoftScanned B E X ts 0 a a soft_empty
  unfolding SumRoom soft_scan_of
  scan-none = record { answer = sym (soft-selected-none (period_of B true) (period_of B false) (λ p. sum_tables B E X (get_or ts p 0))); room = refl }

  pub scan-count : (n : ℕ) (a' : List ℤ) (r : SoftScan) → SoftScanned B E X ts n a a' r → r.count ≡ n
  unfolding soft_scan_of
  scan-count n a' r d = ap (λ (s : SoftScan). s.count) d.answer ∙ soft-selected-count (period_of B true) (period_of B false) (λ p. sum_tables B E X (get_or ts p 0)) n

  pub scan-more : (n : ℕ) (a' a'' : List ℤ) (r r' : SoftScan) → n < length ts → SoftScanned B E X ts n a a' r → SumsBuilt B E X (get_or ts n 0) a' a''
      → r' ≡ soft_folded (period_of B true) (period_of B false) (room_sums (period_of B true) (period_of B false) a'') r → SoftScanned B E X ts (n + 1) a a'' r'
  unfolding soft_scan_of
  scan-more n a' a'' r r' h d b e = record {
    answer =
        e
        ∙ ap (λ (Y : SumTables). soft_folded (period_of B true) (period_of B false) Y r) (built-sums (get_or ts n 0) a' a'' (room_next n a' d.room h) b)
        ∙ soft-selected-more (period_of B true) (period_of B false) (λ p. sum_tables B E X (get_or ts p 0)) n r d.answer;
    room = room-more n a' a'' d.room b;
  }

-- two results that it allows are equal, and so are the rooms
pub scanned-unique : (B : Board) (E : EdgeList) (X : Likelihoods) (ts : List ℕ) (n : ℕ) (a b c : List ℤ) (r s : SoftScan) → SoftScanned B E X ts n a b r → SoftScanned B E X ts n a c s → (r ≡ s) × (b ≡ c)
unfolding SumRoom
scanned-unique B E X ts n a b c r s p q = (p.answer ∙ sym q.answer, rooms n p.room q.room)
  where
    rooms : (n : ℕ) → SumRoom B E X ts n a b → SumRoom B E X ts n a c → b ≡ c
    rooms zero u v = u ∙ sym v
    rooms (suc n) u v = sum-rooms-equal B E X (get_or ts n 0) a b c u v

-- ---- edge by edge
-- the likelihood sum of the origin with the key k under the transform at list position p
abbrev pub score_at_key : Board → EdgeList → Likelihoods → List ℕ → ℕ → ℕ → ℤ
score_at_key B E X ts p k = score B E X (get_or ts p 0) (k / (3 * period_of B false)) (k % (3 * period_of B false))

-- WHAT SOFT SELECTION KEEPS, EDGE BY EDGE: both best placings by their likelihood sums over the edges (BestPlacing.antt says what that is)
pub soft-best-edges : (B : Board) (E : EdgeList) (X : Likelihoods) (ts : List ℕ) → BoardOk B → ListOk E → LikelihoodsOk E X → 0 < length ts
    → BestTwo (period_of B true) (period_of B false) (length ts) (score_at_key B E X ts) (soft_selection B E X ts)
unfolding soft_scan_of sum_tables
soft-best-edges B E X ts board list ok some =
    soft-best (period_of B true) (period_of B false) (period-h B board) (period-v B board) (λ p. sum_tables B E X (get_or ts p 0)) (length ts) some (λ p h. sums-ok B E X (get_or ts p 0) list ok)
    (score_at_key B E X ts) (λ p k h l. key-sum B E X (get_or ts p 0) board k)
