-- What the likelihood sums of one transform are good for. All of it holds for every list, its likelihoods, transform, pair of pattern tables and origin.
use Rattle.std.specs.Prelude.{◌≡◌, refl, Bool, ◌&&◌, List, ℕ, ◌+◌, ◌*◌, ◌/◌, ◌%◌, ◌^◌, ◌≤◌, ◌<◌, ℤ, pos, nat_abs, get_or, length}
use Rattle.std.proofs.Math.Path.{sym, ap₂}
use Rattle.std.proofs.Common.{◌∙◌, mod-lt, div-lt_iff_lt-mul, lit<}
use Rattle.std.proofs.Math.Bool.{true, false}
use native.Mathlib.Omega.{arith}
use Rattle.std.proofs.Math.Arith.{digits_div, digits_mod}
use Rattle.std.proofs.Math.IntN.{◌+ℤ◌}
use Rattle.laws.specs.Words.{row_of, col_of, origins, cleared}
use Rattle.laws.specs.Part.{view}
use Rattle.laws.specs.GridLaws.{h-below, v_below}
use Rattle.laws.specs.Residues.{joint-long, joint-short}
use Rattle.board.specs.Hits.{EdgeList, Board, size, bare, look, horizontal, hit}
use Rattle.board.specs.Sides.{is, on_side, period_of}
use Rattle.board.specs.Domain.{ListOk, BoardOk}
use Rattle.board.proofs.HitsLaws.{side-some}
use Rattle.likelihood.specs.SumLaws.{pair_size}
use Rattle.groups.specs.Groups.{group_at}
use Rattle.cells.specs.Listed.{length-listed, get_d-listed, view-listed}
use Rattle.cells.specs.Cells.{width}
use Rattle.room.specs.Room.{cells_at, used}
use Rattle.room.specs.RoomLaws.{cells_in, laid-again, laid-cleared, laid-used, laid_same}
use Rattle.tables.specs.TablesTheorems.{h_cell, v_cell}
use Rattle.sums.specs.Sums.{Likelihoods, gain, score, side_score, cell_score, sums_of, LikelihoodsOk}
use Rattle.sums.specs.SumsLaws.{score-by-class, gain-small}
use Rattle.sums.specs.SumsRoom.{SumsReady, SumsBuilt}

-- ---- the table, cell by cell
module _ (B : Board) (E : EdgeList) (X : Likelihoods) (t : ℕ) (s : Bool) where
  pub length-sums : length (sums_of B E X t s) ≡ 3 * period_of B s
  unfolding sums_of
  length-sums = length-listed _ _

  pub sum-at : (k : ℕ) → k < 3 * period_of B s → get_or (sums_of B E X t s) k (pos 0) ≡ cell_score B E X t s k
  unfolding sums_of
  sum-at k h = get_d-listed (pos 0) _ _ k h

module _ (B : Board) (E : EdgeList) (X : Likelihoods) (t : ℕ) (ok : BoardOk B) where
  -- a cell's sum is that of its side at its class
  class-sum : (s : Bool) (a b : ℕ) → b < width B s → a * width B s + b < 3 * period_of B s → get_or (sums_of B E X t s) (a * width B s + b) (pos 0) ≡ side_score B E X t s a b
  unfolding cell_score
  class-sum s a b h l = sum-at B E X t s (a * width B s + b) l ∙ ap₂ (side_score B E X t s) (digits_div a h) (digits_mod a h)

  -- and of any pair of cells, at the origin that it names
  pub pair-origin-sum : (h v : ℕ) → h < 3 * period_of B true → v < 3 * period_of B false → let L = period_of B true in let M = period_of B false in
      score B E X t (row_of L M h v) (col_of M h v) ≡ get_or (sums_of B E X t true) h (pos 0) +ℤ get_or (sums_of B E X t false) v (pos 0)
  unfolding cell_score
  pair-origin-sum h v lh lv =
      let L = period_of B true in
      let M = period_of B false in
      let p = side-some B ok in
      score-by-class B E X t p (row_of L M h v) (col_of M h v)
      ∙ ap₂ ◌+ℤ◌
      (ap₂ (side_score B E X t true) (joint-long L (p true) ok.h.free (v / M) (h / 3) (third h lh)) (joint-short M (p false) ok.v.free (h % 3) (v % M) (mod-lt h (lit< tt))))
      (ap₂ (side_score B E X t false) (joint-short L (p true) ok.h.free (v / M) (h / 3) ((div-lt_iff_lt-mul (p false)).1 lv)) (joint-long M (p false) ok.v.free (h % 3) (v % M) (mod-lt v (p false))))
      ∙ sym (ap₂ ◌+ℤ◌ (sum-at B E X t true h lh) (sum-at B E X t false v lv))
    where
      third : (h : ℕ) → h < 3 * period_of B true → h / 3 < period_of B true
      third h l = omega arith

-- THE LIKELIHOOD SUM OF A PLACING IS ITS TWO CELLS, ADDED: for every pair of accepted tables, every list, its likelihoods, transform and origin
pub cell-pair-sum : (B : Board) (E : EdgeList) (X : Likelihoods) (t : ℕ) → BoardOk B → (r c : ℕ) → score B E X t r c ≡ get_or (sums_of B E X t true) (h_cell B r c) (pos 0) +ℤ get_or (sums_of B E X t false) (v_cell B r c) (pos 0)
cell-pair-sum B E X t ok r c =
    score-by-class B E X t (side-some B ok) r c
    ∙ sym (ap₂ ◌+ℤ◌
    (class-sum B E X t ok true (r % period_of B true) (c % 3) (mod-lt c (lit< tt)) (h-below (period_of B true) (side-some B ok true) r c))
    (class-sum B E X t ok false (r % 3) (c % period_of B false) (mod-lt c (side-some B ok false)) (v_below (period_of B false) (side-some B ok false) r c)))

-- the same by an origin's key
pub key-sum : (B : Board) (E : EdgeList) (X : Likelihoods) (t : ℕ) → BoardOk B → (k : ℕ) → let L = period_of B true in let M = period_of B false in
    score B E X t (k / (3 * M)) (k % (3 * M)) ≡ get_or (sums_of B E X t true) ((origins L M).h_of k) (pos 0) +ℤ get_or (sums_of B E X t false) ((origins L M).v_of k) (pos 0)
key-sum B E X t ok k = cell-pair-sum B E X t ok (k / (3 * period_of B false)) (k % (3 * period_of B false))

-- a horizontal sum and a vertical one are together at most 2^53 in size
module _ (B : Board) (E : EdgeList) (X : Likelihoods) (t : ℕ) (list : ListOk E) (ok : LikelihoodsOk E X) where
  apart : (b : Bool) → (is true b && is false b) ≡ false
  apart true = refl
  apart false = refl

  pub sums-small : (h v : ℕ) → h < 3 * period_of B true → v < 3 * period_of B false
      → nat_abs (get_or (sums_of B E X t true) h (pos 0)) + nat_abs (get_or (sums_of B E X t false) v (pos 0)) ≤ 2 ^ 53
  unfolding cell_score side_score
  sums-small h v lh lv =
      rw (sum-at B E X t true h lh, sum-at B E X t false v lv)
      (pair_size (size E) (on_side E t true) (on_side E t false) (gain B E X t (h / 3) (h % 3)) (gain B E X t (v / period_of B false) (v % period_of B false)) list.few
      (λ i l. apart (horizontal (look E t i)))
      (λ i l e. gain-small E X ok (hit B E t (h / 3) (h % 3) i) i l)
      (λ i l e. gain-small E X ok (hit B E t (v / period_of B false) (v % period_of B false) i) i l))

-- ---- the room after `build_sums`: the part of each side is its table
pub read-sums : (B : Board) (E : EdgeList) (X : Likelihoods) (t : ℕ) (a a' : List ℤ) → SumsReady B E X t a → SumsBuilt B E X t a a' → (s : Bool) → view (cells_at (period_of B) s) (3 * period_of B s) a' ≡ sums_of B E X t s
unfolding sums_of
read-sums B E X t a a' R D s = view-listed (pos 0) (cells_at (period_of B) s) (3 * period_of B s) a' (cell_score B E X t s) (omega (arith, cells_in (period_of B) s, R.room, D.len)) (D.cells s)

-- two rooms that meet the promise are equal
pub sum-rooms-equal : (B : Board) (E : EdgeList) (X : Likelihoods) (t : ℕ) (a d d' : List ℤ) → SumsBuilt B E X t a d → SumsBuilt B E X t a d' → d ≡ d'
sum-rooms-equal B E X t a d d' p q = laid_same _ _ _ _ _ a a d d' p q refl (λ k h. refl)

-- and the used part is the same whatever the room held
pub sum-room-forgets : (B : Board) (E : EdgeList) (X : Likelihoods) (t : ℕ) (a a' d d' : List ℤ) → SumsBuilt B E X t a d → SumsBuilt B E X t a' d' → (k : ℕ) → k < used (period_of B) 2 → get_or d k (pos 0) ≡ get_or d' k (pos 0)
sum-room-forgets B E X t a a' d d' p q k h = laid-used _ _ _ _ _ a a' d d' p q k h

-- ---- from transform to transform: as `tables-again` and `tables-cleared`
pub sums-again : (B : Board) (E F : EdgeList) (X Y : Likelihoods) (t u : ℕ) (a₀ a₁ a₂ : List ℤ) → SumsBuilt B E X t a₀ a₁ → SumsBuilt B F Y u a₁ a₂ → SumsBuilt B F Y u a₀ a₂
sums-again B E F X Y t u a₀ a₁ a₂ p q = laid-again _ _ _ _ _ _ _ a₀ a₁ a₂ p q

pub sums-cleared : (B : Board) (E : EdgeList) (X : Likelihoods) (t : ℕ) (a a' : List ℤ) → SumsReady B E X t a → SumsBuilt B E X t a a' → cleared (pos 0) (used (period_of B) 2) a' ≡ cleared (pos 0) (used (period_of B) 2) a
sums-cleared B E X t a a' R D = laid-cleared _ _ _ _ _ (pos 0) a a' R.room D

-- ---- a list with its confidences and the same list without them have the same sums: what `build_sums`, which takes none, is asked and gives
pub bare-ready : (B : Board) (E : EdgeList) (X : Likelihoods) (t : ℕ) (a : List ℤ) → SumsReady B E X t a → SumsReady B (bare E) X t a
bare-ready B E X t a R = record {
  list = R.list;
  likelihoods = record { matches = R.likelihoods.matches; mismatches = R.likelihoods.mismatches; match = R.likelihoods.match; mismatch = R.likelihoods.mismatch };
  board = R.board;
  transform = R.transform;
  room = R.room;
}

pub bare-built : (B : Board) (E : EdgeList) (X : Likelihoods) (t : ℕ) (a a' : List ℤ) → SumsBuilt B (bare E) X t a a' → SumsBuilt B E X t a a'
unfolding cell_score side_score group_at hit look
bare-built B E X t a a' D = record { len = D.len; cells = D.cells; groups = D.groups; surplus = D.surplus }
