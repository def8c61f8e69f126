-- C-21, the proof's one idea: a slid edge looked up at the slid origin is the edge looked up at the origin. So hits stay.
use Rattle.std.specs.Prelude.{◌≡◌, Bool, true, false, cond, ℕ, ◌+◌, ◌*◌, ◌<◌, eqb, get_or, length, ℤ, pos, ◌+ℤ◌, ◌-ℤ◌, ◌*ℤ◌, neg_ℤ}
use Rattle.std.proofs.Math.Path.{refl}
use Rattle.std.proofs.Common.{ap, ap₂, ◌∙◌, mul_comm, arith}
use Rattle.std.proofs.Math.IntN.{+ℤ_assoc, +ℤ_comm, -ℤ-+ℤ_cancel}
use Rattle.std.specs.Int.Signed.{lt_z}
use Rattle.laws.specs.Words.{eq_z, emod, count}
use Rattle.laws.specs.DoubleCounting.{fold-ext}
use Rattle.board.specs.declared.edge.EdgeLookup.{EdgeLookup}
use Rattle.board.specs.Transform.{mat, mapped, lookup_of_ends, joined, lookup_of}
use Rattle.board.specs.Hits.{EdgeList, Board, size, look, predicted, hit, hits}
use Rattle.board.specs.Domain.{BoardOk}
use Rattle.sliding.specs.Sliding.{Slid, shifted_rows, shifted_cols, slid_row, slid_col}
use Rattle.sliding.proofs.WholeLaws.{last-two, four, times-sum, eq-moved, lt-moved, emod-within}

-- a lookup so many columns and rows further
abbrev further : ℤ → ℤ → EdgeLookup → EdgeLookup
further x y l = record { orientation = l.orientation; row = l.row +ℤ y; col = l.col +ℤ x }

-- ---- the transforms are linear
mapped-sum : (t i : ℕ) (col row right down : ℤ) → mapped t i (col +ℤ right) (row +ℤ down) ≡ mapped t i col row +ℤ mapped t i right down
unfolding mapped
mapped-sum t i col row right down =
    ap₂ ◌+ℤ◌ (times-sum (mat t i 0) col right) (times-sum (mat t i 1) row down) ∙ four (mat t i 0 *ℤ col) (mat t i 0 *ℤ right) (mat t i 1 *ℤ row) (mat t i 1 *ℤ down)

-- ---- the lookup of two ends that both move
either : (b : Bool) (a c x : ℤ) → cond b (a +ℤ x) (c +ℤ x) ≡ cond b a c +ℤ x
either true a c x = refl
either false a c x = refl

less_one : (a x : ℤ) → a +ℤ x -ℤ pos 1 ≡ a -ℤ pos 1 +ℤ x
less_one a x = last-two a x (neg_ℤ (pos 1))

one_of : (b : Bool) (x y : ℤ) (l m : EdgeLookup) → cond b (further x y l) (further x y m) ≡ further x y (cond b l m)
one_of true x y l m = refl
one_of false x y l m = refl

ends-moved : (c r d s x y : ℤ) → lookup_of_ends (c +ℤ x) (r +ℤ y) (d +ℤ x) (s +ℤ y) ≡ further x y (lookup_of_ends c r d s)
unfolding lookup_of_ends
ends-moved c r d s x y =
    rw (eq-moved r s y, lt-moved c d x, lt-moved r s y, either (lt_z c d) c d x, either (lt_z r s) r s y, either (lt_z r s) c d x, less_one r y, less_one (cond (lt_z r s) c d) x)
    (one_of (eq_z r s) x y (record { orientation = 0; row = r -ℤ pos 1; col = cond (lt_z c d) c d }) (record { orientation = 1; row = cond (lt_z r s) r s; col = cond (lt_z r s) c d -ℤ pos 1 }))

joined-moved : (t : ℕ) (c r d s right down : ℤ) → joined t (c +ℤ right) (r +ℤ down) (d +ℤ right) (s +ℤ down) ≡ further (shifted_cols t down right) (shifted_rows t down right) (joined t c r d s)
unfolding joined
joined-moved t c r d s right down =
    rw (mapped-sum t 0 c r right down, mapped-sum t 1 c r right down, mapped-sum t 0 d s right down, mapped-sum t 1 d s right down)
    (ends-moved (mapped t 0 c r) (mapped t 1 c r) (mapped t 0 d s) (mapped t 1 d s) (mapped t 0 right down) (mapped t 1 right down))

-- AN EDGE THAT MOVES IS LOOKED UP SO MUCH FURTHER, as its transform maps the shift
pub lookup-moved : (t : ℕ) (row col down right : ℤ) (o : ℕ) → lookup_of t (row +ℤ down) (col +ℤ right) o ≡ further (shifted_cols t down right) (shifted_rows t down right) (lookup_of t row col o)
unfolding lookup_of
lookup-moved t row col down right o =
    rw (last-two col right (pos 1), last-two row down (pos 1), joined-moved t col row (col +ℤ pos 1) row right down, joined-moved t col row col (row +ℤ pos 1) right down)
    (one_of (eqb o 0) (shifted_cols t down right) (shifted_rows t down right) (joined t col row (col +ℤ pos 1) row) (joined t col row col (row +ℤ pos 1)))

-- ---- at the origin that moves back
-- (a + y) + (b - y), reduced, is a + b
back : (a y : ℤ) (b k n : ℕ) → 0 < n → 0 < k * n → emod (a +ℤ y +ℤ pos (emod (pos b -ℤ y) (k * n))) n ≡ emod (a +ℤ pos b) n
back a y b k n h g =
    emod-within (a +ℤ y) (pos b -ℤ y) k n h g
    ∙ ap (λ (x : ℤ). emod x n) (+ℤ_assoc a y (pos b -ℤ y) ∙ ap (λ (x : ℤ). a +ℤ x) (+ℤ_comm y (pos b -ℤ y) ∙ -ℤ-+ℤ_cancel (pos b) y))

-- the same by three, where the board has n threes
back-three : (a y : ℤ) (b n : ℕ) → 0 < n → emod (a +ℤ y +ℤ pos (emod (pos b -ℤ y) (3 * n))) 3 ≡ emod (a +ℤ pos b) 3
back-three a y b n h = ap (λ (m : ℕ). emod (a +ℤ y +ℤ pos (emod (pos b -ℤ y) m)) 3) (mul_comm 3 n) ∙ back a y b n 3 (omega arith) (omega (arith, h))

-- what is predicted stays
module _ (B : Board) (board : BoardOk B) (t : ℕ) (down right : ℤ) where
  tall : 0 < length B.h
  tall = omega (arith, board.h.some)

  wide : 0 < length B.v
  wide = omega (arith, board.v.some)

  -- the pattern of a row, and its bit
  row-pattern : (a : ℤ) (r : ℕ) → emod (a +ℤ shifted_rows t down right +ℤ pos (slid_row B t down right r)) (length B.h) ≡ emod (a +ℤ pos r) (length B.h)
  unfolding slid_row
  row-pattern a r = back a (shifted_rows t down right) r 3 (length B.h) tall (omega (arith, tall))

  row-bit : (a : ℤ) (r : ℕ) → emod (a +ℤ shifted_rows t down right +ℤ pos (slid_row B t down right r)) 3 ≡ emod (a +ℤ pos r) 3
  unfolding slid_row
  row-bit a r = back-three a (shifted_rows t down right) r (length B.h) tall

  -- and of a column
  col-pattern : (a : ℤ) (c : ℕ) → emod (a +ℤ shifted_cols t down right +ℤ pos (slid_col B t down right c)) (length B.v) ≡ emod (a +ℤ pos c) (length B.v)
  unfolding slid_col
  col-pattern a c = back a (shifted_cols t down right) c 3 (length B.v) wide (omega (arith, wide))

  col-bit : (a : ℤ) (c : ℕ) → emod (a +ℤ shifted_cols t down right +ℤ pos (slid_col B t down right c)) 3 ≡ emod (a +ℤ pos c) 3
  unfolding slid_col
  col-bit a c = back-three a (shifted_cols t down right) c (length B.v) wide

  pub predicted-moved : (l : EdgeLookup) (r c : ℕ) → predicted B (further (shifted_cols t down right) (shifted_rows t down right) l) (slid_row B t down right r) (slid_col B t down right c) ≡ predicted B l r c
  unfolding predicted
  predicted-moved l r c = rw (row-pattern l.row r, row-bit l.row r, col-pattern l.col c, col-bit l.col c) refl

-- HITS STAY: at the slid origin the slid list has the hits that the list has at the origin
pub hits-stay : (B : Board) (board : BoardOk B) (E F : EdgeList) (down right : ℤ) → Slid down right E F → (t r c : ℕ) → hits B F t (slid_row B t down right r) (slid_col B t down right c) ≡ hits B E t r c
unfolding hits hit look
hits-stay B board E F down right s t r c =
    ap (λ (n : ℕ). count n (hit B F t (slid_row B t down right r) (slid_col B t down right c))) s.edges
    ∙ fold-ext ◌+◌ 0 (size E) (hit B F t (slid_row B t down right r) (slid_col B t down right c)) (hit B E t r c) (λ i. 1) (λ i. 1) one (λ i l. refl)
  where
    looked : (i : ℕ) → i < size E → look F t i ≡ further (shifted_cols t down right) (shifted_rows t down right) (look E t i)
    looked i l = rw (s.row i l, s.col i l, s.orientations) (lookup-moved t (get_or E.rows i (pos 0)) (get_or E.cols i (pos 0)) down right (get_or E.orientations i 0))

    one : (i : ℕ) → i < size E → hit B F t (slid_row B t down right r) (slid_col B t down right c) i ≡ hit B E t r c i
    one i l = rw (looked i l, predicted-moved B board t down right (look E t i) r c, s.bits) refl
