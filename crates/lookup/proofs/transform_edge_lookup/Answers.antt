-- The first end is mapped by the matrix and read back; the other lies a column of the matrix further, and both are looked up.
use mathlib.Core.Path.{◌≡◌, refl, sym, subst, ◌∙◌, ap₂}
use native.Mathlib.Omega.{arith}
use Prim.Native.Nat.{ℕ, ◌≤◌}
use lib.IntN.{ℤ, pos, nat_abs, ◌+ℤ◌}
use borrow.Author.Tests.{eq-eqb, ne_eqb}
use mir.Syntax.{w32}
use mir.Val.{SFits}
use Rattle.laws.specs.Signed.{read, fit_at, read_at}
use Rattle.laws.specs.Whole.{abs-add}
use Rattle.board.specs.Transform.{mat, mapped, joined, lookup_of, lookup_of_ends}
use Rattle.board.specs.TransformLaws.{mat-unit, mapped-abs, next-col, next_row}
use Rattle.lookup.proofs.transform_edge_lookup.Goals as goal

-- the mapped first end, as it is read back, and the other
module _ (t : ℕ) (col row c r : ℤ) (wide : nat_abs col ≤ 1000000) (high : nat_abs row ≤ 1000000)
    (first : c ≡ mapped t 0 (read w32 col) (read w32 row)) (second : r ≡ mapped t 1 (read w32 col) (read w32 row)) where
  abbrev at : ℕ → ℤ
  at i = mapped t i col row

  small : (i : ℕ) → nat_abs (at i) ≤ 2000000
  small i = omega (arith, mapped-abs t i col row)

  row_back : read w32 row ≡ row
  row_back = read_at w32 refl (omega arith)

  col-back : read w32 col ≡ col
  col-back = read_at w32 refl (omega arith)

  back : (i : ℕ) (x : ℤ) → x ≡ mapped t i (read w32 col) (read w32 row) → read w32 x ≡ at i
  back i x e = read_at w32 (e ∙ ap₂ (mapped t i) col-back row_back) (omega (arith, small i))

  col-is : read w32 c ≡ at 0
  col-is = back 0 _ first

  row_is : read w32 r ≡ at 1
  row_is = back 1 _ second

  -- x is read back as a mapped coordinate, and y is an entry of the matrix
  module _ (i j : ℕ) (x y : ℤ) (e : read w32 x ≡ at i) (m : y ≡ mat t i j) where
    moved : read w32 x +ℤ read w32 y ≡ at i +ℤ mat t i j
    moved = ap₂ ◌+ℤ◌ e (read_at w32 m (omega (arith, mat-unit t i j)))

    small-moved : nat_abs (at i +ℤ mat t i j) ≤ 2000001
    small-moved = omega (arith, small i, mat-unit t i j, abs-add (at i) (mat t i j))

    fits_moved : SFits w32 (read w32 x +ℤ read w32 y)
    fits_moved = fit_at w32 moved (omega (arith, small-moved))

    is-moved : read w32 (read w32 x +ℤ read w32 y) ≡ at i +ℤ mat t i j
    is-moved = read_at w32 moved (omega (arith, small-moved))

    near-moved : nat_abs (read w32 (read w32 x +ℤ read w32 y)) ≤ 2000001
    near-moved = subst (λ (z : ℤ). nat_abs z ≤ 2000001) (sym is-moved) small-moved

  near-col : nat_abs (read w32 c) ≤ 2000001
  near-col = subst (λ (z : ℤ). nat_abs z ≤ 2000001) (sym col-is) (omega (arith, small 0))

  near-row : nat_abs (read w32 r) ≤ 2000001
  near-row = subst (λ (z : ℤ). nat_abs z ≤ 2000001) (sym row_is) (omega (arith, small 1))

  -- the edge along a row, and along a column
  along : lookup_of_ends (at 0) (at 1) (at 0 +ℤ mat t 0 0) (at 1 +ℤ mat t 1 0) ≡ joined t col row (col +ℤ pos 1) row
  unfolding joined
  along = ap₂ (lookup_of_ends (at 0) (at 1)) (sym (next-col t 0 col row)) (sym (next-col t 1 col row))

  down : lookup_of_ends (at 0) (at 1) (at 0 +ℤ mat t 0 1) (at 1 +ℤ mat t 1 1) ≡ joined t col row col (row +ℤ pos 1)
  unfolding joined
  down = ap₂ (lookup_of_ends (at 0) (at 1)) (sym (next_row t 0 col row)) (sym (next_row t 1 col row))

pub overflow_add-c : goal.overflow_add-c
overflow_add-c c = fits_moved c.args.t c.args.edge.col c.args.edge.row c.apply-c.result c.apply-r.result c.requires.2 c.requires.1 c.apply-c.ensures c.apply-r.ensures 0 _ c.apply-c.result _ (col-is c.args.t c.args.edge.col c.args.edge.row c.apply-c.result c.apply-r.result c.requires.2 c.requires.1 c.apply-c.ensures c.apply-r.ensures) c.entry.ensures

pub overflow_add-r : goal.overflow_add-r
overflow_add-r c = fits_moved c.args.t c.args.edge.col c.args.edge.row c.apply-c.result c.apply-r.result c.requires.2 c.requires.1 c.apply-c.ensures c.apply-r.ensures 1 _ c.apply-r.result _ (row_is c.args.t c.args.edge.col c.args.edge.row c.apply-c.result c.apply-r.result c.requires.2 c.requires.1 c.apply-c.ensures c.apply-r.ensures) c.entry-then-edge-eq0.ensures

pub lookup_of_ends-requires : goal.lookup_of_ends-requires
lookup_of_ends-requires c =
    (near-col c.args.t c.args.edge.col c.args.edge.row c.apply-c.result c.apply-r.result c.requires.2 c.requires.1 c.apply-c.ensures c.apply-r.ensures, near-row c.args.t c.args.edge.col c.args.edge.row c.apply-c.result c.apply-r.result c.requires.2 c.requires.1 c.apply-c.ensures c.apply-r.ensures, near-moved c.args.t c.args.edge.col c.args.edge.row c.apply-c.result c.apply-r.result c.requires.2 c.requires.1 c.apply-c.ensures c.apply-r.ensures 0 _ c.apply-c.result _ (col-is c.args.t c.args.edge.col c.args.edge.row c.apply-c.result c.apply-r.result c.requires.2 c.requires.1 c.apply-c.ensures c.apply-r.ensures) c.entry.ensures, near-moved c.args.t c.args.edge.col c.args.edge.row c.apply-c.result c.apply-r.result c.requires.2 c.requires.1 c.apply-c.ensures c.apply-r.ensures 1 _ c.apply-r.result _ (row_is c.args.t c.args.edge.col c.args.edge.row c.apply-c.result c.apply-r.result c.requires.2 c.requires.1 c.apply-c.ensures c.apply-r.ensures) c.entry-then-edge-eq0.ensures)

pub overflow_add-c-else-edge-eq0 : goal.overflow_add-c-else-edge-eq0
overflow_add-c-else-edge-eq0 c = fits_moved c.args.t c.args.edge.col c.args.edge.row c.apply-c.result c.apply-r.result c.requires.2 c.requires.1 c.apply-c.ensures c.apply-r.ensures 0 _ c.apply-c.result _ (col-is c.args.t c.args.edge.col c.args.edge.row c.apply-c.result c.apply-r.result c.requires.2 c.requires.1 c.apply-c.ensures c.apply-r.ensures) c.entry-else-edge-eq0.ensures

pub overflow_add-r-else-edge-eq0 : goal.overflow_add-r-else-edge-eq0
overflow_add-r-else-edge-eq0 c = fits_moved c.args.t c.args.edge.col c.args.edge.row c.apply-c.result c.apply-r.result c.requires.2 c.requires.1 c.apply-c.ensures c.apply-r.ensures 1 _ c.apply-r.result _ (row_is c.args.t c.args.edge.col c.args.edge.row c.apply-c.result c.apply-r.result c.requires.2 c.requires.1 c.apply-c.ensures c.apply-r.ensures) c.entry-else-edge-eq0-2.ensures

pub lookup_of_ends-requires-else-edge-eq0 : goal.lookup_of_ends-requires-else-edge-eq0
lookup_of_ends-requires-else-edge-eq0 c =
    (near-col c.args.t c.args.edge.col c.args.edge.row c.apply-c.result c.apply-r.result c.requires.2 c.requires.1 c.apply-c.ensures c.apply-r.ensures, near-row c.args.t c.args.edge.col c.args.edge.row c.apply-c.result c.apply-r.result c.requires.2 c.requires.1 c.apply-c.ensures c.apply-r.ensures, near-moved c.args.t c.args.edge.col c.args.edge.row c.apply-c.result c.apply-r.result c.requires.2 c.requires.1 c.apply-c.ensures c.apply-r.ensures 0 _ c.apply-c.result _ (col-is c.args.t c.args.edge.col c.args.edge.row c.apply-c.result c.apply-r.result c.requires.2 c.requires.1 c.apply-c.ensures c.apply-r.ensures) c.entry-else-edge-eq0.ensures, near-moved c.args.t c.args.edge.col c.args.edge.row c.apply-c.result c.apply-r.result c.requires.2 c.requires.1 c.apply-c.ensures c.apply-r.ensures 1 _ c.apply-r.result _ (row_is c.args.t c.args.edge.col c.args.edge.row c.apply-c.result c.apply-r.result c.requires.2 c.requires.1 c.apply-c.ensures c.apply-r.ensures) c.entry-else-edge-eq0-2.ensures)

pub returns-then-edge-eq0 : goal.returns-then-edge-eq0
unfolding lookup_of
returns-then-edge-eq0 c =
    c.lookup_of_ends.ensures
    ∙ (λ i. lookup_of_ends (col-is c.args.t c.args.edge.col c.args.edge.row c.apply-c.result c.apply-r.result c.requires.2 c.requires.1 c.apply-c.ensures c.apply-r.ensures i) (row_is c.args.t c.args.edge.col c.args.edge.row c.apply-c.result c.apply-r.result c.requires.2 c.requires.1 c.apply-c.ensures c.apply-r.ensures i) (is-moved c.args.t c.args.edge.col c.args.edge.row c.apply-c.result c.apply-r.result c.requires.2 c.requires.1 c.apply-c.ensures c.apply-r.ensures 0 _ c.apply-c.result _ (col-is c.args.t c.args.edge.col c.args.edge.row c.apply-c.result c.apply-r.result c.requires.2 c.requires.1 c.apply-c.ensures c.apply-r.ensures) c.entry.ensures i) (is-moved c.args.t c.args.edge.col c.args.edge.row c.apply-c.result c.apply-r.result c.requires.2 c.requires.1 c.apply-c.ensures c.apply-r.ensures 1 _ c.apply-r.result _ (row_is c.args.t c.args.edge.col c.args.edge.row c.apply-c.result c.apply-r.result c.requires.2 c.requires.1 c.apply-c.ensures c.apply-r.ensures) c.entry-then-edge-eq0.ensures i))
    ∙ along c.args.t c.args.edge.col c.args.edge.row c.apply-c.result c.apply-r.result c.requires.2 c.requires.1 c.apply-c.ensures c.apply-r.ensures
    ∙ sym (rw (eq-eqb c.args.edge.orientation 0 c.if-edge-eq0.true))

pub returns-else-edge-eq0 : goal.returns-else-edge-eq0
unfolding lookup_of
returns-else-edge-eq0 c =
    c.lookup_of_ends-else-edge-eq0.ensures
    ∙ (λ i. lookup_of_ends (col-is c.args.t c.args.edge.col c.args.edge.row c.apply-c.result c.apply-r.result c.requires.2 c.requires.1 c.apply-c.ensures c.apply-r.ensures i) (row_is c.args.t c.args.edge.col c.args.edge.row c.apply-c.result c.apply-r.result c.requires.2 c.requires.1 c.apply-c.ensures c.apply-r.ensures i) (is-moved c.args.t c.args.edge.col c.args.edge.row c.apply-c.result c.apply-r.result c.requires.2 c.requires.1 c.apply-c.ensures c.apply-r.ensures 0 _ c.apply-c.result _ (col-is c.args.t c.args.edge.col c.args.edge.row c.apply-c.result c.apply-r.result c.requires.2 c.requires.1 c.apply-c.ensures c.apply-r.ensures) c.entry-else-edge-eq0.ensures i) (is-moved c.args.t c.args.edge.col c.args.edge.row c.apply-c.result c.apply-r.result c.requires.2 c.requires.1 c.apply-c.ensures c.apply-r.ensures 1 _ c.apply-r.result _ (row_is c.args.t c.args.edge.col c.args.edge.row c.apply-c.result c.apply-r.result c.requires.2 c.requires.1 c.apply-c.ensures c.apply-r.ensures) c.entry-else-edge-eq0-2.ensures i))
    ∙ down c.args.t c.args.edge.col c.args.edge.row c.apply-c.result c.apply-r.result c.requires.2 c.requires.1 c.apply-c.ensures c.apply-r.ensures
    ∙ sym (rw (ne_eqb c.args.edge.orientation 0 c.if-edge-eq0.false))
