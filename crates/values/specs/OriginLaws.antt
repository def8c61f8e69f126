-- Since values add, the greatest value of any origin is that of two best cells, and the first origin that has it is the row-major first pair of best cells.
use Rattle.std.specs.Prelude.{◌≡◌, refl, List, ℕ, ◌+◌, ◌*◌, ◌≤◌, ◌<◌, length}
use Rattle.std.proofs.Common.{ap₂, ◌∙◌}
use Rattle.std.proofs.Math.Logic.{⊎_elim}
use native.Mathlib.Omega.{arith}
use borrow.Author.Tests.{eq-eqb, eqb-true}
use Rattle.laws.specs.Words.{Grid, origins}
use Rattle.laws.specs.GridLaws.{Laws}
use Rattle.best.specs.CellTables.{Period}
use Rattle.grid.specs.BoardGrid.{grid}
use Rattle.grid.specs.RowMajorLaws.{major-is, major-le}
use Rattle.values.specs.Values.{v_at, value_best, tied_value, value_of, first_origin, pair_value, best_value}
use Rattle.values.specs.ValuesLaws.{best-top, cell_in}

module _ (L M : ℕ) (p : Period L) (q : Period M) (hs vs : List ℕ) (eh : length hs ≡ 3 * L) (ev : length vs ≡ 3 * M) where
  abbrev G : Grid
  G = origins L M

  abbrev a : ℕ
  a = v_at hs (value_best hs)

  abbrev b : ℕ
  b = v_at vs (value_best vs)

  laws : Laws G (length hs) (length vs)
  laws = rw (eh, ev) (grid L M p q)

  htwo : 1 < length hs
  htwo = omega (arith, eh, p.more)

  vtwo : 1 < length vs
  vtwo = omega (arith, ev, q.more)

  abbrev pub first : ℕ
  first = first_origin L M hs vs (value_of hs) (value_of vs)

  pub first_under : first < G.none
  unfolding value_of
  first_under =
      omega (
        arith,
        major-le G (length vs) (tied_value hs a) (tied_value vs b) (length hs) (value_best hs) (value_best vs) (cell_in hs htwo) (cell_in vs vtwo) (eq-eqb a a refl) (eq-eqb b b refl),
        laws.under (value_best hs) (value_best vs) (cell_in hs htwo) (cell_in vs vtwo),
      )

  -- it is the key of two cells of greatest value
  pub first-is : (h : ℕ) × (v : ℕ) × (h < length hs) × (v < length vs) × (v_at hs h ≡ (value_of hs).top) × (v_at vs v ≡ (value_of vs).top) × (first ≡ G.key h v)
  unfolding value_of
  first-is =
      ⊎_elim (λ e. absurd (omega (arith, first_under, e)))
      (λ w. (w.0, w.1, w.2, w.3, eqb-true (v_at hs w.0) a w.4, eqb-true (v_at vs w.1) b w.5, w.6))
      (major-is G (length vs) (tied_value hs a) (tied_value vs b) (length hs))

  -- its value is the greatest of any origin
  pub first-has : pair_value G hs vs first ≡ best_value (value_of hs) (value_of vs)
  first-has =
      let w = first-is in
      ap₂ (λ (x y : ℕ). v_at hs (G.h_of x) + v_at vs (G.v_of y)) w.6 w.6 ∙ ap₂ (λ (x y : ℕ). v_at hs x + v_at vs y) (laws.h_key w.0 w.1 w.2 w.3) (laws.v_key w.0 w.1 w.2 w.3) ∙ ap₂ ◌+◌ w.4 w.5

  pub greatest : (k : ℕ) → pair_value G hs vs k ≤ best_value (value_of hs) (value_of vs)
  unfolding value_of
  greatest k = omega (arith, best-top hs (G.h_of k) (laws.h-in k), best-top vs (G.v_of k) (laws.v-in k))

  -- and it is the first that has it
  pub first-least : (k : ℕ) → k < G.none → pair_value G hs vs k ≡ best_value (value_of hs) (value_of vs) → first ≤ k
  unfolding value_of
  first-least k l e =
      let x : v_at hs (G.h_of k) ≡ a = omega (arith, e, best-top hs (G.h_of k) (laws.h-in k), best-top vs (G.v_of k) (laws.v-in k)) in
      let y : v_at vs (G.v_of k) ≡ b = omega (arith, e, best-top hs (G.h_of k) (laws.h-in k), best-top vs (G.v_of k) (laws.v-in k)) in
      omega (
        arith,
        laws.back k l,
        major-le G (length vs) (tied_value hs a) (tied_value vs b) (length hs) (G.h_of k) (G.v_of k) (laws.h-in k) (laws.v-in k) (eq-eqb (v_at hs (G.h_of k)) a x) (eq-eqb (v_at vs (G.v_of k)) b y),
      )
