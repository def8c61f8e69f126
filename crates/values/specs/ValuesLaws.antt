-- What the definitions of tables of values say: the best cell is the first of greatest value, and has most hits; the second-best is the best of the others by hits; the first origin is the
-- row-major first of those with the greatest value.
use Rattle.std.specs.Prelude.{◌≡◌, refl, true, List, ℕ, ◌*◌, ◌≤◌, ◌<◌, length}
use Rattle.std.proofs.Common.{sym, ap, ◌∙◌, le_refl, arith, ltb-false, eq-eqb}
use Rattle.laws.specs.Words.{count, above, origins}
use Rattle.laws.specs.Best.{above-weak, in-bound, nothing-beats}
use Rattle.laws.specs.Second.{second-in, second-not, second-best}
use Rattle.best.specs.CellTables.{Period}
use Rattle.grid.specs.BoardGrid.{grid}
use Rattle.grid.specs.RowMajorLaws.{major-only}
use Rattle.values.specs.Values.{hits_of, v_at, n_at, value_best, tied_value, value_second, value_of, first_origin}
use Rattle.values.specs.declared.table.ValueMax.{ValueMax}

-- ---- no cell has a greater value than cell k
abbrev pub Top : List ℕ → ℕ → Type 0
Top xs k = (j : ℕ) → j < length xs → v_at xs j ≤ v_at xs k

-- so none has more hits
pub more-hits : (x y : ℕ) → x ≤ y → hits_of x ≤ hits_of y
more-hits x y h = omega arith

pub best-top : (xs : List ℕ) → Top xs (value_best xs)
best-top xs j h = ltb-false (v_at xs (value_best xs)) (v_at xs j) (nothing-beats (above (v_at xs)) (length xs) (above-weak (length xs) (v_at xs)) (length xs) j (le_refl (length xs)) h)

module _ (xs : List ℕ) (two : 1 < length xs) where
  pub cell_in : value_best xs < length xs
  cell_in = in-bound (above (v_at xs)) (length xs) (length xs) (omega arith) (le_refl (length xs))

  -- ---- the second-best cell by hits is another, and no other than k has more
  module _ (k : ℕ) where
    pub second-inside : value_second xs k < length xs
    second-inside = second-in (above (n_at xs)) (length xs) k two (length xs) (le_refl (length xs))

    pub second-other : value_second xs k ≡ k → ⊥
    second-other = second-not (above (n_at xs)) (length xs) k two (length xs)

    pub second-most : (j : ℕ) → j < length xs → (j ≡ k → ⊥) → n_at xs j ≤ n_at xs (value_second xs k)
    second-most j h ne = ltb-false (n_at xs (value_second xs k)) (n_at xs j) (second-best (above (n_at xs)) (length xs) k two (above-weak (length xs) (n_at xs)) (length xs) j (le_refl (length xs)) h ne)

-- ---- what one table of n cells says of its best cell: inside, of that value itself, and how many cells have it
pub record CellTop (n : ℕ) (xs : List ℕ) (a : ValueMax) : Type 0 where
  pub cells : length xs ≡ n
  pub inside : a.cell < n
  pub itself : tied_value xs a.top a.cell ≡ true
  pub number : a.tied ≡ count n (tied_value xs a.top)

-- the same of both tables
abbrev pub PairTop : ℕ → ℕ → List ℕ → List ℕ → ValueMax → ValueMax → Type 0
PairTop L M hs vs a b = CellTop (3 * L) hs a × CellTop (3 * M) vs b

pub cell-top : (n : ℕ) (xs : List ℕ) → 1 < n → length xs ≡ n → CellTop n xs (value_of xs)
unfolding value_of
cell-top n xs two e = record {
  cells = e;
  inside = omega (arith, e, cell_in xs (omega (arith, e, two)));
  itself = eq-eqb (v_at xs (value_best xs)) (v_at xs (value_best xs)) refl;
  number = ap (λ (x : ℕ). count x (tied_value xs (v_at xs (value_best xs)))) e;
}

-- where each table has one best cell, the first origin is theirs
pub sole-pair : (L M : ℕ) (hs vs : List ℕ) (a b : ValueMax) → Period L → Period M → PairTop L M hs vs a b → a.tied ≡ 1 → b.tied ≡ 1 → (origins L M).key a.cell b.cell ≡ first_origin L M hs vs a b
sole-pair L M hs vs a b p q ok one sole =
    let h = ok.0 in
    let v = ok.1 in
    rw (h.cells, v.cells) (sym (major-only (origins L M) (3 * M) (tied_value hs a.top) (tied_value vs b.top) (3 * L) a.cell b.cell h.inside v.inside h.itself v.itself (sym h.number ∙ one) (sym v.number ∙ sole) ((grid L M p q).under a.cell b.cell h.inside v.inside)))
