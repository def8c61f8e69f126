-- Crediting a table that holds one number for each cell, of any kind: a run of classes, cell by cell, and the two runs that make a family. `takes x y` says that a
-- cell that holds x has room for y more.
use Rattle.std.specs.Prelude.{◌≡◌, Bool, List, ℕ, ◌+◌, ◌*◌, ◌-◌, ◌≤◌, ◌<◌, get_or, length, set, drop}
use Rattle.std.proofs.Common.{arith}
use Rattle.laws.specs.Zone.{Zone}
use Rattle.board.specs.Hits.{Board}
use Rattle.board.specs.Sides.{table_of, period_of}
use Rattle.room.specs.declared.Side.{Side}
use Rattle.room.specs.Room.{is_horizontal}
use Rattle.cells.specs.Spread.{Spread, spread_none}
use Rattle.cells.specs.Cells.{short_class}
use Rattle.cells.specs.Credit.{run_place, entry, run_term, RunPlaces, cell_pattern, FamilyPlaces}
use Rattle.cells.specs.LayoutLaws.{stand}
use Rattle.cells.specs.RunLaws.{in-run, cell-place, cell-term, cell-fresh, cell-added, first-places, first-inside, first_holds, second-place, second-places, second-inside, second-fresh, second_holds, family-zone}

-- ---- what a run of n classes asks: its places are there, and each cell has room for its term
module _ {A : Type 0} (z : A) (takes : A → A → Type 0) where
  pub record RunReadyOf (terms : List (List A)) (part : List ℕ) (n at stride across : ℕ) (a : List A) : Type 0 where
    pub places : RunPlaces part n at stride across
    pub inside : (j : ℕ) → j < n * 3 → run_place at stride across j < length a
    pub fits : (j : ℕ) → j < n * 3 → takes (get_or a (run_place at stride across j) z) (run_term z terms part j)

-- the first q cells have their term added, and nothing else changed
abbrev pub RunCellsOf : {A : Type 0} → A → (A → A → A) → List (List A) → List ℕ → ℕ → ℕ → ℕ → ℕ → List A → List A → Type 0
RunCellsOf z op terms part at stride across q a a' = Spread z op (run_place at stride across) (run_term z terms part) q a a'

-- ---- a run, cell by cell
module _ {A : Type 0} (z : A) (op : A → A → A) (takes : A → A → Type 0) (terms : List (List A)) (part : List ℕ) (n at stride across : ℕ) (a : List A) (R : RunReadyOf z takes terms part n at stride across a) where
  pub run_none : RunCellsOf z op terms part at stride across 0 a a
  run_none = spread_none z op (run_place at stride across) _ a

  -- the cell at place k, of short class j of class i, is the q-th
  module _ (i j q k : ℕ) (x : A) (hi : i < n) (hj : j < 3) (eq : q ≡ i * 3 + j) (ek : k ≡ at + (i * stride + j * across)) (ex : x ≡ entry z terms (get_or part i 0) j)
      (a' : List A) (r : RunCellsOf z op terms part at stride across q a a') where
    q-in : q < n * 3
    q-in = in-run part n at stride across R.places i j q k hi hj eq ek

    said : x ≡ run_term z terms part q
    said = cell-term part n at stride across R.places i j q k hi hj eq ek z terms x ex

    -- it has room for its term
    pub run_room : (k < length a') × takes (get_or a' k z) x
    run_room =
        let b : run_place at stride across q < length a' = omega (arith, R.inside q q-in, r.len) in
        let f : takes (get_or a' (run_place at stride across q) z) (run_term z terms part q) = rw (r.rest (run_place at stride across q) (cell-fresh part n at stride across R.places i j q k hi hj eq ek)) (R.fits q q-in) in
        rw (cell-place part n at stride across R.places i j q k hi hj eq ek, said) (b, f)

    -- and has it added
    pub run_more : (q' : ℕ) → q' ≡ q + 1 → (a'' : List A) → a'' ≡ set a' k (op (get_or a' k z) x) → RunCellsOf z op terms part at stride across q' a a''
    run_more q' e a'' p = rw e (cell-added part n at stride across R.places i j q k hi hj eq ek z op _ a a' a'' x r (R.inside q q-in) said p)

-- ---- a family, where its terms stand in a table: cell k gets `gain k`
module _ {A : Type 0} (z : A) (op : A → A → A) (takes : A → A → Type 0) (B : Board) (d : Side) (f : ℕ) (P : FamilyPlaces B d f) (a : List A) (room : d.cells + 3 * period_of B (is_horizontal d) ≤ length a)
    (t : List (List A)) (gain : ℕ → A) (gains : (k : ℕ) → k < 3 * period_of B (is_horizontal d) → entry z t (cell_pattern B (is_horizontal d) f k) (short_class B (is_horizontal d) k) ≡ gain k)
    (fits : (k : ℕ) → k < 3 * period_of B (is_horizontal d) → takes (get_or a (d.cells + k) z) (gain k)) where
  abbrev s : Bool
  s = is_horizontal d

  abbrev cells : ℕ
  cells = d.cells

  abbrev ps : List ℕ
  ps = table_of B s

  abbrev n₁ : ℕ
  n₁ = length ps - f

  abbrev Room : ℕ → A → Type 0
  Room k x = takes (get_or a k z) x

  pub first_run : (n : ℕ) → n ≡ n₁ → RunReadyOf z takes t (drop f ps) n cells d.stride d.across a
  first_run n e = rw e (record { places = first-places B d f P; inside = first-inside B d f P (length a) room; fits = first_holds B d f P z t gain gains Room fits })

  -- the second run, after the first
  module _ (a₁ : List A) (r₁ : RunCellsOf z op t (drop f ps) cells d.stride d.across (n₁ * 3) a a₁) where
    pub second_run : (at : ℕ) → at ≡ cells + n₁ * d.stride → RunReadyOf z takes t (drop 0 ps) f at d.stride d.across a₁
    second_run at e = rw e (record {
      places = second-places B d f P;
      inside = second-inside B d f P (length a₁) (omega (arith, room, r₁.len));
      fits = λ j h.
          rw (second-place B d f P, r₁.rest (cells + stand B s (n₁ * 3 + j)) (second-fresh B d f P j h))
          (second_holds B d f P z t gain gains Room fits j h);
    })

    pub both_runs : (a₂ : List A) → RunCellsOf z op t (drop 0 ps) (cells + n₁ * d.stride) d.stride d.across (f * 3) a₁ a₂ → Zone z (λ k. op (get_or a (cells + k) z) (gain k)) cells (3 * period_of B s) a a₂
    both_runs a₂ r₂ = family-zone B d f P z t gain gains z op (λ x. x) a a₁ a₂ r₁ r₂
