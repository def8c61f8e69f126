-- Laws of the parts of `build_units`: an edge more in the groups, two runs that make a family, a family more of a side.
use Rattle.std.specs.Prelude.{◌≡◌, refl, Bool, false, List, ℕ, ◌+◌, ◌*◌, ◌-◌, ◌^◌, ◌<◌, eqb, get_or, length, set, drop}
use Rattle.std.proofs.Common.{sym, ap, ◌∙◌, add-zero, arith, eq-eqb}
use Rattle.laws.specs.Words.{fold, all}
use Rattle.laws.specs.Fold.{fold-zero, fold-hit}
use Rattle.laws.specs.Zone.{zone-none}
use Rattle.board.specs.Hits.{EdgeList, Board, size}
use Rattle.board.specs.Sides.{table_of, period_of}
use Rattle.board.proofs.HitsLaws.{side-some}
use Rattle.room.specs.declared.Side.{Side}
use Rattle.room.specs.Room.{row_length, is_horizontal}
use Rattle.groups.specs.Fill.{place_at, row_sum}
use Rattle.groups.specs.FillLaws.{row_more}
use Rattle.terms.specs.Terms.{places_n}
use Rattle.terms.specs.TermsLaws.{no-term}
use Rattle.unit_terms.specs.UnitTerms.{ValueTerms}
use Rattle.unit_terms.specs.UnitTermsLaws.{value-terms-at}
use Rattle.cells.specs.Cells.{long_class, short_class}
use Rattle.cells.specs.Credit.{entry, cell_pattern, gain_c}
use Rattle.cells.specs.LayoutLaws.{short-below}
use Rattle.cells.specs.RunLaws.{pattern-small}
use Rattle.tables.specs.Runs.{first_run, second_run, both_runs}
use Rattle.tables.specs.SideLaws.{counts-none, next-few, six-few, counts-more}
use Rattle.units.specs.Units.{value_at}
use Rattle.units.specs.UnitParts.{UnitsFillReady, UnitsFilled, takes_u, RunReadyU, RunCreditedU, FamilyReadyU, FamilyCreditedU, SideReadyU, SideCellsU}
use Rattle.units.specs.UnitsLaws.{values-few}

-- ---- groups
-- what can be filled, and what is filled, by the periods and by numbers that equal them
module _ (L M n m : ℕ) (E : EdgeList) (t base : ℕ) (e : n ≡ L) (f : m ≡ M) where
  pub ready-held_u : (a : List ℕ) → UnitsFillReady L M E t base a → UnitsFillReady n m E t base a
  ready-held_u a R = rw (e, f) R

  pub filled-held_u : (i k : ℕ) → k ≡ i → (a a' : List ℕ) → UnitsFilled n m E t base k a a' → UnitsFilled L M E t base i a a'
  filled-held_u i k q a a' F = rw (e, f, q) at F

module _ (L M : ℕ) (E : EdgeList) (t base : ℕ) (a : List ℕ) (R : UnitsFillReady L M E t base a) where
  pub units-none : UnitsFilled L M E t base 0 a a
  units-none = zone-none 0 _ base (row_length L M) a (λ k b. R.clear k b ∙ sym (fold-zero ◌+◌ 0 (λ i. eqb (place_at L M E t i) k) (value_at E)))

  -- edge i, whose group stands at place p of the row
  module _ (i p : ℕ) (hi : i < size E) (hp : p < row_length L M) (ep : p ≡ place_at L M E t i) (a' : List ℕ) (z : UnitsFilled L M E t base i a a') where
    -- there is room for its value
    pub unit-room : (base + p < length a') × (get_or a' (base + p) 0 + value_at E i < 2 ^ 64)
    unit-room =
        let b : get_or a' (base + p) 0 ≡ row_sum ◌+◌ 0 (value_at E) L M E t i p = z.inside p hp in
        let f : row_sum ◌+◌ 0 (value_at E) L M E t (i + 1) p ≡ row_sum ◌+◌ 0 (value_at E) L M E t i p + value_at E i = fold-hit ◌+◌ 0 (λ e. eqb (place_at L M E t e) p) (value_at E) i (eq-eqb (place_at L M E t i) p (sym ep)) in
        (omega (arith, R.room, z.len), omega (arith, values-few E R.list (i + 1) (λ e. eqb (place_at L M E t e) p) (omega arith)))

    pub units-more : (a'' : List ℕ) → a'' ≡ set a' (base + p) (get_or a' (base + p) 0 + value_at E i) → UnitsFilled L M E t base (i + 1) a a''
    units-more a'' e = rw e (row_more 0 ◌+◌ 0 (value_at E) L M E t base i p a a' z R.room ep hp)

-- ---- a family, where its terms stand in a table
module _ (B : Board) (d : Side) (f : ℕ) (a : List ℕ) (R : FamilyReadyU B d f a) (t : List (List ℕ)) (T : ValueTerms (places_n (d.groups + f * 6) a) t) where
  abbrev s : Bool
  s = is_horizontal d

  abbrev ps : List ℕ
  ps = table_of B s

  abbrev n₁ : ℕ
  n₁ = length ps - f

  abbrev gain : ℕ → ℕ
  gain = gain_c B s f (d.groups + f * 6) a

  gains : (k : ℕ) → k < 3 * period_of B s → entry 0 t (cell_pattern B s f k) (short_class B s k) ≡ gain k
  gains k h =
      value-terms-at (places_n (d.groups + f * 6) a) t (cell_pattern B s f k) (short_class B s k) T (pattern-small B d f R.places (long_class B s k + f)) (short-below B (side-some B R.places.board) k s h)

  pub first-ready_u : (n : ℕ) → n ≡ n₁ → RunReadyU t (drop f ps) n d.cells d.stride d.across a
  first-ready_u = first_run 0 ◌+◌ takes_u B d f R.places a R.room t gain gains R.fits

  -- the second run, after the first
  module _ (a₁ : List ℕ) (r₁ : RunCreditedU t (drop f ps) n₁ d.cells d.stride d.across a a₁) where
    pub second-ready_u : (at : ℕ) → at ≡ d.cells + n₁ * d.stride → RunReadyU t (drop 0 ps) f at d.stride d.across a₁
    second-ready_u = second_run 0 ◌+◌ takes_u B d f R.places a R.room t gain gains R.fits a₁ r₁

    pub family-credited_u : (a₂ : List ℕ) → RunCreditedU t (drop 0 ps) f (d.cells + n₁ * d.stride) d.stride d.across a₁ a₂ → FamilyCreditedU B d f a a₂
    family-credited_u = both_runs 0 ◌+◌ takes_u B d f R.places a R.room t gain gains R.fits a₁ r₁

-- ---- a family that holds no edge: nothing is stored
pub family-empty_u : (B : Board) (d : Side) (f : ℕ) (a : List ℕ) → fold ◌+◌ 0 6 all (places_n (d.groups + f * 6) a) ≡ 0 → FamilyCreditedU B d f a a
family-empty_u B d f a none =
    let s = is_horizontal d in
    let v = places_n (d.groups + f * 6) a in
    zone-none 0 _ d.cells (3 * period_of B s) a (λ k h. sym (ap (λ x. places_n d.cells a k + x) (no-term v none (cell_pattern B s f k) (short_class B s k) ◌+◌ 0 false (λ b. v)) ∙ add-zero (places_n d.cells a k)))

-- ---- a side, family by family
module _ (B : Board) (d : Side) (a : List ℕ) (R : SideReadyU B d a) where
  pub side-none_u : SideCellsU B d 0 a a
  side-none_u = counts-none B d a R.clear

  module _ (f : ℕ) (h : f < period_of B (is_horizontal d)) (a' : List ℕ) (b : SideCellsU B d f a a') where
    pub family-ready_u : FamilyReadyU B d f a'
    family-ready_u = record {
      places = record { board = R.board; steps = R.steps; in_table = h };
      six = record { inside = omega (arith, R.room, b.len); few = omega (arith, six-few B d a R.apart f a' b h, R.few) };
      room = omega (arith, R.apart, R.room, b.len);
      fits = λ k l. omega (arith, next-few B d a R.apart f a' b h k l, R.few);
    }

    pub side-more_u : (a'' : List ℕ) → FamilyCreditedU B d f a' a'' → SideCellsU B d (f + 1) a a''
    side-more_u = counts-more B d a R.apart f a' b (f + 1) refl
