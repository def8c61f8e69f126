-- The room at each stage of `build_units`: cleared, the groups filled, the horizontal cells built, then the vertical ones.
use Rattle.std.specs.Prelude.{◌≡◌, refl, Bool, true, false, cond, List, ℕ, ◌+◌, ◌<◌}
use Rattle.std.proofs.Common.{ap, subst, ◌∙◌, le_refl, arith}
use Rattle.laws.specs.Words.{all, cleared}
use Rattle.laws.specs.Cleared.{cleared-written}
use Rattle.laws.specs.Written.{Written}
use Rattle.laws.specs.declared.Periods.{Periods}
use Rattle.board.specs.Hits.{EdgeList, Board, size}
use Rattle.board.specs.Sides.{is, period_of}
use Rattle.board.proofs.HitsLaws.{side-some}
use Rattle.room.specs.declared.Side.{Side}
use Rattle.room.specs.Room.{PeriodsOk, cells_end, used, is_horizontal, side_of, Stands, Laid}
use Rattle.room.specs.RoomLaws.{board-periods, cells_in, side-stands, groups-in, groups-past, laid-ext}
use Rattle.terms.specs.Terms.{places_n}
use Rattle.tables.specs.Stages.{both, filled, grouped-few, side-numbers}
use Rattle.units.specs.Units.{value_at, cell_value, group_value, UnitsReady, UnitsBuilt}
use Rattle.units.specs.UnitParts.{UnitsFillReady, UnitsFilled, SideReadyU, SideBuiltU}
use Rattle.units.specs.UnitsLaws.{values-few, cell-value}

-- built at a side, whichever way its value is written
built-at_u : (B : Board) (d d' : Side) → d ≡ d' → (a a' : List ℕ) → SideBuiltU B d a a' → SideBuiltU B d' a a'
built-at_u B d d' e a a' b = subst (λ (x : Side). SideBuiltU B x a a') e b

module _ (B : Board) (E : EdgeList) (t : ℕ) (a₀ : List ℕ) (R : UnitsReady B E t a₀) where
  abbrev P : Bool → ℕ
  P = period_of B

  -- the periods by value
  abbrev both-periods : Periods
  both-periods = record { h = P true; v = P false }

  some : (s : Bool) → 0 < P s
  some = side-some B R.board

  pub periods-ok_u : PeriodsOk both-periods
  periods-ok_u = board-periods B R.board

  -- a side whose groups stand
  module _ (d : Side) (S : Stands P d) (C : Bool → ℕ → ℕ) (a : List ℕ) (l : Laid 0 P 1 C (λ i. group_value B E t) a₀ a) where
    abbrev s : Bool
    s = is_horizontal d

    -- ready to be built, if its cells are clear
    side-ready_u : ((k : ℕ) → C s k ≡ 0) → SideReadyU B d a
    side-ready_u z = record {
      board = R.board;
      steps = (S.stride, S.across);
      apart = omega (arith, S.cells, S.groups, cells_in P s, groups-past P 0 s);
      room = omega (arith, S.groups, groups-in P 1 0 (omega arith) s, R.room, l.len);
      few = omega (arith, grouped-few B E t (value_at E) d S C a₀ a l, values-few E R.list (size E) all (le_refl (size E)));
      clear = λ k h. ap (λ x. places_n x a k) S.cells ∙ l.cells s k h ∙ z k;
    }

    -- built: the side's cells stand too
    side-values : (a' : List ℕ) → SideBuiltU B d a a' → Laid 0 P 1 (λ s' k. cond (is s s') (cell_value B E t s k) (C s' k)) (λ i. group_value B E t) a₀ a'
    side-values = side-numbers B E t (value_at E) d S C a₀ a l (cell_value B E t s) (cell-value B E t some R.list.bit s)

  -- ---- cleared, then filled, then the two sides, one after the other: d and d' as the code was told of them
  abbrev side : Bool → Side
  side = side_of both-periods

  module _ (end : ℕ) (ee : end ≡ used P 1) (a₁ : List ℕ) (e : a₁ ≡ cleared 0 end a₀) (d : Side) (ed : d ≡ side true) where
    clear : Written 0 (λ k. 0) a₀ a₁ (used P 1)
    clear = rw (e, ee) (cleared-written 0 0 (used P 1) a₀ R.room)

    fill-ready_u : UnitsFillReady (P true) (P false) E t (cells_end P) a₁
    fill-ready_u = record {
      list = R.list;
      transform = R.transform;
      periods = periods-ok_u;
      room = omega (arith, R.room, clear.len);
      clear = λ k h. clear.front (cells_end P + k) (omega arith);
    }

    pub groups-ready_u : UnitsFillReady (P true) (P false) E t d.groups a₁
    groups-ready_u = rw ed fill-ready_u

    module _ (a₂ : List ℕ) (F : UnitsFilled (P true) (P false) E t d.groups (size E) a₁ a₂) where
      l₂ : Laid 0 P 1 (λ s k. 0) (λ i. group_value B E t) a₀ a₂
      l₂ = filled 0 0 ◌+◌ (value_at E) B E t (some true) R.list.bit a₀ a₁ a₂ clear (subst (λ (x : Side). UnitsFilled (P true) (P false) E t x.groups (size E) a₁ a₂) ed F)

      pub h-ready_u : SideReadyU B d a₂
      h-ready_u = rw ed (side-ready_u (side true) (side-stands P true) (λ s k. 0) a₂ l₂ (λ k. refl))

      module _ (a₃ : List ℕ) (bh : SideBuiltU B d a₂ a₃) (d' : Side) (ed' : d' ≡ side false) where
        abbrev half : Bool → ℕ → ℕ
        half s k = cond s (cell_value B E t true k) 0

        l₃ : Laid 0 P 1 half (λ i. group_value B E t) a₀ a₃
        l₃ = side-values (side true) (side-stands P true) (λ s k. 0) a₂ l₂ a₃ (built-at_u B d (side true) ed a₂ a₃ bh)

        pub v-ready_u : SideReadyU B d' a₃
        v-ready_u = rw ed' (side-ready_u (side false) (side-stands P false) half a₃ l₃ (λ k. refl))

        pub units-built : (a₄ : List ℕ) → SideBuiltU B d' a₃ a₄ → UnitsBuilt B E t a₀ a₄
        units-built a₄ bv =
            laid-ext 0 P 1 _ (cell_value B E t) (λ i. group_value B E t) a₀ a₄ (both (cell_value B E t) 0)
            (side-values (side false) (side-stands P false) half a₃ l₃ a₄ (built-at_u B d' (side false) ed' a₃ a₄ bv))
