-- The room at each stage of `build_tables`: cleared, the groups filled, the horizontal cells built, then the vertical ones.
use Rattle.std.specs.Prelude.{◌≡◌, refl, Bool, true, cond, List, Float}
use Rattle.std.proofs.Common.{ap, subst, ◌∙◌, one-mul, zero-mul, zero-add, le_of_eq, arith}
use Rattle.std.proofs.Math.Bool.{false}
use Prim.Native.Nat.{ℕ, zero, suc, ◌+◌, ◌*◌, ◌≤◌, ◌<◌}
use Rattle.std.proofs.Math.Nat.{le_trans}
use Rattle.std.specs.Float.Ieee.{nan, add}
use Rattle.std.specs.Float.{binary32}
use Rattle.laws.specs.Words.{fold, all, one, zero_f, cleared}
use Rattle.laws.specs.Cleared.{cleared-written}
use Rattle.laws.specs.Counting.{count-le}
use Rattle.laws.specs.DoubleCounting.{fold-ext}
use Rattle.laws.specs.WeightLaws.{upto-weight}
use Rattle.laws.specs.Written.{Written}
use Rattle.laws.specs.Zone.{Zone, zone-ext}
use Rattle.board.specs.Hits.{EdgeList, Board, size, seen}
use Rattle.board.specs.Sides.{is, table_of, period_of}
use Rattle.board.proofs.HitsLaws.{side-some}
use Rattle.laws.specs.declared.Periods.{Periods}
use Rattle.room.specs.declared.Side.{Side}
use Rattle.groups.specs.Groups.{member, group_sum, confidence_at, group_count, group_weight}
use Rattle.room.specs.Room.{PeriodsOk, row_length, cells_at, cells_end, used, is_horizontal, side_of, Stands, Laid}
use Rattle.terms.specs.Terms.{places_n, places_f}
use Rattle.cells.specs.Cells.{long_class, short_class, cell_sum, family_c, cell_count, cell_weight}
use Rattle.tables.specs.CellsLaws.{same-cell, cell-count, total-numbers, group-upto}
use Rattle.groups.specs.Fill.{FillReady, Filled, row_sum}
use Rattle.groups.specs.FillLaws.{row-side}
use Rattle.tables.specs.Side.{total, cell_c, cell_w, SideReady, SideBuilt}
use Rattle.tables.specs.Built.{TablesReady, TablesBuilt}
use Rattle.room.specs.RoomLaws.{board-periods, cells_in, side-stands, groups-in, groups-past, laid-ext, laid-clear, laid-groups, laid_cells}

-- ---- of any sum: the groups of both sides, filled in one row, are the groups of each side
pub row-groups : {A : Type 0} (op : A → A → A) (z : A) (f : ℕ → A) (B : Board) (E : EdgeList) (t : ℕ) → 0 < period_of B true → ((i : ℕ) → i < size E → seen E i < 2) → (s : Bool) (k : ℕ) → k < period_of B s * 6
    → row_sum op z f (period_of B true) (period_of B false) E t (size E) (cond s 0 (period_of B true * 6) + k) ≡ fold op z (size E) (member B E t s k) f
row-groups op z f B E t some bits s k h = row-side op z f B E t some bits s k (λ e. subst (λ (x : Bool). k < period_of B x * 6) e h)

-- filled from clear room: one row of groups stands, and no cells
pub filled : {A : Type 0} (d z : A) (op : A → A → A) (f : ℕ → A) (B : Board) (E : EdgeList) (t : ℕ) → 0 < period_of B true → ((i : ℕ) → i < size E → seen E i < 2) → (a₀ a₁ a₂ : List A)
    → Written d (λ k. z) a₀ a₁ (used (period_of B) 1)
    → Zone d (row_sum op z f (period_of B true) (period_of B false) E t (size E)) (cells_end (period_of B)) (row_length (period_of B true) (period_of B false)) a₁ a₂
    → Laid d (period_of B) 1 (λ s k. z) (λ i. group_sum op z f B E t) a₀ a₂
filled d z op f B E t some bits a₀ a₁ a₂ u z' =
    laid-groups d (period_of B) 1 (λ s k. z) (λ i s k. z) (λ i. group_sum op z f B E t) (row_sum op z f (period_of B true) (period_of B false) E t (size E)) a₀ a₁ a₂
    (laid-clear d (period_of B) 1 z a₀ a₁ u)
    (rw (one-mul (row_length (period_of B true) (period_of B false))) z')
    (λ i l s k h. ap (row_sum op z f (period_of B true) (period_of B false) E t (size E)) (only i l s k) ∙ row-groups op z f B E t some bits s k h)
  where
    only : (i : ℕ) → i < 1 → (s : Bool) (k : ℕ) → i * row_length (period_of B true) (period_of B false) + (cond s 0 (period_of B true * 6) + k) ≡ cond s 0 (period_of B true * 6) + k
    only zero l s k = ap (λ x. x + (cond s 0 (period_of B true * 6) + k)) (zero-mul (row_length (period_of B true) (period_of B false))) ∙ zero-add (cond s 0 (period_of B true * 6) + k)
    only (suc i) l s k = absurd (omega arith)

-- ---- a side whose groups stand, of counts and of whatever adds up as they do, where edge i adds x i
module _ (B : Board) (E : EdgeList) (t : ℕ) (x : ℕ → ℕ) (d : Side) (S : Stands (period_of B) d) (C : Bool → ℕ → ℕ) (a₀ a : List ℕ) (l : Laid 0 (period_of B) 1 C (λ i. group_sum ◌+◌ 0 x B E t) a₀ a) where
  abbrev on_h : Bool
  on_h = is_horizontal d

  pub grouped : (k : ℕ) → k < period_of B on_h * 6 → places_n d.groups a k ≡ group_sum ◌+◌ 0 x B E t on_h k
  grouped k h = ap (λ y. places_n y a k) S.groups ∙ l.groups 0 (omega arith) on_h k h

  -- its groups hold no more than the list
  pub grouped-few : total (places_n d.groups a) (period_of B on_h) ≤ fold ◌+◌ 0 (size E) all x
  unfolding total
  grouped-few = le_trans (le_of_eq (fold-ext ◌+◌ 0 (period_of B on_h * 6) all all (places_n d.groups a) (group_sum ◌+◌ 0 x B E t on_h) (λ k l. refl) grouped)) (total-numbers B E t x on_h (period_of B on_h))

  -- built: its cells stand too, and hold Q, if that is what the families add up to
  pub side-numbers : (Q : ℕ → ℕ) → ((k : ℕ) → cell_sum ◌+◌ 0 (family_c (group_sum ◌+◌ 0 x B E t on_h)) (table_of B on_h) (period_of B on_h) (long_class B on_h k) (short_class B on_h k) ≡ Q k)
      → (a' : List ℕ) → Zone 0 (cell_c B d a (period_of B on_h)) d.cells (3 * period_of B on_h) a a' → Laid 0 (period_of B) 1 (λ s k. cond (is on_h s) (Q k) (C s k)) (λ i. group_sum ◌+◌ 0 x B E t) a₀ a'
  side-numbers Q e a' b =
      laid_cells 0 (period_of B) 1 on_h C (λ i. group_sum ◌+◌ 0 x B E t) Q a₀ a a' l
      (zone-ext 0 _ _ (cells_at (period_of B) on_h) (3 * period_of B on_h) a a'
      (λ k h. same-cell ◌+◌ 0 false (places_n d.groups a) (group_sum ◌+◌ 0 x B E t on_h) (λ b. places_n d.groups a) (λ b. group_sum ◌+◌ 0 x B E t on_h) (period_of B on_h) grouped (λ b. grouped) (table_of B on_h) (long_class B on_h k) (short_class B on_h k) ∙ e k)
      (subst (λ y. Zone 0 (cell_c B d a (period_of B on_h)) y (3 * period_of B on_h) a a') S.cells b))

-- the horizontal cells, then the vertical ones: the cells of each side
pub both : {A : Type 0} (C : Bool → ℕ → A) (z : A) (s : Bool) (k : ℕ) → cond (is false s) (C false k) (cond s (C true k) z) ≡ C s k
both C z true k = refl
both C z false k = refl

-- built at a side, whichever way its value is written
built-at : (B : Board) (d d' : Side) → d ≡ d' → (c c' : List ℕ) (w w' : List Float) → SideBuilt B d c c' w w' → SideBuilt B d' c c' w w'
built-at B d d' e c c' w w' b = subst (λ (x : Side). SideBuilt B x c c' w w') e b

-- ---- the tables of one transform
module _ (B : Board) (E : EdgeList) (t : ℕ) (c₀ : List ℕ) (w₀ : List Float) (R : TablesReady B E t c₀ w₀) where
  abbrev P : Bool → ℕ
  P = period_of B

  -- the periods by value
  abbrev both-periods : Periods
  both-periods = record { h = P true; v = P false }

  some : (s : Bool) → 0 < P s
  some = side-some B R.board

  pub periods-ok : PeriodsOk both-periods
  periods-ok = board-periods B R.board

  -- cleared: ready to fill
  module _ (end : ℕ) (ee : end ≡ used P 1) (c₁ : List ℕ) (w₁ : List Float) (ec : c₁ ≡ cleared 0 end c₀) (ew : w₁ ≡ cleared zero_f end w₀) where
    uc : Written 0 (λ k. 0) c₀ c₁ (used P 1)
    uc = rw (ec, ee) (cleared-written 0 0 (used P 1) c₀ R.room.0)

    uw : Written nan (λ k. zero_f) w₀ w₁ (used P 1)
    uw = rw (ew, ee) (cleared-written nan zero_f (used P 1) w₀ R.room.1)

    pub fill-ready : FillReady (P true) (P false) E t (cells_end P) c₁ w₁
    fill-ready = record {
      list = R.list;
      transform = R.transform;
      periods = periods-ok;
      room = (omega (arith, R.room.0, uc.len), omega (arith, R.room.1, uw.len));
      counts = λ k h. uc.front (cells_end P + k) (omega arith);
      weights = λ k h. uw.front (cells_end P + k) (omega arith);
    }

    -- filled: the groups stand, and no cells
    module _ (c₂ : List ℕ) (w₂ : List Float) (F : Filled (P true) (P false) E t (cells_end P) (size E) c₁ c₂ w₁ w₂) where
      pub filled-counts : Laid 0 P 1 (λ s k. 0) (λ i. group_count B E t) c₀ c₂
      filled-counts = filled 0 0 ◌+◌ one B E t (some true) R.list.bit c₀ c₁ c₂ uc F.counts

      pub filled-weights : Laid nan P 1 (λ s k. zero_f) (λ i. group_weight B E t) w₀ w₂
      filled-weights = filled nan zero_f (add binary32) (confidence_at E) B E t (some true) R.list.bit w₀ w₁ w₂ uw F.weights

  -- a side whose groups stand
  module _ (d : Side) (S : Stands P d) (C : Bool → ℕ → ℕ) (W : Bool → ℕ → Float) (c : List ℕ) (w : List Float)
      (lc : Laid 0 P 1 C (λ i. group_count B E t) c₀ c) (lw : Laid nan P 1 W (λ i. group_weight B E t) w₀ w) where
    abbrev s : Bool
    s = is_horizontal d

    abbrev g : ℕ
    g = d.groups

    grouped_c : (k : ℕ) → k < P s * 6 → places_n g c k ≡ group_count B E t s k
    grouped_c = grouped B E t one d S C c₀ c lc

    grouped_w : (k : ℕ) → k < P s * 6 → places_f g w k ≡ group_weight B E t s k
    grouped_w k h = ap (λ x. places_f x w k) S.groups ∙ lw.groups 0 (omega arith) s k h

    few : total (places_n g c) (P s) ≤ 8192
    few = omega (arith, grouped-few B E t one d S C c₀ c lc, count-le all (size E), R.list.few)

    -- ready to be built, if its cells are clear
    pub side-ready : ((k : ℕ) → C s k ≡ 0) → ((k : ℕ) → W s k ≡ zero_f) → SideReady B d c w
    side-ready zc zw = record {
      board = R.board;
      steps = (S.stride, S.across);
      apart = omega (arith, S.cells, S.groups, cells_in P s, groups-past P 0 s);
      room = (omega (arith, S.groups, groups-in P 1 0 (omega arith) s, R.room.0, lc.len), omega (arith, S.groups, groups-in P 1 0 (omega arith) s, R.room.1, lw.len));
      few = few;
      light = λ k h. rw (grouped_c k h, grouped_w k h) (upto-weight (group_weight B E t s k) (group_count B E t s k) (group-upto B E t (omega (arith, R.list.few)) R.list.confidence s k));
      clear_c = λ k h. ap (λ x. places_n x c k) S.cells ∙ lc.cells s k h ∙ zc k;
      clear_w = λ k h. ap (λ x. places_f x w k) S.cells ∙ lw.cells s k h ∙ zw k;
    }

    -- built: the side's cells stand too
    module _ (c' : List ℕ) (w' : List Float) (b : SideBuilt B d c c' w w') where
      pub side-counts : Laid 0 P 1 (λ s' k. cond (is s s') (cell_count B E t s k) (C s' k)) (λ i. group_count B E t) c₀ c'
      side-counts = side-numbers B E t one d S C c₀ c lc (cell_count B E t s) (cell-count B E t some R.list.bit s) c' b.counts

      pub side-weights : Laid nan P 1 (λ s' k. cond (is s s') (cell_weight B E t s k) (W s' k)) (λ i. group_weight B E t) w₀ w'
      unfolding cell_weight
      side-weights =
          laid_cells nan P 1 s W (λ i. group_weight B E t) (cell_weight B E t s) w₀ w w' lw
          (zone-ext nan _ _ (cells_at P s) (3 * P s) w w'
          (λ k h. same-cell (add binary32) zero_f false (places_n g c) (group_count B E t s) (λ b. places_f g w) (λ b. group_weight B E t s) (P s) grouped_c (λ b. grouped_w) (table_of B s) (long_class B s k) (short_class B s k))
          (subst (λ x. Zone nan (cell_w B d c w (P s)) x (3 * P s) w w') S.cells b.weights))

  -- ---- the two sides, one after the other: d and d' as the code was told of them
  abbrev side : Bool → Side
  side = side_of both-periods

  module _ (end : ℕ) (ee : end ≡ used P 1) (c₁ : List ℕ) (w₁ : List Float) (ec : c₁ ≡ cleared 0 end c₀) (ew : w₁ ≡ cleared zero_f end w₀) (d : Side) (ed : d ≡ side true) where
    pub groups-ready : FillReady (P true) (P false) E t d.groups c₁ w₁
    groups-ready = rw ed (fill-ready end ee c₁ w₁ ec ew)

    module _ (c₂ : List ℕ) (w₂ : List Float) (F : Filled (P true) (P false) E t d.groups (size E) c₁ c₂ w₁ w₂) where
      F' : Filled (P true) (P false) E t (cells_end P) (size E) c₁ c₂ w₁ w₂
      F' = subst (λ (x : Side). Filled (P true) (P false) E t x.groups (size E) c₁ c₂ w₁ w₂) ed F

      abbrev lc₂ : Laid 0 P 1 (λ s k. 0) (λ i. group_count B E t) c₀ c₂
      lc₂ = filled-counts end ee c₁ w₁ ec ew c₂ w₂ F'

      abbrev lw₂ : Laid nan P 1 (λ s k. zero_f) (λ i. group_weight B E t) w₀ w₂
      lw₂ = filled-weights end ee c₁ w₁ ec ew c₂ w₂ F'

      pub h-ready : SideReady B d c₂ w₂
      h-ready = rw ed (side-ready (side true) (side-stands P true) (λ s k. 0) (λ s k. zero_f) c₂ w₂ lc₂ lw₂ (λ k. refl) (λ k. refl))

      module _ (c₃ : List ℕ) (w₃ : List Float) (bh : SideBuilt B d c₂ c₃ w₂ w₃) (d' : Side) (ed' : d' ≡ side false) where
        abbrev half-c : Bool → ℕ → ℕ
        half-c s k = cond s (cell_count B E t true k) 0

        abbrev half-w : Bool → ℕ → Float
        half-w s k = cond s (cell_weight B E t true k) zero_f

        lc₃ : Laid 0 P 1 half-c (λ i. group_count B E t) c₀ c₃
        lc₃ = side-counts (side true) (side-stands P true) (λ s k. 0) (λ s k. zero_f) c₂ w₂ lc₂ lw₂ c₃ w₃ (built-at B d (side true) ed c₂ c₃ w₂ w₃ bh)

        lw₃ : Laid nan P 1 half-w (λ i. group_weight B E t) w₀ w₃
        lw₃ = side-weights (side true) (side-stands P true) (λ s k. 0) (λ s k. zero_f) c₂ w₂ lc₂ lw₂ c₃ w₃ (built-at B d (side true) ed c₂ c₃ w₂ w₃ bh)

        pub v-ready : SideReady B d' c₃ w₃
        v-ready = rw ed' (side-ready (side false) (side-stands P false) half-c half-w c₃ w₃ lc₃ lw₃ (λ k. refl) (λ k. refl))

        pub tables-built : (c₄ : List ℕ) (w₄ : List Float) → SideBuilt B d' c₃ c₄ w₃ w₄ → TablesBuilt B E t c₀ c₄ w₀ w₄
        tables-built c₄ w₄ b =
            let bv = built-at B d' (side false) ed' c₃ c₄ w₃ w₄ b in
            record {
              counts = laid-ext 0 P 1 _ (cell_count B E t) (λ i. group_count B E t) c₀ c₄ (both (cell_count B E t) 0) (side-counts (side false) (side-stands P false) half-c half-w c₃ w₃ lc₃ lw₃ c₄ w₄ bv);
              weights = laid-ext nan P 1 _ (cell_weight B E t) (λ i. group_weight B E t) w₀ w₄ (both (cell_weight B E t) zero_f) (side-weights (side false) (side-stands P false) half-c half-w c₃ w₃ lc₃ lw₃ c₄ w₄ bv);
            }
