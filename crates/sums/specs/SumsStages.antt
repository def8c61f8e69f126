-- The room at each stage of `build_sums`: cleared, both rows of groups filled, the horizontal cells built, then the vertical ones.
use Rattle.std.specs.Prelude.{◌≡◌, refl, Bool, true, false, cond, List, ℕ, ◌+◌, ◌*◌, ◌^◌, ◌≤◌, ◌<◌, ℤ, pos, nat_abs, ◌+ℤ◌}
use Rattle.std.proofs.Common.{ap, ap₂, subst, ◌∙◌, arith}
use Rattle.std.proofs.Math.Arith.{digits_div, digits_mod}
use Rattle.laws.specs.Words.{cleared}
use Rattle.laws.specs.Cleared.{cleared-written}
use Rattle.laws.specs.Written.{Written}
use Rattle.laws.specs.Zone.{Zone, zone-ext}
use Rattle.board.specs.Hits.{EdgeList, Board, size}
use Rattle.board.specs.Sides.{is, table_of, period_of}
use Rattle.board.proofs.HitsLaws.{side-some}
use Rattle.laws.specs.declared.Periods.{Periods}
use Rattle.room.specs.declared.Side.{Side}
use Rattle.room.specs.Room.{PeriodsOk, row_length, cells_at, cells_end, groups_at, used, is_horizontal, side_of, Stands, Laid}
use Rattle.groups.specs.Fill.{row_sum}
use Rattle.cells.specs.Cells.{long_class, short_class}
use Rattle.room.specs.RoomLaws.{board-periods, cells_in, side-stands, groups-in, groups-past, laid-ext, laid-clear, laid-groups, laid_cells}
use Rattle.tables.specs.Stages.{row-groups, both}
use Rattle.sums.specs.Sums.{Likelihoods, cell_score}
use Rattle.sum_terms.specs.SumTerms.{places_z}
use Rattle.sums.specs.SumParts.{value_at, rows_sum, SumsFillReady, SumsFilled, cell_z, SideReadyZ, SideBuiltZ}
use Rattle.sums.specs.SumsRoom.{group_score, SumsReady, SumsBuilt}
use Rattle.sums.specs.SumsLaws.{same-cell_z, group-small, families-small, cell-score}

-- built at a side and a row, whichever way their values are written
built-at_z : (B : Board) (d d' : Side) → d ≡ d' → (n n' : ℕ) → n ≡ n' → (a a' : List ℤ) → SideBuiltZ B d (d.groups + n) a a' → SideBuiltZ B d' (d'.groups + n') a a'
built-at_z B d d' e n n' q a a' b = subst (λ (x : Side). SideBuiltZ B x (x.groups + n') a a') e (subst (λ (m : ℕ). SideBuiltZ B d (d.groups + m) a a') q b)

module _ (B : Board) (E : EdgeList) (X : Likelihoods) (t : ℕ) (a₀ : List ℤ) (R : SumsReady B E X t a₀) where
  abbrev P : Bool → ℕ
  P = period_of B

  abbrev row : ℕ
  row = row_length (P true) (P false)

  -- the periods by value
  abbrev both-periods : Periods
  both-periods = record { h = P true; v = P false }

  some : (s : Bool) → 0 < P s
  some = side-some B R.board

  pub periods-ok_z : PeriodsOk both-periods
  periods-ok_z = board-periods B R.board

  -- cleared: ready to fill
  module _ (end : ℕ) (ee : end ≡ used P 2) (a₁ : List ℤ) (e : a₁ ≡ cleared (pos 0) end a₀) where
    clear : Written (pos 0) (λ k. pos 0) a₀ a₁ (used P 2)
    clear = rw (e, ee) (cleared-written (pos 0) (pos 0) (used P 2) a₀ R.room)

    pub fill-ready_z : SumsFillReady (P true) (P false) E X t (cells_end P) a₁
    fill-ready_z = record {
      list = R.list;
      likelihoods = R.likelihoods;
      transform = R.transform;
      periods = periods-ok_z;
      room = omega (arith, R.room, clear.len);
      clear = λ k h. clear.front (cells_end P + k) (omega arith);
    }

    -- filled: the groups stand, and no cells
    pub filled-sums : (a₂ : List ℤ) → SumsFilled (P true) (P false) E X t (cells_end P) (size E) a₁ a₂ → Laid (pos 0) P 2 (λ s k. pos 0) (group_score B E X t) a₀ a₂
    filled-sums a₂ z =
        laid-groups (pos 0) P 2 (λ s k. pos 0) (λ i s k. pos 0) (group_score B E X t) (rows_sum (P true) (P false) E X t (size E)) a₀ a₁ a₂
        (laid-clear (pos 0) P 2 (pos 0) a₀ a₁ clear)
        z
        (λ i l s k h.
        ap₂ (λ (x y : ℕ). row_sum ◌+ℤ◌ (pos 0) (value_at X x) (P true) (P false) E t (size E) y) (digits_div i (inside s k h)) (digits_mod i (inside s k h))
        ∙ row-groups ◌+ℤ◌ (pos 0) (value_at X i) B E t (some true) R.list.bit s k h)
      where
        inside : (s : Bool) (k : ℕ) → k < P s * 6 → cond s 0 (P true * 6) + k < row
        inside true k h = omega arith
        inside false k h = omega arith

  -- a side whose groups stand, the mismatch ones from `also` on
  module _ (d : Side) (S : Stands P d) (also : ℕ) (ea : also ≡ groups_at P 1 (is_horizontal d)) (C : Bool → ℕ → ℤ) (a : List ℤ) (l : Laid (pos 0) P 2 C (group_score B E X t) a₀ a) where
    abbrev s : Bool
    s = is_horizontal d

    abbrev from : ℕ
    from = d.groups

    grouped : (k : ℕ) → k < P s * 6 → places_z from a k ≡ group_score B E X t 0 s k
    grouped k h = ap (λ x. places_z x a k) S.groups ∙ l.groups 0 (omega arith) s k h

    grouped' : (k : ℕ) → k < P s * 6 → places_z also a k ≡ group_score B E X t 1 s k
    grouped' k h = ap (λ x. places_z x a k) ea ∙ l.groups 1 (omega arith) s k h

    small : (n k : ℕ) → n ≤ P s → nat_abs (cell_z B s from also a n k) ≤ 2 ^ 53
    small n k h =
        rw (same-cell_z (places_z from a) (group_score B E X t 0 s) (places_z also a) (group_score B E X t 1 s) n (λ j m. grouped j (omega arith)) (λ j m. grouped' j (omega arith)) (table_of B s) (long_class B s k) (short_class B s k))
        (families-small B E X t R.list.few R.likelihoods s n (long_class B s k) (short_class B s k))

    -- ready to be built, if its cells are clear
    pub side-ready_z : ((k : ℕ) → C s k ≡ pos 0) → SideReadyZ B d also a
    side-ready_z z = record {
      board = R.board;
      steps = (S.stride, S.across);
      apart = (omega (arith, S.cells, S.groups, cells_in P s, groups-past P 0 s), omega (arith, S.cells, ea, cells_in P s, groups-past P 1 s));
      room = (omega (arith, S.groups, groups-in P 2 0 (omega arith) s, R.room, l.len), omega (arith, ea, groups-in P 2 1 (omega arith) s, R.room, l.len));
      groups = λ k h. rw (grouped k h, grouped' k h) (group-small E X R.likelihoods B t R.list.few 0 s k, group-small E X R.likelihoods B t R.list.few 1 s k);
      small = small;
      clear = λ k h. ap (λ x. places_z x a k) S.cells ∙ l.cells s k h ∙ z k;
    }

    -- built: the side's cells stand too
    pub side-sums : (a' : List ℤ) → SideBuiltZ B d also a a' → Laid (pos 0) P 2 (λ s' k. cond (is s s') (cell_score B E X t s k) (C s' k)) (group_score B E X t) a₀ a'
    side-sums a' b =
        laid_cells (pos 0) P 2 s C (group_score B E X t) (cell_score B E X t s) a₀ a a' l
        (zone-ext (pos 0) _ _ (cells_at P s) (3 * P s) a a'
        (λ k h.
        same-cell_z (places_z from a) (group_score B E X t 0 s) (places_z also a) (group_score B E X t 1 s) (P s) grouped grouped' (table_of B s) (long_class B s k) (short_class B s k)
        ∙ cell-score B E X t some R.list.bit s k)
        (subst (λ x. Zone (pos 0) (cell_z B s from also a (P s)) x (3 * P s) a a') S.cells b))

  -- ---- the two sides, one after the other: d and d' as the code was told of them, the mismatch groups a row further than the match groups
  abbrev side : Bool → Side
  side = side_of both-periods

  also-at : (s : Bool) → (side s).groups + row ≡ groups_at P 1 s
  also-at true = omega arith
  also-at false = omega arith

  -- where they start is a number of 64 bits
  pub also-small : (s : Bool) (d : Side) → d ≡ side s → (n : ℕ) → n ≡ row → d.groups + n < 2 ^ 64
  also-small true d e n q = rw (e, q) (omega (arith, R.board.h.few, R.board.v.few))
  also-small false d e n q = rw (e, q) (omega (arith, R.board.h.few, R.board.v.few))

  module _ (end : ℕ) (ee : end ≡ used P 2) (a₁ : List ℤ) (e : a₁ ≡ cleared (pos 0) end a₀) (d : Side) (ed : d ≡ side true) where
    pub groups-ready_z : SumsFillReady (P true) (P false) E X t d.groups a₁
    groups-ready_z = rw ed (fill-ready_z end ee a₁ e)

    module _ (a₂ : List ℤ) (F : SumsFilled (P true) (P false) E X t d.groups (size E) a₁ a₂) (n : ℕ) (en : n ≡ row) where
      abbrev l₂ : Laid (pos 0) P 2 (λ s k. pos 0) (group_score B E X t) a₀ a₂
      l₂ = filled-sums end ee a₁ e a₂ (subst (λ (x : Side). SumsFilled (P true) (P false) E X t x.groups (size E) a₁ a₂) ed F)

      pub h-ready_z : SideReadyZ B d (d.groups + n) a₂
      h-ready_z = rw (ed, en) (side-ready_z (side true) (side-stands P true) ((side true).groups + row) (also-at true) (λ s k. pos 0) a₂ l₂ (λ k. refl))

      module _ (a₃ : List ℤ) (bh : SideBuiltZ B d (d.groups + n) a₂ a₃) (d' : Side) (ed' : d' ≡ side false) where
        abbrev half : Bool → ℕ → ℤ
        half s k = cond s (cell_score B E X t true k) (pos 0)

        l₃ : Laid (pos 0) P 2 half (group_score B E X t) a₀ a₃
        l₃ = side-sums (side true) (side-stands P true) ((side true).groups + row) (also-at true) (λ s k. pos 0) a₂ l₂ a₃ (built-at_z B d (side true) ed n row en a₂ a₃ bh)

        pub v-ready_z : SideReadyZ B d' (d'.groups + n) a₃
        v-ready_z = rw (ed', en) (side-ready_z (side false) (side-stands P false) ((side false).groups + row) (also-at false) half a₃ l₃ (λ k. refl))

        pub sums-built : (a₄ : List ℤ) → SideBuiltZ B d' (d'.groups + n) a₃ a₄ → SumsBuilt B E X t a₀ a₄
        sums-built a₄ bv =
            laid-ext (pos 0) P 2 _ (cell_score B E X t) (group_score B E X t) a₀ a₄ (both (cell_score B E X t) (pos 0))
            (side-sums (side false) (side-stands P false) ((side false).groups + row) (also-at false) half a₃ l₃ a₄ (built-at_z B d' (side false) ed' n row en a₃ a₄ bv))
