-- Building a side, family by family: each family is ready to be credited, and credited it is one more in the cells.
use Rattle.std.specs.Prelude.{◌≡◌, refl, Bool, false, List, ℕ, ◌+◌, ◌*◌, ◌≤◌, ◌<◌, get_or, Float}
use Rattle.std.proofs.Common.{sym, ap, ap₂, ◌∙◌, add_assoc, arith}
use Rattle.std.specs.Float.{nan, binary32}
use Rattle.std.specs.Float.Ieee.{add}
use Rattle.laws.specs.Words.{fold, all, zero_f}
use Rattle.laws.specs.DoubleCounting.{fold-ext}
use Rattle.laws.specs.WeightLaws.{upto-weightlike}
use Rattle.laws.specs.Zone.{Zone, zone-none, zone-ext}
use Rattle.board.specs.Hits.{Board}
use Rattle.board.specs.Sides.{table_of, period_of}
use Rattle.room.specs.declared.Side.{Side}
use Rattle.room.specs.Room.{is_horizontal}
use Rattle.terms.specs.Terms.{places_n, places_f}
use Rattle.terms.specs.TermsLaws.{same-term}
use Rattle.cells.specs.Cells.{long_class, short_class, cell_sum, family, family_c, family_w}
use Rattle.tables.specs.CellsLaws.{cell-none, cell-more, zone-family, cell-total, family-total, total_mono, cell-upto, cell-fits}
use Rattle.cells.specs.Credit.{cell_pattern, gain_c, gain_w, FamilyReady, FamilyCredited}
use Rattle.tables.specs.Side.{total, cell_c, SideReady, SideCells}

-- what stands past the cells is as it was: place j of family f's groups
pub same-groups : {A : Type 0} (d : A) (Q : ℕ → A) (cells n groups : ℕ) (x x' : List A) → cells + n ≤ groups → Zone d Q cells n x x' → (f j : ℕ) → get_or x' (groups + f * 6 + j) d ≡ get_or x (groups + (f * 6 + j)) d
same-groups d Q cells n groups x x' apart z f j = z.above (groups + f * 6 + j) (omega arith) ∙ ap (λ k. get_or x k d) (add_assoc groups (f * 6) j)

-- ---- counts, and whatever adds up as they do
module _ (B : Board) (d : Side) (c : List ℕ) where
  abbrev on_h : Bool
  on_h = is_horizontal d

  -- the first n families are in the cells
  abbrev pub CellsIn : ℕ → List ℕ → Type 0
  CellsIn n c' = Zone 0 (cell_c B d c n) d.cells (3 * period_of B on_h) c c'

  pub counts-none : ((k : ℕ) → k < 3 * period_of B on_h → places_n d.cells c k ≡ 0) → CellsIn 0 c
  counts-none clear = zone-none 0 _ d.cells (3 * period_of B on_h) c (λ k h. clear k h ∙ sym (cell-none ◌+◌ 0 (family_c (places_n d.groups c)) (table_of B on_h) (long_class B on_h k) (short_class B on_h k)))

  -- the first f families are in, and family f comes next
  module _ (apart : d.cells + 3 * period_of B on_h ≤ d.groups) (f : ℕ) (c' : List ℕ) (b : CellsIn f c') where
    pub groups-same : (j : ℕ) → j < 6 → places_n (d.groups + f * 6) c' j ≡ family (places_n d.groups c) f j
    groups-same j l = same-groups 0 _ d.cells (3 * period_of B on_h) d.groups c c' apart b f j

    gain-same : (k : ℕ) → gain_c B on_h f (d.groups + f * 6) c' k ≡ family_c (places_n d.groups c) f (cell_pattern B on_h f k) (short_class B on_h k)
    gain-same k = same-term 6 _ _ (cell_pattern B on_h f k) (short_class B on_h k) groups-same ◌+◌ 0 false _ _ (λ b. groups-same)

    -- the cell with the family in
    next : (k : ℕ) → k < 3 * period_of B on_h → places_n d.cells c' k + gain_c B on_h f (d.groups + f * 6) c' k ≡ cell_c B d c (f + 1) k
    next k l = ap₂ ◌+◌ (b.inside k l) (gain-same k) ∙ sym (cell-more ◌+◌ 0 (family_c (places_n d.groups c)) (table_of B on_h) f (long_class B on_h k) (short_class B on_h k))

    -- it has no more than all groups together, and neither has the family
    module _ (h : f < period_of B on_h) where
      pub next-few : (k : ℕ) → k < 3 * period_of B on_h → places_n d.cells c' k + gain_c B on_h f (d.groups + f * 6) c' k ≤ total (places_n d.groups c) (period_of B on_h)
      next-few k l =
          let a : cell_c B d c (f + 1) k ≤ total (places_n d.groups c) (f + 1) = cell-total (places_n d.groups c) (table_of B on_h) (f + 1) (long_class B on_h k) (short_class B on_h k) in
          let m : total (places_n d.groups c) (f + 1) ≤ total (places_n d.groups c) (period_of B on_h) = total_mono (places_n d.groups c) (f + 1) (period_of B on_h) (omega arith) in
          omega (arith, next k l)

      pub six-few : fold ◌+◌ 0 6 all (places_n (d.groups + f * 6) c') ≤ total (places_n d.groups c) (period_of B on_h)
      six-few = omega (arith, fold-ext ◌+◌ 0 6 all all (places_n (d.groups + f * 6) c') (family (places_n d.groups c) f) (λ j l. refl) groups-same, family-total (places_n d.groups c) f (period_of B on_h) h)

    pub counts-more : (n : ℕ) → n ≡ f + 1 → (c'' : List ℕ) → Zone 0 (λ k. places_n d.cells c' k + gain_c B on_h f (d.groups + f * 6) c' k) d.cells (3 * period_of B on_h) c' c'' → CellsIn n c''
    counts-more n e c'' p =
        rw e
        (zone-family ◌+◌ 0 (family_c (places_n d.groups c)) (table_of B on_h) 0 (long_class B on_h) (short_class B on_h) d.cells (3 * period_of B on_h) f c c' c'' b
        (zone-ext 0 _ _ d.cells (3 * period_of B on_h) c' c'' (λ k l. ap (λ x. places_n d.cells c' k + x) (gain-same k)) p))

module _ (B : Board) (d : Side) (c : List ℕ) (w : List Float) (R : SideReady B d c w) where
  abbrev s : Bool
  s = is_horizontal d

  abbrev cells : ℕ
  cells = d.cells

  abbrev groups : ℕ
  groups = d.groups

  pub side-none : SideCells B d 0 c c w w
  side-none = record {
    counts = counts-none B d c R.clear_c;
    weights = zone-none nan _ cells (3 * period_of B s) w (λ k h. R.clear_w k h ∙ sym (cell-none (add binary32) zero_f (family_w (places_n groups c) (places_f groups w)) (table_of B s) (long_class B s k) (short_class B s k)));
  }

  -- the first f families are in, and family f comes next
  module _ (f : ℕ) (h : f < period_of B s) (c' : List ℕ) (w' : List Float) (b : SideCells B d f c c' w w') where
    groups_c : (j : ℕ) → j < 6 → places_n (groups + f * 6) c' j ≡ family (places_n groups c) f j
    groups_c = groups-same B d c R.apart f c' b.counts

    groups_w : (j : ℕ) → j < 6 → places_f (groups + f * 6) w' j ≡ family (places_f groups w) f j
    groups_w j l = same-groups nan _ cells (3 * period_of B s) groups w w' R.apart b.weights f j

    gain-weight : (k : ℕ) → gain_w B s f (groups + f * 6) c' w' k ≡ family_w (places_n groups c) (places_f groups w) f (cell_pattern B s f k) (short_class B s k)
    gain-weight k = same-term 6 _ _ (cell_pattern B s f k) (short_class B s k) groups_c (add binary32) zero_f false _ _ (λ b. groups_w)

    pub family-ready : FamilyReady B d f c' w'
    family-ready = record {
      places = record { board = R.board; steps = R.steps; in_table = h };
      six = record {
        counts = omega (arith, R.room.0, b.counts.len);
        weights = omega (arith, R.room.1, b.weights.len);
        few = omega (arith, six-few B d c R.apart f c' b.counts h, R.few);
      };
      room = (omega (arith, R.apart, R.room.0, b.counts.len), omega (arith, R.apart, R.room.1, b.weights.len));
      fits = λ k l. omega (arith, next-few B d c R.apart f c' b.counts h k l, R.few);
      plain = λ k l.
          rw (b.weights.inside k l) (
            upto-weightlike (cell_sum (add binary32) zero_f (family_w (places_n groups c) (places_f groups w)) (table_of B s) f (long_class B s k) (short_class B s k)) (cell_sum ◌+◌ 0 (family_c (places_n groups c)) (table_of B s) f (long_class B s k) (short_class B s k))
                (cell-upto (places_n groups c) (places_f groups w) f (λ j m. R.light j (omega arith)) (omega (arith, R.few, total_mono (places_n groups c) f (period_of B s) (omega arith))) (table_of B s) (long_class B s k) (short_class B s k)),
            cell-fits (places_n groups c) (places_f groups w) f (table_of B s) (long_class B s k) (short_class B s k),
          );
    }

    pub side-more : (n : ℕ) → n ≡ f + 1 → (c'' : List ℕ) (w'' : List Float) → FamilyCredited B d f c' c'' w' w'' → SideCells B d n c c'' w w''
    side-more n e c'' w'' p = record {
      counts = counts-more B d c R.apart f c' b.counts n e c'' p.counts;
      weights =
          rw e
          (zone-family (add binary32) zero_f (family_w (places_n groups c) (places_f groups w)) (table_of B s) nan (long_class B s) (short_class B s) cells (3 * period_of B s) f w w' w'' b.weights
          (zone-ext nan _ _ cells (3 * period_of B s) w' w'' (λ k l. ap (add binary32 (places_f cells w' k)) (gain-weight k)) p.weights));
    }
