-- Laws of the parts of `build_sums`: an edge more in the groups, a cell more of a run, two runs that make a family, a family more of a side.
use Rattle.std.specs.Prelude.{◌≡◌, Bool, true, false, cond, List, ◌⊎◌, ℕ, ◌+◌, ◌*◌, ◌-◌, ◌/◌, ◌%◌, ◌^◌, ◌≤◌, ◌<◌, eqb, ltb, ℤ, pos, nat_abs, ◌+ℤ◌, get_or, length, set, drop}
use Rattle.std.proofs.Common.{sym, ap, ap₂, ◌∙◌, inl, inr, div-lt_iff_lt-mul, div-add-mod', arith, lt-ltb, le-ltb, eq-eqb, ne_eqb}
use Rattle.std.proofs.Math.Arith.{digits_div, digits_mod, digits_lt}
use Rattle.std.proofs.Math.IntN.{+ℤ_idr}
use Rattle.laws.specs.Tests.{apart}
use Rattle.laws.specs.Fold.{fold-zero, fold-hit, fold-miss}
use Rattle.laws.specs.Zone.{Zone, zone-none, zone-ext, zone-set}
use Rattle.board.specs.Hits.{EdgeList, Board, size}
use Rattle.board.specs.Sides.{table_of, period_of}
use Rattle.board.proofs.HitsLaws.{side-some}
use Rattle.likelihood.specs.SumLaws.{cell-size}
use Rattle.room.specs.declared.Side.{Side}
use Rattle.room.specs.Room.{row_length, is_horizontal}
use Rattle.groups.specs.Fill.{place_at, row_sum}
use Rattle.cells.specs.Cells.{long_class, short_class, family}
use Rattle.tables.specs.CellsLaws.{cell-none, cell-more, zone-family}
use Rattle.cells.specs.Credit.{entry, cell_pattern}
use Rattle.cells.specs.LayoutLaws.{short-below}
use Rattle.cells.specs.RunLaws.{pattern-small}
use Rattle.tables.specs.Runs.{first_run, second_run, both_runs}
use Rattle.tables.specs.SideLaws.{same-groups}
use Rattle.sums.specs.Sums.{Likelihoods, match_at, mismatch_at}
use Rattle.sum_terms.specs.SumTerms.{places_z, some_sum, TermsZ}
use Rattle.sums.specs.SumParts.{value_at, rows_sum, SumsFillReady, SumsFilled, takes_z, RunReadyZ, RunCreditedZ, gain_z, FamilyReadyZ, FamilyCreditedZ, family_z, cell_z, SideReadyZ, SideCellsZ}
use Rattle.sum_terms.specs.SumTermsLaws.{no-term_z, same-term_z, terms-at_z}
use Rattle.sums.specs.SumsLaws.{value-small}

-- ---- groups
-- what can be filled, and what is filled, by the periods and by numbers that equal them
module _ (L M n m : ℕ) (E : EdgeList) (X : Likelihoods) (t base : ℕ) (e : n ≡ L) (f : m ≡ M) where
  pub ready-held_z : (a : List ℤ) → SumsFillReady L M E X t base a → SumsFillReady n m E X t base a
  ready-held_z a R = rw (e, f) R

  pub filled-held_z : (i k : ℕ) → k ≡ i → (a a' : List ℤ) → SumsFilled n m E X t base k a a' → SumsFilled L M E X t base i a a'
  filled-held_z i k q a a' F = rw (e, f, q) at F

module _ (L M : ℕ) (E : EdgeList) (X : Likelihoods) (t base : ℕ) (a : List ℤ) (R : SumsFillReady L M E X t base a) where
  abbrev G : ℕ
  G = row_length L M

  some-row : 0 < G
  some-row = omega (arith, R.periods.some.0)

  pub sums_none : SumsFilled L M E X t base 0 a a
  sums_none = zone-none (pos 0) _ base (2 * G) a (λ k b. R.clear k b ∙ sym (fold-zero ◌+ℤ◌ (pos 0) (λ i. eqb (place_at L M E t i) (k % G)) (value_at X (k / G))))

  -- edge i, whose groups stand at place p of each row
  module _ (i p : ℕ) (hi : i < size E) (hp : p < G) (ep : p ≡ place_at L M E t i) where
    -- place k, where edge i is in the first j rows
    abbrev part : ℕ → ℕ → ℤ
    part j k = row_sum ◌+ℤ◌ (pos 0) (value_at X (k / G)) L M E t (cond (ltb (k / G) j) (i + 1) i) (k % G)

    part-0 : (k : ℕ) → rows_sum L M E X t i k ≡ part 0 k
    part-0 k = ap (λ b. row_sum ◌+ℤ◌ (pos 0) (value_at X (k / G)) L M E t (cond b (i + 1) i) (k % G)) (sym (le-ltb (k / G) 0 (omega arith)))

    part-2 : (k : ℕ) → k < 2 * G → part 2 k ≡ rows_sum L M E X t (i + 1) k
    part-2 k h = ap (λ b. row_sum ◌+ℤ◌ (pos 0) (value_at X (k / G)) L M E t (cond b (i + 1) i) (k % G)) (lt-ltb (k / G) 2 ((div-lt_iff_lt-mul some-row).1 h))

    -- row j
    module _ (j : ℕ) (hj : j < 2) (old new : List ℤ) (k : ℕ) (ek : k ≡ base + (j * G + p)) (z : Zone (pos 0) (part j) base (2 * G) old new) (room : base + 2 * G ≤ length old) where
      inside : j * G + p < 2 * G
      inside = digits_lt hj hp

      before : get_or new k (pos 0) ≡ row_sum ◌+ℤ◌ (pos 0) (value_at X j) L M E t i p
      before =
          ap (λ x. get_or new x (pos 0)) ek
          ∙ z.inside (j * G + p) inside
          ∙ rw (digits_div j hp, digits_mod j hp, le-ltb j j (omega arith))

      after : get_or new k (pos 0) +ℤ value_at X j i ≡ row_sum ◌+ℤ◌ (pos 0) (value_at X j) L M E t (i + 1) p
      after = ap (λ x. x +ℤ value_at X j i) before ∙ sym (fold-hit ◌+ℤ◌ (pos 0) (λ e. eqb (place_at L M E t e) p) (value_at X j) i (eq-eqb (place_at L M E t i) p (sym ep)))

      -- there is room for it
      pub row_room : (k < length new) × (nat_abs (get_or new k (pos 0) +ℤ value_at X j i) < 2 ^ 63)
      row_room =
          let s = cell-size (i + 1) (λ e. eqb (place_at L M E t e) p) (value_at X j) (omega (arith, R.list.few)) (λ e h q. value-small E X R.likelihoods j e (omega arith)) in
          (omega (arith, inside, z.len), rw after (omega (arith, s)))

      -- elsewhere nothing changes
      same : (m : ℕ) → (m ≡ j * G + p → ⊥) → part (j + 1) m ≡ part j m
      same m n = go (apart (m / G) j)
        where
          at : (b c : Bool) → b ≡ c → (d : ℕ) → row_sum ◌+ℤ◌ (pos 0) (value_at X (m / G)) L M E t (cond b (i + 1) i) d ≡ row_sum ◌+ℤ◌ (pos 0) (value_at X (m / G)) L M E t (cond c (i + 1) i) d
          at b c e d = ap (λ x. row_sum ◌+ℤ◌ (pos 0) (value_at X (m / G)) L M E t (cond x (i + 1) i) d) e

          other : m / G ≡ j → place_at L M E t i ≡ m % G → ⊥
          other e q = n (sym (div-add-mod' m G) ∙ ap₂ (λ (x y : ℕ). x * G + y) e (sym q ∙ sym ep))

          go : (m / G ≡ j) ⊎ ((m / G < j) ⊎ (j < m / G)) → part (j + 1) m ≡ part j m
          go (inl e) =
              at (ltb (m / G) (j + 1)) true (lt-ltb (m / G) (j + 1) (omega arith)) (m % G)
              ∙ fold-miss ◌+ℤ◌ (pos 0) (λ x. eqb (place_at L M E t x) (m % G)) (value_at X (m / G)) i (ne_eqb (place_at L M E t i) (m % G) (other e))
              ∙ sym (at (ltb (m / G) j) false (le-ltb (m / G) j (omega arith)) (m % G))
          go (inr (inl l)) = at (ltb (m / G) (j + 1)) (ltb (m / G) j) (lt-ltb (m / G) (j + 1) (omega arith) ∙ sym (lt-ltb (m / G) j l)) (m % G)
          go (inr (inr l)) = at (ltb (m / G) (j + 1)) (ltb (m / G) j) (le-ltb (m / G) (j + 1) (omega arith) ∙ sym (le-ltb (m / G) j (omega arith))) (m % G)

      pub row_in : (new' : List ℤ) → new' ≡ set new k (get_or new k (pos 0) +ℤ value_at X j i) → Zone (pos 0) (part (j + 1)) base (2 * G) old new'
      row_in new' e =
          rw (e, ek)
          (zone-set (pos 0) (part j) (part (j + 1)) base (2 * G) old new (j * G + p) (get_or new (base + (j * G + p)) (pos 0) +ℤ value_at X j i) z inside room
          (ap (λ x. get_or new x (pos 0) +ℤ value_at X j i) (sym ek) ∙ after ∙ sym (rw (digits_div j hp, digits_mod j hp, lt-ltb j (j + 1) (omega arith))))
          same)

    -- both rows
    module _ (a' : List ℤ) (z : SumsFilled L M E X t base i a a') where
      start : Zone (pos 0) (part 0) base (2 * G) a a'
      start = zone-ext (pos 0) _ _ base (2 * G) a a' (λ k h. part-0 k) z

      at-0 : base + p ≡ base + (0 * G + p)
      at-0 = omega arith

      at_1 : base + p + G ≡ base + (1 * G + p)
      at_1 = omega arith

      zero_in : 0 < 2
      zero_in = omega arith

      one_in : 1 < 2
      one_in = omega arith

      pub match-room : (base + p < length a') × (nat_abs (get_or a' (base + p) (pos 0) +ℤ match_at X i) < 2 ^ 63)
      match-room = row_room 0 zero_in a a' (base + p) at-0 start R.room

      module _ (a'' : List ℤ) (e : a'' ≡ set a' (base + p) (get_or a' (base + p) (pos 0) +ℤ match_at X i)) where
        half : Zone (pos 0) (part 1) base (2 * G) a a''
        half = row_in 0 zero_in a a' (base + p) at-0 start R.room a'' e

        pub mismatch-room : (base + p + G < length a'') × (nat_abs (get_or a'' (base + p + G) (pos 0) +ℤ mismatch_at X i) < 2 ^ 63)
        mismatch-room = row_room 1 one_in a a'' (base + p + G) at_1 half R.room

        pub sums-more : (a''' : List ℤ) → a''' ≡ set a'' (base + p + G) (get_or a'' (base + p + G) (pos 0) +ℤ mismatch_at X i) → SumsFilled L M E X t base (i + 1) a a'''
        sums-more a''' f = zone-ext (pos 0) _ _ base (2 * G) a a''' part-2 (row_in 1 one_in a a'' (base + p + G) at_1 half R.room a''' f)

-- ---- a family, where its terms stand in a table
module _ (B : Board) (d : Side) (also f : ℕ) (a : List ℤ) (R : FamilyReadyZ B d also f a) (t : List (List ℤ)) (T : TermsZ (places_z (d.groups + f * 6) a) (places_z (also + f * 6) a) t) where
  abbrev s : Bool
  s = is_horizontal d

  abbrev cells : ℕ
  cells = d.cells

  abbrev from : ℕ
  from = d.groups

  abbrev ps : List ℕ
  ps = table_of B s

  abbrev n₁ : ℕ
  n₁ = length ps - f

  abbrev gain : ℕ → ℤ
  gain = gain_z B s f (from + f * 6) (also + f * 6) a

  gains : (k : ℕ) → k < 3 * period_of B s → entry (pos 0) t (cell_pattern B s f k) (short_class B s k) ≡ gain k
  gains k h =
      terms-at_z (places_z (from + f * 6) a) (places_z (also + f * 6) a) t (cell_pattern B s f k) (short_class B s k) T (pattern-small B d f R.places (long_class B s k + f)) (short-below B (side-some B R.places.board) k s h)

  pub first-ready_z : (n : ℕ) → n ≡ n₁ → RunReadyZ t (drop f ps) n cells d.stride d.across a
  first-ready_z = first_run (pos 0) ◌+ℤ◌ takes_z B d f R.places a R.room t gain gains R.fits

  -- the second run, after the first
  module _ (a₁ : List ℤ) (r₁ : RunCreditedZ t (drop f ps) n₁ cells d.stride d.across a a₁) where
    pub second-ready_z : (at : ℕ) → at ≡ cells + n₁ * d.stride → RunReadyZ t (drop 0 ps) f at d.stride d.across a₁
    second-ready_z = second_run (pos 0) ◌+ℤ◌ takes_z B d f R.places a R.room t gain gains R.fits a₁ r₁

    pub family-credited_z : (a₂ : List ℤ) → RunCreditedZ t (drop 0 ps) f (cells + n₁ * d.stride) d.stride d.across a₁ a₂ → FamilyCreditedZ B d also f a a₂
    family-credited_z = both_runs (pos 0) ◌+ℤ◌ takes_z B d f R.places a R.room t gain gains R.fits a₁ r₁

-- ---- a family whose twelve sums are all 0: nothing is stored
pub family-empty_z : (B : Board) (d : Side) (also f : ℕ) (a : List ℤ) → some_sum 6 (places_z (d.groups + f * 6) a) (places_z (also + f * 6) a) ≡ false → FamilyCreditedZ B d also f a a
family-empty_z B d also f a none =
    let s = is_horizontal d in
    let cells = d.cells in
    let from = d.groups in
    zone-none (pos 0) _ cells (3 * period_of B s) a
    (λ k h. sym (ap (λ x. places_z cells a k +ℤ x) (no-term_z (places_z (from + f * 6) a) (places_z (also + f * 6) a) none (cell_pattern B s f k) (short_class B s k)) ∙ +ℤ_idr (places_z cells a k)))

-- ---- a side, family by family
module _ (B : Board) (d : Side) (also : ℕ) (a : List ℤ) (R : SideReadyZ B d also a) where
  abbrev on_h : Bool
  on_h = is_horizontal d

  abbrev first : ℕ
  first = d.cells

  abbrev groups : ℕ
  groups = d.groups

  pub side-none_z : SideCellsZ B d also 0 a a
  side-none_z = zone-none (pos 0) _ first (3 * period_of B on_h) a (λ k h. R.clear k h ∙ sym (cell-none ◌+ℤ◌ (pos 0) (family_z (places_z groups a) (places_z also a)) (table_of B on_h) (long_class B on_h k) (short_class B on_h k)))

  module _ (f : ℕ) (h : f < period_of B on_h) (a' : List ℤ) (b : SideCellsZ B d also f a a') where
    from-same : (j : ℕ) → j < 6 → places_z (groups + f * 6) a' j ≡ family (places_z groups a) f j
    from-same j l = same-groups (pos 0) _ first (3 * period_of B on_h) groups a a' R.apart.0 b f j

    also-same : (j : ℕ) → j < 6 → places_z (also + f * 6) a' j ≡ family (places_z also a) f j
    also-same j l = same-groups (pos 0) _ first (3 * period_of B on_h) also a a' R.apart.1 b f j

    gain-same : (k : ℕ) → gain_z B on_h f (groups + f * 6) (also + f * 6) a' k ≡ family_z (places_z groups a) (places_z also a) f (cell_pattern B on_h f k) (short_class B on_h k)
    gain-same k = same-term_z 6 _ _ _ _ (cell_pattern B on_h f k) (short_class B on_h k) from-same also-same

    -- the sum with the family in
    next : (k : ℕ) → k < 3 * period_of B on_h → places_z first a' k +ℤ gain_z B on_h f (groups + f * 6) (also + f * 6) a' k ≡ cell_z B on_h groups also a (f + 1) k
    next k l = ap₂ ◌+ℤ◌ (b.inside k l) (gain-same k) ∙ sym (cell-more ◌+ℤ◌ (pos 0) (family_z (places_z groups a) (places_z also a)) (table_of B on_h) f (long_class B on_h k) (short_class B on_h k))

    pub family-ready_z : FamilyReadyZ B d also f a'
    family-ready_z = record {
      places = record { board = R.board; steps = R.steps; in_table = h };
      twelve = record {
        match = omega (arith, R.room.0, b.len);
        mismatch = omega (arith, R.room.1, b.len);
        small = λ j l. rw (from-same j l, also-same j l) (R.groups (f * 6 + j) (omega arith));
      };
      room = omega (arith, R.apart.0, R.room.0, b.len);
      fits = λ k l. rw (next k l) (omega (arith, R.small (f + 1) k (omega arith)));
    }

    pub side-more_z : (a'' : List ℤ) → FamilyCreditedZ B d also f a' a'' → SideCellsZ B d also (f + 1) a a''
    side-more_z a'' p =
        zone-family ◌+ℤ◌ (pos 0) (family_z (places_z groups a) (places_z also a)) (table_of B on_h) (pos 0) (long_class B on_h) (short_class B on_h) first (3 * period_of B on_h) f a a' a'' b
        (zone-ext (pos 0) _ _ first (3 * period_of B on_h) a' a'' (λ k l. ap (λ x. places_z first a' k +ℤ x) (gain-same k)) p)
