-- Runs and families, of any terms: where the cells of a run stand and what they have added, and the two runs that make a family.
use Rattle.std.specs.Prelude.{◌≡◌, Bool, true, false, List, ℕ, ◌+◌, ◌*◌, ◌-◌, ◌/◌, ◌%◌, ◌≤◌, ◌<◌, get_or, length, set, drop}
use Rattle.std.proofs.Math.Path.{sym, ap}
use Rattle.std.proofs.Common.{ap₂, subst, ◌∙◌, mod-lt, mod-eq_of_lt, length-drop, get_or-drop}
use Rattle.std.proofs.Math.Nat.{add-mod_left}
use native.Mathlib.Omega.{arith}
use Rattle.std.proofs.Math.Arith.{digits_div, digits_mod}
use Rattle.laws.specs.Zone.{Zone, zone-ext}
use Rattle.board.specs.Hits.{Board}
use Rattle.board.specs.Sides.{table_of, period_of}
use Rattle.board.specs.Domain.{Patterns}
use Rattle.board.proofs.HitsLaws.{side-some}
use Rattle.cells.specs.Spread.{Spread, spread-more, spread-ext, spread-then, spread-zone}
use Rattle.cells.specs.Cells.{short_class, pattern_at}
use Rattle.cells.specs.Credit.{run_place, entry, run_term, RunPlaces, cell_pattern, FamilyPlaces}
use Rattle.room.specs.declared.Side.{Side}
use Rattle.room.specs.Room.{is_horizontal, stride_of, across_of}
use Rattle.cells.specs.LayoutLaws.{stand, turn, stand-in, stand-apart, turn_in, turn-long, turn-short, stand-turn, turn-stand}

-- ---- a run, cell by cell
pub run-place : (at stride across i j : ℕ) → j < 3 → run_place at stride across (i * 3 + j) ≡ at + (i * stride + j * across)
unfolding run_place
run-place at stride across i j h = rw (digits_div i h, digits_mod i h)

pub run-term : {X : Type 0} (d : X) (terms : List (List X)) (part : List ℕ) (i j : ℕ) → j < 3 → run_term d terms part (i * 3 + j) ≡ entry d terms (get_or part i 0) j
unfolding run_term
run-term d terms part i j h = rw (digits_div i h, digits_mod i h)

-- the cell at place k, of short class j of class i, is the q-th
module _ (part : List ℕ) (n at stride across : ℕ) (R : RunPlaces part n at stride across) (i j q k : ℕ) (hi : i < n) (hj : j < 3) (eq : q ≡ i * 3 + j) (ek : k ≡ at + (i * stride + j * across)) where
  pub in-run : q < n * 3
  in-run = omega arith

  pub cell-place : k ≡ run_place at stride across q
  cell-place = ek ∙ sym (run-place at stride across i j hj) ∙ ap (run_place at stride across) (sym eq)

  pub cell-term : {X : Type 0} (d : X) (terms : List (List X)) (x : X) → x ≡ entry d terms (get_or part i 0) j → x ≡ run_term d terms part q
  cell-term d terms x ex = ex ∙ sym (run-term d terms part i j hj) ∙ ap (run_term d terms part) (sym eq)

  -- it is none of those before
  pub cell-fresh : (m : ℕ) → m < q → run_place at stride across q ≡ run_place at stride across m → ⊥
  cell-fresh m h e = let z = R.apart q m in-run (omega (arith, in-run)) e in omega arith

  -- it has its term added
  pub cell-added : {A : Type 0} (d : A) (op : A → A → A) (T : ℕ → A) (old new new' : List A) (x : A) → Spread d op (run_place at stride across) T q old new → run_place at stride across q < length old → x ≡ T q
      → new' ≡ set new k (op (get_or new k d) x) → Spread d op (run_place at stride across) T (q + 1) old new'
  cell-added d op T old new new' x s room e p = rw (p, cell-place) (spread-more d op (run_place at stride across) T q old new x s cell-fresh room e)

-- ---- two runs: the classes that read the table from the family on, and those that read it from its start
module _ (ps : List ℕ) (f : ℕ) (h : f < length ps) where
  first_reads : (i : ℕ) → i < length ps - f → get_or (drop f ps) i 0 ≡ pattern_at ps i f
  first_reads i l = get_or-drop f ps i 0 ∙ ap (λ x. get_or ps x 0) (flip ∙ sym (mod-eq_of_lt under))
    where
      flip : f + i ≡ i + f
      flip = omega arith

      under : i + f < length ps
      under = omega arith

  second_reads : (i : ℕ) → i < f → get_or (drop 0 ps) i 0 ≡ pattern_at ps (length ps - f + i) f
  second_reads i l = get_or-drop 0 ps i 0 ∙ ap (λ x. get_or ps x 0) (zero ∙ sym (ap (λ x. x % length ps) round ∙ add-mod_left (length ps) i ∙ mod-eq_of_lt under))
    where
      zero : 0 + i ≡ i
      zero = omega arith

      round : length ps - f + i + f ≡ length ps + i
      round = omega arith

      under : i < length ps
      under = omega arith

-- a cell of the second run, counted from the first
pub after-long : (n j : ℕ) → (n * 3 + j) / 3 ≡ n + j / 3
after-long n j = omega arith

pub after-short : (n j : ℕ) → (n * 3 + j) % 3 ≡ j % 3
after-short n j = omega arith

module _ (B : Board) (d : Side) (f : ℕ) (R : FamilyPlaces B d f) where
  abbrev s : Bool
  s = is_horizontal d

  abbrev stride : ℕ
  stride = d.stride

  abbrev across : ℕ
  across = d.across

  abbrev cells : ℕ
  cells = d.cells

  abbrev ps : List ℕ
  ps = table_of B s

  -- how many classes the first run has
  abbrev n₁ : ℕ
  n₁ = length ps - f

  patterns : Patterns ps
  patterns = of s
    where
      of : (s : Bool) → Patterns (table_of B s)
      of true = R.board.h
      of false = R.board.v

  pub pattern-small : (x : ℕ) → get_or ps (x % length ps) 0 < 8
  pattern-small x = patterns.small (x % length ps) (mod-lt x (omega (arith, patterns.some)))

  cancel : (i j : ℕ) → cells + stand B s i ≡ cells + stand B s j → stand B s i ≡ stand B s j
  cancel i j q = omega arith

  third : (j m : ℕ) → j < m * 3 → j / 3 < m
  third j m h = omega arith

  -- ---- the first run
  pub first-in : (j : ℕ) → j < n₁ * 3 → j < 3 * period_of B s
  first-in j h = omega (arith, R.in_table)

  pub first-place : (j : ℕ) → run_place cells stride across j ≡ cells + stand B s j
  unfolding run_place
  first-place j = rw (R.steps.0, R.steps.1)

  pub first-places : RunPlaces (drop f ps) n₁ cells stride across
  first-places = record {
    patterns = omega (arith, length-drop f ps);
    small = λ i l. rw (first_reads ps f R.in_table i l) (pattern-small (i + f));
    apart = λ i j h l q. stand-apart B s i j (first-in i h) (first-in j l) (cancel i j (sym (first-place i) ∙ q ∙ first-place j));
  }

  pub first-inside : (room : ℕ) → cells + 3 * period_of B s ≤ room → (j : ℕ) → j < n₁ * 3 → run_place cells stride across j < room
  first-inside room h j l = rw first-place (omega (arith, stand-in B j s (first-in j l)))

  -- it ends inside the table
  pub first-stride : n₁ * stride ≤ 3 * period_of B s
  first-stride = rw R.steps.0 (go s)
    where
      go : (s : Bool) → (length (table_of B s) - f) * stride_of s ≤ 3 * period_of B s
      go true = omega arith
      go false = omega arith

  -- ---- the second run
  pub second-in : (j : ℕ) → j < f * 3 → n₁ * 3 + j < 3 * period_of B s
  second-in j h = omega (arith, R.in_table)

  pub second-place : (j : ℕ) → run_place (cells + n₁ * stride) stride across j ≡ cells + stand B s (n₁ * 3 + j)
  unfolding run_place
  second-place j = rw (R.steps.0, R.steps.1, after-long n₁ j, after-short n₁ j) (arrange (stride_of s) (across_of (period_of B false) s))
    where
      arrange : (a b : ℕ) → cells + n₁ * a + (j / 3 * a + j % 3 * b) ≡ cells + ((n₁ + j / 3) * a + j % 3 * b)
      arrange a b = omega arith

  pub second-places : RunPlaces (drop 0 ps) f (cells + n₁ * stride) stride across
  second-places = record {
    patterns = omega (arith, length-drop 0 ps, R.in_table);
    small = λ i l. rw (second_reads ps f R.in_table i l) (pattern-small (n₁ + i + f));
    apart = λ i j h l q. under i j (stand-apart B s (n₁ * 3 + i) (n₁ * 3 + j) (second-in i h) (second-in j l) (cancel (n₁ * 3 + i) (n₁ * 3 + j) (sym (second-place i) ∙ q ∙ second-place j)));
  }
    where
      under : (i j : ℕ) → n₁ * 3 + i ≡ n₁ * 3 + j → i ≡ j
      under i j q = omega arith

  pub second-inside : (room : ℕ) → cells + 3 * period_of B s ≤ room → (j : ℕ) → j < f * 3 → run_place (cells + n₁ * stride) stride across j < room
  second-inside room h j l = rw second-place (omega (arith, stand-in B (n₁ * 3 + j) s (second-in j l)))

  -- a cell of the second run is none of the first
  pub second-fresh : (j : ℕ) → j < f * 3 → (i : ℕ) → i < n₁ * 3 → cells + stand B s (n₁ * 3 + j) ≡ run_place cells stride across i → ⊥
  second-fresh j h i l q = past (stand-apart B s (n₁ * 3 + j) i (second-in j h) (first-in i l) (cancel (n₁ * 3 + j) i (q ∙ first-place i)))
    where
      past : n₁ * 3 + j ≡ i → ⊥
      past e = omega arith

  -- ---- the family's terms, from a table of terms whose entry for cell k is T k
  module _ {X : Type 0} (past_end : X) (t : List (List X)) (T : ℕ → X) (e : (k : ℕ) → k < 3 * period_of B s → entry past_end t (cell_pattern B s f k) (short_class B s k) ≡ T k) where
    -- the term of the j-th cell
    abbrev family_term : ℕ → X
    family_term j = entry past_end t (pattern_at ps (j / 3) f) (j % 3)

    first-term : (j : ℕ) → j < n₁ * 3 → run_term past_end t (drop f ps) j ≡ family_term j
    unfolding run_term
    first-term j h = ap (λ (p : ℕ). entry past_end t p (j % 3)) (first_reads ps f R.in_table (j / 3) (third j n₁ h))

    second-term : (j : ℕ) → j < f * 3 → run_term past_end t (drop 0 ps) j ≡ family_term (n₁ * 3 + j)
    unfolding run_term
    second-term j h = ap (λ (p : ℕ). entry past_end t p (j % 3)) (second_reads ps f R.in_table (j / 3) (third j f h)) ∙ sym (rw (after-long n₁ j, after-short n₁ j))

    turn-term : (k : ℕ) → k < 3 * period_of B s → family_term (turn B s k) ≡ T k
    turn-term k h = let some = side-some B R.board in ap₂ (λ (x y : ℕ). entry past_end t (pattern_at ps x f) y) (turn-long B some k s h) (turn-short B some k s h) ∙ e k h

    stand-term : (j : ℕ) → j < 3 * period_of B s → T (stand B s j) ≡ family_term j
    stand-term j h = sym (turn-term (stand B s j) (stand-in B j s h)) ∙ ap family_term (turn-stand B j s h)

    -- what holds of each cell's place and term holds of each run's
    module _ (Q : ℕ → X → Type 0) (all : (k : ℕ) → k < 3 * period_of B s → Q (cells + k) (T k)) where
      at-stand : (j : ℕ) → j < 3 * period_of B s → Q (cells + stand B s j) (family_term j)
      at-stand j h = subst (Q (cells + stand B s j)) (stand-term j h) (all (stand B s j) (stand-in B j s h))

      pub first_holds : (j : ℕ) → j < n₁ * 3 → Q (run_place cells stride across j) (run_term past_end t (drop f ps) j)
      first_holds j h = rw (first-place, first-term j h) (at-stand j (first-in j h))

      pub second_holds : (j : ℕ) → j < f * 3 → Q (cells + stand B s (n₁ * 3 + j)) (run_term past_end t (drop 0 ps) j)
      second_holds j h = rw (second-term j h) (at-stand (n₁ * 3 + j) (second-in j h))

    -- ---- both runs: every cell has its term added
    module _ {A : Type 0} (z : A) (op : A → A → A) (of : X → A) (old mid new : List A)
        (a : Spread z op (run_place cells stride across) (λ j. of (run_term past_end t (drop f ps) j)) (n₁ * 3) old mid)
        (b : Spread z op (run_place (cells + n₁ * stride) stride across) (λ j. of (run_term past_end t (drop 0 ps) j)) (f * 3) mid new) where
      whole : n₁ * 3 + f * 3 ≡ 3 * period_of B s
      whole = omega (arith, R.in_table)

      both : Spread z op (λ j. cells + stand B s j) (λ j. of (family_term j)) (3 * period_of B s) old new
      both =
          subst (λ m. Spread z op (λ j. cells + stand B s j) (λ j. of (family_term j)) m old new) whole
          (spread-then z op (λ j. cells + stand B s j) (λ j. of (family_term j)) (n₁ * 3) (f * 3) old mid new
          (λ i j h l q. stand-apart B s i j (omega (arith, whole, h)) (omega (arith, whole, l)) (cancel i j q))
          (spread-ext z op _ _ _ _ (n₁ * 3) old mid (λ j h. first-place j) (λ j h. ap of (first-term j h)) a)
          (spread-ext z op _ _ _ _ (f * 3) mid new (λ j h. second-place j) (λ j h. ap of (second-term j h)) b))

      pub family-zone : Zone z (λ k. op (get_or old (cells + k) z) (of (T k))) cells (3 * period_of B s) old new
      family-zone =
          let some = side-some B R.board in
          zone-ext z _ _ cells (3 * period_of B s) old new (λ k h. ap (λ x. op (get_or old (cells + k) z) (of x)) (turn-term k h))
          (spread-zone z op (stand B s) (turn B s) cells (3 * period_of B s) (λ j. of (family_term j)) old new (λ j h. stand-in B j s h) (λ k h. (turn_in B some k s h, stand-turn B some k s h)) both)
