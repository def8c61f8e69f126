-- Laws of crediting counts and weights: a cell more of a run, and two runs that make a family.
use Rattle.std.specs.Prelude.{◌≡◌, Bool, true, false, List, [], ◌∷◌, length, drop, Float}
use Rattle.std.proofs.Math.Path.{refl, ap}
use Rattle.std.proofs.Common.{sym, ap₂, subst, ◌∙◌, inl, inr, ⊎_elim, add-zero, add_assoc, mod-lt, div-add-mod', arith, lit<, length-drop, get_or-drop}
use Prim.Native.Nat.{ℕ, zero, suc, ◌+◌, ◌*◌, ◌-◌, ◌/◌, ◌%◌, ◌^◌, ◌≤◌, ◌<◌}
use Rattle.std.proofs.Math.Arith.{digits_div, digits_mod}
use Rattle.std.proofs.Math.ListN.{get_or}
use Rattle.std.specs.Float.Ieee.{nan, add}
use Rattle.std.specs.Float.{binary32}
use Rattle.laws.specs.Words.{fold, all, zero_f}
use Rattle.laws.specs.PlusZero.{add-plus-zero}
use Rattle.laws.specs.Residues.{below-3}
use Rattle.laws.specs.Tests.{split}
use Rattle.laws.specs.Zone.{zone-none}
use Rattle.board.specs.Hits.{Board}
use Rattle.board.specs.Sides.{table_of, period_of}
use Rattle.board.proofs.HitsLaws.{side-some}
use Rattle.terms.specs.declared.FamilyTerm.{FamilyTerm}
use Rattle.cells.specs.Spread.{Fits, Spread, fits_next, spread-next, fits-perm, spread-perm}
use Rattle.terms.specs.Terms.{term, Terms, no_term, places_n, places_f}
use Rattle.terms.specs.TermsLaws.{terms-at, no-term}
use Rattle.cells.specs.Cells.{long_class, short_class}
use Rattle.cells.specs.Credit.{stepped, term_in, CountsFit, WeightsFit, CountsAdded, WeightsAdded, CountsIn, WeightsIn, run_place, entry, run_term, four_place, four_term, Standing, RunReady, RunCells, RunCredited, cell_pattern, FamilyReady, FamilyCredited}
use Rattle.room.specs.declared.Side.{Side}
use Rattle.room.specs.Room.{is_horizontal, stride_of, across_of}
use Rattle.cells.specs.LayoutLaws.{stand, short-below}
use Rattle.cells.specs.RunLaws.{run-place, run-term, after-long, after-short, pattern-small, first-places, first-inside, first_holds, second-place, second-places, second-inside, second-fresh, second_holds, family-zone}

-- ---- a run, some classes at a time, of anything that its cells have added (of a term: its count, its weight)
four-turn : (j : ℕ) → j < 12 → (j % 4 * 3 + j / 4 < 12) × ((j % 4 * 3 + j / 4) % 3 * 4 + (j % 4 * 3 + j / 4) / 3 ≡ j)
four-turn j h =
    let a : j % 4 < 4 = mod-lt j (lit< tt) in
    let b : j / 4 < 3 = omega arith in
    (omega arith, ap₂ (λ x y. x * 4 + y) (digits_mod (j % 4) b) (digits_div (j % 4) b) ∙ div-add-mod' j 4)

four-back : (i : ℕ) → i < 12 → (i % 3 * 4 + i / 3 < 12) × ((i % 3 * 4 + i / 3) % 4 * 3 + (i % 3 * 4 + i / 3) / 4 ≡ i)
four-back i h =
    let a : i % 3 < 3 = mod-lt i (lit< tt) in
    let b : i / 3 < 4 = omega arith in
    (omega arith, ap₂ (λ x y. x * 3 + y) (digits_mod (i % 3) b) (digits_div (i % 3) b) ∙ div-add-mod' i 3)

-- what holds at 0, 1, 2 and 3 holds below 4
below-four : (P : ℕ → Type 0) → P 0 → P 1 → P 2 → P 3 → (m : ℕ) → m < 4 → P m
below-four P a b c d m h = ⊎_elim (λ e. subst P (sym e) d) (below-3 P a b c m) (split m 3 (omega arith))

module _ {A : Type 0} (d : A) (op : A → A → A) (takes : A → A → Type 0) (of : FamilyTerm → A) (terms : List (List FamilyTerm)) (part : List ℕ) (n at stride across : ℕ) (old : List A)
    (F : Fits d op takes (run_place at stride across) (λ j. of (run_term no_term terms part j)) (n * 3) old) where
  -- the first q cells are done
  abbrev Done : ℕ → List A → Type 0
  Done q l = Spread d op (run_place at stride across) (λ j. of (run_term no_term terms part j)) q old l

  -- class i, with its row of terms; its cells stand from k on
  module _ (i k : ℕ) (row : List FamilyTerm) (hi : i < n) (ek : k ≡ at + i * stride) (er : row ≡ get_or terms (get_or part i 0) []) (mid : List A) (s : Done (i * 3) mid) where
    class-place : (j : ℕ) → j < 3 → run_place at stride across (i * 3 + j) ≡ stepped k across j
    class-place j h = run-place at stride across i j h ∙ sym (add_assoc at (i * stride) (j * across)) ∙ ap (λ x. x + j * across) (sym ek)

    class-term : (j : ℕ) → j < 3 → of (run_term no_term terms part (i * 3 + j)) ≡ of (term_in row j)
    class-term j h = ap of (run-term no_term terms part i j h ∙ ap (λ r. get_or r j no_term) (sym er))

    pub class-fits : Fits d op takes (stepped k across) (λ j. of (term_in row j)) 3 mid
    class-fits = fits_next d op takes _ _ (n * 3) old F (i * 3) mid s (stepped k across) _ 3 (omega arith) class-place class-term

    pub class-more : (q : ℕ) → q ≡ (i + 1) * 3 → (new : List A) → Spread d op (stepped k across) (λ j. of (term_in row j)) 3 mid new → Done q new
    class-more q e new u = spread-next d op takes _ _ (n * 3) old F (i * 3) mid s (stepped k across) _ 3 (omega arith) class-place class-term q (omega arith) new u

  -- four neighbouring classes from the i-th on, short class by short class
  module _ (one : stride ≡ 1) (i k : ℕ) (r₀ r₁ r₂ r₃ : List FamilyTerm) (hi : i + 4 ≤ n) (ek : k ≡ at + i)
      (e₀ : r₀ ≡ get_or terms (get_or part i 0) []) (e₁ : r₁ ≡ get_or terms (get_or part (i + 1) 0) []) (e₂ : r₂ ≡ get_or terms (get_or part (i + 2) 0) []) (e₃ : r₃ ≡ get_or terms (get_or part (i + 3) 0) [])
      (mid : List A) (s : Done (i * 3) mid) where
    abbrev rows : List (List FamilyTerm)
    rows = r₀ ∷ r₁ ∷ r₂ ∷ r₃ ∷ []

    row-at : (m : ℕ) → m < 4 → get_or rows m [] ≡ get_or terms (get_or part (i + m) 0) []
    row-at = below-four (λ m. get_or rows m [] ≡ get_or terms (get_or part (i + m) 0) []) (e₀ ∙ ap (λ x. get_or terms (get_or part x 0) []) (sym (add-zero i))) e₁ e₂ e₃

    -- the same cells, class by class
    abbrev place : ℕ → ℕ
    place j = run_place at stride across (i * 3 + j)

    abbrev said : ℕ → A
    said j = of (run_term no_term terms part (i * 3 + j))

    abbrev turn : ℕ → ℕ
    turn j = j % 4 * 3 + j / 4

    abbrev back : ℕ → ℕ
    back j = j % 3 * 4 + j / 3

    third : (j : ℕ) → j < 12 → j / 4 < 3
    third j h = omega arith

    later : (a b : ℕ) → i * 3 + (a * 3 + b) ≡ (i + a) * 3 + b
    later a b = omega arith

    four-place : (j : ℕ) → j < 12 → place (turn j) ≡ four_place k across j
    unfolding four_place
    four-place j h = ap (run_place at stride across) (later (j % 4) (j / 4)) ∙ run-place at stride across (i + j % 4) (j / 4) (third j h) ∙ rw (one, ek) (omega arith)

    four-term : (j : ℕ) → j < 12 → said (turn j) ≡ of (four_term rows j)
    unfolding four_term
    four-term j h =
        ap (λ x. of (run_term no_term terms part x)) (later (j % 4) (j / 4))
        ∙ ap of (run-term no_term terms part (i + j % 4) (j / 4) (third j h) ∙ ap (λ r. get_or r (j / 4) no_term) (sym (row-at (j % 4) (mod-lt j (lit< tt)))))

    pub four-fits : Fits d op takes (four_place k across) (λ j. of (four_term rows j)) 12 mid
    four-fits =
        fits-perm d op place (four_place k across) said _ 12 turn back four-turn four-back four-place four-term takes mid
        (fits_next d op takes _ _ (n * 3) old F (i * 3) mid s place said 12 (omega arith) (λ j h. refl) (λ j h. refl))

    pub four-more : (q : ℕ) → q ≡ (i + 4) * 3 → (new : List A) → Spread d op (four_place k across) (λ j. of (four_term rows j)) 12 mid new → Done q new
    four-more q e new u =
        spread-next d op takes _ _ (n * 3) old F (i * 3) mid s place said 12 (omega arith) (λ j h. refl) (λ j h. refl) q (omega arith) new
        (spread-perm d op place (four_place k across) said _ 12 turn back four-turn four-back four-place four-term mid new u)

  -- the other classes, where m are done: a run of its own
  module _ (m r : ℕ) (e : m + r ≡ n) (mid : List A) (s : Done (m * 3) mid) where
    rest-place : (j : ℕ) → j < r * 3 → run_place at stride across (m * 3 + j) ≡ run_place (at + m * stride) stride across j
    unfolding run_place
    rest-place j h = rw (after-long m j, after-short m j) (omega arith)

    rest-term : (j : ℕ) → j < r * 3 → of (run_term no_term terms part (m * 3 + j)) ≡ of (run_term no_term terms (drop m part) j)
    unfolding run_term
    rest-term j h = rw (after-long m j, after-short m j) (ap (λ (p : ℕ). of (entry no_term terms p (j % 3))) (sym (get_or-drop m part (j / 3) 0)))

    pub rest-fits : Fits d op takes (run_place (at + m * stride) stride across) (λ j. of (run_term no_term terms (drop m part) j)) (r * 3) mid
    rest-fits = fits_next d op takes _ _ (n * 3) old F (m * 3) mid s _ _ (r * 3) (omega arith) rest-place rest-term

    pub rest-done : (new : List A) → Spread d op (run_place (at + m * stride) stride across) (λ j. of (run_term no_term terms (drop m part) j)) (r * 3) mid new → Done (n * 3) new
    rest-done new u = spread-next d op takes _ _ (n * 3) old F (m * 3) mid s _ _ (r * 3) (omega arith) rest-place rest-term (n * 3) (omega arith) new u

-- ---- four classes: the four neighbours of short class m
pub first-across : (k across m : ℕ) → four_place k across (m * 4 + 0) ≡ k + m * across
unfolding four_place
first-across k across m = rw (digits_mod m {m = 4} {r = 0} (lit< tt), digits_div m {m = 4} {r = 0} (lit< tt)) (omega arith)

module _ {A : Type 0} (d : A) (op : A → A → A) (takes : A → A → Type 0) (of : FamilyTerm → A) (k across : ℕ) (r₀ r₁ r₂ r₃ : List FamilyTerm) (old : List A)
    (F : Fits d op takes (four_place k across) (λ j. of (four_term (r₀ ∷ r₁ ∷ r₂ ∷ r₃ ∷ []) j)) 12 old) (m k' : ℕ) (hm : m < 3) (ek : k' ≡ k + m * across)
    (mid : List A) (s : Spread d op (four_place k across) (λ j. of (four_term (r₀ ∷ r₁ ∷ r₂ ∷ r₃ ∷ []) j)) (m * 4) old mid) where
  abbrev four : List (List FamilyTerm)
  four = r₀ ∷ r₁ ∷ r₂ ∷ r₃ ∷ []

  abbrev abreast : List FamilyTerm
  abreast = get_or r₀ m no_term ∷ get_or r₁ m no_term ∷ get_or r₂ m no_term ∷ get_or r₃ m no_term ∷ []

  abreast-place : (j : ℕ) → j < 4 → four_place k across (m * 4 + j) ≡ stepped k' 1 j
  unfolding four_place
  abreast-place j h = rw (digits_mod m h, digits_div m h, ek) (omega arith)

  abreast-term : (j : ℕ) → j < 4 → of (four_term four (m * 4 + j)) ≡ of (term_in abreast j)
  unfolding four_term
  abreast-term j h = ap of (rw (digits_mod m h, digits_div m h) (below-four (λ j. get_or (get_or four j []) m no_term ≡ term_in abreast j) refl refl refl refl j h))

  pub abreast-fits : Fits d op takes (stepped k' 1) (λ j. of (term_in abreast j)) 4 mid
  abreast-fits = fits_next d op takes _ _ 12 old F (m * 4) mid s (stepped k' 1) _ 4 (omega arith) abreast-place abreast-term

  pub abreast-more : (q : ℕ) → q ≡ m * 4 + 4 → (new : List A) → Spread d op (stepped k' 1) (λ j. of (term_in abreast j)) 4 mid new
      → Spread d op (four_place k across) (λ j. of (four_term four j)) q old new
  abreast-more q e new u = spread-next d op takes _ _ 12 old F (m * 4) mid s (stepped k' 1) _ 4 (omega arith) abreast-place abreast-term q e new u

-- which way a side's cells stand
pub by_three : (stride across : ℕ) → Standing stride across → stride ≡ 3 → across ≡ 1
by_three stride across (inl s) e = s.1
by_three stride across (inr s) e = absurd (omega arith)

pub by_one : (stride across : ℕ) → Standing stride across → (stride ≡ 3 → ⊥) → stride ≡ 1
by_one stride across (inl s) n = absurd (n s.0)
by_one stride across (inr s) n = s

stride-small : (stride across : ℕ) → Standing stride across → stride ≤ 3
stride-small stride across (inl s) = omega (arith, s.0)
stride-small stride across (inr s) = omega arith

-- what a run's counts and weights ask
module _ (terms : List (List FamilyTerm)) (part : List ℕ) (n at stride across : ℕ) (c : List ℕ) (w : List Float) (R : RunReady terms part n at stride across c w) where
  pub run-counts : CountsFit (run_place at stride across) (run_term no_term terms part) (n * 3) c
  run-counts = record { inside = λ j h. (R.inside j h).0; apart = R.places.apart; taken = R.fits }

  pub run-weights : WeightsFit (run_place at stride across) (run_term no_term terms part) (n * 3) w
  run-weights = record { inside = λ j h. (R.inside j h).1; apart = R.places.apart; taken = λ j h. tt }

  -- class i, where those before are done; its cells stand from k on
  module _ (i k : ℕ) (h : i < n) (ek : k ≡ at + i * stride) where
    abbrev row : List FamilyTerm
    row = get_or terms (get_or part i 0) []

    pub cell_in : k < length c
    cell_in = let a = subst (λ (x : ℕ). x < length c) (run-place at stride across i 0 (lit< tt)) (R.inside (i * 3 + 0) (omega arith)).0 in omega arith

    module _ (l : List ℕ) (d : CountsIn terms part at stride across (i * 3) c l) where
      pub counts-fit : CountsFit (stepped k across) (term_in row) 3 l
      counts-fit = class-fits 0 ◌+◌ _ (λ x. x.count) terms part n at stride across c run-counts i k row h ek refl l d

      pub counts-more : (q : ℕ) → q ≡ (i + 1) * 3 → (l' : List ℕ) → CountsAdded (stepped k across) (term_in row) 3 l l' → CountsIn terms part at stride across q c l'
      counts-more q e l' u = class-more 0 ◌+◌ _ (λ x. x.count) terms part n at stride across c run-counts i k row h ek refl l d q e l' u

    module _ (l : List Float) (d : WeightsIn terms part at stride across (i * 3) w l) where
      pub weights-fit : WeightsFit (stepped k across) (term_in row) 3 l
      weights-fit = class-fits nan (add binary32) _ (λ x. x.weight) terms part n at stride across w run-weights i k row h ek refl l d

      pub weights-more : (q : ℕ) → q ≡ (i + 1) * 3 → (l' : List Float) → WeightsAdded (stepped k across) (term_in row) 3 l l' → WeightsIn terms part at stride across q w l'
      weights-more q e l' u = class-more nan (add binary32) _ (λ x. x.weight) terms part n at stride across w run-weights i k row h ek refl l d q e l' u

  -- four classes from the i-th on, whose cells stand side by side from k on
  module _ (one : stride ≡ 1) (i k : ℕ) (h : i + 4 ≤ n) (ek : k ≡ at + i) where
    abbrev row_at : ℕ → List FamilyTerm
    row_at j = get_or terms (get_or part (i + j) 0) []

    abbrev four_rows : List (List FamilyTerm)
    four_rows = get_or terms (get_or part i 0) [] ∷ row_at 1 ∷ row_at 2 ∷ row_at 3 ∷ []

    module _ (l : List ℕ) (d : CountsIn terms part at stride across (i * 3) c l) where
      pub four-counts-fit : CountsFit (four_place k across) (four_term four_rows) 12 l
      four-counts-fit = four-fits 0 ◌+◌ _ (λ x. x.count) terms part n at stride across c run-counts one i k _ _ _ _ h ek refl refl refl refl l d

      pub four-counts-more : (q : ℕ) → q ≡ (i + 4) * 3 → (l' : List ℕ) → CountsAdded (four_place k across) (four_term four_rows) 12 l l' → CountsIn terms part at stride across q c l'
      four-counts-more q e l' u = four-more 0 ◌+◌ _ (λ x. x.count) terms part n at stride across c run-counts one i k _ _ _ _ h ek refl refl refl refl l d q e l' u

    module _ (l : List Float) (d : WeightsIn terms part at stride across (i * 3) w l) where
      pub four-weights-fit : WeightsFit (four_place k across) (four_term four_rows) 12 l
      four-weights-fit = four-fits nan (add binary32) _ (λ x. x.weight) terms part n at stride across w run-weights one i k _ _ _ _ h ek refl refl refl refl l d

      pub four-weights-more : (q : ℕ) → q ≡ (i + 4) * 3 → (l' : List Float) → WeightsAdded (four_place k across) (four_term four_rows) 12 l l' → WeightsIn terms part at stride across q w l'
      four-weights-more q e l' u = four-more nan (add binary32) _ (λ x. x.weight) terms part n at stride across w run-weights one i k _ _ _ _ h ek refl refl refl refl l d q e l' u

  -- the first cell of the next class is no larger than a number can be, also where there is no next class
  pub next_low : (m : ℕ) → m ≤ n → (most : ℕ) → at < most → length c + 4 ≤ most → at + m * stride < most
  next_low zero h most a b = omega arith
  next_low (suc m) h most a b = let x = cell_in m (at + m * stride) (omega arith) refl in let y = stride-small stride across R.standing in omega arith

  -- the run as horizontal classes, and as vertical ones
  module _ (e : stride ≡ 3) where
    across-one : across ≡ 1
    across-one = by_three stride across R.standing e

    pub as-horizontal : RunReady terms part n at 3 1 c w
    as-horizontal = subst (λ x. RunReady terms part n at 3 x c w) across-one (subst (λ x. RunReady terms part n at x across c w) e R)

    pub of-horizontal : (q : ℕ) (c' : List ℕ) (w' : List Float) → RunCells terms part at 3 1 q c c' w w' → RunCells terms part at stride across q c c' w w'
    of-horizontal q c' w' s = subst (λ x. RunCells terms part at x across q c c' w w') (sym e) (subst (λ x. RunCells terms part at 3 x q c c' w w') (sym across-one) s)

  module _ (ne : stride ≡ 3 → ⊥) where
    stride-one : stride ≡ 1
    stride-one = by_one stride across R.standing ne

    pub as-vertical : RunReady terms part n at 1 across c w
    as-vertical = subst (λ x. RunReady terms part n at x across c w) stride-one R

    pub of-vertical : (q : ℕ) (c' : List ℕ) (w' : List Float) → RunCells terms part at 1 across q c c' w w' → RunCells terms part at stride across q c c' w w'
    of-vertical q c' w' s = subst (λ x. RunCells terms part at x across q c c' w w') (sym stride-one) s

  -- where m classes are done, the others are a run that is ready, and with it all are done
  module _ (m r : ℕ) (e : m + r ≡ n) (c₁ : List ℕ) (w₁ : List Float) (s : RunCells terms part at stride across (m * 3) c c₁ w w₁) where
    pub rest-ready : RunReady terms (drop m part) r (at + m * stride) stride across c₁ w₁
    rest-ready =
        let f = rest-fits 0 ◌+◌ _ (λ x. x.count) terms part n at stride across c run-counts m r e c₁ s.counts in
        let g = rest-fits nan (add binary32) _ (λ x. x.weight) terms part n at stride across w run-weights m r e w₁ s.weights in
        record {
          standing = R.standing;
          places = record {
            patterns = omega (arith, length-drop m part, R.places.patterns);
            small = λ i h. rw (get_or-drop m part i 0) (R.places.small (m + i) (omega arith));
            apart = f.apart;
          };
          inside = λ j h. (f.inside j h, g.inside j h);
          fits = f.taken;
        }

    pub rest-credited : (c₂ : List ℕ) (w₂ : List Float) → RunCredited terms (drop m part) r (at + m * stride) stride across c₁ c₂ w₁ w₂ → RunCredited terms part n at stride across c c₂ w w₂
    rest-credited c₂ w₂ u = record {
      counts = rest-done 0 ◌+◌ _ (λ x. x.count) terms part n at stride across c run-counts m r e c₁ s.counts c₂ u.counts;
      weights = rest-done nan (add binary32) _ (λ x. x.weight) terms part n at stride across w run-weights m r e w₁ s.weights w₂ u.weights;
    }

-- ---- a family that holds no edge: nothing is stored
pub family-empty : (B : Board) (d : Side) (f : ℕ) (c : List ℕ) (w : List Float) → FamilyReady B d f c w → fold ◌+◌ 0 6 all (places_n (d.groups + f * 6) c) ≡ 0 → FamilyCredited B d f c c w w
family-empty B d f c w R none = let s = is_horizontal d in let cells = d.cells in let groups = d.groups in record {
  counts = zone-none 0 _ cells (3 * period_of B s) c (λ k h. sym (ap (λ x. places_n cells c k + x) (no-term (places_n (groups + f * 6) c) none (cell_pattern B s f k) (short_class B s k) ◌+◌ 0 false (λ b. places_n (groups + f * 6) c)) ∙ add-zero (places_n cells c k)));
  weights =
      zone-none nan _ cells (3 * period_of B s) w
      (λ k h. sym (ap (add binary32 (places_f cells w k)) (no-term (places_n (groups + f * 6) c) none (cell_pattern B s f k) (short_class B s k) (add binary32) zero_f false (λ b. places_f (groups + f * 6) w)) ∙ add-plus-zero (places_f cells w k) (R.plain k h)));
}

-- ---- a family, where its terms stand in a table
module _ (B : Board) (d : Side) (f : ℕ) (c : List ℕ) (w : List Float) (R : FamilyReady B d f c w)
    (t : List (List FamilyTerm)) (T : Terms (places_n (d.groups + f * 6) c) (places_f (d.groups + f * 6) w) t) where
  abbrev s : Bool
  s = is_horizontal d

  abbrev cells : ℕ
  cells = d.cells

  abbrev groups : ℕ
  groups = d.groups

  abbrev ps : List ℕ
  ps = table_of B s

  abbrev n₁ : ℕ
  n₁ = length ps - f

  -- what the family adds to cell k
  abbrev gain : ℕ → FamilyTerm
  gain k = term (places_n (groups + f * 6) c) (places_f (groups + f * 6) w) (cell_pattern B s f k) (short_class B s k)

  gains : (k : ℕ) → k < 3 * period_of B s → entry no_term t (cell_pattern B s f k) (short_class B s k) ≡ gain k
  gains k h =
      terms-at (places_n (groups + f * 6) c) (places_f (groups + f * 6) w) t (cell_pattern B s f k) (short_class B s k) T (pattern-small B d f R.places (long_class B s k + f)) (short-below B (side-some B R.places.board) k s h)

  abbrev Room : ℕ → FamilyTerm → Type 0
  Room k x = get_or c k 0 + x.count < 2 ^ 32

  room : (k : ℕ) → k < 3 * period_of B s → Room (cells + k) (gain k)
  unfolding term
  room k h = R.fits k h

  standing : Standing d.stride d.across
  standing = rw (R.places.steps.0, R.places.steps.1) (of s)
    where
      of : (s : Bool) → Standing (stride_of s) (across_of (period_of B false) s)
      of true = inl (refl, refl)
      of false = inr refl

  pub first-ready : (n : ℕ) → n ≡ n₁ → RunReady t (drop f ps) n cells d.stride d.across c w
  first-ready n e = rw e (record {
    standing = standing;
    places = first-places B d f R.places;
    inside = λ j h. (first-inside B d f R.places (length c) R.room.0 j h, first-inside B d f R.places (length w) R.room.1 j h);
    fits = first_holds B d f R.places no_term t gain gains Room room;
  })

  -- the second run, after the first
  module _ (c₁ : List ℕ) (w₁ : List Float) (r₁ : RunCredited t (drop f ps) n₁ cells d.stride d.across c c₁ w w₁) where
    pub second-ready : (at : ℕ) → at ≡ cells + n₁ * d.stride → RunReady t (drop 0 ps) f at d.stride d.across c₁ w₁
    second-ready at e = rw e (record {
      standing = standing;
      places = second-places B d f R.places;
      inside = λ j h. (
        second-inside B d f R.places (length c₁) (omega (arith, R.room.0, r₁.counts.len)) j h,
        second-inside B d f R.places (length w₁) (omega (arith, R.room.1, r₁.weights.len)) j h,
      );
      fits = λ j h.
          rw (second-place B d f R.places, r₁.counts.rest (cells + stand B s (n₁ * 3 + j)) (second-fresh B d f R.places j h))
          (second_holds B d f R.places no_term t gain gains Room room j h);
    })

    pub family-credited : (c₂ : List ℕ) (w₂ : List Float) → RunCredited t (drop 0 ps) f (cells + n₁ * d.stride) d.stride d.across c₁ c₂ w₁ w₂ → FamilyCredited B d f c c₂ w w₂
    unfolding term
    family-credited c₂ w₂ r₂ = record {
      counts = family-zone B d f R.places no_term t gain gains 0 ◌+◌ (λ x. x.count) c c₁ c₂ r₁.counts r₂.counts;
      weights = family-zone B d f R.places no_term t gain gains nan (add binary32) (λ x. x.weight) w w₁ w₂ r₁.weights r₂.weights;
    }
