-- Laws of cells: one family more, what all families hold, and the cell's count and weight against the edges.
use Rattle.std.specs.Prelude.{◌≡◌, Bool, ◌&&◌, ◌||◌, cond, List, T, eqb, ltb, ℤ, pos, ◌+ℤ◌, get_or, length, Float}
use Rattle.std.proofs.Math.Path.{refl, sym, ap}
use Rattle.std.proofs.Common.{ap₂, ◌∙◌, le_trans, le_of_eq, div-add-mod', arith, lit<}
use Rattle.std.proofs.Math.Bool.{true, false, not}
use Prim.Native.Nat.{ℕ, zero, suc, ◌+◌, ◌*◌, ◌/◌, ◌%◌, ◌^◌, ◌≤◌, ◌<◌}
use Rattle.std.proofs.Math.Nat.{add-zero, add_assoc, add_comm}
use Rattle.std.proofs.Math.Dec.{eqb-suc-zero}
use Rattle.std.specs.Float.{binary32}
use Rattle.std.specs.Float.Ieee.{add, fits}
use borrow.Author.Tests.{lt-ltb}
use Rattle.laws.specs.Tests.{and-true, and_comm, and-ext}
use Rattle.laws.specs.Words.{put, fold, all, one, count, emod, zero_f, Weight}
use Rattle.laws.specs.Fold.{fold-zero, fold-hit, sum-some, sum_mono, sum-le}
use Rattle.laws.specs.Counting.{count-le}
use Rattle.laws.specs.DoubleCounting.{fold-ext, fold-where, flatten, regroup, edge-by-edge, edge-by-edge-both}
use Rattle.laws.specs.RemainderLaws.{emod-lt, emod-add}
use Rattle.laws.specs.Weights.{Upto}
use Rattle.laws.specs.WeightLaws.{Bounds, by-counts, sum-bounded}
use Rattle.laws.specs.PlusZero.{sum_fits}
use Rattle.laws.specs.Zone.{Zone}
use Rattle.board.specs.Hits.{EdgeList, Board, size, seen, bit_at, pattern_bit, hit}
use Rattle.board.specs.Sides.{on_side, table_of, period_of, long_of, short_of, side_hits}
use Rattle.board.proofs.HitsLaws.{hit-side}
use Rattle.groups.specs.Groups.{group, group_at, member, group_sum, group_count, group_weight, confidence_at}
use Rattle.terms.specs.Terms.{agrees, adds, term_sum}
use Rattle.terms.specs.TermsLaws.{same-term}
use Rattle.cells.specs.Cells.{long_class, short_class, pattern_at, cell_sum, family, family_of, family_c, family_w, class_sum, cell_count}
use Rattle.groups.specs.FillLaws.{group-below}
use Rattle.tables.specs.Side.{total}

-- ---- one family more, of any sum
module _ {A : Type 0} (op : A → A → A) (z : A) (term : ℕ → ℕ → ℕ → A) (ps : List ℕ) where
  pub cell-none : (lc s : ℕ) → cell_sum op z term ps 0 lc s ≡ z
  unfolding cell_sum
  cell-none lc s = fold-zero op z all _

  pub cell-more : (f lc s : ℕ) → cell_sum op z term ps (f + 1) lc s ≡ op (cell_sum op z term ps f lc s) (term f (pattern_at ps lc f) s)
  unfolding cell_sum
  cell-more f lc s = fold-hit op z all _ f refl

  -- families that add the same make the same cell
  pub cell_same : (term' : ℕ → ℕ → ℕ → A) (n lc s : ℕ) → ((f : ℕ) → f < n → (p : ℕ) → term f p s ≡ term' f p s) → cell_sum op z term ps n lc s ≡ cell_sum op z term' ps n lc s
  unfolding cell_sum
  cell_same term' n lc s e = fold-ext op z n all all _ _ (λ f l. refl) (λ f l. e f l (pattern_at ps lc f))

  -- a zone of cells with one family more
  pub zone-family : (d : A) (lc sc : ℕ → ℕ) (at n f : ℕ) (old mid new : List A) → Zone d (λ k. cell_sum op z term ps f (lc k) (sc k)) at n old mid
      → Zone d (λ k. op (get_or mid (at + k) d) (term f (pattern_at ps (lc k) f) (sc k))) at n mid new → Zone d (λ k. cell_sum op z term ps (f + 1) (lc k) (sc k)) at n old new
  zone-family d lc sc at n f old mid new a b = record {
    len = b.len ∙ a.len;
    inside = λ k h. b.inside k h ∙ ap (λ x. op x (term f (pattern_at ps (lc k) f) (sc k))) (a.inside k h) ∙ sym (cell-more f (lc k) (sc k));
    below = λ k h. b.below k h ∙ a.below k h;
    above = λ k h. b.above k h ∙ a.above k h;
  }

-- ---- groups that hold the same make the same cells
same-family : {A : Type 0} (g g' : ℕ → A) (n : ℕ) → ((k : ℕ) → k < n * 6 → g k ≡ g' k) → (f : ℕ) → f < n → (j : ℕ) → j < 6 → family g f j ≡ family g' f j
same-family g g' n e f h j l = e (f * 6 + j) (omega arith)

pub same-cell : {A : Type 0} (op : A → A → A) (z : A) (misses : Bool) (g g' : ℕ → ℕ) (x x' : Bool → ℕ → A) (n : ℕ) → ((k : ℕ) → k < n * 6 → g k ≡ g' k) → ((b : Bool) (k : ℕ) → k < n * 6 → x b k ≡ x' b k)
    → (ps : List ℕ) (lc s : ℕ) → cell_sum op z (family_of op z misses g x) ps n lc s ≡ cell_sum op z (family_of op z misses g' x') ps n lc s
same-cell op z misses g g' x x' n e d ps lc s =
    cell_same op z (family_of op z misses g x) ps (family_of op z misses g' x') n lc s
    (λ f h p. same-term 6 (family g f) (family g' f) p s (same-family g g' n e f h) op z misses (λ b. family (x b) f) (λ b. family (x' b) f) (λ b. same-family (x b) (x' b) n (d b) f h))

-- ---- a cell has no more than all groups together
pub total_mono : (g : ℕ → ℕ) (f n : ℕ) → f ≤ n → total g f ≤ total g n
unfolding total
total_mono g f n h = sum_mono all g (f * 6) (n * 6) (omega arith)

by-family : (g : ℕ → ℕ) (n : ℕ) → fold ◌+◌ 0 n all (λ f. fold ◌+◌ 0 6 all (family g f)) ≡ total g n
unfolding total
by-family g n = flatten ◌+◌ 0 add-zero add_assoc add_comm 6 n (λ f. all) (family g) ∙ fold-ext ◌+◌ 0 (n * 6) all all (λ k. g (k / 6 * 6 + k % 6)) g (λ k l. refl) (λ k l. ap g (div-add-mod' k 6))

pub cell-total : (g : ℕ → ℕ) (ps : List ℕ) (n lc s : ℕ) → cell_sum ◌+◌ 0 (family_c g) ps n lc s ≤ total g n
unfolding cell_sum term_sum
cell-total g ps n lc s =
    le_trans
    (sum-le n (λ f. fold ◌+◌ 0 6 (adds false (family g f) (pattern_at ps lc f) s) (family g f)) (λ f. fold ◌+◌ 0 6 all (family g f)) (λ f. sum-some (adds false (family g f) (pattern_at ps lc f) s) (family g f) 6))
    (le_of_eq (by-family g n))

-- nor has a family
pub family-total : (g : ℕ → ℕ) (f n : ℕ) → f < n → fold ◌+◌ 0 6 all (family g f) ≤ total g n
family-total g f n h =
    let b = fold-hit ◌+◌ 0 all (λ f. fold ◌+◌ 0 6 all (family g f)) f refl in
    let m : total g (f + 1) ≤ total g n = total_mono g (f + 1) n (omega arith) in
    omega (arith, b, by-family g (f + 1))

-- ---- weights: bounded as what is added up is (U bounds a sum, W what is added to it)
module _ (U W : Float → ℕ → Type 0) (K : Bounds U W) where
  module _ (g : ℕ → ℕ) (w : ℕ → Float) (n : ℕ) (small : (k : ℕ) → k < n * 6 → W (w k) (g k)) (few : total g n ≤ 2 ^ 24) where
    term-bounded : (f : ℕ) → f < n → (p s : ℕ) → U (family_w g w f p s) (family_c g f p s)
    unfolding term_sum
    term-bounded f h p s =
        let a : fold ◌+◌ 0 6 (adds false (family g f) p s) (family g f) ≤ fold ◌+◌ 0 6 all (family g f) = sum-some (adds false (family g f) p s) (family g f) 6 in
        sum-bounded U W K (adds false (family g f) p s) (family w f) (family g f) 6 (λ j l. small (f * 6 + j) (omega arith)) (omega (arith, family-total g f n h))

    pub cell-bounded : (ps : List ℕ) (lc s : ℕ) → U (cell_sum (add binary32) zero_f (family_w g w) ps n lc s) (cell_sum ◌+◌ 0 (family_c g) ps n lc s)
    unfolding cell_sum
    cell-bounded ps lc s =
        sum-bounded U W K all (λ f. family_w g w f (pattern_at ps lc f) s) (λ f. family_c g f (pattern_at ps lc f) s) n
        (λ f l. K.again (family_w g w f (pattern_at ps lc f) s) (family_c g f (pattern_at ps lc f) s) (term-bounded f l (pattern_at ps lc f) s))
        (le_trans (cell-total g ps n lc s) few)

  -- a group of at most so many edges
  pub group-bounded : (B : Board) (E : EdgeList) (t : ℕ) → size E ≤ 2 ^ 24 → ((i : ℕ) → i < size E → W (confidence_at E i) 1) → (s : Bool) (k : ℕ) → U (group_weight B E t s k) (group_count B E t s k)
  group-bounded B E t h c s k = sum-bounded U W K (member B E t s k) (confidence_at E) one (size E) c (le_trans (count-le (member B E t s k) (size E)) h)

-- by counts
pub cell-upto : (g : ℕ → ℕ) (w : ℕ → Float) (n : ℕ) → ((k : ℕ) → k < n * 6 → Weight (w k) (g k)) → total g n ≤ 2 ^ 24 → (ps : List ℕ) (lc s : ℕ)
    → Upto (cell_sum (add binary32) zero_f (family_w g w) ps n lc s) (cell_sum ◌+◌ 0 (family_c g) ps n lc s)
cell-upto = cell-bounded Upto Weight by-counts

-- a cell's weight is a value of f32
pub cell-fits : (g : ℕ → ℕ) (w : ℕ → Float) (n : ℕ) (ps : List ℕ) (lc s : ℕ) → T (fits binary32 (cell_sum (add binary32) zero_f (family_w g w) ps n lc s))
unfolding cell_sum
cell-fits g w n ps lc s = sum_fits all (λ f. family_w g w f (pattern_at ps lc f) s) n

-- ---- a cell is the edges, counted or added up
-- what holds nothing where it has no edge, and is not empty otherwise
module _ {A : Type 0} (op : A → A → A) (z : A) (unit : (a : A) → op a z ≡ a) where
  -- no edge chosen: nothing added
  none-step : (b : Bool) (k : ℕ) (a y : A) → put ◌+◌ b k 1 ≡ 0 → (k ≡ 0 → a ≡ z) → put op b a y ≡ z
  none-step true k a y e h = absurd (past k e)
    where
      past : (k : ℕ) → k + 1 ≡ 0 → ⊥
      past k h = omega arith
  none-step false k a y e h = h e

  none-chosen : (n : ℕ) (p : ℕ → Bool) (x : ℕ → A) → count n p ≡ 0 → fold op z n p x ≡ z
  unfolding fold
  none-chosen zero p x e = refl
  none-chosen (suc n) p x e = none-step (p n) (count n p) (fold op z n p x) (x n) e (none-chosen n p x)

  keep-empty : (b : Bool) (a y : A) (k : ℕ) → (k ≡ 0 → y ≡ z) → put op (not (eqb k 0) && b) a y ≡ put op b a y
  keep-empty true a y zero h = sym (ap (op a) (h refl) ∙ unit a)
  keep-empty false a y zero h = refl
  keep-empty b a y (suc k) h = rw eqb-suc-zero

  -- an empty group adds nothing, so it may be left out or not
  skip-empty : (n : ℕ) (c : ℕ → ℕ) (q : ℕ → Bool) (y : ℕ → A) → ((j : ℕ) → c j ≡ 0 → y j ≡ z) → fold op z n (λ j. not (eqb (c j) 0) && q j) y ≡ fold op z n q y
  unfolding fold
  skip-empty zero c q y h = refl
  skip-empty (suc n) c q y h = keep-empty (q n) (fold op z n (λ j. not (eqb (c j) 0) && q j) y) (y n) (c n) (h n) ∙ ap (λ a. put op (q n) a (y n)) (skip-empty n c q y h)

  -- the same of a term: with the empty groups left out, and with all six
  pub term-all : (misses : Bool) (n : ℕ) (c : ℕ → ℕ) (x : Bool → ℕ → A) (p s : ℕ) → ((b : Bool) (j : ℕ) → c j ≡ 0 → x b j ≡ z) → term_sum op z misses n c x p s ≡ term_sum op z misses n one x p s
  unfolding term_sum
  term-all misses n c x p s h = skip-empty n c (λ j. misses || agrees p s j) (λ j. x (agrees p s j) j) (λ j e. h (agrees p s j) j e)

  -- a group without edges holds nothing
  pub group-none : (B : Board) (E : EdgeList) (t : ℕ) (s : Bool) (x : ℕ → A) (k : ℕ) → group_count B E t s k ≡ 0 → group_sum op z x B E t s k ≡ z
  group-none B E t s x k e = none-chosen (size E) (member B E t s k) x e

-- ---- families of groups, added up, are the edges added up: hits alone, or hits and misses
module _ {A : Type 0} (op : A → A → A) (z : A) (unit : (a : A) → op a z ≡ a) (assoc : (a b c : A) → op (op a b) c ≡ op a (op b c)) (comm : (a b : A) → op a b ≡ op b a)
    (L n : ℕ) (o : ℕ → Bool) (slot : ℕ → ℕ) (P : ℕ → ℕ → Bool) (x : Bool → ℕ → A) where
  -- the edges of one group
  abbrev held : (ℕ → A) → ℕ → A
  held v k = fold op z n (λ i. o i && eqb (slot i) k) v

  -- the group of edge i agrees
  abbrev own : ℕ → Bool
  own i = P (slot i / 6) (slot i % 6)

  pick : {X : Type 0} (f : Bool → X) (b : Bool) → f b ≡ cond b (f true) (f false)
  pick f true = refl
  pick f false = refl

  pub families-edges : (misses : Bool) → fold op z L all (λ f. fold op z 6 (λ j. misses || P f j) (λ j. held (x (P f j)) (f * 6 + j)))
      ≡ fold op z n (λ i. o i && (ltb (slot i) (L * 6) && (misses || own i))) (λ i. x (own i) i)
  families-edges false =
      fold-ext op z L all all _ _ (λ f l. refl)
      (λ f l. fold-where op z 6 (P f) (λ j. held (x (P f j)) (f * 6 + j)) (λ j. held (x true) (f * 6 + j)) (λ j h e. ap (λ b. held (x b) (f * 6 + j)) e))
      ∙ edge-by-edge op z unit assoc comm 6 L n o slot P (x true)
      ∙ fold-where op z n (λ i. o i && (ltb (slot i) (L * 6) && own i)) (x true) (λ i. x (own i) i)
      (λ i h e. ap (λ b. x b i) (sym (and-true (ltb (slot i) (L * 6)) (own i) (and-true (o i) (ltb (slot i) (L * 6) && own i) e).1).1))
  families-edges true =
      fold-ext op z L all all _ _ (λ f l. refl)
      (λ f l. fold-ext op z 6 all all _ _ (λ j h. refl) (λ j h. pick (λ b. held (x b) (f * 6 + j)) (P f j)))
      ∙ edge-by-edge-both op z unit assoc comm 6 L n o slot P (x true) (x false)
      ∙ fold-ext op z n _ _ _ _ (λ i h. ap (λ b. o i && b) (and_comm true (ltb (slot i) (L * 6)))) (λ i h. sym (pick (λ b. x b i) (own i)))

-- what the first n families add up to, where the addition has neither order nor brackets: the sum over the edges of their groups
module _ (B : Board) (E : EdgeList) (t : ℕ) {A : Type 0} (op : A → A → A) (z : A) (unit : (a : A) → op a z ≡ a) (assoc : (a b c : A) → op (op a b) c ≡ op a (op b c))
    (comm : (a b : A) → op a b ≡ op b a) (misses : Bool) (x : Bool → ℕ → A) (s : Bool) where
  -- the group of edge i agrees at the class (lc, sc)
  abbrev agrees_at : ℕ → ℕ → ℕ → Bool
  agrees_at lc sc i = agrees (pattern_at (table_of B s) lc (group_at B E t s i / 6)) sc (group_at B E t s i % 6)

  pub families-by-edges : (n lc sc : ℕ) → cell_sum op z (family_of op z misses (group_count B E t s) (λ b. group_sum op z (x b) B E t s)) (table_of B s) n lc sc
      ≡ fold op z (size E) (λ i. on_side E t s i && (ltb (group_at B E t s i) (n * 6) && (misses || agrees_at lc sc i))) (λ i. x (agrees_at lc sc i) i)
  unfolding cell_sum term_sum
  families-by-edges n lc sc =
      fold-ext op z n all all _ _ (λ f l. refl)
      (λ f l. term-all op z unit misses 6 (family (group_count B E t s) f) (λ b. family (group_sum op z (x b) B E t s) f) (pattern_at (table_of B s) lc f) sc (λ b j e. group-none op z unit B E t s (x b) (f * 6 + j) e))
      ∙ families-edges op z unit assoc comm n (size E) (on_side E t s) (group_at B E t s) (λ f j. agrees (pattern_at (table_of B s) lc f) sc j) x misses

-- a group's number, taken apart
group-parts : (l s b : ℕ) → s < 3 → b < 2 → let k = l * 6 + s * 2 + b in (k / 6 ≡ l) × (k % 6 / 2 ≡ s) × (k % 6 % 2 ≡ b)
group-parts l s b h k = (omega arith, omega arith, omega arith)

-- a coordinate moved by r
moved : (x : ℤ) (r n : ℕ) → 0 < n → (r + emod x n) % n ≡ emod (x +ℤ pos r) n
moved x r n h = ap (λ a. a % n) (add_comm r (emod x n)) ∙ emod-add x r n h

-- one edge with long and short coordinates x and y and bit b: its group agrees at the class (a, s) where the pattern's bit is the edge's
group-agrees : (ps : List ℕ) → 0 < length ps → (x y : ℤ) (b : ℕ) → b < 2 → (a s : ℕ) → let k = group (length ps) x y b in
    agrees (pattern_at ps a (k / 6)) s (k % 6) ≡ eqb (pattern_bit ps (x +ℤ pos a) (y +ℤ pos s)) b
group-agrees ps some x y b h a s =
    let k = group-parts (emod x (length ps)) (emod y 3) b (emod-lt y 3 (lit< tt)) h in
    rw (k.0, k.1, k.2) (ap₂ (λ (p j : ℕ). eqb (bit_at (get_or ps p 0) j) b) (moved x a (length ps) some) (moved y s 3 (lit< tt)))

module _ (B : Board) (E : EdgeList) (t : ℕ) (some : (s : Bool) → 0 < period_of B s) (bits : (i : ℕ) → i < size E → seen E i < 2) where
  -- an edge's group is one of its side's, and agrees at a class where the edge is a hit
  pub in_table : (s : Bool) (i : ℕ) → i < size E → ltb (group_at B E t s i) (period_of B s * 6) ≡ true
  unfolding group_at
  in_table s i l = lt-ltb _ _ (group-below (period_of B s) (long_of E t s i) (short_of E t s i) (seen E i) (some s) (bits i l))

  pub hit-group : (s : Bool) (r c i : ℕ) → i < size E → on_side E t s i ≡ true
      → agrees (pattern_at (table_of B s) (cond s r c) (group_at B E t s i / 6)) (cond s c r) (group_at B E t s i % 6) ≡ hit B E t r c i
  unfolding group_at
  hit-group s r c i l e =
      group-agrees (table_of B s) (some s) (long_of E t s i) (short_of E t s i) (seen E i) (bits i l) (cond s r c) (cond s c r) ∙ sym (hit-side B E t s r c i e)

  -- WHERE THE ADDITION HAS NEITHER ORDER NOR BRACKETS (whole numbers): what all families add up to is the sum over the side's edges at the class. Each hit adds what it
  -- holds, and each miss too where misses add. Weights in f32 differ from it in the order of rounding alone
  pub class-by-edges : {A : Type 0} (op : A → A → A) (z : A) → ((a : A) → op a z ≡ a) → ((a b c : A) → op (op a b) c ≡ op a (op b c)) → ((a b : A) → op a b ≡ op b a)
      → (misses : Bool) (x : Bool → ℕ → A) (s : Bool) (r c : ℕ)
      → class_sum op z misses x B E t s (cond s r c) (cond s c r) ≡ fold op z (size E) (λ i. on_side E t s i && (misses || hit B E t r c i)) (λ i. x (hit B E t r c i) i)
  class-by-edges op z unit assoc comm misses x s r c =
      families-by-edges B E t op z unit assoc comm misses x s (period_of B s) (cond s r c) (cond s c r)
      ∙ fold-where op z (size E) _ _ _ (λ i l e. ap (λ b. x b i) (hit-group s r c i l (and-true (on_side E t s i) _ e).0))
      ∙ fold-ext op z (size E) _ _ _ _ (λ i l. and-ext (on_side E t s i) (λ e. ap₂ (λ a b. a && (misses || b)) (in_table s i l) (hit-group s r c i l e))) (λ i l. refl)

  -- counts: each hit adds one
  pub cell-side : (s : Bool) (r c : ℕ) → cell_sum ◌+◌ 0 (family_c (group_count B E t s)) (table_of B s) (period_of B s) (cond s r c) (cond s c r) ≡ side_hits B E t s r c
  unfolding side_hits
  cell-side s r c = class-by-edges ◌+◌ 0 add-zero add_assoc add_comm false (λ b. one) s r c

  -- the same by cell
  pub cell-count : (s : Bool) (k : ℕ) → cell_sum ◌+◌ 0 (family_c (group_count B E t s)) (table_of B s) (period_of B s) (long_class B s k) (short_class B s k) ≡ cell_count B E t s k
  unfolding long_class short_class cell_count
  cell-count true k = cell-side true (k / 3) (k % 3)
  cell-count false k = cell-side false (k / period_of B false) (k % period_of B false)

-- ---- all groups of a side hold no more than the list, whatever number edge i adds
pub total-numbers : (B : Board) (E : EdgeList) (t : ℕ) (x : ℕ → ℕ) (s : Bool) (n : ℕ) → total (group_sum ◌+◌ 0 x B E t s) n ≤ fold ◌+◌ 0 (size E) all x
unfolding total
total-numbers B E t x s n =
    le_trans
    (le_of_eq (regroup ◌+◌ 0 add-zero add_assoc add_comm (n * 6) (size E) (on_side E t s) (group_at B E t s) all x))
    (sum-some (λ i. on_side E t s i && (ltb (group_at B E t s i) (n * 6) && true)) x (size E))

-- so no more edges
pub total-edges : (B : Board) (E : EdgeList) (t : ℕ) (s : Bool) (n : ℕ) → total (group_count B E t s) n ≤ size E
total-edges B E t s n = le_trans (total-numbers B E t one s n) (count-le all (size E))

-- and a group's weight is at most its count
pub group-upto : (B : Board) (E : EdgeList) (t : ℕ) → size E ≤ 2 ^ 24 → ((i : ℕ) → i < size E → Weight (confidence_at E i) 1) → (s : Bool) (k : ℕ) → Upto (group_weight B E t s k) (group_count B E t s k)
group-upto = group-bounded Upto Weight by-counts
