-- One edge more in the row of groups; and the row, read by sides, is the groups of each side.
use Rattle.std.specs.Prelude.{◌≡◌, refl, Bool, ◌&&◌, cond, List, ℕ, ◌+◌, ◌*◌, ◌≤◌, ◌<◌, eqb, ℤ, length, get_or, set, Float}
use Rattle.std.proofs.Common.{sym, ap, ◌∙◌, zero-add, arith, lit<, eq-eqb, ne_eqb, eqb-true}
use Rattle.std.proofs.Math.Bool.{true, false}
use Rattle.std.specs.Float.{nan, binary32}
use Rattle.std.specs.Float.Ieee.{add}
use Rattle.std.proofs.lemmas.Bool.{eqb-false}
use Rattle.laws.specs.Words.{fold, one, zero_f}
use Rattle.laws.specs.Fold.{fold-hit, fold-miss, fold-zero}
use Rattle.laws.specs.Counting.{count-le}
use Rattle.laws.specs.DoubleCounting.{fold-ext}
use Rattle.laws.specs.RemainderLaws.{emod-lt}
use Rattle.laws.specs.Zone.{Zone, zone-none, zone-set}
use Rattle.board.specs.declared.edge.Edge.{Edge}
use Rattle.board.specs.declared.edge.EdgeLookup.{EdgeLookup}
use Rattle.board.specs.Transform.{lookup_of}
use Rattle.board.specs.Hits.{EdgeList, Board, size, seen, edge_at, look, horizontal}
use Rattle.board.specs.Sides.{is, on_side, period_of, long_of, short_of}
use Rattle.groups.specs.Groups.{group, group_at, member, confidence_at, place_of}
use Rattle.room.specs.Room.{PeriodsOk, row_length}
use Rattle.groups.specs.Fill.{place_at, row_sum, FillReady, Filled}

-- ---- a group's number is below six a long residue
pub group-below : (period : ℕ) (x y : ℤ) (b : ℕ) → 0 < period → b < 2 → group period x y b < period * 6
group-below period x y b h k = omega (arith, emod-lt x period h, emod-lt y 3 (lit< tt))

pub place-below : (L M : ℕ) (l : EdgeLookup) (bit : ℕ) → PeriodsOk (record { h = L; v = M }) → bit < 2 → place_of L M l bit < row_length L M
place-below L M l bit p h = go (horizontal l)
  where
    go : (s : Bool) → cond s (group L l.row l.col bit) (L * 6 + group M l.col l.row bit) < (L + M) * 6
    go true = omega (arith, group-below L l.row l.col bit p.some.0 h)
    go false = omega (arith, group-below M l.col l.row bit p.some.1 h)

-- ---- the place of edge i, by value: by two moduli it is the place by the periods that they hold
pub place-held : (L M n m : ℕ) (E : EdgeList) (t i : ℕ) (e : Edge) (p : ℕ) → n ≡ L → m ≡ M → e ≡ edge_at E i
    → (p ≡ place_of n m (lookup_of t e.row e.col e.orientation) e.bit) × (p < row_length n m) → (p ≡ place_at L M E t i) × (p < row_length L M)
unfolding look
place-held L M n m E t i e p a b q h = rw (a, b, q) at h

-- what can be filled, and what is filled, by the periods and by numbers that equal them
module _ (L M n m : ℕ) (E : EdgeList) (t base : ℕ) (e : n ≡ L) (f : m ≡ M) where
  pub ready_held : (c : List ℕ) (w : List Float) → FillReady L M E t base c w → FillReady n m E t base c w
  ready_held c w R = rw (e, f) R

  pub filled-held : (i k : ℕ) → k ≡ i → (c c' : List ℕ) (w w' : List Float) → Filled n m E t base k c c' w w' → Filled L M E t base i c c' w w'
  filled-held i k q c c' w w' F = rw (e, f, q) at F

-- ---- one edge more, for any sum
pub row_more : {A : Type 0} (d : A) (op : A → A → A) (z : A) (f : ℕ → A) (L M : ℕ) (E : EdgeList) (t base i p : ℕ) (old new : List A)
    → Zone d (row_sum op z f L M E t i) base (row_length L M) old new → base + row_length L M ≤ length old → p ≡ place_at L M E t i → p < row_length L M
    → Zone d (row_sum op z f L M E t (i + 1)) base (row_length L M) old (set new (base + p) (op (get_or new (base + p) d) (f i)))
row_more d op z f L M E t base i p old new h room e b =
    zone-set d (row_sum op z f L M E t i) (row_sum op z f L M E t (i + 1)) base (row_length L M) old new p (op (get_or new (base + p) d) (f i)) h b room
    (ap (λ x. op x (f i)) (h.inside p b) ∙ sym (fold-hit op z (λ j. eqb (place_at L M E t j) p) f i (eq-eqb (place_at L M E t i) p (sym e))))
    (λ k q. fold-miss op z (λ j. eqb (place_at L M E t j) k) f i (ne_eqb (place_at L M E t i) k (λ r. q (sym r ∙ sym e))))

module _ (L M : ℕ) (E : EdgeList) (t base : ℕ) (c : List ℕ) (w : List Float) (R : FillReady L M E t base c w) where
  pub filled_none : Filled L M E t base 0 c c w w
  filled_none = record {
    counts = zone-none 0 _ base (row_length L M) c (λ k b. R.counts k b ∙ sym (fold-zero ◌+◌ 0 (λ i. eqb (place_at L M E t i) k) one));
    weights = zone-none nan _ base (row_length L M) w (λ k b. R.weights k b ∙ sym (fold-zero (add binary32) zero_f (λ i. eqb (place_at L M E t i) k) (confidence_at E)));
  }

  pub filled_more : (i p : ℕ) (c' : List ℕ) (w' : List Float) → Filled L M E t base i c c' w w' → p ≡ place_at L M E t i → p < row_length L M
      → Filled L M E t base (i + 1) c (set c' (base + p) (get_or c' (base + p) 0 + 1)) w (set w' (base + p) (add binary32 (get_or w' (base + p) nan) (confidence_at E i)))
  filled_more i p c' w' F e b = record {
    counts = row_more 0 ◌+◌ 0 one L M E t base i p c c' F.counts R.room.0 e b;
    weights = row_more nan (add binary32) zero_f (confidence_at E) L M E t base i p w w' F.weights R.room.1 e b;
  }

  -- a count has room for one more
  pub filled-few : (i p : ℕ) (c' : List ℕ) (w' : List Float) → Filled L M E t base i c c' w w' → i ≤ size E → p < row_length L M
      → (base + p < length c') × (base + p < length w') × (get_or c' (base + p) 0 ≤ 8192)
  filled-few i p c' w' F h b =
      let a : fold ◌+◌ 0 i (λ j. eqb (place_at L M E t j) p) one ≤ i = count-le (λ j. eqb (place_at L M E t j) p) i in
      (omega (arith, R.room.0, F.counts.len), omega (arith, R.room.1, F.weights.len), omega (arith, F.counts.inside p b, R.list.few))

-- ---- the row, side by side
shift : (a s k : ℕ) (q : Bool) → eqb s k ≡ q → eqb (a + s) (a + k) ≡ eqb s k
shift a s k true q = eq-eqb (a + s) (a + k) (ap (λ x. a + x) (eqb-true s k q)) ∙ sym q
shift a s k false q = ne_eqb (a + s) (a + k) (λ e. eqb-false s k q (cancel e)) ∙ sym q
  where
    cancel : a + s ≡ a + k → s ≡ k
    cancel e = omega arith

-- group x of the horizontal side or y of the other, found at place k of the side s; the horizontal side has n groups
at_side : (n : ℕ) (s b : Bool) (x y k : ℕ) → x < n → (s ≡ true → k < n) → eqb (cond b x (n + y)) (cond s 0 n + k) ≡ (is s b && eqb (cond s x y) k)
at_side n true true x y k p q = ap (eqb x) (zero-add k)
at_side n true false x y k p q = let l = q refl in ne_eqb (n + y) (0 + k) (λ e. past l e)
  where
    past : k < n → n + y ≡ 0 + k → ⊥
    past l e = omega arith
at_side n false true x y k p q = ne_eqb x (n + k) (λ e. past e)
  where
    past : x ≡ n + k → ⊥
    past e = omega arith
at_side n false false x y k p q = shift n y k (eqb y k) refl

module _ {A : Type 0} (op : A → A → A) (z : A) (f : ℕ → A) (B : Board) (E : EdgeList) (t : ℕ) (some : 0 < period_of B true) (bits : (i : ℕ) → i < size E → seen E i < 2) where
  both : (s : Bool) (i : ℕ) → cond s (group_at B E t true i) (group_at B E t false i) ≡ group_at B E t s i
  both true i = refl
  both false i = refl

  place : (s : Bool) (k i : ℕ) → (s ≡ true → k < period_of B true * 6) → i < size E
      → eqb (place_at (period_of B true) (period_of B false) E t i) (cond s 0 (period_of B true * 6) + k) ≡ (on_side E t s i && eqb (cond s (group_at B E t true i) (group_at B E t false i)) k)
  unfolding group_at
  place s k i h l =
      at_side (period_of B true * 6) s (horizontal (look E t i)) (group_at B E t true i) (group_at B E t false i) k
      (group-below (period_of B true) (long_of E t true i) (short_of E t true i) (seen E i) some (bits i l)) h

  pub row-side : (s : Bool) (k : ℕ) → (s ≡ true → k < period_of B true * 6)
      → row_sum op z f (period_of B true) (period_of B false) E t (size E) (cond s 0 (period_of B true * 6) + k) ≡ fold op z (size E) (member B E t s k) f
  row-side s k h =
      fold-ext op z (size E) _ _ f f
      (λ i l. place s k i h l ∙ ap (λ x. on_side E t s i && eqb x k) (both s i))
      (λ i l. refl)
