-- That certain means certain: as long as the answer is not certain by the edges read, the others can still make it yes and can still make it no. So no reader of a list could stop earlier.
use Rattle.std.specs.Prelude.{◌≡◌, refl, Bool, cond, List, [], ◌∷◌, ltb, eqb, get_or, length, ℤ, pos, ◌+ℤ◌, Float}
use Rattle.std.proofs.Math.Path.{sym, ap, ap₂}
use Rattle.std.proofs.Common.{◌∙◌, le_refl, arith}
use Rattle.std.proofs.Math.Bool.{true, false}
use Rattle.std.proofs.Math.Logic.{⊎_elim}
use Prim.Native.Nat.{ℕ, zero, suc, ◌+◌, ◌-◌, ◌%◌, ◌≤◌, ◌<◌}
use Rattle.std.proofs.Math.Decide.{le_ind}
use Rattle.std.specs.Float.Ieee.{nan, le, lt, eq}
use borrow.Author.Tests.{lt-ltb, le-ltb, eq-eqb, ne_eqb, not-false}
use Rattle.laws.specs.Tests.{or-false, compared}
use Rattle.laws.specs.Words.{put, fold, one, count, zero_f}
use Rattle.laws.specs.DoubleCounting.{fold-ext}
use Rattle.answer.specs.declared.Square.{Square}
use Rattle.board.specs.declared.edge.Edge.{Edge}
use Rattle.board.specs.Transform.{lookup_of}
use Rattle.board.specs.Hits.{EdgeList, Board, size, edge_at, pattern_bit, predicted, edge_hit, horizontal, hit, hits}
use Rattle.board.proofs.HitsLaws.{hit-edge}
use Rattle.checks.specs.Checks.{far}
use Rattle.ranges.specs.Ranges.{in_range}
use Rattle.within_admission.specs.WithinAdmission.{fault_of, fault_at, Columns}
use Rattle.within.specs.Within.{allowed, certain, hits_to}
use Rattle.within_equal.specs.Equal.{Agree, certain_after}

-- ---- a list by its places
unfoldable pub placed : {A : Type 0} → (ℕ → A) → ℕ → List A
placed f zero = []
placed f (suc n) = f 0 ∷ placed (λ i. f (suc i)) n

placed-length : {A : Type 0} (f : ℕ → A) (n : ℕ) → length (placed f n) ≡ n
unfolding placed
placed-length f zero = refl
placed-length f (suc n) = ap suc (placed-length (λ i. f (suc i)) n)

placed_at : {A : Type 0} (f : ℕ → A) (n i : ℕ) (d : A) → i < n → get_or (placed f n) i d ≡ f i
unfolding placed
placed_at f zero i d l = absurd (omega arith)
placed_at f (suc n) zero d l = refl
placed_at f (suc n) (suc i) d l = placed_at (λ k. f (suc k)) n i d (omega arith)

-- the first i places of a column, and then always the same
abbrev filled : {A : Type 0} → List A → A → A → ℕ → ℕ → A
filled xs d a i k = cond (ltb k i) (get_or xs k d) a

-- ---- the first i edges of a list, and then one edge again and again: at row 0 and column 0, horizontal, with a bit
unfoldable pub completed : EdgeList → ℕ → ℕ → EdgeList
completed E i b =
    let n = size E in
    record {
      rows = placed (filled E.rows (pos 0) (pos 0) i) n;
      cols = placed (filled E.cols (pos 0) (pos 0) i) n;
      orientations = placed (filled E.orientations 0 0 i) n;
      bits = placed (filled E.bits 0 b i) n;
      confidences = placed (filled E.confidences nan zero_f i) n;
    }

abbrev again : ℕ → Edge
again b = record { row = pos 0; col = pos 0; orientation = 0; bit = b }

module _ (E : EdgeList) (i b : ℕ) where
  abbrev F : EdgeList
  F = completed E i b

  edge_of : (x y : ℤ) (o s : ℕ) → Edge
  edge_of x y o s = record { row = x; col = y; orientation = o; bit = s }

  completed-size : size F ≡ size E
  unfolding completed
  completed-size = placed-length (filled E.rows (pos 0) (pos 0) i) (size E)

  before_at : {A : Type 0} (xs : List A) (d a : A) (k : ℕ) → k < size E → k < i → get_or (placed (filled xs d a i) (size E)) k d ≡ get_or xs k d
  before_at xs d a k l m = placed_at (filled xs d a i) (size E) k d l ∙ rw (lt-ltb k i m) refl

  after-at : {A : Type 0} (xs : List A) (d a : A) (k : ℕ) → k < size E → i ≤ k → get_or (placed (filled xs d a i) (size E)) k d ≡ a
  after-at xs d a k l m = placed_at (filled xs d a i) (size E) k d l ∙ rw (le-ltb k i m) refl

  completed-edge : (k : ℕ) → k < size E → k < i → edge_at F k ≡ edge_at E k
  unfolding completed
  completed-edge k l m = λ j. record {
    row = before_at E.rows (pos 0) (pos 0) k l m j;
    col = before_at E.cols (pos 0) (pos 0) k l m j;
    orientation = before_at E.orientations 0 0 k l m j;
    bit = before_at E.bits 0 b k l m j;
  }

  completed-again : (k : ℕ) → k < size E → i ≤ k → edge_at F k ≡ again b
  unfolding completed
  completed-again k l m = λ j. record {
    row = after-at E.rows (pos 0) (pos 0) k l m j;
    col = after-at E.cols (pos 0) (pos 0) k l m j;
    orientation = after-at E.orientations 0 0 k l m j;
    bit = after-at E.bits 0 b k l m j;
  }

  completed-agrees : i ≤ size E → Agree i E F
  unfolding completed
  completed-agrees h = record {
    size = completed-size;
    edge = λ k l. completed-edge k (omega arith) l;
    confidence = λ k l. before_at E.confidences nan zero_f k (omega arith) l;
  }

  completed-columns : size E ≤ 8192 → Columns F
  unfolding completed
  completed-columns h = record {
    few = rw completed-size h;
    cols = placed-length _ (size E) ∙ sym completed-size;
    orientations = placed-length _ (size E) ∙ sym completed-size;
    bits = placed-length _ (size E) ∙ sym completed-size;
    confidences = placed-length _ (size E) ∙ sym completed-size;
  }

-- ---- the edge that comes again and again is good
again-good : (b : ℕ) → b < 2 → fault_of (again b) zero_f ≡ 0
unfolding fault_of far in_range le lt eq
again-good b l = rw (le-ltb 1 b (omega arith)) refl

-- its bit is one of two
bit_below : (B : Board) (t row col : ℕ) → predicted B (lookup_of t (pos 0) (pos 0) 0) row col < 2
unfolding predicted
bit_below B t row col =
    let l = lookup_of t (pos 0) (pos 0) 0 in
    go (horizontal l) (pattern_bit B.h (l.row +ℤ pos row) (l.col +ℤ pos col)) (pattern_bit B.v (l.col +ℤ pos col) (l.row +ℤ pos row)) (two _) (two _)
  where
    two : (x : ℕ) → x % 2 < 2
    two x = omega arith

    go : (s : Bool) (x y : ℕ) → x < 2 → y < 2 → cond s x y < 2
    go true x y h k = h
    go false x y h k = k

-- ---- the hits of a completed list
all-hit : (p : ℕ → Bool) (i n : ℕ) → i ≤ n → ((k : ℕ) → i ≤ k → k < n → p k ≡ true) → count n p ≡ count i p + (n - i)
unfolding fold
all-hit p i n l h = go n l (le_refl n)
  where
    go : (k : ℕ) → i ≤ k → k ≤ n → count k p ≡ count i p + (k - i)
    go k m = le_ind (λ k. k ≤ n → count k p ≡ count i p + (k - i)) (λ q. omega arith) (λ k m ih q. step k m q (h k m (omega arith)) (ih (omega arith))) k m
      where
        step : (k : ℕ) → i ≤ k → suc k ≤ n → p k ≡ true → count k p ≡ count i p + (k - i) → put ◌+◌ (p k) (count k p) 1 ≡ count i p + (suc k - i)
        step k m q e f = rw e (omega arith)

none-hit : (p : ℕ → Bool) (i n : ℕ) → i ≤ n → ((k : ℕ) → i ≤ k → k < n → p k ≡ false) → count n p ≡ count i p
unfolding fold
none-hit p i n l h = go n l (le_refl n)
  where
    go : (k : ℕ) → i ≤ k → k ≤ n → count k p ≡ count i p
    go k m = le_ind (λ k. k ≤ n → count k p ≡ count i p) (λ q. refl) (λ k m ih q. step k (h k m (omega arith)) (ih (omega arith))) k m
      where
        step : (k : ℕ) → p k ≡ false → count k p ≡ count i p → put ◌+◌ (p k) (count k p) 1 ≡ count i p
        step k e f = rw e f

-- A COMPLETION: a list of the same length that agrees on the first i edges and has no bad edge, whose answer is w
pub record Completion (E : EdgeList) (t row col : ℕ) (B : Board) (limit : Float) (i : ℕ) (w : Bool) : Type 0 where
  pub list : EdgeList
  pub agrees : Agree i E list
  pub columns : Columns list
  pub good : (k : ℕ) → k < size list → fault_at list k ≡ 0
  pub answer : allowed (size list) limit (hits B list t row col) ≡ w

module _ (E : EdgeList) (t row col : ℕ) (B : Board) (limit : Float) (few : size E ≤ 8192) (i : ℕ) (inside : i ≤ size E) (good : (k : ℕ) → k < i → fault_at E k ≡ 0) where
  -- every edge of a completed list is good
  completed-good : (b : ℕ) → b < 2 → (k : ℕ) → k < size (completed E i b) → fault_at (completed E i b) k ≡ 0
  unfolding completed
  completed-good b h k l =
      let m : k < size E = omega (arith, completed-size E i b) in
      ⊎_elim
      (λ q. ap₂ fault_of (completed-edge E i b k m q) (before_at E i b E.confidences nan zero_f k m q) ∙ good k q)
      (λ q. ap₂ fault_of (completed-again E i b k m q) (after-at E i b E.confidences nan zero_f k m q) ∙ again-good b h)
      (compared k i)

  abbrev square : Square
  square = record { transform = t; row = row; col = col }

  abbrev wanted : ℕ
  wanted = predicted B (lookup_of t (pos 0) (pos 0) 0) row col

  -- the hits of its first i edges are the list's
  completed-before : (b : ℕ) → count i (hit B (completed E i b) t row col) ≡ hits_to E t row col B i
  unfolding hits_to
  completed-before b =
      fold-ext ◌+◌ 0 i (hit B (completed E i b) t row col) (hit B E t row col) one one
      (λ k l. sym (hit-edge B (completed E i b) t row col k) ∙ ap (λ (e : Edge). edge_hit B e square) (completed-edge E i b k (omega arith) l) ∙ hit-edge B E t row col k)
      (λ k l. refl)

  -- and each other edge is a hit where its bit is the predicted one
  completed-after : (b : ℕ) (w : Bool) → eqb wanted b ≡ w → (k : ℕ) → i ≤ k → k < size E → hit B (completed E i b) t row col k ≡ w
  unfolding edge_hit
  completed-after b w e k m l = sym (hit-edge B (completed E i b) t row col k) ∙ ap (λ (x : Edge). edge_hit B x square) (completed-again E i b k l m) ∙ e

  completion : (b : ℕ) → b < 2 → (w : Bool) → allowed (size (completed E i b)) limit (hits B (completed E i b) t row col) ≡ w → Completion E t row col B limit i w
  completion b h w e = record { list = completed E i b; agrees = completed-agrees E i b inside; columns = completed-columns E i b few; good = completed-good b h; answer = e }

  -- AS LONG AS IT IS NOT CERTAIN, BOTH ANSWERS ARE POSSIBLE: the edges that were not read can be such that it is yes, and such that it is no
  pub both-possible : certain_after E t row col B limit i ≡ false → Completion E t row col B limit i true × Completion E t row col B limit i false
  unfolding certain hits
  both-possible e =
      let o = or-false (allowed (size E) limit (hits_to E t row col B i)) _ e in
      let s : (b : ℕ) → size (completed E i b) ≡ size E = completed-size E i in
      let y : allowed (size (completed E i wanted)) limit (hits B (completed E i wanted) t row col) ≡ true =
      ap₂ (λ (n h : ℕ). allowed n limit h) (s wanted)
      (ap (λ (n : ℕ). count n (hit B (completed E i wanted) t row col)) (s wanted)
      ∙ all-hit (hit B (completed E i wanted) t row col) i (size E) inside (completed-after wanted true (eq-eqb wanted wanted refl))
      ∙ ap (λ (h : ℕ). h + (size E - i)) (completed-before wanted))
      ∙ not-false _ o.1 in
      let z : allowed (size (completed E i (1 - wanted))) limit (hits B (completed E i (1 - wanted)) t row col) ≡ false =
      ap₂ (λ (n h : ℕ). allowed n limit h) (s (1 - wanted))
      (ap (λ (n : ℕ). count n (hit B (completed E i (1 - wanted)) t row col)) (s (1 - wanted))
      ∙ none-hit (hit B (completed E i (1 - wanted)) t row col) i (size E) inside (completed-after (1 - wanted) false (ne_eqb wanted (1 - wanted) (λ q. omega (arith, q, bit_below B t row col))))
      ∙ completed-before (1 - wanted))
      ∙ o.0 in
      (completion wanted (bit_below B t row col) true y, completion (1 - wanted) (omega arith) false z)
