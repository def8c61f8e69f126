-- What one transform comes to: its best origin has the best hits, no other has more than the second best, and one has as many.
use Rattle.std.specs.Prelude.{◌≡◌, Bool, true, false, ◌⊎◌, ℕ, ◌+◌, ◌*◌, ◌/◌, ◌%◌, ◌≤◌, ◌<◌}
use Rattle.std.proofs.Common.{sym, ap, ap₂, ◌∙◌, inl, inr, ⊎_elim, mod-lt, div-lt_iff_lt-mul, div-add-mod', arith, lit<}
use Rattle.std.proofs.Math.Arith.{digits_div, digits_mod, digits_lt}
use Rattle.laws.specs.Tests.{decided}
use Rattle.laws.specs.Words.{origins}
use Rattle.laws.specs.GridLaws.{Laws}
use Rattle.board.specs.Hits.{EdgeList, Board, size, hits}
use Rattle.board.specs.Sides.{period_of}
use Rattle.board.specs.Domain.{BoardOk}
use Rattle.grid.specs.BoardGrid.{period-h, period-v, grid}
use Rattle.classes.specs.Classes.{class_hits}
use Rattle.classes.specs.ClassesLaws.{class-le, hits-classes}
use Rattle.tops.specs.declared.Top.{Top}
use Rattle.tops.specs.Tops.{top_to, larger}
use Rattle.tops.specs.TopsLaws.{IsTop, top, second-had, larger-left, larger-right, larger-is}
use Rattle.lead.specs.declared.Peak.{Peak}
use Rattle.lead.specs.Lead.{top_of, cell_of, peak_from, peak_of}

-- the best of the keys below `none`, and the most hits of another
pub record IsPeak (none : ℕ) (hit : ℕ → ℕ) (P : Peak) : Type 0 where
  pub key_in : P.key < none
  pub at : hit P.key ≡ P.best
  pub under : P.next ≤ P.best
  pub others : (k : ℕ) → k < none → (k ≡ P.key → ⊥) → hit k ≤ P.next
  pub had : (k : ℕ) × (k < none) × (k ≡ P.key → ⊥) × (hit k ≡ P.next)

-- the class of a vertical cell
abbrev class_of : ℕ → ℕ → ℕ
class_of M v = v % M * 3 + v / M

module _ (M : ℕ) (p : 0 < M) where
  third : (j : ℕ) → j < 3 * M → j / 3 < M
  third j h = omega arith

  pub cell_in : (j : ℕ) → j < 3 * M → cell_of M j < 3 * M
  cell_in j h = digits_lt (mod-lt j (lit< tt)) (third j h)

  class-cell : (j : ℕ) → j < 3 * M → class_of M (cell_of M j) ≡ j
  class-cell j h = ap₂ (λ (x y : ℕ). x * 3 + y) (digits_mod (j % 3) (third j h)) (digits_div (j % 3) (third j h)) ∙ div-add-mod' j 3

  part : (v : ℕ) → v < 3 * M → v / M < 3
  part v h = (div-lt_iff_lt-mul p).1 h

  cell-class : (v : ℕ) → v < 3 * M → cell_of M (class_of M v) ≡ v
  cell-class v h = ap₂ (λ (x y : ℕ). x * M + y) (digits_mod (v % M) (part v h)) (digits_div (v % M) (part v h)) ∙ div-add-mod' v M

  class-in : (v : ℕ) → v < 3 * M → class_of M v < 3 * M
  class-in v h = let a = mod-lt v p in let b = part v h in omega arith

-- ---- a grid of keys over two sides, with the hits f by horizontal and g by vertical class
module _ (L M : ℕ) (q : 0 < M) (G : Laws (origins L M) (3 * L) (3 * M)) (f g : ℕ → ℕ) (hit : ℕ → ℕ) (two-h : 1 < L * 3) (two-v : 1 < M * 3)
    (sum : (k : ℕ) → hit k ≡ f ((origins L M).h_of k) + g (class_of M ((origins L M).v_of k))) where
  abbrev a : Top
  a = top_to f (L * 3)

  abbrev b : Top
  b = top_to g (M * 3)

  A : IsTop f (L * 3) a
  A = top f (L * 3) two-h

  W : IsTop g (M * 3) b
  W = top g (M * 3) two-v

  -- the key of two classes
  abbrev key_of : ℕ → ℕ → ℕ
  key_of i j = (origins L M).key i (cell_of M j)

  turn : (n x : ℕ) → x < n * 3 → x < 3 * n
  turn n x h = omega arith

  key-h : (i j : ℕ) → i < L * 3 → j < M * 3 → (origins L M).h_of (key_of i j) ≡ i
  key-h i j h k = G.h_key i (cell_of M j) (turn L i h) (cell_in M q j (turn M j k))

  key-v : (i j : ℕ) → i < L * 3 → j < M * 3 → class_of M ((origins L M).v_of (key_of i j)) ≡ j
  key-v i j h k = ap (class_of M) (G.v_key i (cell_of M j) (turn L i h) (cell_in M q j (turn M j k))) ∙ class-cell M q j (turn M j k)

  key-hits : (i j : ℕ) → i < L * 3 → j < M * 3 → hit (key_of i j) ≡ f i + g j
  key-hits i j h k = sum (key_of i j) ∙ ap₂ (λ (x y : ℕ). f x + g y) (key-h i j h k) (key-v i j h k)

  key_in : (i j : ℕ) → i < L * 3 → j < M * 3 → key_of i j < (origins L M).none
  key_in i j h k = G.under i (cell_of M j) (turn L i h) (cell_in M q j (turn M j k))

  -- a class has at most the best of its side
  h-most : (i : ℕ) → i < L * 3 → f i ≤ a.best
  h-most i h = ⊎_elim (λ e. omega (arith, ap f e, A.attained)) (λ n. omega (arith, A.others i h n, A.under)) (decided i a.at)

  v-most : (j : ℕ) → j < M * 3 → g j ≤ b.best
  v-most j h = ⊎_elim (λ e. omega (arith, ap g e, W.attained)) (λ n. omega (arith, W.others j h n, W.under)) (decided j b.at)

  pub peak-grid : IsPeak (origins L M).none hit (peak_from L M a b)
  peak-grid = record {
    key_in = key_in a.at b.at A.in-range W.in-range;
    at = key-hits a.at b.at A.in-range W.in-range ∙ ap₂ ◌+◌ A.attained W.attained;
    under = ⊎_elim (λ e. omega (arith, e, A.under, W.under)) (λ e. omega (arith, e, A.under, W.under)) (larger-is l r);
    others = others;
    had = ⊎_elim left right (larger-is l r);
  }
    where
      l : ℕ
      l = a.next + b.best

      r : ℕ
      r = a.best + b.next

      others : (k : ℕ) → k < (origins L M).none → (k ≡ key_of a.at b.at → ⊥) → hit k ≤ larger l r
      others k h ne = go (decided ((origins L M).h_of k) a.at) (decided (class_of M ((origins L M).v_of k)) b.at)
        where
          i : ℕ
          i = (origins L M).h_of k

          j : ℕ
          j = class_of M ((origins L M).v_of k)

          hi : i < L * 3
          hi = let z = G.h-in k in omega arith

          hj : j < M * 3
          hj = let z = class-in M q ((origins L M).v_of k) (G.v-in k) in omega arith

          go : (i ≡ a.at) ⊎ (i ≡ a.at → ⊥) → (j ≡ b.at) ⊎ (j ≡ b.at → ⊥) → hit k ≤ larger l r
          go (inl e) (inl d) = absurd (ne (sym (G.back k h) ∙ ap₂ (origins L M).key e (sym (cell-class M q ((origins L M).v_of k) (G.v-in k)) ∙ ap (cell_of M) d)))
          go (inl e) (inr d) = omega (arith, sum k, h-most i hi, W.others j hj d, larger-right l r)
          go (inr e) d = omega (arith, sum k, A.others i hi e, v-most j hj, larger-left l r)

      left : larger l r ≡ l → (k : ℕ) × (k < (origins L M).none) × (k ≡ key_of a.at b.at → ⊥) × (hit k ≡ larger l r)
      left e =
          let w = second-had f (L * 3) two-h in (
            key_of w.0 b.at,
            key_in w.0 b.at w.1 W.in-range,
            (λ d. w.2 (sym (key-h w.0 b.at w.1 W.in-range) ∙ ap (origins L M).h_of d ∙ key-h a.at b.at A.in-range W.in-range)),
            key-hits w.0 b.at w.1 W.in-range ∙ ap₂ ◌+◌ w.3 W.attained ∙ sym e,
          )

      right : larger l r ≡ r → (k : ℕ) × (k < (origins L M).none) × (k ≡ key_of a.at b.at → ⊥) × (hit k ≡ larger l r)
      right e =
          let w = second-had g (M * 3) two-v in (
            key_of a.at w.0,
            key_in a.at w.0 A.in-range w.1,
            (λ d. w.2 (sym (key-v a.at w.0 A.in-range w.1) ∙ ap (λ (k : ℕ). class_of M ((origins L M).v_of k)) d ∙ key-v a.at b.at A.in-range W.in-range)),
            key-hits a.at w.0 A.in-range w.1 ∙ ap₂ ◌+◌ A.attained w.3 ∙ sym e,
          )

-- ---- of a board
-- the hits of the origin with the key k
abbrev pub key_hits : Board → EdgeList → ℕ → ℕ → ℕ
key_hits B E t k = hits B E t (k / (3 * period_of B false)) (k % (3 * period_of B false))

module _ (B : Board) (E : EdgeList) (t : ℕ) (ok : BoardOk B) where
  abbrev hn : ℕ
  hn = period_of B true

  abbrev vn : ℕ
  vn = period_of B false

  -- the hits of a key are those of its two classes
  key-sum : (k : ℕ) → key_hits B E t k ≡ class_hits B E t true ((origins hn vn).h_of k) + class_hits B E t false (class_of vn ((origins hn vn).v_of k))
  key-sum k =
      let r = k / (3 * vn) in
      let c = k % (3 * vn) in
      let some : 0 < vn = omega (arith, ok.v.some) in
      let z : c % vn < vn = mod-lt c some in
      hits-classes B E t ok r c
      ∙ ap (λ (x : ℕ). class_hits B E t true (r % hn * 3 + c % 3) + class_hits B E t false x) (sym (ap₂ (λ (x y : ℕ). x * 3 + y) (digits_mod (r % 3) z) (digits_div (r % 3) z)))

  pub peak : IsPeak (origins hn vn).none (key_hits B E t) (peak_of B E t)
  unfolding peak_of
  peak =
      peak-grid hn vn (omega (arith, ok.v.some)) (grid hn vn (period-h B ok) (period-v B ok)) (class_hits B E t true) (class_hits B E t false) (key_hits B E t) (omega (arith, ok.h.some)) (omega (arith, ok.v.some)) key-sum

  -- the best classes stand in their tables, and have no more hits than there are edges
  pub top_in : (s : Bool) → ((top_of B E t s).at < period_of B s * 3) × ((top_of B E t s).best ≤ size E) × ((top_of B E t s).next ≤ size E)
  top_in true = let I = top (class_hits B E t true) (hn * 3) (omega (arith, ok.h.some)) in (I.in-range, omega (arith, I.attained, class-le B E t true (top_of B E t true).at), omega (arith, I.under, I.attained, class-le B E t true (top_of B E t true).at))
  top_in false = let I = top (class_hits B E t false) (vn * 3) (omega (arith, ok.v.some)) in (I.in-range, omega (arith, I.attained, class-le B E t false (top_of B E t false).at), omega (arith, I.under, I.attained, class-le B E t false (top_of B E t false).at))
