-- One edge more of the three classes; and the hits of an origin, by its two classes (`hits-classes`, `classes-hits`).
use Rattle.std.specs.Prelude.{◌≡◌, Bool, not, ◌&&◌, eqb, ℤ, pos, ◌+ℤ◌, ◌-ℤ◌}
use Rattle.std.proofs.Math.Path.{refl, sym, ap, ap₂}
use Rattle.std.proofs.Common.{◌∙◌, mod-lt, lit<}
use Rattle.std.proofs.Math.Bool.{true, false, cond}
use Prim.Native.Nat.{ℕ, zero, suc, ◌+◌, ◌*◌, ◌/◌, ◌%◌, ◌≤◌, ◌<◌}
use native.Mathlib.Omega.{arith}
use Rattle.std.proofs.Math.Arith.{digits_div, digits_mod}
use Rattle.std.proofs.Math.IntN.{+ℤ_comm, +ℤ_idl, +ℤ_idr, +ℤ-neg_ℤ_cancel}
use Rattle.std.specs.Int.Signed.{lt_z}
use borrow.Author.Tests.{not-true}
use Rattle.laws.specs.Tests.{clash}
use Rattle.laws.specs.Whole.{eq_z-true, eq-eq_z, ne-eq_z}
use Rattle.laws.specs.Words.{one, count, emod, joint, eq_z}
use Rattle.laws.specs.Fold.{fold_more, fold-zero}
use Rattle.laws.specs.Counting.{count-le}
use Rattle.laws.specs.RemainderLaws.{emod-add}
use Rattle.board.specs.declared.edge.Edge.{Edge}
use Rattle.board.specs.declared.edge.EdgeLookup.{EdgeLookup}
use Rattle.board.specs.Transform.{mat, matrices, mapped, lookup_of_ends, joined, lookup_of}
use Rattle.board.specs.TransformLaws.{next-col, next_row}
use Rattle.board.specs.Hits.{EdgeList, Board, size, bare, edge_at, look, horizontal, pattern_bit, predicted, edge_hit, hit, hits}
use Rattle.board.specs.Sides.{is, on_side, period_of, side_hits}
use Rattle.board.specs.Domain.{BoardOk}
use Rattle.board.proofs.HitsLaws.{hits-by-class, pair-hits, side-some}
use Rattle.classes.specs.Classes.{residue_hits, class_hits, three_of, added_three, straight, edge_on, edge_added}
use Rattle.classes.specs.declared.Three.{Three}

abbrev three : ℕ → ℕ → ℕ → Three
three a b c = record { a = a; b = b; c = c }

-- ---- the side of an edge is told by its orientation alone
cancel : (r m : ℤ) → r ≡ r +ℤ m → m ≡ pos 0
cancel r m e = sym (+ℤ-neg_ℤ_cancel m r) ∙ ap (λ (z : ℤ). z -ℤ r) (+ℤ_comm m r ∙ sym e ∙ sym (+ℤ_idl r)) ∙ +ℤ-neg_ℤ_cancel (pos 0) r

-- a row is mapped to itself exactly where nothing is added
stays : (r m : ℤ) → eq_z r (r +ℤ m) ≡ eq_z m (pos 0)
stays r m = go (eq_z m (pos 0)) refl
  where
    go : (b : Bool) → eq_z m (pos 0) ≡ b → eq_z r (r +ℤ m) ≡ b
    go true e = eq-eq_z r (r +ℤ m) (sym (ap (λ (z : ℤ). r +ℤ z) (eq_z-true m (pos 0) e) ∙ +ℤ_idr r))
    go false e = ne-eq_z r (r +ℤ m) (λ d. clash (eq-eq_z m (pos 0) (cancel r m d)) e)

ends-side : (c r d s : ℤ) → horizontal (lookup_of_ends c r d s) ≡ eq_z r s
unfolding lookup_of_ends
ends-side c r d s = go (eq_z r s)
  where
    go : (b : Bool) → horizontal (cond b (record { orientation = 0; row = r -ℤ pos 1; col = cond (lt_z c d) c d }) (record { orientation = 1; row = cond (lt_z r s) r s; col = cond (lt_z r s) c d -ℤ pos 1 })) ≡ b
    go true = refl
    go false = refl

-- a transform leaves either the rows of horizontal edges or those of vertical ones
either : (t : ℕ) → t < 8 → eq_z (mat t 1 1) (pos 0) ≡ not (eq_z (mat t 1 0) (pos 0))
unfolding mat matrices
either zero h = refl
either (suc zero) h = refl
either (suc (suc zero)) h = refl
either (suc (suc (suc zero))) h = refl
either (suc (suc (suc (suc zero)))) h = refl
either (suc (suc (suc (suc (suc zero))))) h = refl
either (suc (suc (suc (suc (suc (suc zero)))))) h = refl
either (suc (suc (suc (suc (suc (suc (suc zero))))))) h = refl
either (suc (suc (suc (suc (suc (suc (suc (suc t)))))))) h = absurd (no t h)
  where
    no : (t : ℕ) → suc (suc (suc (suc (suc (suc (suc (suc t))))))) < 8 → ⊥
    no t h = omega arith

side-told : (t : ℕ) (row col : ℤ) (o : ℕ) → t < 8 → horizontal (lookup_of t row col o) ≡ cond (eqb o 0) (eq_z (mat t 1 0) (pos 0)) (not (eq_z (mat t 1 0) (pos 0)))
unfolding lookup_of joined
side-told t row col o h = go (eqb o 0)
  where
    go : (b : Bool) → horizontal (cond b (joined t col row (col +ℤ pos 1) row) (joined t col row col (row +ℤ pos 1))) ≡ cond b (eq_z (mat t 1 0) (pos 0)) (not (eq_z (mat t 1 0) (pos 0)))
    go true =
        ends-side (mapped t 0 col row) (mapped t 1 col row) (mapped t 0 (col +ℤ pos 1) row) (mapped t 1 (col +ℤ pos 1) row)
        ∙ ap (eq_z (mapped t 1 col row)) (next-col t 1 col row) ∙ stays (mapped t 1 col row) (mat t 1 0)
    go false =
        ends-side (mapped t 0 col row) (mapped t 1 col row) (mapped t 0 col (row +ℤ pos 1)) (mapped t 1 col (row +ℤ pos 1))
        ∙ ap (eq_z (mapped t 1 col row)) (next_row t 1 col row) ∙ stays (mapped t 1 col row) (mat t 1 1) ∙ either t h

-- an edge lies on the side s
on-told : (t : ℕ) (s : Bool) (e : Edge) → t < 8 → edge_on t s e ≡ cond (eqb e.orientation 0) (straight t s) (not (straight t s))
unfolding straight
on-told t s e h = ap (is s) (side-told t e.row e.col e.orientation h) ∙ go s (eqb e.orientation 0) (eq_z (mat t 1 0) (pos 0))
  where
    go : (s b z : Bool) → is s (cond b z (not z)) ≡ cond b (is s z) (not (is s z))
    go true b z = refl
    go false true z = refl
    go false false z = refl

-- ---- an edge by value, by the side on which the transform puts it
module _ (B : Board) (t n : ℕ) (e : Edge) (sum : Three) (small : t < 8) where
  -- an edge of the other side adds nothing
  pub not_on : (s b : Bool) → b ≡ straight t s → cond (eqb e.orientation 0) b (not b) ≡ false → sum ≡ edge_added B t s n e sum
  unfolding edge_added
  not_on s b q o = let z : edge_on t s e ≡ false = on-told t s e small ∙ ap (λ (x : Bool). cond (eqb e.orientation 0) x (not x)) (sym q) ∙ o in rw z

  module _ (at : EdgeLookup) (looked : at ≡ lookup_of t e.row e.col e.orientation) where
    -- an edge of the side counts where its bit is the pattern's
    pub on-horizontal : (s b : Bool) (x y : ℤ) (r : Three) → b ≡ straight t s → cond (eqb e.orientation 0) b (not b) ≡ true → s ≡ true → x ≡ at.row → y ≡ at.col
        → r ≡ added_three (λ k. eqb (pattern_bit B.h (x +ℤ pos n) (y +ℤ pos k)) e.bit) sum → r ≡ edge_added B t s n e sum
    unfolding edge_added edge_hit predicted
    on-horizontal s b x y r q on o p d k =
        let z : is s (horizontal at) ≡ true = ap (λ (l : EdgeLookup). is s (horizontal l)) looked ∙ on-told t s e small ∙ ap (λ (c : Bool). cond (eqb e.orientation 0) c (not c)) (sym q) ∙ on in
        let w : horizontal at ≡ true = sym (ap (λ (c : Bool). is c (horizontal at)) o) ∙ z in
        k ∙ sym (rw (o, ← looked, w, p, d))

    pub on-vertical : (s b : Bool) (x y : ℤ) (r : Three) → b ≡ straight t s → cond (eqb e.orientation 0) b (not b) ≡ true → s ≡ false → x ≡ at.col → y ≡ at.row
        → r ≡ added_three (λ k. eqb (pattern_bit B.v (x +ℤ pos n) (y +ℤ pos k)) e.bit) sum → r ≡ edge_added B t s n e sum
    unfolding edge_added edge_hit predicted
    on-vertical s b x y r q on o p d k =
        let z : is s (horizontal at) ≡ true = ap (λ (l : EdgeLookup). is s (horizontal l)) looked ∙ on-told t s e small ∙ ap (λ (c : Bool). cond (eqb e.orientation 0) c (not c)) (sym q) ∙ on in
        let w : horizontal at ≡ false = not-true (horizontal at) (sym (ap (λ (c : Bool). is c (horizontal at)) o) ∙ z) in
        k ∙ sym (rw (o, ← looked, w, p, d))

module _ (B : Board) (E : EdgeList) (t : ℕ) (s : Bool) (l : ℕ) where
  -- edge i is on the side, and a hit at the short residue x
  abbrev at : ℕ → ℕ → Bool
  at x i = on_side E t s i && hit B E t (cond s l x) (cond s x l) i

  -- after n edges
  unfoldable pub so_far : ℕ → Three
  so_far n = three (count n (at 0)) (count n (at 1)) (count n (at 2))

  pub so-far-none : three 0 0 0 ≡ so_far 0
  unfolding so_far
  so-far-none = rw (fold-zero ◌+◌ 0 (at 0) one, fold-zero ◌+◌ 0 (at 1) one, fold-zero ◌+◌ 0 (at 2) one)

  pub so_far_more : (n : ℕ) (sum r : Three) (e : Edge) → sum ≡ so_far n → e ≡ edge_at E n → r ≡ edge_added B t s l e sum → r ≡ so_far (n + 1)
  unfolding so_far edge_added edge_hit hit look
  so_far_more n sum r e q d k =
      k ∙ ap₂ (λ (x : Edge) (y : Three). edge_added B t s l x y) d q
      ∙ sym (rw (fold_more ◌+◌ 0 (at 0) one n, fold_more ◌+◌ 0 (at 1) one n, fold_more ◌+◌ 0 (at 2) one n))

  pub so-far-few : (n : ℕ) → ((so_far n).a ≤ n) × ((so_far n).b ≤ n) × ((so_far n).c ≤ n)
  unfolding so_far
  so-far-few n = (count-le (at 0) n, count-le (at 1) n, count-le (at 2) n)

  pub so-far-all : so_far (size E) ≡ three_of B E t s l
  unfolding so_far three_of side_hits
  so-far-all = refl

-- ---- classes by number, and the hits of an origin by its two classes
module _ (B : Board) (E : EdgeList) (t : ℕ) where
  -- class l · 3 + x is that of the residues l and x
  pub class-at : (s : Bool) (l x : ℕ) → x < 3 → class_hits B E t s (l * 3 + x) ≡ residue_hits B E t s l x
  unfolding class_hits
  class-at s l x h = ap₂ (residue_hits B E t s) (digits_div l h) (digits_mod l h)

  -- no class has more hits than there are edges
  pub class-le : (s : Bool) (i : ℕ) → class_hits B E t s i ≤ size E
  unfolding class_hits side_hits
  class-le s i = count-le _ (size E)

  module _ (ok : BoardOk B) where
    abbrev L : ℕ
    L = period_of B true

    abbrev M : ℕ
    M = period_of B false

    -- an origin has the hits of its horizontal class and of its vertical class, added
    pub hits-classes : (r c : ℕ) → hits B E t r c ≡ class_hits B E t true (r % L * 3 + c % 3) + class_hits B E t false (c % M * 3 + r % 3)
    hits-classes r c =
        hits-by-class B E t (side-some B ok) r c
        ∙ sym (ap₂ ◌+◌ (class-at true (r % L) (c % 3) (mod-lt c (lit< tt))) (class-at false (c % M) (r % 3) (mod-lt r (lit< tt))))

    -- each two classes are those of an origin
    pub classes-hits : (i j : ℕ) → i < 3 * L → j < 3 * M → hits B E t (joint L (j % 3) (i / 3)) (joint M (i % 3) (j / 3)) ≡ class_hits B E t true i + class_hits B E t false j
    unfolding class_hits
    classes-hits i j h k = pair-hits B E t ok (i / 3) (i % 3) (j % 3) (j / 3) (third i L h) (mod-lt i (lit< tt)) (mod-lt j (lit< tt)) (third j M k)
      where
        third : (i n : ℕ) → i < 3 * n → i / 3 < n
        third i n h = omega arith

-- confidences have no part in the hits
pub hits-bare : (B : Board) (E : EdgeList) (t r c : ℕ) → hits B (bare E) t r c ≡ hits B E t r c
unfolding hits hit look
hits-bare B E t r c = refl

-- ---- residues, step by step
-- a coordinate moved by k, from its residue i by n
pub moved : (x : ℤ) (i k n m r : ℕ) → 0 < n → m ≡ n → i ≡ emod x m → r ≡ (i + k) % m → r ≡ emod (x +ℤ pos k) n
moved x i k n m r p e q d = rw e at (d ∙ ap (λ (z : ℕ). (z + k) % m) q ∙ emod-add x k m (rw e p))

pub unmoved : (x : ℤ) (i n m : ℕ) → 0 < n → m ≡ n → i ≡ emod x m → i < n → i ≡ emod (x +ℤ pos 0) n
unmoved x i n m p e q l = q ∙ ap (emod x) e ∙ ap (λ (z : ℤ). emod z n) (sym (+ℤ_idr x))
