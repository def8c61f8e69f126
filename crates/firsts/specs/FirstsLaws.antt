-- The hits of a column in a row, by the classes' hits; and a row whose best classes together have fewer than wanted.
use Rattle.std.specs.Prelude.{◌≡◌, Bool, ℕ, ◌+◌, ◌*◌, ◌%◌, ◌≤◌, ◌<◌}
use Rattle.std.proofs.Math.Path.{refl, sym}
use Rattle.std.proofs.Common.{ap, ap₂, ◌∙◌, ⊎_elim, mod-lt, arith, lit<}
use Rattle.std.proofs.Math.Bool.{true, false}
use borrow.Author.Tests.{ne_eqb}
use Rattle.laws.specs.Counting.{count-le}
use Rattle.laws.specs.First.{first-least}
use Rattle.laws.specs.Residues.{below-3}
use Rattle.board.specs.Hits.{EdgeList, Board, size, hits}
use Rattle.board.specs.Sides.{period_of, side_hits}
use Rattle.board.specs.Domain.{BoardOk}
use Rattle.board.proofs.HitsLaws.{hits-by-class, side-some}
use Rattle.classes.specs.declared.Three.{Three}
use Rattle.classes.specs.Classes.{residue_hits, three_of}
use Rattle.tops.specs.Tops.{larger, short_tops}
use Rattle.tops.specs.TopsLaws.{larger-left, larger-right, larger-is, most-le, most-bound}
use Rattle.firsts.specs.Firsts.{has, first_col, pick_of, most_of}

-- each of three is at most the largest
pub pick-le : (x : Three) (i : ℕ) → i < 3 → pick_of x i ≤ most_of x
unfolding most_of
pick-le x i h = below-3 (λ (j : ℕ). pick_of x j ≤ larger (larger x.a x.b) x.c)
    (omega (arith, larger-left x.a x.b, larger-left (larger x.a x.b) x.c))
    (omega (arith, larger-right x.a x.b, larger-left (larger x.a x.b) x.c))
    (larger-right (larger x.a x.b) x.c) i h

-- the largest is at most what bounds the three
pub most-few : (x : Three) (b : ℕ) → x.a ≤ b → x.b ≤ b → x.c ≤ b → most_of x ≤ b
unfolding most_of
most-few x b p q r = two (larger x.a x.b) x.c (two x.a x.b p q) r
  where
    two : (y z : ℕ) → y ≤ b → z ≤ b → larger y z ≤ b
    two y z m n = ⊎_elim (λ e. omega (arith, e)) (λ e. omega (arith, e)) (larger-is y z)

module _ (B : Board) (E : EdgeList) (t : ℕ) where
  -- the class of the residues l and x
  pub pick-class : (s : Bool) (l x : ℕ) → x < 3 → pick_of (three_of B E t s l) x ≡ residue_hits B E t s l x
  unfolding three_of
  pick-class s l x h = below-3 (λ (j : ℕ). pick_of (three_of B E t s l) j ≡ residue_hits B E t s l j) refl refl refl x h

  pub residue-le : (s : Bool) (l x : ℕ) → residue_hits B E t s l x ≤ size E
  unfolding side_hits
  residue-le s l x = count-le _ (size E)

  -- no vertical class of a short residue has more than its best
  pub short-le : (n l x : ℕ) → l < n → x < 3 → residue_hits B E t false l x ≤ pick_of (short_tops B E t n) x
  unfolding short_tops
  short-le n l x h k = below-3 (λ (j : ℕ). residue_hits B E t false l j ≤ pick_of (short_tops B E t n) j)
      (most-le (λ i. residue_hits B E t false i 0) n l h)
      (most-le (λ i. residue_hits B E t false i 1) n l h)
      (most-le (λ i. residue_hits B E t false i 2) n l h) x k

  -- the best of a row is at most twice the edges
  pub row-few : (l n x : ℕ) → x < 3 → most_of (three_of B E t true l) + pick_of (short_tops B E t n) x ≤ size E + size E
  unfolding three_of short_tops
  row-few l n x h =
      let a = most-few (three_of B E t true l) (size E) (residue-le true l 0) (residue-le true l 1) (residue-le true l 2) in
      let b = below-3 (λ (j : ℕ). pick_of (short_tops B E t n) j ≤ size E)
      (most-bound (λ i. residue_hits B E t false i 0) (size E) (λ i. residue-le false i 0) n)
      (most-bound (λ i. residue_hits B E t false i 1) (size E) (λ i. residue-le false i 1) n)
      (most-bound (λ i. residue_hits B E t false i 2) (size E) (λ i. residue-le false i 2) n) x h in
      omega (arith, a, b)

  module _ (ok : BoardOk B) where
    abbrev L : ℕ
    L = period_of B true

    abbrev M : ℕ
    M = period_of B false

    -- the hits of a column in a row
    pub col-hits : (row col : ℕ) → pick_of (three_of B E t true (row % L)) (col % 3) + pick_of (three_of B E t false (col % M)) (row % 3) ≡ hits B E t row col
    col-hits row col =
        ap₂ ◌+◌ (pick-class true (row % L) (col % 3) (mod-lt col (lit< tt))) (pick-class false (col % M) (row % 3) (mod-lt row (lit< tt)))
        ∙ sym (hits-by-class B E t (side-some B ok) row col)

    -- a row whose best classes together have fewer than wanted
    pub row-none : (wanted row : ℕ) → most_of (three_of B E t true (row % L)) + pick_of (short_tops B E t M) (row % 3) < wanted → 3 * M ≡ first_col B E t wanted row
    unfolding first_col
    row-none wanted row few = sym (first-least (has B E t wanted row) (3 * M) (3 * M) (omega arith) none (λ h. absurd (omega arith)))
      where
        none : (col : ℕ) → col < 3 * M → has B E t wanted row col ≡ false
        none col h =
            let a = pick-le (three_of B E t true (row % L)) (col % 3) (mod-lt col (lit< tt)) in
            let b = short-le M (col % M) (row % 3) (mod-lt col (side-some B ok false)) (mod-lt row (lit< tt)) in
            let c = pick-class false (col % M) (row % 3) (mod-lt row (lit< tt)) in
            let d = col-hits row col in
            ne_eqb (hits B E t row col) wanted (λ e. omega (arith, a, b, c, d, e, few))

    -- the same of what was picked
    pub col-is : (row col a b : ℕ) (across down : Three) → across ≡ three_of B E t true (row % L) → down ≡ three_of B E t false (col % M)
        → a ≡ pick_of across (col % 3) → b ≡ pick_of down (row % 3) → a + b ≡ hits B E t row col
    col-is row col a b across down e q m n =
        ap₂ ◌+◌ (m ∙ ap (λ (x : Three). pick_of x (col % 3)) e) (n ∙ ap (λ (x : Three). pick_of x (row % 3)) q) ∙ col-hits row col
