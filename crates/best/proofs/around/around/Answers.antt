-- `around`: each turn looks at one cell more, and what is kept is told of the cells so far by whatever the comparison and the further test say.
use Prim.Native.Nat.{ℕ, ◌+◌, ◌<◌}
use mathlib.Core.Path.{◌≡◌, refl, sym, ap, ◌∙◌}
use mathlib.Core.Bool.{Bool, true, false, not}
use native.Mathlib.Omega.{arith}
use borrow.Author.Tests.{ne_eqb}
use Rattle.std.specs.Prelude.{List}
use Rattle.std.proofs.Common.{inl, inr}
use lib.ListN.{length}
use Rattle.std.proofs.lemmas.List.{get_or_read_under}
use Rattle.laws.specs.Tests.{clash, cases}
use Rattle.laws.specs.Words.{fold, count, second}
use Rattle.laws.specs.Counting.{count_yes, count_no}
use Rattle.laws.specs.Second.{second-skip, second-new, second-low}
use Rattle.best.specs.Around.{Walk}
use Rattle.best.proofs.around.around.Goals as goal
use Rattle.best.proofs.around.around.Goals.{then-cell-eq0, else-cell-eq0, then-not-below+then-i-cell+then-beats, then-not-beats+then-same, then-not-beats+else-same, else-not-beats, then-not-below+else-i-cell, else-i-cell-via-then-i-cell+else-beats, else-i-cell-via-else-i-cell, else-not-below}

-- the numbers of the first i cells that pass p and q
abbrev Counted : ℕ → (ℕ → Bool) → (ℕ → Bool) → ℕ → ℕ → Type 0
Counted i p q t a = (t ≡ count i p) × (a ≡ count i q)

-- one cell more, and the numbers of cells that pass p and q: it is below cell k, or it is not and passes the further test, or not
module _ {A : Type 0} (xs : List A) (d : A) (k : ℕ) (post : A → A → Bool → Type 0) (said : ℕ → Bool → Type 0) (b : ℕ → ℕ → Bool) (p q : ℕ → Bool) (W : Walk xs d k post said b p q) (i : ℕ) (l : i < length xs) where
  module _ (t a : ℕ) (et : t ≡ count i p) (ea : a ≡ count i q) where
    below : (t' a' : ℕ) → t' ≡ t → a' ≡ a → b k i ≡ true → Counted (i + 1) p q t' a'
    below t' a' e f h = let no : p i ≡ false = W.tied i l ∙ ap not h in (e ∙ count_no p i t et no, f ∙ count_no q i a ea (W.less i l no))

    level : (t' a' : ℕ) (r : Bool) → t' ≡ t + 1 → a' ≡ a → b k i ≡ false → said i r → r ≡ false → Counted (i + 1) p q t' a'
    level t' a' r e f h s g = let yes : p i ≡ true = W.tied i l ∙ ap not h in (e ∙ count_yes p i t et yes, f ∙ count_no q i a ea (sym (W.same i r l yes s) ∙ g))

    alike : (t' a' : ℕ) (r : Bool) → t' ≡ t + 1 → a' ≡ a + 1 → b k i ≡ false → said i r → r ≡ true → Counted (i + 1) p q t' a'
    alike t' a' r e f h s g = let yes : p i ≡ true = W.tied i l ∙ ap not h in (e ∙ count_yes p i t et yes, f ∙ count_yes q i a ea (sym (W.same i r l yes s) ∙ g))

  -- what is below another cell is below cell k too
  under-top : (j : ℕ) → j < length xs → k < length xs → b j i ≡ true → b k i ≡ true
  under-top j h m e = elim (cases (b k i)) [ inl t ↦ t | inr f ↦ clash (W.weak.neg j k i h m l e f) (W.top j h) ]

pub loop-i-init : goal.loop-i-init
unfolding fold second
loop-i-init g c =
    elim c.if-cell-eq0.branch [
      | then-cell-eq0 w ↦ ((omega arith, omega arith), omega (arith, w.second-is), c.index-cells-second.is, λ d b p q W. (refl, refl, w.second-is ∙ rw w.if-cell-eq0.true))
      | else-cell-eq0 w ↦ ((omega arith, omega arith), omega (arith, w.second-is), c.index-cells-second.is, λ d b p q W. (refl, refl, w.second-is ∙ rw (ne_eqb _ _ w.if-cell-eq0.false)))
    ]

pub loop-i-preserved : goal.loop-i-preserved
loop-i-preserved g c =
    let l = c.loop-i in
    let inv = l.invariant in
    let xs = c.args.cells.now in
    let x = c.index-cells-i.result in
    let cell = c.args.cell in
    let here : l.i < length xs = c.loop-i-test.true in
    let within : cell < length xs = c.requires.table.1 in
    elim c.if-not-below.branch [
      | then-not-below+then-i-cell+then-beats w ↦ (
        (elim w.if-not-beats.branch [
          | then-not-beats+then-same w' ↦ (omega (arith, w.tied-is, w'.tied-is), omega (arith, w.alike-is, w'.alike-is))
          | then-not-beats+else-same w' ↦ (omega (arith, w.tied-is, w'.tied-is), omega (arith, w.alike-is, w'.alike-is))
          | else-not-beats w' ↦ (omega (arith, w.tied-is, w'.tied-is), omega (arith, w.alike-is, w'.alike-is))
        ]),
        omega (arith, w.second-is),
        rw (w.second-is, w.under-is) c.index-cells-i.is,
        λ d b p q W.
            let told = inv.3 d b p q W in
            let mine = get_or_read_under xs l.i (length xs) x d c.index-cells-i.is here refl in
            let under = get_or_read_under xs l.second (length xs) l.under d inv.2 inv.1 refl in
            let top = get_or_read_under xs cell (length xs) c.index-cells-cell.result d c.index-cells-cell.is within refl in
            let says : b cell l.i ≡ w.beats.result = sym (W.compares cell l.i w.beats.result within here (rw (← top, ← mine) w.beats.ensures)) in
            let t : Counted (l.i + 1) p q w.if-not-beats.tied w.if-not-beats.alike = elim w.if-not-beats.branch [
              | then-not-beats+then-same w' ↦ alike xs d cell _ _ b p q W l.i here l.tied l.alike told.0 told.1 _ _ _ w'.tied-is w'.alike-is (says ∙ w'.if-not-beats.true) w'.same.ensures w'.if-same.true
              | then-not-beats+else-same w' ↦ level xs d cell _ _ b p q W l.i here l.tied l.alike told.0 told.1 _ _ _ w'.tied-is w'.alike-is (says ∙ w'.if-not-beats.true) w'.same.ensures w'.if-same.false
              | else-not-beats w' ↦ below xs d cell _ _ b p q W l.i here l.tied l.alike told.0 told.1 _ _ w'.tied-is w'.alike-is (says ∙ w'.if-not-beats.false)
            ] in
            let over = sym (W.compares l.i l.second w.beats-then-i-cell.result here inv.1 (rw (← mine, ← under) w.beats-then-i-cell.ensures)) in
            (w.tied-is ∙ t.0, w.alike-is ∙ t.1, w.second-is ∙ second-new b cell l.i l.second told.2 w.if-i-cell.true (over ∙ w.if-beats.true)),
      )
      | then-not-below+else-i-cell w ↦ (
        (elim w.if-not-beats.branch [
          | then-not-beats+then-same w' ↦ (omega (arith, w.tied-is, w'.tied-is), omega (arith, w.alike-is, w'.alike-is))
          | then-not-beats+else-same w' ↦ (omega (arith, w.tied-is, w'.tied-is), omega (arith, w.alike-is, w'.alike-is))
          | else-not-beats w' ↦ (omega (arith, w.tied-is, w'.tied-is), omega (arith, w.alike-is, w'.alike-is))
        ]),
        omega (arith, w.second-is),
        rw (w.second-is, w.under-is) inv.2,
        λ d b p q W.
            let told = inv.3 d b p q W in
            let mine = get_or_read_under xs l.i (length xs) x d c.index-cells-i.is here refl in
            let under = get_or_read_under xs l.second (length xs) l.under d inv.2 inv.1 refl in
            let top = get_or_read_under xs cell (length xs) c.index-cells-cell.result d c.index-cells-cell.is within refl in
            let says : b cell l.i ≡ w.beats.result = sym (W.compares cell l.i w.beats.result within here (rw (← top, ← mine) w.beats.ensures)) in
            let t : Counted (l.i + 1) p q w.if-not-beats.tied w.if-not-beats.alike = elim w.if-not-beats.branch [
              | then-not-beats+then-same w' ↦ alike xs d cell _ _ b p q W l.i here l.tied l.alike told.0 told.1 _ _ _ w'.tied-is w'.alike-is (says ∙ w'.if-not-beats.true) w'.same.ensures w'.if-same.true
              | then-not-beats+else-same w' ↦ level xs d cell _ _ b p q W l.i here l.tied l.alike told.0 told.1 _ _ _ w'.tied-is w'.alike-is (says ∙ w'.if-not-beats.true) w'.same.ensures w'.if-same.false
              | else-not-beats w' ↦ below xs d cell _ _ b p q W l.i here l.tied l.alike told.0 told.1 _ _ w'.tied-is w'.alike-is (says ∙ w'.if-not-beats.false)
            ] in
            let same : l.second ≡ second b cell (l.i + 1) = elim w.else-i-cell.branch [
              | else-i-cell-via-then-i-cell+else-beats w' ↦ second-low b cell l.i l.second told.2 (sym (W.compares l.i l.second w'.beats-then-i-cell.result here inv.1 (rw (← mine, ← under) w'.beats-then-i-cell.ensures)) ∙ w'.if-beats.false)
              | else-i-cell-via-else-i-cell w' ↦ second-skip b cell l.i l.second told.2 w'.if-i-cell.false
            ] in
            (w.tied-is ∙ t.0, w.alike-is ∙ t.1, w.second-is ∙ same),
      )
      | else-not-below w ↦ (
        (omega (arith, w.tied-is), omega (arith, w.alike-is)),
        omega (arith, w.second-is),
        rw (w.second-is, w.under-is) inv.2,
        λ d b p q W.
            let told = inv.3 d b p q W in
            let mine = get_or_read_under xs l.i (length xs) x d c.index-cells-i.is here refl in
            let under = get_or_read_under xs l.second (length xs) l.under d inv.2 inv.1 refl in
            let less : b l.second l.i ≡ true = sym (W.compares l.second l.i c.beats-below.result inv.1 here (rw (← under, ← mine) c.beats-below.ensures)) ∙ w.if-not-below.false in
            let t = below xs d cell _ _ b p q W l.i here l.tied l.alike told.0 told.1 _ _ w.tied-is w.alike-is (under-top xs d cell _ _ b p q W l.i here l.second inv.1 within less) in
            (t.0, t.1, w.second-is ∙ second-low b cell l.i l.second told.2 (W.weak.asym l.second l.i inv.1 here less)),
      )
    ]

pub returns-clause-told : goal.returns-clause-told
returns-clause-told g c d b p q W =
    let e : c.loop-i.i ≡ length c.args.cells.now = omega arith in
    let t = c.loop-i.invariant.3 d b p q W in
    (t.0 ∙ ap (λ (n : ℕ). count n p) e, t.1 ∙ ap (λ (n : ℕ). count n q) e, t.2 ∙ ap (second b c.args.cell) e)
