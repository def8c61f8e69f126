-- Laws of a part: what is in range, and that the two runs of a side hold its numbers and no others.
use Rattle.std.specs.Prelude.{◌≡◌, Bool, ◌&&◌, ◌||◌, ℕ, ◌+◌, ◌-◌, ◌≤◌, ◌<◌, eqb, leb}
use Rattle.std.proofs.Math.Path.{refl}
use Rattle.std.proofs.Common.{sym, ap, subst, ◌∙◌}
use Rattle.std.proofs.Math.Bool.{true, false}
use Rattle.std.proofs.Math.Logic.{⊎_elim}
use native.Mathlib.Omega.{arith}
use Rattle.std.proofs.Math.Dec.{ltb}
use borrow.Author.Tests.{lt-ltb, le-leb, lt-leb, ltb-true, ltb-false, leb-true, eqb-false}
use Rattle.laws.specs.Tests.{compared, or-true, or-false, and-true}
use Rattle.part.specs.declared.Part.{Part}
use Rattle.part.specs.declared.Runs.{Runs}
use Rattle.part.specs.Part.{InSide, SideOk, PartOk, side_bad, part_bad, runs_of, in_runs, RunsOk}

-- ---- in range
pub side-ok : (start number : ℕ) → side_bad start number ≡ false → SideOk start number
unfolding side_bad
side-ok start number e =
    let a = or-false (ltb 500 start) (eqb number 0 || ltb 501 number) e in
    let b = or-false (eqb number 0) (ltb 501 number) a.1 in
    let z = eqb-false number 0 b.0 in
    record { begins = ltb-false 500 start a.0; some = ⊎_elim (λ l. l) (λ l. absurd (z (omega arith))) (compared 0 number); few = ltb-false 501 number b.1 }

-- a part that is not refused is in range
pub part-ok : (part : Part) → part_bad part ≡ false → PartOk part
unfolding part_bad
part-ok part e =
    let a = or-false (side_bad part.row part.rows) (side_bad part.col part.cols) e in
    record { down = side-ok part.row part.rows a.0; across = side-ok part.col part.cols a.1 }

-- ---- the runs of a side
module _ (start number : ℕ) (ok : SideOk start number) where
  -- without a wrap, and with one
  straight : start + number ≤ 501 → runs_of start number ≡ record { first = 0; from = start; to = start + number }
  unfolding runs_of
  straight l = rw (le-leb (start + number) 501 l)

  wrapped : 501 < start + number → runs_of start number ≡ record { first = start + number - 501; from = start; to = 501 }
  unfolding runs_of
  wrapped l = rw (lt-leb (start + number) 501 l)

  pub runs-ok : RunsOk (runs_of start number)
  runs-ok =
      ⊎_elim
      (λ l. subst RunsOk (sym (wrapped l)) (record { apart = omega (arith, ok.few); forth = omega (arith, ok.begins); inside = omega arith }))
      (λ l. subst RunsOk (sym (straight l)) (record { apart = omega arith; forth = omega arith; inside = l }))
      (compared 501 (start + number))

  -- a number in the runs is one of the side
  in-straight : (x : ℕ) → start + number ≤ 501 → in_runs (record { first = 0; from = start; to = start + number }) x ≡ true → InSide start number x
  unfolding in_runs
  in-straight x l e = ⊎_elim (λ t. let b = ltb-true x 0 t in absurd (omega arith)) (λ t. let a = and-true (leb start x) (ltb x (start + number)) t in go (leb-true start x a.0) (ltb-true x (start + number) a.1)) (or-true (ltb x 0) (leb start x && ltb x (start + number)) e)
    where
      go : start ≤ x → x < start + number → InSide start number x
      go a b = (x - start, omega arith, omega arith)

  in-wrapped : (x : ℕ) → 501 < start + number → in_runs (record { first = start + number - 501; from = start; to = 501 }) x ≡ true → InSide start number x
  unfolding in_runs
  in-wrapped x l e = ⊎_elim (λ t. low (ltb-true x (start + number - 501) t)) (λ t. let a = and-true (leb start x) (ltb x 501) t in high (leb-true start x a.0) (ltb-true x 501 a.1)) (or-true (ltb x (start + number - 501)) (leb start x && ltb x 501) e)
    where
      low : x < start + number - 501 → InSide start number x
      low a = (x + 501 - start, omega (arith, ok.begins), omega (arith, ok.begins, ok.few))

      high : start ≤ x → x < 501 → InSide start number x
      high a b = (x - start, omega arith, omega arith)

  -- THE RUNS HOLD THE SIDE'S NUMBERS AND NO OTHERS
  pub runs-in : (x : ℕ) → in_runs (runs_of start number) x ≡ true → InSide start number x
  runs-in x e =
      ⊎_elim
      (λ l. in-wrapped x l (sym (ap (λ (r : Runs). in_runs r x) (wrapped l)) ∙ e))
      (λ l. in-straight x l (sym (ap (λ (r : Runs). in_runs r x) (straight l)) ∙ e))
      (compared 501 (start + number))

  -- by the first run, or by the second
  first_run : (r : Runs) (x : ℕ) → x < r.first → in_runs r x ≡ true
  unfolding in_runs
  first_run r x a = rw (lt-ltb x r.first a)

  second_run : (r : Runs) (x : ℕ) → r.from ≤ x → x < r.to → in_runs r x ≡ true
  unfolding in_runs
  second_run r x a b = rw (le-leb r.from x a, lt-ltb x r.to b) (either (ltb x r.first))
    where
      either : (t : Bool) → (t || true) ≡ true
      either true = refl
      either false = refl

  pub in-runs : (x : ℕ) → InSide start number x → in_runs (runs_of start number) x ≡ true
  in-runs x (i, l, e) =
      ⊎_elim
      (λ m. ap (λ (r : Runs). in_runs r x) (wrapped m) ∙ ⊎_elim (λ n. second_run (record { first = start + number - 501; from = start; to = 501 }) x (omega arith) (omega arith)) (λ n. first_run (record { first = start + number - 501; from = start; to = 501 }) x (omega (arith, ok.begins, ok.few))) (compared (start + i) 501))
      (λ m. ap (λ (r : Runs). in_runs r x) (straight m) ∙ second_run (record { first = 0; from = start; to = start + number }) x (omega arith) (omega arith))
      (compared 501 (start + number))

-- a number of a side is below 501
pub side-below : (start number x : ℕ) → InSide start number x → x < 501
side-below start number x (i, l, e) = omega arith

-- of a side of one there is one number
pub side-one : (start x : ℕ) → start ≤ 500 → InSide start 1 x → x ≡ start
side-one start x s (i, l, e) = let z : i ≡ 0 = omega arith in omega arith

-- a side of 501 has every number below 501, from any start
pub side-full : (start x : ℕ) → start ≤ 500 → x < 501 → InSide start 501 x
side-full start x s l = ⊎_elim (λ m. (x + 501 - start, omega arith, omega arith)) (λ m. (x - start, omega arith, omega arith)) (compared x start)
