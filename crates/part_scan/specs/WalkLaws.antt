-- Laws of the walk over one list position.
use Rattle.std.specs.Prelude.{◌≡◌, refl, Bool, true, false, ◌&&◌, List, ℕ, ◌+◌, ◌*◌, ◌/◌, ◌-◌, ◌%◌, ◌≤◌, ◌<◌}
use Rattle.std.proofs.Common.{sym, ◌∙◌}
use Rattle.std.proofs.Math.Path.{ap, ap₂}
use native.Mathlib.Omega.{arith}
use borrow.Author.Tests.{lt-ltb, le-ltb, lt-leb, le-leb}
use Rattle.laws.specs.Words.{all}
use Rattle.values.specs.Values.{v_at}
use Rattle.part.specs.declared.Runs.{Runs}
use Rattle.part.specs.Part.{in_runs, RunsOk}
use Rattle.part_scan.specs.declared.kept.PartKept.{PartKept}
use Rattle.part_scan.specs.Kept.{offered, walked}
use Rattle.part_scan.specs.KeptLaws.{walk_none, walk_more, walk-join, two_runs}
use Rattle.part_scan.specs.Walk.{first_number, row_at, col_at, number_value, in_cols, in_both}

-- the next class of a column, by 3 and by 167
pub next-short : (x c : ℕ) → x ≡ c % 3 → (x + 1) % 3 ≡ (c + 1) % 3
next-short x c e = omega arith

pub next-long : (x c : ℕ) → x ≡ c % 167 → (x + 1) % 167 ≡ (c + 1) % 167
next-long x c e = omega arith

-- the first number of a row, as it is made
pub first-is : (listed row : ℕ) → (listed * 501 + row) * 501 ≡ first_number listed row
unfolding first_number
first-is listed row = refl

-- the first number of a row, from that of the list position
pub first_of : (listed row : ℕ) → first_number listed row ≡ first_number listed 0 + row * 501
unfolding first_number
first_of listed row = omega arith

-- the list position of a number, and the first number of a list position
pub position_at : (listed k : ℕ) → k < 251001 → (first_number listed 0 + k) / 251001 ≡ listed
unfolding first_number
position_at listed k l = omega arith

pub first-listed : (listed : ℕ) → first_number listed 0 ≡ 0 + listed * 251001
unfolding first_number
first-listed listed = omega arith

-- the row and the column of a number
pub number_at : (listed row col : ℕ) → row < 501 → col < 501 → (row_at (first_number listed row + col) ≡ row) × (col_at (first_number listed row + col) ≡ col)
unfolding first_number
number_at listed row col r c =
    let k : ((listed * 501 + row) * 501 + col) % 251001 ≡ row * 501 + col = omega arith in
    (ap (λ (x : ℕ). x / 501) k ∙ omega arith, ap (λ (x : ℕ). x % 501) k ∙ omega arith)

-- the value of the origin in a row and a column, from its two cells
pub value-at : (hs vs : List ℕ) (listed row col : ℕ) → row < 501 → col < 501 → v_at hs (row % 167 * 3 + col % 3) + v_at vs (row % 3 * 167 + col % 167) ≡ number_value hs vs (first_number listed row + col)
unfolding number_value first_number
value-at hs vs listed row col r c =
    let N = number_at listed row col r c in
    sym (ap₂ (λ (x y : ℕ). v_at hs (x % 167 * 3 + y % 3) + v_at vs (x % 3 * 167 + y % 167)) N.0 N.1)

-- ---- which numbers are inside
module _ (r : Runs) (x : ℕ) where
  pub run-low : x < r.first → in_runs r x ≡ true
  unfolding in_runs
  run-low a = rw (lt-ltb x r.first a)

  pub run-between : r.first ≤ x → x < r.from → in_runs r x ≡ false
  unfolding in_runs
  run-between a b = rw (le-ltb x r.first a, lt-leb r.from x b)

  pub run-high : RunsOk r → r.from ≤ x → x < r.to → in_runs r x ≡ true
  unfolding in_runs
  run-high ok a b = let f : r.first ≤ x = omega (arith, ok.apart) in rw (le-ltb x r.first f, le-leb r.from x a, lt-ltb x r.to b)

  pub run_past : RunsOk r → r.to ≤ x → in_runs r x ≡ false
  unfolding in_runs
  run_past ok a = let f : r.first ≤ x = omega (arith, ok.apart, ok.forth) in let g : r.from ≤ x = omega (arith, ok.forth) in rw (le-ltb x r.first f, le-leb r.from x g, le-ltb x r.to a)

-- the column of the number that stands so far behind a row's first is in the runs
pub col-inside : (cols : Runs) (listed row col : ℕ) → row < 501 → col < 501 → in_cols cols (first_number listed row + col) ≡ in_runs cols col
unfolding in_cols
col-inside cols listed row col r c = ap (in_runs cols) (number_at listed row col r c).1

-- the row and the column of the number that stands so far behind a list position's first
pub both-inside : (rows cols : Runs) (listed k : ℕ) → k < 251001 → in_both rows cols (first_number listed 0 + k) ≡ (in_runs rows (k / 501) && in_cols cols (first_number listed 0 + k))
unfolding in_both in_cols first_number
both-inside rows cols listed k l =
    let e : ((listed * 501 + 0) * 501 + k) % 251001 ≡ k = omega arith in
    ap (λ (x : ℕ). in_runs rows (x / 501) && in_runs cols (((listed * 501 + 0) * 501 + k) % 251001 % 501)) e

-- ---- the walks
-- no row
pub rows_none : (value : ℕ → ℕ) (inside : ℕ → Bool) (S : PartKept) (a x : ℕ) → S ≡ walked inside value S a ((x - x) * 501)
rows_none value inside S a x = let z : 0 ≡ (x - x) * 501 = omega arith in sym (walk_none value inside S a) ∙ ap (walked inside value S a) z

module _ (hs vs : List ℕ) (S : PartKept) (listed : ℕ) where
  abbrev val : ℕ → ℕ
  val = number_value hs vs

  -- one column more: its classes are those of its cells
  pub col-more : (row from col : ℕ) (K : PartKept) (short long : ℕ) → row < 501 → from ≤ col → col < 501 → short ≡ col % 3 → long ≡ col % 167
      → K ≡ walked all val S (first_number listed row + from) (col - from)
      → offered K (record { value = v_at hs (row % 167 * 3 + short) + v_at vs (row % 3 * 167 + long); number = (listed * 501 + row) * 501 + col }) ≡ walked all val S (first_number listed row + from) (col + 1 - from)
  col-more row from col K short long r f c es el eK =
      let z : col + 1 - from ≡ col - from + 1 = omega arith in
      let n : first_number listed row + col ≡ first_number listed row + from + (col - from) = omega arith in
      let k : (listed * 501 + row) * 501 + col ≡ first_number listed row + from + (col - from) = ap (λ (x : ℕ). x + col) (first-is listed row) ∙ n in
      let w : v_at hs (row % 167 * 3 + short) + v_at vs (row % 3 * 167 + long) ≡ val (first_number listed row + from + (col - from)) =
      ap₂ (λ (x y : ℕ). v_at hs (row % 167 * 3 + x) + v_at vs (row % 3 * 167 + y)) es el ∙ value-at hs vs listed row col r c ∙ ap val n in
      ap (λ (X : PartKept). offered X (record { value = v_at hs (row % 167 * 3 + short) + v_at vs (row % 3 * 167 + long); number = (listed * 501 + row) * 501 + col })) eK
      ∙ ap₂ (λ (x y : ℕ). offered (walked all val S (first_number listed row + from) (col - from)) (record { value = x; number = y })) w k
      ∙ sym (walk_more val all S (first_number listed row + from) (col - from))
      ∙ ap (walked all val S (first_number listed row + from)) (sym z)

  -- a row of two runs
  pub row-runs : (cols : Runs) (row : ℕ) → RunsOk cols → row < 501
      → walked all val (walked all val S (first_number listed row + 0) (cols.first - 0)) (first_number listed row + cols.from) (cols.to - cols.from) ≡ walked (in_cols cols) val S (first_number listed row) 501
  row-runs cols row ok r =
      let a : first_number listed row + 0 ≡ first_number listed row = omega arith in
      let f : cols.first - 0 ≡ cols.first = omega arith in
      ap₂ (λ (x y : ℕ). walked all val (walked all val S x y) (first_number listed row + cols.from) (cols.to - cols.from)) a f
      ∙ two_runs val all (in_cols cols) S (first_number listed row) cols.first cols.from cols.to 501 ok.apart ok.forth ok.inside
      (λ k l. let c : k < 501 = omega (arith, ok.apart, ok.forth, ok.inside) in sym (col-inside cols listed row k r c ∙ run-low cols k l))
      (λ k l m. let c : k < 501 = omega (arith, ok.forth, ok.inside) in col-inside cols listed row k r c ∙ run-between cols k l m)
      (λ k l m. let c : k < 501 = omega (arith, ok.inside) in sym (col-inside cols listed row k r c ∙ run-high cols k ok l m))
      (λ k l m. col-inside cols listed row k r m ∙ run_past cols k ok l)

  -- one row more
  pub row_more : (cols : Runs) (from row : ℕ) (K : PartKept) → from ≤ row
      → K ≡ walked (in_cols cols) val S (first_number listed from) ((row - from) * 501)
      → walked (in_cols cols) val K (first_number listed row) 501 ≡ walked (in_cols cols) val S (first_number listed from) ((row + 1 - from) * 501)
  unfolding first_number
  row_more cols from row K l e =
      let a : (listed * 501 + row) * 501 ≡ (listed * 501 + from) * 501 + (row - from) * 501 = omega arith in
      let z : (row - from) * 501 + 501 ≡ (row + 1 - from) * 501 = omega arith in
      ap₂ (λ (X : PartKept) (x : ℕ). walked (in_cols cols) val X x 501) e a
      ∙ walk-join val (in_cols cols) S ((listed * 501 + from) * 501) ((row - from) * 501) 501
      ∙ ap (walked (in_cols cols) val S ((listed * 501 + from) * 501)) z

  -- a list position of two runs of rows
  pub part-runs : (rows cols : Runs) → RunsOk rows → RunsOk cols
      → walked (in_cols cols) val (walked (in_cols cols) val S (first_number listed 0) ((rows.first - 0) * 501)) (first_number listed rows.from) ((rows.to - rows.from) * 501) ≡ walked (in_both rows cols) val S (first_number listed 0) 251001
  part-runs rows cols ok qk =
      let f : (rows.first - 0) * 501 ≡ rows.first * 501 = omega arith in
      let t : (rows.to - rows.from) * 501 ≡ rows.to * 501 - rows.from * 501 = omega arith in
      ap₂ (λ (x y : ℕ). walked (in_cols cols) val (walked (in_cols cols) val S (first_number listed 0) x) (first_number listed rows.from) y) f t
      ∙ ap (λ (x : ℕ). walked (in_cols cols) val (walked (in_cols cols) val S (first_number listed 0) (rows.first * 501)) x (rows.to * 501 - rows.from * 501)) (from_first rows.from)
      ∙ two_runs val (in_cols cols) (in_both rows cols) S (first_number listed 0) (rows.first * 501) (rows.from * 501) (rows.to * 501) 251001 (omega (arith, ok.apart)) (omega (arith, ok.forth)) (omega (arith, ok.inside))
      (λ k l. let d : k / 501 < rows.first = omega arith in yes-row k (omega (arith, ok.apart, ok.forth, ok.inside)) (run-low rows (k / 501) d))
      (λ k l m. let a : rows.first ≤ k / 501 = omega arith in let b : k / 501 < rows.from = omega arith in no_row k (omega (arith, ok.forth, ok.inside)) (run-between rows (k / 501) a b))
      (λ k l m. let a : rows.from ≤ k / 501 = omega arith in let b : k / 501 < rows.to = omega arith in yes-row k (omega (arith, ok.inside)) (run-high rows (k / 501) ok a b))
      (λ k l m. let a : rows.to ≤ k / 501 = omega arith in no_row k m (run_past rows (k / 501) ok a))
    where
      from_first : (row : ℕ) → first_number listed row ≡ first_number listed 0 + row * 501
      from_first row = first_of listed row

      yes-row : (k : ℕ) → k < 251001 → in_runs rows (k / 501) ≡ true → in_cols cols (first_number listed 0 + k) ≡ in_both rows cols (first_number listed 0 + k)
      yes-row k l e = sym (both-inside rows cols listed k l ∙ ap (λ (b : Bool). b && in_cols cols (first_number listed 0 + k)) e)

      no_row : (k : ℕ) → k < 251001 → in_runs rows (k / 501) ≡ false → in_both rows cols (first_number listed 0 + k) ≡ false
      no_row k l e = both-inside rows cols listed k l ∙ ap (λ (b : Bool). b && in_cols cols (first_number listed 0 + k)) e
