-- Laws of the direct scan: the classes of the next origin, one origin more, one row more.
use Rattle.std.specs.Prelude.{◌≡◌, refl, Float}
use Rattle.std.proofs.Common.{sym, ap, ◌∙◌, mod-lt, mod-eq_of_lt, add_comm, add-zero, add-suc, add_assoc, zero-add, zero-mul, mul-le-mul_right, arith, add-one, lit<}
use Rattle.std.proofs.Math.Path.{ap₂}
use Prim.Native.Nat.{ℕ, zero, suc, ◌+◌, ◌*◌, ◌%◌, ◌≤◌, ◌<◌}
use Rattle.std.proofs.Math.Nat.{add-mod-mod}
use Rattle.std.proofs.Math.Arith.{digits_div, digits_mod}
use Rattle.std.specs.Float.Ieee.{add, binary32}
use Rattle.best.specs.CellTables.{CellTables, Period, c_at, w_at}
use Rattle.scan.specs.Scan.{offered_within}
use Rattle.direct.specs.Direct.{hard_candidate, origin_candidate, tried}
use Rattle.scan.specs.Kinds.{Kept}

three : 0 < 3
three = lit< tt

-- ---- classes
pub class-next : (k n : ℕ) → (k % n + 1) % n ≡ (k + 1) % n
class-next k n = ap (λ (x : ℕ). x % n) (add_comm (k % n) 1) ∙ add-mod-mod 1 k n ∙ ap (λ (x : ℕ). x % n) (add_comm 1 k)

-- in a row whose cells start at hbase and vbase, at a column with the classes hb and vb
pub record RowTurn (L M hbase vbase hb vb col : ℕ) : Type 0 where
  pub inside : col ≤ 3 * M
  pub h_row : hbase + 3 ≤ 3 * L
  pub v_row : vbase + M ≤ 3 * M
  pub h_class : hb ≡ col % 3
  pub v_class : vb ≡ col % M
  pub h_small : hb < 3
  pub v_small : vb < M

pub row-start : (L M row ha va : ℕ) → Period L → Period M → ha ≡ row % L → va ≡ row % 3 → RowTurn L M (ha * 3) (va * M) 0 0 0
row-start L M row ha va p q e d =
    let a = mod-lt row {m = L} (omega (arith, p.more)) in
    let b = mod-lt row three in
    let w : (va + 1) * M ≤ 3 * M = mul-le-mul_right M (omega arith) in
    record {
      inside = omega arith;
      h_row = omega arith;
      v_row = omega arith;
      h_class = refl;
      v_class = sym (mod-eq_of_lt (omega (arith, q.more)));
      h_small = omega arith;
      v_small = omega (arith, q.more);
    }

pub row_next : (L M hbase vbase hb vb col h v : ℕ) → RowTurn L M hbase vbase hb vb col → col < 3 * M → (h ≡ (hb + 1) % 3) × (h < 3) → (v ≡ (vb + 1) % M) × (v < M)
    → RowTurn L M hbase vbase h v (col + 1)
row_next L M hbase vbase hb vb col h v t l e d = record {
  inside = omega arith;
  h_row = t.h_row;
  v_row = t.v_row;
  h_class = e.0 ∙ ap (λ (x : ℕ). (x + 1) % 3) t.h_class ∙ class-next col 3;
  v_class = d.0 ∙ ap (λ (x : ℕ). (x + 1) % M) t.v_class ∙ class-next col M;
  h_small = e.1;
  v_small = d.1;
}

-- ---- origins tried
module _ (L M edges : ℕ) (confidence limit : Float) (listed : ℕ) (X : CellTables) where
  -- one more
  pub tried-more : (from : ℕ) (start x : Kept) (n : ℕ) → x ≡ tried L M edges confidence limit listed X from start n
      → offered_within edges limit x (origin_candidate L M edges confidence limit listed X (from + n)) ≡ tried L M edges confidence limit listed X from start (n + 1)
  unfolding tried
  tried-more from start x n e = rw (add-one n, ← e)

  -- some, and then some more
  pub tried-on : (from : ℕ) (start : Kept) (a b : ℕ)
      → tried L M edges confidence limit listed X (from + a) (tried L M edges confidence limit listed X from start a) b ≡ tried L M edges confidence limit listed X from start (a + b)
  unfolding tried
  tried-on from start a zero = rw (add-zero a)
  tried-on from start a (suc b) =
      rw (add-suc a b) (ap₂ (offered_within edges limit) (tried-on from start a b) (ap (origin_candidate L M edges confidence limit listed X) (add_assoc from a b)))

  -- none yet
  pub tried-none : (start : Kept) → start ≡ tried L M edges confidence limit listed X 0 start (0 * (3 * M))
  unfolding tried
  tried-none start = rw (zero-mul (3 * M))

  -- the candidate at a row and a column, by its classes
  pub candidate-at : (row col ha va hb vb : ℕ) → col < 3 * M → ha ≡ row % L → va ≡ row % 3 → hb ≡ col % 3 → vb ≡ col % M
      → origin_candidate L M edges confidence limit listed X (row * (3 * M) + col)
      ≡ hard_candidate (c_at X.hc (ha * 3 + hb) + c_at X.vc (va * M + vb)) (add binary32 (w_at X.hw (ha * 3 + hb)) (w_at X.vw (va * M + vb))) confidence row col listed
  unfolding origin_candidate
  candidate-at row col ha va hb vb l a b c d =
      ap₂ (λ (r k : ℕ). hard_candidate (c_at X.hc (r % L * 3 + k % 3) + c_at X.vc (r % 3 * M + k % M)) (add binary32 (w_at X.hw (r % L * 3 + k % 3)) (w_at X.vw (r % 3 * M + k % M))) confidence r k listed)
      (digits_div row l) (digits_mod row l)
      ∙ ap₂ (λ (h v : ℕ). hard_candidate (c_at X.hc h + c_at X.vc v) (add binary32 (w_at X.hw h) (w_at X.vw v)) confidence row col listed)
      (ap₂ (λ (x y : ℕ). x * 3 + y) (sym a) (sym c)) (ap₂ (λ (x y : ℕ). x * M + y) (sym b) (sym d))

  -- a turn of a row
  pub row-turn : (row col ha va hb vb : ℕ) (start x y : Kept) → col < 3 * M → ha ≡ row % L → va ≡ row % 3 → hb ≡ col % 3 → vb ≡ col % M
      → x ≡ tried L M edges confidence limit listed X (row * (3 * M)) start col
      → y ≡ offered_within edges limit x (hard_candidate (c_at X.hc (ha * 3 + hb) + c_at X.vc (va * M + vb)) (add binary32 (w_at X.hw (ha * 3 + hb)) (w_at X.vw (va * M + vb))) confidence row col listed)
      → y ≡ tried L M edges confidence limit listed X (row * (3 * M)) start (col + 1)
  row-turn row col ha va hb vb start x y l a b c d e f =
      f ∙ ap (offered_within edges limit x) (sym (candidate-at row col ha va hb vb l a b c d)) ∙ tried-more (row * (3 * M)) start x col e

  -- one row more
  pub rows-turn : (row : ℕ) (start x y : Kept) → x ≡ tried L M edges confidence limit listed X 0 start (row * (3 * M)) → y ≡ tried L M edges confidence limit listed X (row * (3 * M)) x (3 * M)
      → y ≡ tried L M edges confidence limit listed X 0 start ((row + 1) * (3 * M))
  rows-turn row start x y e f =
      f
      ∙ ap₂ (λ (k : ℕ) (y : Kept). tried L M edges confidence limit listed X k y (3 * M)) (sym (zero-add (row * (3 * M)))) e
      ∙ tried-on 0 start (row * (3 * M)) (3 * M)
      ∙ ap (tried L M edges confidence limit listed X 0 start) (more row (3 * M))
    where
      more : (r m : ℕ) → r * m + m ≡ (r + 1) * m
      more r m = omega arith
