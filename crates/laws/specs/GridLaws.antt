-- The board's origins are a grid, for any two periods that are no multiples of 3.
use Rattle.std.specs.Prelude.{◌≡◌, ◌≢◌, ℕ, ◌+◌, ◌*◌, ◌/◌, ◌%◌, ◌<◌}
use Rattle.std.proofs.Common.{ap₂, ◌∙◌, arith, mod-lt, div-lt_iff_lt-mul, div-add-mod', lit<}
use Rattle.std.proofs.Math.Arith.{digits_div, digits_mod, digits_lt}
use Rattle.laws.specs.Words.{joint, Grid, row_of, col_of, origins}
use Rattle.laws.specs.Residues.{joint-long, joint-short, joint-below, joint-back}

-- what a selection needs of a grid of hn horizontal and vn vertical cells: keys and pairs of cells are the same thing
pub record Laws (G : Grid) (hn vn : ℕ) : Type 0 where
  pub under : (h v : ℕ) → h < hn → v < vn → G.key h v < G.none
  pub h-in : (k : ℕ) → G.h_of k < hn
  pub v-in : (k : ℕ) → G.v_of k < vn
  pub h_key : (h v : ℕ) → h < hn → v < vn → G.h_of (G.key h v) ≡ h
  pub v_key : (h v : ℕ) → h < hn → v < vn → G.v_of (G.key h v) ≡ v
  pub back : (k : ℕ) → k < G.none → G.key (G.h_of k) (G.v_of k) ≡ k

-- every origin's horizontal cell stands in the table of 3L cells
pub h-below : (L : ℕ) → 0 < L → (row col : ℕ) → row % L * 3 + col % 3 < 3 * L
h-below L p row col = let a = mod-lt row p in let b : col % 3 < 3 = mod-lt col (lit< tt) in omega arith

-- and its vertical cell in the table of 3M
pub v_below : (M : ℕ) → 0 < M → (row col : ℕ) → row % 3 * M + col % M < 3 * M
v_below M q row col = digits_lt (mod-lt row (lit< tt)) (mod-lt col q)

module _ (L M : ℕ) (p : 0 < L) (q : 0 < M) (n : L % 3 ≢ 0) (m : M % 3 ≢ 0) where
  wide : 0 < 3 * M
  wide = omega arith

  row_in : (h v : ℕ) → row_of L M h v < 3 * L
  row_in h v = joint-below L p n (v / M) (h / 3)

  col-in : (h v : ℕ) → col_of M h v < 3 * M
  col-in h v = joint-below M q m (h % 3) (v % M)

  -- a key's row and column come back
  key_row : (h v : ℕ) → (row_of L M h v * (3 * M) + col_of M h v) / (3 * M) ≡ row_of L M h v
  key_row h v = digits_div (row_of L M h v) (col-in h v)

  key-col : (h v : ℕ) → (row_of L M h v * (3 * M) + col_of M h v) % (3 * M) ≡ col_of M h v
  key-col h v = digits_mod (row_of L M h v) (col-in h v)

  third : (h : ℕ) → h < 3 * L → h / 3 < L
  third h l = omega arith

  part : (v : ℕ) → v < 3 * M → v / M < 3
  part v l = (div-lt_iff_lt-mul q).1 l

  -- the classes of a key
  abbrev long-h : ℕ → ℕ
  long-h k = k / (3 * M) % L

  abbrev short-h : ℕ → ℕ
  short-h k = k % (3 * M) % 3

  abbrev short-v : ℕ → ℕ
  short-v k = k / (3 * M) % 3

  abbrev long-v : ℕ → ℕ
  long-v k = k % (3 * M) % M

  three : 0 < 3
  three = lit< tt

  pub origins-laws : Laws (origins L M) (3 * L) (3 * M)
  origins-laws = record {
    under = λ h v l k. digits_lt (row_in h v) (col-in h v);
    h-in = λ k. h-below L p (k / (3 * M)) (k % (3 * M));
    v-in = λ k. v_below M q (k / (3 * M)) (k % (3 * M));
    h_key = λ h v l k.
        ap₂ (λ (x y : ℕ). x % L * 3 + y % 3) (key_row h v) (key-col h v)
        ∙ ap₂ (λ (x y : ℕ). x * 3 + y) (joint-long L p n (v / M) (h / 3) (third h l)) (joint-short M q m (h % 3) (v % M) (mod-lt h three))
        ∙ div-add-mod' h 3;
    v_key = λ h v l k.
        ap₂ (λ (x y : ℕ). x % 3 * M + y % M) (key_row h v) (key-col h v)
        ∙ ap₂ (λ (x y : ℕ). x * M + y) (joint-short L p n (v / M) (h / 3) (part v k)) (joint-long M q m (h % 3) (v % M) (mod-lt v q))
        ∙ div-add-mod' v M;
    back = λ k l. ap₂ (λ (x y : ℕ). x * (3 * M) + y) (rows k l) (cols k) ∙ div-add-mod' k (3 * M);
  }
    where
      rows : (k : ℕ) → k < 3 * L * (3 * M) → row_of L M (long-h k * 3 + short-h k) (short-v k * M + long-v k) ≡ k / (3 * M)
      rows k l =
          ap₂ (joint L) (digits_div (short-v k) (mod-lt (k % (3 * M)) q)) (digits_div (long-h k) (mod-lt (k % (3 * M)) three))
          ∙ joint-back L p n (k / (3 * M)) ((div-lt_iff_lt-mul wide).1 l)

      cols : (k : ℕ) → col_of M (long-h k * 3 + short-h k) (short-v k * M + long-v k) ≡ k % (3 * M)
      cols k =
          ap₂ (joint M) (digits_mod (long-h k) (mod-lt (k % (3 * M)) three)) (digits_mod (short-v k) (mod-lt (k % (3 * M)) q))
          ∙ joint-back M q m (k % (3 * M)) (mod-lt k wide)
