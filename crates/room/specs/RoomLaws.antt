-- A room laid out, stage by stage: cleared, its groups written, then the cells of a side; and two rooms so laid out are equal.
use Rattle.std.specs.Prelude.{◌≡◌, refl, Bool, true, false, cond, List, ℕ, zero, suc, ◌+◌, ◌*◌, ◌/◌, ◌%◌, ◌-◌, ◌≤◌, ◌<◌, length, get_or}
use Rattle.std.proofs.Common.{sym, ap, ◌∙◌, ⊎_elim, le_trans, le_of_eq, suc-mul, mul-zero, mul-le-mul_right, mod-lt, div-add-mod', div-lt_iff_lt-mul, arith, ext_get_or}
use Rattle.laws.specs.Words.{cleared}
use Rattle.laws.specs.Cleared.{cleared-written}
use Rattle.laws.specs.Tests.{compared}
use Rattle.laws.specs.Written.{Written}
use Rattle.laws.specs.Zone.{Zone}
use Rattle.board.specs.Hits.{Board}
use Rattle.board.specs.Domain.{BoardOk}
use Rattle.board.specs.Sides.{is}
use Rattle.room.specs.Room.{PeriodsOk, row_length, cells_at, cells_end, groups_at, used, side_of, Stands, Laid}

-- ---- the periods of an accepted board
pub board-periods : (B : Board) → BoardOk B → PeriodsOk (record { h = length B.h; v = length B.v })
board-periods B ok = record { some = (omega (arith, ok.h.some), omega (arith, ok.v.some)); few = (ok.h.few, ok.v.few) }

-- ---- the parts do not overlap
module _ (P : Bool → ℕ) where
  pub cells_in : (s : Bool) → cells_at P s + 3 * P s ≤ cells_end P
  cells_in true = omega arith
  cells_in false = omega arith

  pub groups-in : (m i : ℕ) → i < m → (s : Bool) → groups_at P i s + P s * 6 ≤ used P m
  groups-in m i h s = go s (le_trans (le_of_eq (sym (suc-mul i (row_length (P true) (P false))))) (mul-le-mul_right (row_length (P true) (P false)) h))
    where
      go : (s : Bool) → i * row_length (P true) (P false) + row_length (P true) (P false) ≤ m * row_length (P true) (P false) → groups_at P i s + P s * 6 ≤ used P m
      go true l = omega arith
      go false l = omega arith

  pub groups-past : (i : ℕ) (s : Bool) → cells_end P ≤ groups_at P i s
  groups-past i s = omega arith

  -- each side stands as it should
  pub side-stands : (s : Bool) → Stands P (side_of (record { h = P true; v = P false }) s)
  side-stands true = record { stride = refl; across = refl; cells = refl; groups = omega arith }
  side-stands false = record { stride = refl; across = refl; cells = refl; groups = omega arith }

-- ---- stage by stage
module _ {A : Type 0} (d : A) (P : Bool → ℕ) (m : ℕ) where
  pub laid-ext : (C C' : Bool → ℕ → A) (G : ℕ → Bool → ℕ → A) (a₀ a : List A) → ((s : Bool) (k : ℕ) → C s k ≡ C' s k) → Laid d P m C G a₀ a → Laid d P m C' G a₀ a
  laid-ext C C' G a₀ a e l = record { len = l.len; cells = λ s k h. l.cells s k h ∙ e s k; groups = l.groups; surplus = l.surplus }

  pub laid-clear : (z : A) (a₀ a : List A) → Written d (λ k. z) a₀ a (used P m) → Laid d P m (λ s k. z) (λ i s k. z) a₀ a
  laid-clear z a₀ a u = record {
    len = u.len;
    cells = λ s k h. u.front (cells_at P s + k) (omega (arith, cells_in P s));
    groups = λ i l s k h. u.front (groups_at P i s + k) (omega (arith, groups-in P m i l s));
    surplus = u.back;
  }

  -- the rows of groups are written, as one zone
  pub laid-groups : (C : Bool → ℕ → A) (G₀ G : ℕ → Bool → ℕ → A) (R : ℕ → A) (a₀ a b : List A) → Laid d P m C G₀ a₀ a → Zone d R (cells_end P) (m * row_length (P true) (P false)) a b
      → ((i : ℕ) → i < m → (s : Bool) (k : ℕ) → k < P s * 6 → R (i * row_length (P true) (P false) + (cond s 0 (P true * 6) + k)) ≡ G i s k) → Laid d P m C G a₀ b
  laid-groups C G₀ G R a₀ a b l z row = record {
    len = z.len ∙ l.len;
    cells = λ s k h. z.below (cells_at P s + k) (omega (arith, cells_in P s)) ∙ l.cells s k h;
    groups = λ i j s k h. ap (λ x. get_or b x d) (arrange i s k) ∙ z.inside (i * row_length (P true) (P false) + (cond s 0 (P true * 6) + k)) (omega (arith, groups-in P m i j s)) ∙ row i j s k h;
    surplus = λ k h. z.above k h ∙ l.surplus k h;
  }
    where
      arrange : (i : ℕ) (s : Bool) (k : ℕ) → groups_at P i s + k ≡ cells_end P + (i * row_length (P true) (P false) + (cond s 0 (P true * 6) + k))
      arrange i s k = omega arith

  -- the cells of one side are written
  pub laid_cells : (s : Bool) (C : Bool → ℕ → A) (G : ℕ → Bool → ℕ → A) (Q : ℕ → A) (a₀ a b : List A) → Laid d P m C G a₀ a → Zone d Q (cells_at P s) (3 * P s) a b
      → Laid d P m (λ s' k. cond (is s s') (Q k) (C s' k)) G a₀ b
  laid_cells s C G Q a₀ a b l z = record {
    len = z.len ∙ l.len;
    cells = at-cell s z;
    groups = λ i j s' k h. z.above (groups_at P i s' + k) (omega (arith, cells_in P s, groups-past P i s')) ∙ l.groups i j s' k h;
    surplus = λ k h. z.above k (omega (arith, cells_in P s)) ∙ l.surplus k h;
  }
    where
      at-cell : (s : Bool) → Zone d Q (cells_at P s) (3 * P s) a b → (s' : Bool) (k : ℕ) → k < 3 * P s' → get_or b (cells_at P s' + k) d ≡ cond (is s s') (Q k) (C s' k)
      at-cell true z true k h = z.inside k h
      at-cell true z false k h = z.above (3 * P true + k) (omega arith) ∙ l.cells false k h
      at-cell false z true k h = z.below (0 + k) (omega arith) ∙ l.cells true k h
      at-cell false z false k h = z.inside k h

  -- laid out over what an earlier call left: only the surplus is older
  pub laid-again : (C C' : Bool → ℕ → A) (G G' : ℕ → Bool → ℕ → A) (a b c : List A) → Laid d P m C G a b → Laid d P m C' G' b c → Laid d P m C' G' a c
  laid-again C C' G G' a b c u v = record { len = v.len ∙ u.len; cells = v.cells; groups = v.groups; surplus = λ k h. v.surplus k h ∙ u.surplus k h }

-- once the used part is cleared, nothing is left of what was laid out
pub laid-cleared : {A : Type 0} (d : A) (P : Bool → ℕ) (m : ℕ) (C : Bool → ℕ → A) (G : ℕ → Bool → ℕ → A) (z : A) (old new : List A) → used P m ≤ length old → Laid d P m C G old new
    → cleared z (used P m) new ≡ cleared z (used P m) old
laid-cleared d P m C G z old new room l =
    let u = cleared-written d z (used P m) new (omega (arith, l.len)) in
    let v = cleared-written d z (used P m) old room in
    ext_get_or d _ _ (u.len ∙ l.len ∙ sym v.len)
    (λ k h. ⊎_elim (λ b. u.front k b ∙ sym (v.front k b)) (λ b. u.back k b ∙ l.surplus k b ∙ sym (v.back k b)) (compared k (used P m)))

-- ---- two rooms laid out alike hold the same, whatever they held before
module _ {A : Type 0} (d : A) (P : Bool → ℕ) (m : ℕ) (C : Bool → ℕ → A) (G : ℕ → Bool → ℕ → A) (old old' a b : List A) (u : Laid d P m C G old a) (v : Laid d P m C G old' b) where
  abbrev row : ℕ
  row = row_length (P true) (P false)

  -- at place k, which is j places after the start p of a part
  moved : (p j k : ℕ) → p + j ≡ k → get_or a (p + j) d ≡ get_or b (p + j) d → get_or a k d ≡ get_or b k d
  moved p j k e h = ap (λ x. get_or a x d) (sym e) ∙ h ∙ ap (λ x. get_or b x d) e

  in_cells : (s : Bool) (k : ℕ) → cells_at P s ≤ k → k < cells_at P s + 3 * P s → get_or a k d ≡ get_or b k d
  in_cells s k h l =
      let j = k - cells_at P s in
      let i : j < 3 * P s = omega arith in
      moved (cells_at P s) j k (omega arith) (u.cells s j i ∙ sym (v.cells s j i))

  in-groups : (i : ℕ) → i < m → (s : Bool) (k : ℕ) → groups_at P i s ≤ k → k < groups_at P i s + P s * 6 → get_or a k d ≡ get_or b k d
  in-groups i n s k h l =
      let j = k - groups_at P i s in
      let q : j < P s * 6 = omega arith in
      moved (groups_at P i s) j k (omega arith) (u.groups i n s j q ∙ sym (v.groups i n s j q))

  -- in row i of the groups, r places after its start
  in_row : (i r k : ℕ) → i < m → r < row → k ≡ cells_end P + (i * row + r) → get_or a k d ≡ get_or b k d
  in_row i r k h l e =
      ⊎_elim
      (λ x. in-groups i h true k (omega arith) (omega arith))
      (λ x. in-groups i h false k (omega arith) (omega arith))
      (compared r (P true * 6))

  some-row : (j n : ℕ) → j < m * n → 0 < n
  some-row j zero h = let z : m * 0 ≡ 0 = mul-zero m in absurd (omega arith)
  some-row j (suc n) h = omega arith

  in_rows : (k : ℕ) → cells_end P ≤ k → k < used P m → get_or a k d ≡ get_or b k d
  in_rows k h l =
      let j = k - cells_end P in
      let n : j < m * row = omega arith in
      let p : 0 < row = some-row j row n in
      let e : k ≡ cells_end P + j = omega arith in
      in_row (j / row) (j % row) k ((div-lt_iff_lt-mul p).1 n) (mod-lt j p) (e ∙ ap (λ x. cells_end P + x) (sym (div-add-mod' j row)))

  -- the used part
  pub laid-used : (k : ℕ) → k < used P m → get_or a k d ≡ get_or b k d
  laid-used k h =
      ⊎_elim
      (λ l. in_cells true k (omega arith) (omega arith))
      (λ l₁. ⊎_elim (λ l. in_cells false k (omega arith) (omega arith)) (λ l₂. in_rows k l₂ h) (compared k (cells_end P)))
      (compared k (3 * P true))

  -- the whole, where the surplus was the same
  pub laid_same : length old ≡ length old' → ((k : ℕ) → used P m ≤ k → get_or old k d ≡ get_or old' k d) → a ≡ b
  laid_same e s = ext_get_or d a b (u.len ∙ e ∙ sym v.len) (λ k h. ⊎_elim (laid-used k) (λ l. u.surplus k l ∙ s k l ∙ sym (v.surplus k l)) (compared k (used P m)))
