-- Laws of the transforms: a mapped coordinate is at most the sum of both in size, what a column or a row more makes of it, what the lookup is in each
-- of its three cases, and that it lies near.
use Rattle.std.specs.Prelude.{◌≡◌, Bool, true, false, ◌&&◌, cond, List, [], ◌∷◌, ℕ, zero, suc, ◌+◌, ◌*◌, ◌≤◌, T, eqb, leb, get_or, ℤ, pos, nat_abs, ◌+ℤ◌, ◌-ℤ◌, ◌*ℤ◌}
use Rattle.std.proofs.Math.Path.{sym, ap}
use Rattle.std.proofs.Common.{subst, ◌∙◌, arith, leb→le}
use Rattle.std.proofs.Math.IntN.{suc_ℤ, +ℤ_one, +ℤ_assoc, +ℤ_comm, *ℤ_comm, suc_ℤ-*ℤ}
use Rattle.std.specs.Int.Signed.{lt_z}
use Rattle.laws.specs.Words.{eq_z}
use Rattle.laws.specs.Whole.{abs-add, abs-sub, abs-mul, eq-eq_z, ne-eq_z}
use Rattle.board.specs.declared.edge.EdgeLookup.{EdgeLookup}
use Rattle.board.specs.Transform.{mat, matrices, mapped, lookup_of_ends, joined, lookup_of}

-- ---- what holds of every element of a list and of the default holds of `get_or`
left : (a b : Bool) → T (a && b) → T a
left true b t = tt
left false b t = t

right : (a b : Bool) → T (a && b) → T b
right true b t = t
right false b t = absurd t

abbrev all : {X : Type 0} → (X → Bool) → List X → Bool
all p [] = true
all p (x ∷ xs) = p x && all p xs

all_get_d : {X : Type 0} (p : X → Bool) (xs : List X) (d : X) → T (all p xs) → T (p d) → (k : ℕ) → T (p (get_or xs k d))
all_get_d p [] d t td k = td
all_get_d p (x ∷ xs) d t td zero = left (p x) (all p xs) t
all_get_d p (x ∷ xs) d t td (suc k) = all_get_d p xs d (right (p x) (all p xs) t) td k

-- ---- the matrices' entries are -1, 0 and 1
abbrev small : ℤ → Bool
small z = leb (nat_abs z) 1

pub mat-unit : (t i j : ℕ) → nat_abs (mat t i j) ≤ 1
unfolding mat matrices
mat-unit t i j =
    leb→le (nat_abs (mat t i j)) 1
    (all_get_d small (get_or (get_or matrices t []) i []) (pos 0)
    (all_get_d (all small) (get_or matrices t []) [] (all_get_d (all (all small)) matrices [] tt tt t) tt i) tt j)

unit-mul : (m n : ℕ) → m ≤ 1 → m * n ≤ n
unit-mul zero n h = zmul n
  where
    zmul : (n : ℕ) → zero * n ≤ n
    zmul n = omega arith
unit-mul (suc zero) n h = one n
  where
    one : (n : ℕ) → suc zero * n ≤ n
    one n = omega arith
unit-mul (suc (suc m)) n h = absurd (no m h)
  where
    no : (m : ℕ) → suc (suc m) ≤ 1 → ⊥
    no m h = omega arith

pub entry-abs : (t i j : ℕ) (z : ℤ) → nat_abs (mat t i j *ℤ z) ≤ nat_abs z
entry-abs t i j z = subst (λ (n : ℕ). n ≤ nat_abs z) (sym (abs-mul (mat t i j) z)) (unit-mul (nat_abs (mat t i j)) (nat_abs z) (mat-unit t i j))

pub mapped-abs : (t i : ℕ) (col row : ℤ) → nat_abs (mapped t i col row) ≤ nat_abs col + nat_abs row
unfolding mapped
mapped-abs t i col row = omega (arith, abs-add (mat t i 0 *ℤ col) (mat t i 1 *ℤ row), entry-abs t i 0 col, entry-abs t i 1 row)

-- ---- a column or a row further is mapped a column of the matrix further
more-times : (m z : ℤ) → m *ℤ (z +ℤ pos 1) ≡ m *ℤ z +ℤ m
more-times m z = ap (λ (x : ℤ). m *ℤ x) (+ℤ_one z) ∙ *ℤ_comm m (suc_ℤ z) ∙ suc_ℤ-*ℤ z m ∙ ap (λ (x : ℤ). x +ℤ m) (*ℤ_comm z m)

module _ (t i : ℕ) (col row : ℤ) where
  pub next-col : mapped t i (col +ℤ pos 1) row ≡ mapped t i col row +ℤ mat t i 0
  unfolding mapped
  next-col =
      let a = mat t i 0 *ℤ col in
      let b = mat t i 1 *ℤ row in
      let m = mat t i 0 in
      ap (λ (x : ℤ). x +ℤ b) (more-times m col) ∙ +ℤ_assoc a m b ∙ ap (λ (x : ℤ). a +ℤ x) (+ℤ_comm m b) ∙ sym (+ℤ_assoc a b m)

  pub next_row : mapped t i col (row +ℤ pos 1) ≡ mapped t i col row +ℤ mat t i 1
  unfolding mapped
  next_row =
      let a = mat t i 0 *ℤ col in
      let b = mat t i 1 *ℤ row in
      let m = mat t i 1 in
      ap (λ (x : ℤ). a +ℤ x) (more-times m row) ∙ sym (+ℤ_assoc a b m)

-- ---- the three cases of the lookup
module _ (c r d s : ℤ) where
  pub flat : (x y : ℤ) → r ≡ s → x ≡ r -ℤ pos 1 → y ≡ cond (lt_z c d) c d → record { orientation = 0; row = x; col = y } ≡ lookup_of_ends c r d s
  unfolding lookup_of_ends
  flat x y e p q = rw (eq-eq_z r s e, p, q)

  pub rising : (x y : ℤ) → (r ≡ s → ⊥) → lt_z r s ≡ true → x ≡ r → y ≡ c -ℤ pos 1 → record { orientation = 1; row = x; col = y } ≡ lookup_of_ends c r d s
  unfolding lookup_of_ends
  rising x y n t p q = rw (ne-eq_z r s n, t, p, q)

  pub falling : (x y : ℤ) → (r ≡ s → ⊥) → lt_z r s ≡ false → x ≡ s → y ≡ d -ℤ pos 1 → record { orientation = 1; row = x; col = y } ≡ lookup_of_ends c r d s
  unfolding lookup_of_ends
  falling x y n t p q = rw (ne-eq_z r s n, t, p, q)

-- ---- a lookup of an edge in range lies near
abbrev Near : EdgeLookup → Type 0
Near l = (nat_abs l.row ≤ 2000002) × (nat_abs l.col ≤ 2000002)

either : (b : Bool) (x y : ℤ) → nat_abs x ≤ 2000001 → nat_abs y ≤ 2000001 → nat_abs (cond b x y) ≤ 2000001
either true x y p q = p
either false x y p q = q

less : (z : ℤ) → nat_abs z ≤ 2000001 → nat_abs (z -ℤ pos 1) ≤ 2000002
less z h = omega (arith, abs-sub z (pos 1))

more : (z : ℤ) → nat_abs z ≤ 1000000 → nat_abs (z +ℤ pos 1) ≤ 1000001
more z h = omega (arith, abs-add z (pos 1))

ends-near : (c r d s : ℤ) → nat_abs c ≤ 2000001 → nat_abs r ≤ 2000001 → nat_abs d ≤ 2000001 → nat_abs s ≤ 2000001 → Near (lookup_of_ends c r d s)
unfolding lookup_of_ends
ends-near c r d s hc hr hd hs = go (eq_z r s)
  where
    wide : (z : ℤ) → nat_abs z ≤ 2000001 → nat_abs z ≤ 2000002
    wide z h = omega arith

    go : (b : Bool) → Near (cond b (record { orientation = 0; row = r -ℤ pos 1; col = cond (lt_z c d) c d }) (record { orientation = 1; row = cond (lt_z r s) r s; col = cond (lt_z r s) c d -ℤ pos 1 }))
    go true = (less r hr, wide (cond (lt_z c d) c d) (either (lt_z c d) c d hc hd))
    go false = (wide (cond (lt_z r s) r s) (either (lt_z r s) r s hr hs), less (cond (lt_z r s) c d) (either (lt_z r s) c d hc hd))

joined-near : (t : ℕ) (c r d s : ℤ) → nat_abs c + nat_abs r ≤ 2000001 → nat_abs d + nat_abs s ≤ 2000001 → Near (joined t c r d s)
unfolding joined
joined-near t c r d s p q = ends-near (mapped t 0 c r) (mapped t 1 c r) (mapped t 0 d s) (mapped t 1 d s) (first 0) (first 1) (other 0) (other 1)
  where
    first : (i : ℕ) → nat_abs (mapped t i c r) ≤ 2000001
    first i = omega (arith, mapped-abs t i c r, p)

    other : (i : ℕ) → nat_abs (mapped t i d s) ≤ 2000001
    other i = omega (arith, mapped-abs t i d s, q)

pub lookup-near : (t : ℕ) (row col : ℤ) (o : ℕ) → nat_abs row ≤ 1000000 → nat_abs col ≤ 1000000
    → (nat_abs (lookup_of t row col o).row ≤ 2000002) × (nat_abs (lookup_of t row col o).col ≤ 2000002)
unfolding lookup_of
lookup-near t row col o p q = go (eqb o 0)
  where
    go : (b : Bool) → Near (cond b (joined t col row (col +ℤ pos 1) row) (joined t col row col (row +ℤ pos 1)))
    go true = joined-near t col row (col +ℤ pos 1) row (omega (arith, p, q)) (omega (arith, more col q, p))
    go false = joined-near t col row col (row +ℤ pos 1) (omega (arith, p, q)) (omega (arith, more row p, q))
