-- No origin of a horizontal cell h stands above row h / 3, so a key that stands there or higher up is not lowered by any of them.
use Rattle.std.specs.Prelude.{◌≡◌, refl, Bool, true, false, ℕ, zero, suc, ◌*◌, ◌/◌, ◌≤◌, ◌<◌}
use Rattle.std.proofs.Common.{subst, mul-le-mul_right, add-one, arith}
use Rattle.std.proofs.Math.Nat.{mod-le}
use Rattle.laws.specs.Words.{joint, row_of, origins}
use Rattle.laws.specs.Residues.{joint-long}
use Rattle.best.specs.CellTables.{Period}
use Rattle.grid.specs.RowMajor.{lowest}
use Rattle.grid.specs.RowMajorLaws.{lowest-no, lowest-old}

-- where every key is at least a, a stays
lowest-stays : (p : ℕ → Bool) (f : ℕ → ℕ) (a n : ℕ) → ((i : ℕ) → a ≤ f i) → a ≡ lowest p f a n
unfolding lowest
lowest-stays p f a zero h = refl
lowest-stays p f a (suc n) h = go (p n) refl (lowest-stays p f a n h)
  where
    go : (t : Bool) → p n ≡ t → a ≡ lowest p f a n → a ≡ lowest p f a (suc n)
    go true e i = subst (λ (k : ℕ). a ≡ lowest p f a k) (add-one n) (lowest-old p f a n a i e (h n))
    go false e i = subst (λ (k : ℕ). a ≡ lowest p f a k) (add-one n) (lowest-no p f a n a i e)

-- the key of h with any vertical cell stands in row h / 3 or below it
pub row-floor : (L M h v : ℕ) → Period L → h < 3 * L → h / 3 * (3 * M) ≤ (origins L M).key h v
row-floor L M h v p l =
    let third : h / 3 < L = omega arith in
    let e = joint-long L (omega (arith, p.more)) p.free (v / M) (h / 3) third in
    let m = mod-le (joint L (v / M) (h / 3)) L in
    let r : h / 3 ≤ row_of L M h v = omega (arith, e, m) in
    let k = mul-le-mul_right (3 * M) r in
    omega (arith, k)

pub floor-stays : (L M : ℕ) (p : ℕ → Bool) (h a n : ℕ) → Period L → h < 3 * L → a ≤ h / 3 * (3 * M) → a ≡ lowest p ((origins L M).key h) a n
floor-stays L M p h a n q l b = lowest-stays p ((origins L M).key h) a n (λ v. let k = row-floor L M h v q l in omega (arith, k))
