-- The figures of a placing in range: the rate is at most 1, and the mean of a weight at most the weight. The one f32 division of a rate is a rounding of misses / edges.
use Rattle.std.specs.Prelude.{◌≡◌, refl, Bool, true, false, cond, ℕ, zero, suc, ◌-◌, ◌*◌, ◌^◌, ◌≤◌, ◌<◌, eqb, Float}
use Rattle.std.proofs.Common.{sym, ◌∙◌, true≢false, zero-le, le_trans, mul-one, mul_comm, mul_assoc, mul_left_comm, mul-pos, arith, lit≤, ne_eqb}
use Rattle.std.specs.Float.{nan, inf, fin, binary32}
use Rattle.std.specs.Float.Ieee.{up, down, round, div, of_int}
use Rattle.std.specs.Float.Ieee.Fits.{down_pos}
use Rattle.std.specs.Float.Ieee.Exact.{HasValue}
use Rattle.std.specs.Float.Ieee.Back.{round_whole}
use Rattle.std.specs.Float.Ieee.Positive.{first_pos}
use Rattle.std.specs.Float.Ieee.Scale.{round_same}
use Rattle.std.proofs.lemmas.Bool.{eqb-false}
use Rattle.laws.specs.Words.{zero_f}
use Rattle.laws.specs.Weights.{Within}
use Rattle.laws.specs.WithinLaws.{round-within, div-within}
use Rattle.figures.specs.Figures.{rate_of, mean_of}

-- ---- a quotient of whole numbers is one rounding
quotient : (x y : Float) (a b : ℕ) → HasValue x false a 1 → HasValue y false b 1 → 0 < b → div binary32 x y ≡ round binary32 false a b
unfolding div
quotient nan y a b h k p = absurd h
quotient (inf s) y a b h k p = absurd h
quotient (fin true m e) y a b h k p = absurd (true≢false h.0)
quotient (fin false m e) nan a b h k p = absurd k
quotient (fin false m e) (inf t) a b h k p = absurd k
quotient (fin false m e) (fin true n d) a b h k p = absurd (true≢false k.0)
quotient (fin false m e) (fin false n d) a b h k p =
    let x : m * up e ≡ a * down e = sym (mul-one (m * up e)) ∙ h.1 in
    let y : n * up d ≡ b * down d = sym (mul-one (n * up d)) ∙ k.1 in
    let P : 0 < n * up d = rw y (mul-pos p (down_pos d)) in
    rw (ne_eqb n 0 (λ z. nought n (first_pos n (up d) P) z))
    (round_same binary32 false (m * up e * down d) (n * up d * down e) a b (mul-pos P (down_pos e)) p (rw (x, y) (simp (mul_assoc, mul_comm, mul_left_comm))))
  where
    nought : (n : ℕ) → 0 < n → n ≡ 0 → ⊥
    nought n l z = omega arith

pub rate-is : (edges hits : ℕ) → 0 < edges → edges ≤ 8192 → rate_of edges hits ≡ round binary32 false (edges - hits) edges
unfolding rate_of of_int
rate-is edges hits p l =
    quotient (round binary32 false (edges - hits) 1) (round binary32 false edges 1) (edges - hits) edges (round_whole binary32 false (edges - hits) (omega arith)) (round_whole binary32 false edges (omega arith)) p

-- the rate is finite, and at most 1
pub rate-within : (edges hits : ℕ) → 0 < edges → edges ≤ 8192 → Within (rate_of edges hits) 1
rate-within edges hits some few = rw (rate-is edges hits some few) (round-within false 1 (edges - hits) edges some (round_whole binary32 false 1 (lit≤ tt)) (omega arith))

-- the mean of a weight that is at most a is at most a
pub mean-within : (hits a : ℕ) (weight : Float) → hits ≤ 2 ^ 24 → a ≤ 2 ^ 24 → Within weight a → Within (mean_of hits weight) a
unfolding mean_of of_int
mean-within hits a weight l m h = go (eqb hits 0) refl
  where
    some : (n : ℕ) → (n ≡ 0 → ⊥) → 0 < n
    some zero h = absurd (h refl)
    some (suc n) h = omega arith

    go : (b : Bool) → eqb hits 0 ≡ b → Within (cond b zero_f (div binary32 weight (round binary32 false hits 1))) a
    go true e = le_trans (omega arith) zero-le
    go false e = div-within weight (round binary32 false hits 1) a hits (round_whole binary32 false a m) h (some hits (eqb-false hits 0 e)) (round_whole binary32 false hits l)
