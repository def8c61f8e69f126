-- The f32 totals: of two totals of which neither is greater, both are one and the same f32; and a total and a margin are finite.
use Rattle.std.specs.Prelude.{◌≡◌, refl, Bool, true, not, ℕ, zero, suc, ◌+◌, ◌*◌, ◌^◌, ◌≤◌, ◌<◌, ℤ, pos, negsuc, nat_abs, Float}
use Rattle.std.proofs.Common.{sym, ap, subst, ◌∙◌, zero-mul, arith, lit≤, pow_pos}
use Rattle.std.proofs.Math.Bool.{false}
use Rattle.std.specs.Int.Signed.{lt_z, non_neg}
use Rattle.std.specs.Float.{fin}
use Rattle.std.specs.Float.Ieee.{binary32, round, lt, of_int, div, sub}
use Rattle.std.specs.Float.Ieee.Fits.{round-fits}
use Rattle.std.specs.Float.Ieee.Exact.{HasValue}
use Rattle.std.specs.Float.Ieee.Back.{round_whole}
use Rattle.laws.specs.Words.{all}
use Rattle.laws.specs.Whole.{abs_neg, le-raised, raised-same}
use Rattle.laws.specs.Weights.{Within}
use Rattle.laws.specs.WeightLaws.{Held}
use Rattle.laws.specs.WithinLaws.{round-within, sub_within, div-within}
use Rattle.laws.specs.PlusZero.{unique}
use Rattle.board.specs.Hits.{EdgeList, Board, size, hit}
use Rattle.board.specs.Domain.{ListOk}
use Rattle.likelihood.specs.Likelihood.{signed, dequantised}
use Rattle.likelihood.specs.SumLaws.{cell-size}
use Rattle.sums.specs.Sums.{Likelihoods, LikelihoodsOk, gain, score}
use Rattle.sums.specs.SumsLaws.{gain-small}
use Rattle.margin.specs.Margin.{soft_margin}
use Rattle.margin.specs.declared.slots.SoftCandidate.{SoftCandidate}
use Rattle.soft.specs.TotalOrderLaws.{steps, steps_z, steps-mono, valued, Small, total-order}

-- ---- one f32
level : (a b : ℤ) → lt_z a b ≡ false → lt_z b a ≡ false → a ≡ b
level a b p q =
    let B = nat_abs a + nat_abs b in
    raised-same B a b (omega arith) (omega arith) (omega (arith, le-raised B a b (omega arith) (omega arith) p, le-raised B b a (omega arith) (omega arith) q))

-- the smallest sum that is not 0 has a total that is not 0
one-is : round binary32 false 1 (2 ^ 24) ≡ fin false 1 (negsuc 23)
unfolding round
one-is = refl

steps-one : 0 < steps 1
steps-one = go (2 ^ 149) (2 ^ 24) (steps 1) (pow_pos 149) (subst (λ (x : Float). HasValue x false (steps 1) (2 ^ 149)) one-is (valued 1 (lit≤ tt) false)).1
  where
    go : (x c n : ℕ) → 0 < x → 1 * 1 * x ≡ n * c → 0 < n
    go x c zero h e = absurd (omega (arith, zero-mul c))
    go x c (suc n) h e = omega arith

steps-some : (n : ℕ) → suc n ≤ 2 ^ 53 → 0 < steps (suc n)
steps-some n h = let l : 1 ≤ suc n = omega arith in omega (arith, steps-one, steps-mono 1 (suc n) l h)

unlike-signs : (u v : ℕ) → 0 < v → pos u ≡ signed true v → ⊥
unlike-signs u zero h e = omega arith
unlike-signs u (suc v) h e = let z : ◌≡◌ {A = ℕ} 0 1 = cc in omega arith

module _ (s : Bool) (a b : ℕ) (p : a ≤ 2 ^ 53) (q : b ≤ 2 ^ 53) where
  same-round : steps a ≡ steps b → round binary32 s a (2 ^ 24) ≡ round binary32 s b (2 ^ 24)
  same-round e =
      unique binary32 (round binary32 s a (2 ^ 24)) (round binary32 s b (2 ^ 24)) s (steps a) (2 ^ 149) (pow_pos 149) (round-fits binary32 s a (2 ^ 24)) (round-fits binary32 s b (2 ^ 24))
      (valued a p s) (subst (λ (n : ℕ). HasValue (round binary32 s b (2 ^ 24)) s n (2 ^ 149)) (sym e) (valued b q s))

same_total : (a b : ℤ) → Small a → Small b → steps_z a ≡ steps_z b → dequantised a ≡ dequantised b
unfolding dequantised steps_z
same_total (pos a) (pos b) p q e = same-round false a b p q (ap nat_abs e)
same_total (pos a) (negsuc b) p q e = absurd (unlike-signs (steps a) (steps (suc b)) (steps-some b q) e)
same_total (negsuc a) (pos b) p q e = absurd (unlike-signs (steps b) (steps (suc a)) (steps-some a p) (sym e))
same_total (negsuc a) (negsuc b) p q e =
    same-round true (suc a) (suc b) p q (sym (abs_neg (pos (steps (suc a)))) ∙ ap nat_abs e ∙ abs_neg (pos (steps (suc b))))

-- totals of which neither is greater are equal
pub total-level : (a b : ℤ) → Small a → Small b → lt (dequantised a) (dequantised b) ≡ false → lt (dequantised b) (dequantised a) ≡ false → dequantised a ≡ dequantised b
total-level a b x y p q = same_total a b x y (level (steps_z a) (steps_z b) (sym (total-order a b x y) ∙ p) (sym (total-order b a y x) ∙ q))

-- ---- how large
-- the likelihood sum of a placing is at most 2^53 in size
pub score-small : (B : Board) (E : EdgeList) (X : Likelihoods) (t row col : ℕ) → ListOk E → LikelihoodsOk E X → Small (score B E X t row col)
unfolding score
score-small B E X t row col list ok = cell-size (size E) all (gain B E X t row col) list.few (λ i l e. gain-small E X ok (hit B E t row col i) i l)

-- f32 holds 2^29 and 2^30
held-29 : Held (2 ^ 29) 1
unfolding round
held-29 = (refl, refl)

held-30 : Held (2 ^ 29 + 2 ^ 29) 1
unfolding round
held-30 = (refl, refl)

-- so its total is at most 2^29 in size: 8,192 edges of 65,536
pub total-within : (a : ℤ) → Small a → Within (dequantised a) (2 ^ 29)
unfolding dequantised
total-within a h = round-within (not (non_neg a)) (2 ^ 29) (nat_abs a) (2 ^ 24) (pow_pos 24) held-29 h

-- over a number of edges
module _ (edges : ℕ) (some : 0 < edges) (few : edges ≤ 8192) where
  whole : HasValue (of_int binary32 (pos edges)) false edges 1
  unfolding of_int
  whole = round_whole binary32 false edges (omega arith)

  -- a total over the edges
  pub per-edge-within : (x : Float) → Within x (2 ^ 29) → Within (div binary32 x (of_int binary32 (pos edges))) (2 ^ 29)
  per-edge-within x h = div-within x (of_int binary32 (pos edges)) (2 ^ 29) edges held-29 h some whole

  -- and the margin of two
  pub margin-within : (first second : SoftCandidate) → Within first.total (2 ^ 29) → Within second.total (2 ^ 29) → Within (soft_margin first second edges) (2 ^ 29 + 2 ^ 29)
  margin-within first second h k =
      div-within (sub binary32 first.total second.total) (of_int binary32 (pos edges)) (2 ^ 29 + 2 ^ 29) edges held-30
      (sub_within first.total second.total (2 ^ 29) (2 ^ 29) held-30 h k) some whole
