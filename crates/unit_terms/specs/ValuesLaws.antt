-- A confidence may be quantised, is no negative number of units, and of at most 2^24.
use Rattle.std.specs.Prelude.{◌≡◌, refl, true, false, ℕ, zero, suc, ◌+◌, ◌*◌, ◌^◌, ◌≤◌, ℤ, pos, neg_ℤ, nat_abs, Float}
use Rattle.std.proofs.Common.{zero-mul, arith}
use Rattle.std.specs.Float.{fin, inf, nan}
use Rattle.std.specs.Float.Ieee.{up, down}
use Rattle.std.specs.Float.Ieee.Fits.{down_pos}
use Rattle.laws.specs.Words.{Weight}
use Rattle.likelihood.specs.Likelihood.{acceptable, half_up, quantised}
use Rattle.likelihood.specs.LikelihoodLaws.{Within, within-acceptable, half_le}
use Rattle.unit_terms.specs.Values.{unit_of, one_hit, value_of}

weight-within : (x : Float) → Weight x 1 → Within x
weight-within nan h = elim h [ ]
weight-within (inf _) h = elim h [ ]
weight-within (fin true m e) h = rw h (omega (arith, zero-mul (up e)))
weight-within (fin false m e) h = omega arith

pub weight-acceptable : (x : Float) → Weight x 1 → acceptable x ≡ true
weight-acceptable x h = within-acceptable x (weight-within x h)

-- how many units x has, and that it has no sign
part : (m : ℕ) (e : ℤ) → m * up e ≤ 1 * down e → half_up (m * up e * 2 ^ 24) (down e) ≤ 2 ^ 24
part m e h = half_le (m * up e * 2 ^ 24) (down e) (2 ^ 24) (down_pos e) (omega arith)

quantised-weight : (x : Float) → Weight x 1 → (quantised x ≡ pos (nat_abs (quantised x))) × (nat_abs (quantised x) ≤ 2 ^ 24)
unfolding quantised
quantised-weight nan h = elim h [ ]
quantised-weight (inf _) h = elim h [ ]
quantised-weight (fin false m e) h = (refl, part m e h)
quantised-weight (fin true m e) h = no_sign (half_up (m * up e * 2 ^ 24) (down e)) (half_le (m * up e * 2 ^ 24) (down e) 0 (down_pos e) (nothing m h))
  where
    -- -0 is 0
    nothing : (m : ℕ) → m ≡ 0 → m * up e * 2 ^ 24 ≤ 0 * down e
    nothing m h = rw h (omega (arith, zero-mul (up e)))

    no_sign : (n : ℕ) → n ≤ 0 → (neg_ℤ (pos n) ≡ pos (nat_abs (neg_ℤ (pos n)))) × (nat_abs (neg_ℤ (pos n)) ≤ 2 ^ 24)
    no_sign zero l = (refl, omega arith)
    no_sign (suc n) l = absurd (omega arith)

pub quantised-unit : (x : Float) → Weight x 1 → quantised x ≡ pos (unit_of x)
unfolding unit_of
quantised-unit x h = (quantised-weight x h).0

pub unit-small : (x : Float) → Weight x 1 → unit_of x ≤ 2 ^ 24
unfolding unit_of
unit-small x h = (quantised-weight x h).1

pub value-is : (x : Float) → value_of x ≡ one_hit + unit_of x
unfolding value_of
value-is x = refl
