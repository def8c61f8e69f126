-- More hits, no greater rate: the one f32 division is a rounding of misses / edges, and rounding keeps the order. So where a transform's best hits are over
-- the limit, all its origins are.
use Rattle.std.specs.Prelude.{◌≡◌, refl, Bool, true, false, ◌||◌, ◌⊎◌, ℕ, ◌+◌, ◌-◌, ◌*◌, ◌≤◌, ◌<◌, T, Float}
use Rattle.std.proofs.Common.{sym, ap, ◌∙◌, true≢false, inl, inr, ⊎_elim, mul-le-mul_right, mul-pos, eq-zero-or-pos, arith, lit<, ltb-true, ltb-false, lt-ltb, le-ltb}
use Rattle.std.specs.Float.{nan, inf, fin, binary32}
use Rattle.std.specs.Float.Ieee.{up, down, round, lt, le, eq}
use Rattle.std.specs.Float.Ieee.Fits.{down_pos}
use Rattle.std.specs.Float.Ieee.Exact.{HasValue}
use Rattle.std.specs.Float.Ieee.Order.{round_mono}
use Rattle.std.specs.Float.Ieee.Positive.{num, den, through}
use Rattle.std.specs.Float.Ieee.Scale.{round_val, round_under, finite}
use Rattle.laws.specs.Tests.{clash, not_so, compared, or-true}
use Rattle.laws.specs.Words.{zero_f, one_f, Weight}
use Rattle.laws.specs.Weights.{weightlike}
use Rattle.laws.specs.WeightLaws.{confidence, lt-cross, eq-level}
use Rattle.figures.specs.Figures.{rate_of}
use Rattle.figures.proofs.RangeLaws.{rate-is}
use Rattle.scan.specs.Scan.{over_limit}

-- ---- a rounded fraction from 0 to 1 is a weight
zero-round : round binary32 false 0 1 ≡ zero_f
unfolding round
zero-round = refl

one-round : round binary32 false 1 1 ≡ one_f
unfolding round
one-round = refl

finite-weight : (x : Float) (a : ℕ) → Weight x a → T (finite x)
finite-weight nan a h = absurd h
finite-weight (inf s) a h = absurd h
finite-weight (fin s m e) a h = tt

value-weight : (x : Float) (a c : ℕ) → HasValue x false a c → T (weightlike x)
value-weight nan a c h = absurd h
value-weight (inf s) a c h = absurd h
value-weight (fin true m e) a c h = absurd (true≢false h.0)
value-weight (fin false m e) a c h = tt

share-weight : (a b : ℕ) → 0 < b → a ≤ b → T (weightlike (round binary32 false a b))
share-weight a b p l =
    let one : 0 < 1 = lit< tt in
    let w = confidence (round binary32 false a b)
    (rw zero-round at (round_mono binary32 0 1 a b one p (omega arith)))
    (rw one-round at (round_mono binary32 a b 1 1 p one (omega arith))) in
    value-weight (round binary32 false a b) _ _ (round_val binary32 a b (round_under binary32 a b (finite-weight (round binary32 false a b) 1 w)))

-- ---- what is below y is below all that is no smaller
no-smaller : (y z : Float) → T (weightlike y) → T (weightlike z) → T (le y z) → num y * den z ≤ num z * den y
unfolding le
no-smaller y z p q h = ltb-false (num z * den y) (num y * den z) (sym (lt-cross z y q p) ∙ ⊎_elim
    (λ e. not_so (lt z y) (λ d. twice (ltb-true (num y * den z) (num z * den y) (sym (lt-cross y z p q) ∙ e)) (ltb-true (num z * den y) (num y * den z) (sym (lt-cross z y q p) ∙ d))))
    (λ e. (eq-level y z p q e).1)
    (or-true (lt y z) (eq y z) (told (lt y z || eq y z) h)))
  where
    told : (b : Bool) → T b → b ≡ true
    told true t = refl
    told false t = absurd t

    twice : {x y : ℕ} → x < y → y < x → ⊥
    twice a b = omega arith

below_up : (x y z : Float) → T (weightlike y) → T (weightlike z) → num y * den z ≤ num z * den y → lt x y ≡ true → lt x z ≡ true
unfolding lt
below_up x nan z p q h e = absurd p
below_up x (inf s) z p q h e = absurd p
below_up x (fin true n d) z p q h e = absurd p
below_up x (fin false n d) nan p q h e = absurd q
below_up x (fin false n d) (inf s) p q h e = absurd q
below_up x (fin false n d) (fin true k g) p q h e = absurd q
below_up nan (fin false n d) (fin false k g) p q h e = e
below_up (inf s) (fin false n d) (fin false k g) p q h e = e
below_up (fin false m c) (fin false n d) (fin false k g) p q h e =
    lt-ltb (m * up c * down g) (k * up g * down c) (⊎_elim (λ l. l)
    (λ l. absurd (omega (arith, ltb-true (m * up c * down d) (n * up d * down c) e, through (n * up d) (k * up g) (m * up c) (down d) (down g) (down c) (down_pos g) h l)))
    (compared (m * up c * down g) (k * up g * down c)))
below_up (fin true m c) (fin false n d) (fin false k g) p q h e =
    lt-ltb 0 (m * up c * down g + k * up g * down c) (go (eq-zero-or-pos (m * up c)) (eq-zero-or-pos (k * up g)))
  where
    go : (m * up c ≡ 0) ⊎ (0 < m * up c) → (k * up g ≡ 0) ⊎ (0 < k * up g) → 0 < m * up c * down g + k * up g * down c
    go (inr l) t = omega (arith, mul-pos l (down_pos g))
    go (inl z) (inr l) = omega (arith, mul-pos l (down_pos c))
    go (inl z) (inl w) = absurd (none (eq-zero-or-pos (n * up d)))
      where
        none : (n * up d ≡ 0) ⊎ (0 < n * up d) → ⊥
        none (inl v) = omega (arith, ltb-true 0 (m * up c * down d + n * up d * down c) e, ap (λ (i : ℕ). i * down d) z, ap (λ (i : ℕ). i * down c) v)
        none (inr l) = omega (arith, h, mul-pos l (down_pos g), ap (λ (i : ℕ). i * down d) w)

-- ---- the limit
-- where hits are over the limit, fewer hits are too
pub fewer-over : (edges : ℕ) (limit : Float) (few more : ℕ) → edges ≤ 8192 → few ≤ more → more ≤ edges → over_limit edges limit more ≡ true → over_limit edges limit few ≡ true
unfolding over_limit
fewer-over edges limit few more small l m e = go (eq-zero-or-pos edges)
  where
    go : (edges ≡ 0) ⊎ (0 < edges) → lt limit (rate_of edges few) ≡ true
    go (inl z) = let s : few ≡ more = omega arith in rw s e
    go (inr p) =
        let wx = share-weight (edges - more) edges p (omega arith) in
        let wy = share-weight (edges - few) edges p (omega arith) in
        rw (rate-is edges few p small)
        (below_up limit (round binary32 false (edges - more) edges) (round binary32 false (edges - few) edges) wx wy
        (no-smaller (round binary32 false (edges - more) edges) (round binary32 false (edges - few) edges) wx wy
        (round_mono binary32 (edges - more) edges (edges - few) edges p p (mul-le-mul_right edges (omega arith))))
        (rw (rate-is edges more p small) at e))

-- and where hits are within it, more hits are too
pub more_within : (edges : ℕ) (limit : Float) (few more : ℕ) → edges ≤ 8192 → few ≤ more → more ≤ edges → over_limit edges limit few ≡ false → over_limit edges limit more ≡ false
more_within edges limit few more small l m e = not_so (over_limit edges limit more) (λ d. clash (fewer-over edges limit few more small l m d) e)

-- no share of misses is above 1, so a list that is selected with limit 1 never lacks a placing within it
pub never-over-one : (edges hits : ℕ) → 0 < edges → edges ≤ 8192 → over_limit edges one_f hits ≡ false
unfolding over_limit
never-over-one edges hits p small =
    let one : 0 < 1 = lit< tt in
    let x = round binary32 false (edges - hits) edges in
    let w = share-weight (edges - hits) edges p (omega arith) in
    rw (rate-is edges hits p small) (lt-cross one_f x tt w ∙ le-ltb _ _ (no-smaller x one_f w tt (rw one-round at (round_mono binary32 (edges - hits) edges 1 1 p one (omega arith)))))
