-- More hits, no greater rate, in the words of match statistics: by the law of hard selection's limit. And how many hits a list may still have after i edges.
use Rattle.std.specs.Prelude.{◌≡◌, refl, Bool, true, false, not, ◌&&◌, ◌||◌, ◌⊎◌, ℕ, suc, ◌+◌, ◌-◌, ◌*◌, ◌≤◌, ◌<◌, eqb, Float}
use Rattle.std.proofs.Common.{sym, ap, ◌∙◌, true≢false, inl, inr, ⊎_elim, eq-zero-or-pos, arith, lt-ltb, le-ltb, eq-eqb, ne_eqb}
use Rattle.std.proofs.Math.Decide.{le_ind}
use Rattle.std.specs.Float.{nan, inf, fin}
use Rattle.std.specs.Float.Ieee.{up, down, lt, le, eq, below, level}
use Rattle.std.proofs.lemmas.Bool.{not-true}
use Rattle.laws.specs.Tests.{clash, compared, cases}
use Rattle.laws.specs.Words.{put, fold, one, count, one_f, Finite}
use Rattle.laws.specs.WithinLaws.{within-finite}
use Rattle.laws.specs.Fold.{sum_mono}
use Rattle.figures.specs.Figures.{rate_of}
use Rattle.figures.proofs.RangeLaws.{rate-within}
use Rattle.scan.specs.Scan.{over_limit}
use Rattle.hard.specs.RateLaws.{more_within, never-over-one}
use Rattle.ranges.specs.Ranges.{in_range}
use Rattle.stats.specs.Stats.{stats_rate}
use Rattle.within.specs.Within.{allowed}

-- ---- of two numbers with signs: not above means at most
at_most : (s : Bool) (a : ℕ) (t : Bool) (b : ℕ) → (below s a t b || level s a t b) ≡ not (below t b s a)
at_most false a false b = ⊎_elim
    (λ l. let r : a ≤ b = omega arith in rw (lt-ltb a b l, le-ltb b a r) refl)
    (λ l. ⊎_elim
    (λ m. let n : a ≡ b → ⊥ = λ e. omega arith in rw (le-ltb a b l, lt-ltb b a m, ne_eqb a b n) refl)
    (λ m. let e : a ≡ b = omega arith in rw (le-ltb a b l, le-ltb b a m, eq-eqb a b e) refl)
    (compared b a))
    (compared a b)
at_most false a true b = ⊎_elim
    (λ l. ⊎_elim
    (λ m. let n : a ≡ 0 → ⊥ = λ e. omega arith in rw (lt-ltb 0 (b + a) l, ne_eqb a 0 n) (no (eqb a b)))
    (λ m. let z : a ≡ 0 = omega arith in let n : a ≡ b → ⊥ = λ e. omega arith in rw (lt-ltb 0 (b + a) l, ne_eqb a b n) refl)
    (compared 0 a))
    (λ l. let z : a ≡ 0 = omega arith in let e : a ≡ b = omega arith in rw (le-ltb 0 (b + a) l, eq-eqb a b e, eq-eqb a 0 z) refl)
    (compared 0 (b + a))
  where
    no : (p : Bool) → (p && false) ≡ false
    no true = refl
    no false = refl
at_most true a false b = ⊎_elim
    (λ l. rw (lt-ltb 0 (a + b) l) refl)
    (λ l. let z : a ≡ 0 = omega arith in let e : a ≡ b = omega arith in rw (le-ltb 0 (a + b) l, eq-eqb a b e, eq-eqb a 0 z) refl)
    (compared 0 (a + b))
at_most true a true b = ⊎_elim
    (λ l. let r : b ≤ a = omega arith in rw (lt-ltb b a l, le-ltb a b r) refl)
    (λ l. ⊎_elim
    (λ m. let n : a ≡ b → ⊥ = λ e. omega arith in rw (le-ltb b a l, lt-ltb a b m, ne_eqb a b n) refl)
    (λ m. let e : a ≡ b = omega arith in rw (le-ltb b a l, le-ltb a b m, eq-eqb a b e) refl)
    (compared a b))
    (compared b a)

-- a finite number and a limit
not-above : (x limit : Float) → Finite x → in_range one_f limit ≡ true → le x limit ≡ not (lt limit x)
unfolding le lt eq in_range
not-above nan limit f h = absurd f
not-above (inf s) limit f h = absurd f
not-above (fin s m e) nan f h = absurd (true≢false (sym h))
not-above (fin s m e) (inf true) f h = refl
not-above (fin s m e) (inf false) f h = refl
not-above (fin s m e) (fin t n d) f h = at_most s (m * up e * down d) t (n * up d * down e)

-- the rate of some edges is hard selection's, and none is 1
rate-some : (n hits : ℕ) → 0 < n → stats_rate n hits ≡ rate_of n hits
unfolding stats_rate
rate-some n hits p = rw (ne_eqb n 0 (λ e. omega arith)) refl

pub rate-none : (n hits : ℕ) → n ≡ 0 → stats_rate n hits ≡ one_f
unfolding stats_rate
rate-none n hits e = rw (eq-eqb n 0 e) refl

-- within the limit is not over it
allowed-some : (n : ℕ) (limit : Float) (hits : ℕ) → 0 < n → n ≤ 8192 → in_range one_f limit ≡ true → allowed n limit hits ≡ not (over_limit n limit hits)
unfolding allowed over_limit
allowed-some n limit hits p few h =
    ap (λ (x : Float). le x limit) (rate-some n hits p) ∙ not-above (rate_of n hits) limit (within-finite (rate_of n hits) 1 (rate-within n hits p few)) h

-- THE RATE NEVER FALLS WHEN THE MISSES GROW: where so many hits are within the limit, more hits are
pub more-allowed : (n : ℕ) (limit : Float) (few more : ℕ) → n ≤ 8192 → in_range one_f limit ≡ true → few ≤ more → more ≤ n → allowed n limit few ≡ true → allowed n limit more ≡ true
more-allowed n limit few more small h l m e = go (eq-zero-or-pos n)
  where
    go : (n ≡ 0) ⊎ (0 < n) → allowed n limit more ≡ true
    go (inl z) = let s : more ≡ few = omega arith in ap (allowed n limit) s ∙ e
    go (inr p) =
        let o = more_within n limit few more small l m (not-true _ (sym (allowed-some n limit few p small h) ∙ e)) in
        allowed-some n limit more p small h ∙ ap not o

-- and where so many are not, fewer are not
pub fewer-not : (n : ℕ) (limit : Float) (few more : ℕ) → n ≤ 8192 → in_range one_f limit ≡ true → few ≤ more → more ≤ n → allowed n limit more ≡ false → allowed n limit few ≡ false
fewer-not n limit few more small h l m e = ⊎_elim (λ t. clash (more-allowed n limit few more small h l m t) e) (λ t. t) (cases (allowed n limit few))

one-in-range : in_range one_f one_f ≡ true
unfolding in_range le
one-in-range = refl

none_allowed : (n hits : ℕ) → n ≡ 0 → allowed n one_f hits ≡ true
unfolding allowed le
none_allowed n hits z = ap (λ (x : Float). le x one_f) (rate-none n hits z)

-- with the limit 1 every number of hits is within it, also of no edges
pub one-allows : (n hits : ℕ) → n ≤ 8192 → allowed n one_f hits ≡ true
one-allows n hits small = go (eq-zero-or-pos n)
  where
    go : (n ≡ 0) ⊎ (0 < n) → allowed n one_f hits ≡ true
    go (inl z) = none_allowed n hits z
    go (inr p) = allowed-some n one_f hits p small one-in-range ∙ ap not (never-over-one n hits p small)

-- ---- the hits of a list, after i of its n edges
pub hits-least : (p : ℕ → Bool) (i n : ℕ) → i ≤ n → count i p ≤ count n p
hits-least p i n l = sum_mono p one i n l

pub hits-most : (p : ℕ → Bool) (i n : ℕ) → i ≤ n → count n p ≤ count i p + (n - i)
unfolding fold
hits-most p i n l = le_ind (λ k. count k p ≤ count i p + (k - i)) (omega arith) (λ k m ih. step (p k) (count k p) (count i p) k m ih) n l
  where
    step : (b : Bool) (a c k : ℕ) → i ≤ k → a ≤ c + (k - i) → put ◌+◌ b a 1 ≤ c + (suc k - i)
    step true a c k m h = omega arith
    step false a c k m h = omega arith
