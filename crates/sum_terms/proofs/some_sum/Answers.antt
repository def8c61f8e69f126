use mathlib.Core.Path.{◌≡◌, refl, sym, ap, subst, ◌∙◌}
use mathlib.Core.Bool.{false}
use mathlib.Core.Logic.{inl, inr}
use Prim.Native.Nat.{ℕ, ◌^◌, ◌≤◌, ◌<◌}
use native.Mathlib.Omega.{arith}
use lib.IntN.{ℤ, pos, nat_abs}
use mir.Syntax.{w64}
use mir.Val.{to_z, of_z}
use Rattle.laws.specs.Signed.{read_at}
use Rattle.sum_terms.specs.SumTerms.{places_z, some_sum}
use Rattle.sum_terms.specs.SumTermsLaws.{some-sum-none, some-sum-more, some-sum-here}
use Rattle.sum_terms.proofs.some_sum.Goals as goal

pub loop-j-init : goal.loop-j-init
loop-j-init c = let a = c.args in (omega arith, some-sum-none (places_z a.from a.sums.now) (places_z a.also a.sums.now))

-- a sum whose bits are not 0 is not 0
some_at : (z : ℤ) → (of_z w64 z ≡ 0 → ⊥) → z ≡ pos 0 → ⊥
some_at z n e = n (ap (of_z w64) e)

pub returns-then-sums-from-ne0 : goal.returns-then-sums-from-ne0
returns-then-sums-from-ne0 c =
    let l = c.before.before.before in
    let a = l.args in
    let j = l.loop-j.j in
    sym (some-sum-here (places_z a.from a.sums.now) (places_z a.also a.sums.now) 6 j c.loop-j-test.true (inl (some_at (places_z a.from a.sums.now j) c.if-sums-from-ne0.true)))

pub returns-then-sums-also-ne0 : goal.returns-then-sums-also-ne0
returns-then-sums-also-ne0 c =
    let l = c.before.before.before.before.before in
    let a = l.args in
    let j = l.loop-j.j in
    sym (some-sum-here (places_z a.from a.sums.now) (places_z a.also a.sums.now) 6 j c.loop-j-test.true (inr (some_at (places_z a.also a.sums.now j) c.if-sums-also-ne0.true)))

-- a sum whose bits are 0 is 0
zero-at : (z : ℤ) → nat_abs z < 2 ^ 63 → of_z w64 z ≡ 0 → z ≡ pos 0
zero-at z h e = sym (read_at w64 {z = z} refl h) ∙ ap (to_z w64) e

pub loop-j-preserved : goal.loop-j-preserved
loop-j-preserved c =
    let a = c.args in
    let l = c.loop-j in
    let t = c.requires.small l.j c.loop-j-test.true in
    (omega arith, some-sum-more (places_z a.from a.sums.now) (places_z a.also a.sums.now) l.j l.invariant.1 (zero-at (places_z a.from a.sums.now l.j) (omega (arith, t.0)) c.if-sums-from-ne0.false) (zero-at (places_z a.also a.sums.now l.j) (omega (arith, t.1)) c.if-sums-also-ne0.false))

done : (n : ℕ) → n ≤ 6 → 6 ≤ n → n ≡ 6
done n a b = omega arith

pub returns : goal.returns
returns c =
    let a = c.args in
    let l = c.loop-j in
    sym (subst (λ (n : ℕ). some_sum n (places_z a.from a.sums.now) (places_z a.also a.sums.now) ≡ false) (done l.j l.invariant.0 c.loop-j-test.false) l.invariant.1)
