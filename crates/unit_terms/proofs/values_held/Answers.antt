use mathlib.Core.Path.{◌≡◌, refl, sym, ap, ◌∙◌}
use Prim.Native.Nat.{ℕ, ◌+◌}
use native.Mathlib.Omega.{arith}
use Rattle.laws.specs.Words.{fold, all}
use Rattle.terms.specs.Terms.{places_n}
use Rattle.unit_terms.specs.UnitTermsLaws.{held_more, held-few}
use Rattle.unit_terms.proofs.values_held.Goals as goal

pub loop-i-init : goal.loop-i-init
unfolding fold
loop-i-init c = (omega arith, refl)

pub overflow_add-sum-in-loop-i : goal.overflow_add-sum-in-loop-i
overflow_add-sum-in-loop-i c =
    let l = c.loop-i in
    let st = c.before.before.before in
    let a = st.args in
    omega (arith, l.invariant.1, held-few (places_n a.from a.values.now) l.i c.loop-i-test.true, st.requires.few)

pub loop-i-preserved : goal.loop-i-preserved
loop-i-preserved c =
    let l = c.loop-i in
    let a = c.args in
    let v = places_n a.from a.values.now in
    (omega arith, ap (λ n. n + v l.i) l.invariant.1 ∙ sym (held_more v l.i))

pub returns : goal.returns
returns c =
    let l = c.loop-i in
    let a = c.args in
    let e : l.i ≡ 6 = omega arith in
    l.invariant.1 ∙ ap (λ (n : ℕ). fold ◌+◌ 0 n all (places_n a.from a.values.now)) e
