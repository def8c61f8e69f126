use mathlib.Core.Path.{◌≡◌, refl, sym, ap, ◌∙◌}
use Prim.Native.Nat.{ℕ, ◌+◌}
use native.Mathlib.Omega.{arith}
use Rattle.laws.specs.Words.{fold}
use Rattle.terms.specs.Terms.{term_sum, term_c, places_n}
use Rattle.terms.specs.TermsLaws.{so_far}
use Rattle.unit_terms.specs.UnitTermsLaws.{value-agrees, value-misses}
use Rattle.unit_terms.proofs.fold_value.Goals as goal
use Rattle.unit_terms.proofs.fold_value.Goals.{then-predicted-j, else-predicted-j}

pub loop-j-init : goal.loop-j-init
unfolding term_sum fold
loop-j-init c = (omega arith, refl)

pub overflow_add-sum-then-predicted-j : goal.overflow_add-sum-then-predicted-j
overflow_add-sum-then-predicted-j c =
    let l = c.loop-j in
    let a = c.args in
    omega (arith, l.invariant.1, so_far (places_n a.from a.values.now) a.pattern a.s l.j c.loop-j-test.true, c.requires.six_values.few)

pub loop-j-preserved : goal.loop-j-preserved
loop-j-preserved c =
    let l = c.loop-j in
    let a = c.args in
    let v = places_n a.from a.values.now in
    let b = c.pattern_bit-predicted in
    elim c.if-predicted-j.branch [
      | then-predicted-j w ↦ (omega arith, w.sum-is ∙ ap (λ n. n + v l.j) l.invariant.1 ∙ sym (value-agrees v a.pattern a.s l.j b.result b.ensures w.if-predicted-j.true))
      | else-predicted-j w ↦ (omega arith, w.sum-is ∙ l.invariant.1 ∙ sym (value-misses v a.pattern a.s l.j b.result b.ensures w.if-predicted-j.false))
    ]

pub returns : goal.returns
returns c =
    let l = c.loop-j in
    let a = c.args in
    let e : l.j ≡ 6 = omega arith in
    l.invariant.1 ∙ ap (λ (n : ℕ). term_c n (places_n a.from a.values.now) a.pattern a.s) e
