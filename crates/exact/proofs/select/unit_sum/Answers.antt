use mathlib.Core.Path.{◌≡◌, sym, ap, ◌∙◌}
use Prim.Native.Nat.{ℕ, ◌+◌, ◌≤◌}
use native.Mathlib.Omega.{arith}
use lib.ListN.{length}
use Rattle.values.specs.Values.{weight_of}
use Rattle.exact.specs.Select.{units_to}
use Rattle.exact.specs.SelectLaws.{units-none, units-more, units_small}
use Rattle.exact.proofs.select.unit_sum.Goals as goal

pub loop-i-init : goal.loop-i-init
loop-i-init c = (omega arith, sym (units-none c.args.confidences.now))

pub value_of-value-requires : goal.value_of-value-requires
value_of-value-requires c = c.requires.confidence c.loop-i.i (omega arith)

-- the sum with one confidence more
summed : (c : goal.After-weight_of-sum)
    → let l = c.loop-i in
    l.sum + c.weight_of-sum.result ≡ units_to c.args.confidences.now (l.i + 1)
summed c =
    let l = c.loop-i in
    ap (λ (x : ℕ). l.sum + x) (c.weight_of-sum.ensures ∙ ap weight_of c.value_of-value.ensures) ∙ units-more c.args.confidences.now l.i l.sum (c.requires.confidence l.i c.loop-i-test.true) l.invariant.1

pub overflow_add-sum : goal.overflow_add-sum
overflow_add-sum c =
    let l = c.loop-i in
    let inside : l.i + 1 ≤ length c.args.confidences.now = omega (arith, c.loop-i-test.true) in
    record { fits = omega (arith, summed c, units_small c.args.confidences.now c.requires (l.i + 1) inside, c.requires.few, c.loop-i-test.true) }

pub overflow_step-i : goal.overflow_step-i
overflow_step-i c = omega arith

pub loop-i-smaller : goal.loop-i-smaller
loop-i-smaller c = omega arith

pub loop-i-preserved : goal.loop-i-preserved
loop-i-preserved c = (omega arith, summed c)

pub returns : goal.returns
returns c = let e : c.loop-i.i ≡ length c.args.confidences.now = omega arith in c.loop-i.invariant.1 ∙ ap (units_to c.args.confidences.now) e
