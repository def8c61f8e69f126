use mathlib.Core.Path.{◌≡◌, sym, ap, ◌∙◌}
use mathlib.Core.Bool.{Bool, true, false}
use native.Mathlib.Omega.{arith}
use lib.Ieee.{Float, eq, of_bits, binary32}
use Rattle.laws.specs.Words.{zero_f}
use Rattle.board.specs.Hits.{EdgeList}
use Rattle.figures.specs.Figures.{total_confidence}
use Rattle.soft_core.specs.SoftLaws.{ready-soft, first-listed, second-listed, choice-told, core-none, core-nothing, core-below, core-logical}
use Rattle.soft_core.proofs.soft_core.Goals as goal
use Rattle.admission.specs.CallsGiven.{soft_call_of}

-- the test is of the physical list's total confidence
told : (E : EdgeList) (x : Float) → x ≡ total_confidence E → (t : Bool) → eq x (of_bits binary32 0) ≡ t → eq (total_confidence E) zero_f ≡ t
unfolding of_bits
told E x h t e = ap (λ (y : Float). eq y zero_f) (sym h) ∙ e

pub returns-then-conf : goal.returns-then-conf
returns-then-conf c =
    let a = c.args in
    let k =
    soft_call_of a.call in
    let p = c.requires in
    core-none k a.counts.now a.weights.now a.sums.now p _ (told k.hard.physical _ c.total_confidence-conf.ensures true c.if-conf.true) c.refuse_soft.ensures

pub scan_transforms-scan-requires : goal.scan_transforms-scan-requires
scan_transforms-scan-requires c =
    let a = c.args in
    let k =
    soft_call_of a.call in
    let p = c.requires in
    ready-soft k a.counts.now a.weights.now a.sums.now p

pub overflow_cast-call : goal.overflow_cast-call
overflow_cast-call c = omega (arith, c.requires.hard.physical.few, c.requires.hard.logical.few)

pub soft_margin-margin-requires : goal.soft_margin-margin-requires
soft_margin-margin-requires c = omega (arith, c.requires.hard.physical.few, c.requires.hard.logical.few)

pub returns-then-below : goal.returns-then-below
returns-then-below c =
    let a = c.args in
    let k =
    soft_call_of a.call in
    let p = c.requires in
    core-below k a.counts.now a.weights.now a.sums.now p (told k.hard.physical _ c.total_confidence-conf.ensures false c.if-conf.false) _ c.scan_transforms-scan.result c.scan_transforms-scan.ensures c.finish.result c.finish.ensures c.in-Some.first c.in-Some.second c.in-Some.is _ c.soft_margin-margin.ensures c.below.result _ c.below.ensures c.if-below.true c.refuse_soft-then-below.ensures

pub soft_logical-requires : goal.soft_logical-requires
soft_logical-requires c =
    let a = c.args in
    let k =
    soft_call_of a.call in
    let p = c.requires in
    let e = sym (choice-told k a.counts.now a.weights.now a.sums.now p (told k.hard.physical _ c.total_confidence-conf.ensures false c.if-conf.false) _ c.scan_transforms-scan.result c.scan_transforms-scan.ensures c.finish.result c.finish.ensures) ∙ c.in-Some.is in
    record {
      hard_accepted = p.hard;
      listed_in_bounds = (first-listed k _ _ _ p _ _ e, second-listed k _ _ _ p _ _ e);
    }

pub returns-in-None : goal.returns-in-None
returns-in-None c =
    let a = c.args in
    let k =
    soft_call_of a.call in
    let p = c.requires in
    core-nothing k a.counts.now a.weights.now a.sums.now p (told k.hard.physical _ c.total_confidence-conf.ensures false c.if-conf.false) _ c.scan_transforms-scan.result c.scan_transforms-scan.ensures c.finish.result c.finish.ensures _ c.in-None.is c.refuse_soft-in-None.ensures

pub returns-else-below : goal.returns-else-below
returns-else-below c =
    let a = c.args in
    let k =
    soft_call_of a.call in
    let p = c.requires in
    core-logical k a.counts.now a.weights.now a.sums.now p (told k.hard.physical _ c.total_confidence-conf.ensures false c.if-conf.false) _ c.scan_transforms-scan.result c.scan_transforms-scan.ensures c.finish.result c.finish.ensures c.in-Some.first c.in-Some.second c.in-Some.is _ c.soft_margin-margin.ensures c.below.result _ _ _ c.below.ensures c.if-below.false c.soft_logical.ensures
