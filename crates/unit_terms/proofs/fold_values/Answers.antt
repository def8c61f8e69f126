use native.Mathlib.Omega.{arith}
use Rattle.laws.specs.Written.{written_none, written-more}
use Rattle.unit_terms.proofs.fold_values.Goals as goal

pub loop-pattern-init : goal.loop-pattern-init
loop-pattern-init c = (omega arith, written_none _ _ _)

pub loop-pattern-preserved : goal.loop-pattern-preserved
loop-pattern-preserved c =
    let l = c.loop-pattern in
    (omega arith, written-more _ _ _ l.terms l.pattern c.fold_value_row.result l.invariant.1 (omega arith) c.fold_value_row.ensures)

pub returns : goal.returns
returns c =
    let l = c.loop-pattern in
    record { size = l.invariant.1.len; rows = λ p h. l.invariant.1.front p (omega arith) }
