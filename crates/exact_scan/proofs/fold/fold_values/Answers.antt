use native.Mathlib.Omega.{arith}
use Rattle.exact_scan.specs.Exact.{value_tables}
use Rattle.exact_scan.specs.ExactLaws.{said-top, said_ok, folded}
use Rattle.exact_scan.proofs.fold.fold_values.Goals as goal

pub first_origin-key-requires : goal.first_origin-key-requires
first_origin-key-requires c =
    let a = c.args in
    let p = c.requires.0 in
    (p.0, p.1, said-top a.periods.h a.periods.v p.0 p.1 (value_tables a.hs.now a.vs.now) p.2 c.value_max-a.result c.value_max-b.result c.value_max-a.ensures c.value_max-b.ensures)

pub overflow_add-value : goal.overflow_add-value
overflow_add-value c =
    let a = c.args in
    let p = c.requires.0 in
    let told = said_ok a.periods.h a.periods.v p.0 p.1 (value_tables a.hs.now a.vs.now) p.2 c.value_max-a.result c.value_max-b.result c.first_origin-key.result c.value_max-a.ensures c.value_max-b.ensures c.first_origin-key.ensures in
    record { fits = omega (arith, told.value) }

pub summarize-s-requires : goal.summarize-s-requires
summarize-s-requires c =
    let a = c.args in
    let p = c.requires.0 in
    let told = said_ok a.periods.h a.periods.v p.0 p.1 (value_tables a.hs.now a.vs.now) p.2 c.value_max-a.result c.value_max-b.result c.first_origin-key.result c.value_max-a.ensures c.value_max-b.ensures c.first_origin-key.ensures in
    (p.0, p.1, told.best, told.small)

pub push-positions-requires : goal.push-positions-requires
push-positions-requires c = c.requires.1

pub returns : goal.returns
returns c =
    let a = c.args in
    let p = c.requires.0 in
    folded a.periods.h a.periods.v p.0 p.1 (value_tables a.hs.now a.vs.now) p.2 a.transform a.scan c.value_max-a.result c.value_max-b.result c.first_origin-key.result c.summarize-s.result c.take-best.result c.push-positions.result c.value_max-a.ensures c.value_max-b.ensures c.first_origin-key.ensures c.summarize-s.ensures c.take-best.ensures c.push-positions.ensures
