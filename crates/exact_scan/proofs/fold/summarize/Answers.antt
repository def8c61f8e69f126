use native.Mathlib.Omega.{arith}
use Rattle.values.specs.Values.{by_hits}
use Rattle.exact_scan.specs.ExactLaws.{parts-ok, parts-small, summarized}
use Rattle.exact_scan.proofs.fold.summarize.Goals as goal

pub overflow_add-hits : goal.overflow_add-hits
overflow_add-hits c =
    let s = c in
    let x = c.by_hits-x in
    let y = c.by_hits-y in
    record { fits = omega (arith, (parts-ok s.args.periods.h s.args.periods.v s.requires.0 s.requires.1 (by_hits s.args.a) (by_hits s.args.b) x.result y.result s.args.key (record { hits = 0; key = 0 }) s.requires.2 s.requires.3 x.ensures y.ensures).top) }

pub runner_up_within-within-requires : goal.runner_up_within-within-requires
runner_up_within-within-requires c =
    let s = c in
    let x = c.by_hits-x in
    let y = c.by_hits-y in
    (s.requires.0, s.requires.1, parts-ok s.args.periods.h s.args.periods.v s.requires.0 s.requires.1 (by_hits s.args.a) (by_hits s.args.b) x.result y.result s.args.key (record { hits = 0; key = 0 }) s.requires.2 s.requires.3 x.ensures y.ensures)

pub summary-requires : goal.summary-requires
summary-requires c =
    let s = c in
    let x = c.by_hits-x in
    let y = c.by_hits-y in
    (s.requires.1, s.requires.3, parts-small s.args.periods.h s.args.periods.v s.requires.0 s.requires.1 (by_hits s.args.a) (by_hits s.args.b) x.result y.result s.args.key c.runner_up_within-within.result s.requires.2 s.requires.3 x.ensures y.ensures c.runner_up_within-within.ensures)

pub returns : goal.returns
returns c =
    let s = c in
    let x = c.by_hits-x in
    let y = c.by_hits-y in
    summarized s.args.periods.h s.args.periods.v s.requires.0 s.requires.1 (by_hits s.args.a) (by_hits s.args.b) x.result y.result s.args.key c.runner_up_within-within.result s.requires.2 s.requires.3 x.ensures y.ensures s.args.transform c.summary.result c.runner_up_within-within.ensures c.summary.ensures
