use mathlib.Core.Bool.{true, false}
use Rattle.pair.specs.PairLaws.{second-down, second-across}
use Rattle.level.specs.SumsLaws.{sum_fits, sums_lt}
use Rattle.pair.proofs.pair.second_pair.Goals as goal

pub overflow_add-across : goal.overflow_add-across
overflow_add-across c = sum_fits c.args.a.under c.args.b.top c.requires.2.across

pub overflow_add-down : goal.overflow_add-down
overflow_add-down c = sum_fits c.args.a.top c.args.b.under c.requires.2.down

pub returns-then-across-down : goal.returns-then-across-down
returns-then-across-down c =
    let told = sums_lt c.args.a.under c.args.b.top c.args.a.top c.args.b.under c.requires.2.across c.requires.2.down true c.if-across-down.true in
    second-down _ c.args.a c.args.b _ told c.key_of.ensures

pub returns : goal.returns
returns c =
    let told = sums_lt c.args.a.under c.args.b.top c.args.a.top c.args.b.under c.requires.2.across c.requires.2.down false c.if-across-down.false in
    second-across _ c.args.a c.args.b _ told c.key_of-2.ensures
