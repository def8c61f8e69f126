use Rattle.std.proofs.Common.{rules}
use Rattle.laws.specs.Words.{above}
use Rattle.values.specs.Values.{v_at}
use Rattle.values.proofs.table.value_best.Goals as goal

pub returns : goal.returns
returns c =
    let xs = c.args.values.now in
    (c.first_best.ensures.first 0 (above (v_at xs)) (λ i j r h k e. search rules), c.first_best.ensures.inside)
