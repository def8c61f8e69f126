use Rattle.std.proofs.Common.{rules, pos}
use Rattle.level.specs.Level.{s_at, larger}
use Rattle.level.proofs.level_best.Goals as goal

pub returns : goal.returns
returns c =
    let xs = c.args.sums.now in
    (c.first_best.ensures.first (pos 0) (larger (s_at xs)) (λ i j r h k e. search rules), c.first_best.ensures.inside)
