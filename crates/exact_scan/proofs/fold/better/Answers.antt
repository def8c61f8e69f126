use Rattle.exact_scan.specs.ExactLaws.{stays, greater}
use Rattle.exact_scan.proofs.fold.better.Goals as goal

pub returns-then-c-k : goal.returns-then-c-k
returns-then-c-k c = let a = c.args in stays a.k a.c c.if-c-k.true

pub returns : goal.returns
returns c = let a = c.args in greater a.k a.c c.if-c-k.false
