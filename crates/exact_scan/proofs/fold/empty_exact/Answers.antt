use Rattle.exact_scan.specs.Exact.{empty_exact}
use Rattle.exact_scan.proofs.fold.empty_exact.Goals as goal

pub returns : goal.returns
unfolding empty_exact
returns c = rw c.empty-positions.ensures
