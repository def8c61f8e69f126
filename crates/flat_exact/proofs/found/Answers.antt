-- The hits ahead are counted first; each other field is the answer's.
use Rattle.flat_exact.specs.FlatExact.{exact_found_with}
use Rattle.flat_exact.proofs.found.Goals as goal

pub returns : goal.returns
returns c = λ i. exact_found_with c.args.d (c.ahead-margin_hits.ensures i)
