use Rattle.exact_verdict.specs.ExactVerdict.{exact_decoded_of}
use Rattle.exact_verdict.proofs.decoded_exact.Goals as goal

pub returns : goal.returns
unfolding exact_decoded_of
returns c = rw c.rate-error_rate.ensures
