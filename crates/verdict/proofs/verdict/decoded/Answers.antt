use Rattle.verdict.specs.Verdict.{decoded_of}
use Rattle.verdict.proofs.verdict.decoded.Goals as goal

pub returns : goal.returns
unfolding decoded_of
returns c = rw (c.rate-error_rate.ensures, c.mean-mean_confidence.ensures, c.margin-margin_hits.ensures)
