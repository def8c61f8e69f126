use Rattle.part_verdict.specs.PartVerdict.{part_decoded_of}
use Rattle.part_verdict.proofs.decoded_part.Goals as goal

pub returns : goal.returns
unfolding part_decoded_of
returns c = rw c.rate-error_rate.ensures
