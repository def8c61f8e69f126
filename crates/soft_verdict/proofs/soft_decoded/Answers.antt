use Prim.Native.Nat.{◌^◌}
use native.Mathlib.Omega.{arith}
use lib.Dec.{le→leb}
use lib.Ieee.{in_float}
use Rattle.soft_verdict.specs.SoftVerdict.{soft_decoded_of}
use Rattle.soft_verdict.proofs.soft_decoded.Goals as goal

pub int_to_float-weighted_score : goal.int_to_float-weighted_score
unfolding in_float
int_to_float-weighted_score c = le→leb c.args.edges (2 ^ 24) (omega (arith, c.requires.1))

pub returns : goal.returns
unfolding soft_decoded_of
returns c = rw (c.rate-error_rate.ensures, c.mean-mean_confidence.ensures)
