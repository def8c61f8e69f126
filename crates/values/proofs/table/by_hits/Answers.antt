use lib.Ieee.{of_bits}
use Rattle.values.proofs.table.by_hits.Goals as goal

pub returns : goal.returns
unfolding of_bits
returns c = rw c.hits_of-count.ensures
