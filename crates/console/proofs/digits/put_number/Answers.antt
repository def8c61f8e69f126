-- `put_number`: the digits that were made are put.
use Rattle.console.specs.Numeral.{put-number}
use Rattle.console.proofs.digits.put_number.Goals as goal

pub returns : goal.returns
returns c = let d = c.decimal-k in put-number 10 1 _ d.result _ _ _ d.ensures.len d.ensures.digits c.put.ensures
