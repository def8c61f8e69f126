-- `put_word`: the digits that were made are put.
use Rattle.console.specs.Numeral.{put-number}
use Rattle.console.proofs.digits.put_word.Goals as goal

pub returns : goal.returns
returns c = let d = c.hex-k in put-number 16 8 _ d.result _ _ _ d.ensures.len d.ensures.digits c.put.ensures
