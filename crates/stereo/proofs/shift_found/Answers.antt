-- `shift_found`: each field is what its definition says.
use Rattle.stereo.specs.StereoLaws.{found-shift}
use Rattle.stereo.proofs.shift_found.Goals as goal

pub returns : goal.returns
returns c =
    found-shift c.args.d c.args.e _ _ c.shift_of-rows.ensures c.shift_of-cols.ensures
