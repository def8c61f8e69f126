-- `shift_between`: three cases of two answers.
use Rattle.stereo.specs.StereoLaws.{first-refused, second-refused, both_told}
use Rattle.stereo.proofs.shift_between.Goals as goal

pub returns-in-Err : goal.returns-in-Err
returns-in-Err c = first-refused _ _ _ c.in-Err.is

pub returns-in-Err-second : goal.returns-in-Err-second
returns-in-Err-second c =
    second-refused _ _ _ c.in-Ok.is _ c.in-Err-second.is

pub returns-in-Ok-second : goal.returns-in-Ok-second
returns-in-Ok-second c =
    both_told _ _ _ c.in-Ok.is _ c.in-Ok-second.is _ c.both_found.ensures
