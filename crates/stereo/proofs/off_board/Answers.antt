-- `off_board`: the first test decides, else the second.
use Rattle.stereo.specs.StereoLaws.{off-by-row, off-by-col}
use Rattle.stereo.proofs.off_board.Goals as goal

pub returns-then-square-gt500 : goal.returns-then-square-gt500
returns-then-square-gt500 c = off-by-row _ c.if-square-gt500.true

pub returns : goal.returns
returns c = off-by-col _ c.if-square-gt500.false
