-- The answer of two cameras: the code's type of this name.
use Rattle.std.specs.Prelude.{Result, ℕ}
use Rattle.stereo.specs.declared.Shift.{Shift}
use Rattle.stereo.specs.declared.Camera.{Camera}

-- the shift, or a refusal: its number, and the camera that it is about
abbrev pub StereoAnswer : Type 0
StereoAnswer = Result Shift (ℕ × Camera)
