-- `Transforms::read`: no more than the eight places are filled.
use Rattle.std.proofs.Common.{◌≤◌}
use Rattle.viewtext.proofs.settings.Transforms.read.Given as goal

abbrev pub invariant-loop-i : goal.invariant-loop-i
invariant-loop-i l = l.count ≤ 8
