use mathlib.Core.Path.{refl}
use native.Mathlib.Numerals.{add-one}
use Rattle.scan.specs.Scan.{runner_up_of}
use Rattle.scan.proofs.record.runner_up.Goals as goal

pub loop-i-init : goal.loop-i-init
unfolding runner_up_of
loop-i-init c = refl

pub loop-i-preserved : goal.loop-i-preserved
unfolding runner_up_of
loop-i-preserved c = rw (add-one, ← c.loop-i.invariant) c.step-r.ensures
