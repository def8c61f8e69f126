-- The way back from a sum of 0, as a claim on the definition. Document 01's own numbers stand in the crate `claims`.
use Rattle.std.specs.Prelude.{◌≡◌, refl, false, pos}
use Rattle.std.specs.Float.{fin}
use Rattle.likelihood.specs.Likelihood.{dequantised}

-- +0
pub back-from-nothing : dequantised (pos 0) ≡ fin false 0 (pos 0)
unfolding dequantised
back-from-nothing = refl
