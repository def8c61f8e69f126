use mathlib.Core.Path.{ap, ◌∙◌}
use Prim.Native.Nat.{ℕ, ◌+◌}
use Rattle.values.specs.Values.{weight_of}
use Rattle.exact.specs.SelectLaws.{value-weight}
use Rattle.exact_weight.proofs.add_units.Goals as goal

-- the hit's units, off its value
pub returns-then-hit : goal.returns-then-hit
returns-then-hit c = rw c.if-hit.true (ap (λ (x : ℕ). c.args.sum + x) (c.weight_of.ensures ∙ ap weight_of c.value_of-value.ensures ∙ value-weight c.args.confidence c.requires.1))
