use Prim.Native.Nat.{ℕ, ◌*◌}
use mathlib.Core.Path.{◌≡◌}
use mathlib.Core.Bool.{Bool}
use Rattle.laws.specs.Words.{origins}
use Rattle.grid.specs.RowMajor.{lowest, Tells}
use Rattle.grid.proofs.origin.lowest_key.Given as goal

abbrev pub invariant-loop-v : goal.invariant-loop-v
invariant-loop-v g l = (q : ℕ → Bool) → Tells (3 * l.periods.v) (goal.V-post g l.passes) q → l.best ≡ lowest q ((origins l.periods.h l.periods.v).key l.h) l.start l.v
