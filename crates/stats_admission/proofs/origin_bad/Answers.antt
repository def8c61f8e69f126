use Prim.Native.Nat.{ℕ, ◌*◌, ◌/◌, ◌≤◌, ◌<◌}
use native.Mathlib.Omega.{arith}
use borrow.Author.Tests.{lt-ltb, le-ltb}
use Rattle.checks.specs.Checks.{origin_bad}
use Rattle.stats_admission.proofs.origin_bad.Goals as goal

-- a third of a row is below l exactly where the row is below 3 · l
above : (l row : ℕ) → l ≤ row / 3 → 3 * l ≤ row
above l row h = omega arith

below : (l row : ℕ) → row / 3 < l → row < 3 * l
below l row h = omega arith

pub returns-then-l-row : goal.returns-then-l-row
unfolding origin_bad
returns-then-l-row c = simp (le-ltb _ _ (above _ _ c.if-l-row.true))

pub returns : goal.returns
unfolding origin_bad
returns c = simp (lt-ltb _ _ (below _ _ c.if-l-row.false))
