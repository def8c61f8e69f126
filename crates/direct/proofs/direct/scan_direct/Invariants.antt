use Prim.Native.Nat.{◌*◌, ◌-◌, ◌%◌, ◌≤◌}
use mathlib.Core.Path.{◌≡◌}
use lib.ListN.{length}
use Rattle.best.specs.CellTables.{cells}
use Rattle.direct.specs.Direct.{tried}
use Rattle.direct.proofs.direct.scan_direct.Given as goal

abbrev pub invariant-loop-row : goal.invariant-loop-row
invariant-loop-row l = (l.row ≤ 3 * l.periods.h) × (l.ha ≡ l.row % l.periods.h) × (l.va ≡ l.row % 3) × (l.kept ≡ tried l.periods.h l.periods.v l.asked.edges l.asked.confidence l.asked.error_limit l.listed (cells l.hc l.hw l.vc l.vw) 0 l.initial.kept (l.row * (3 * l.periods.v)))

abbrev pub decreases-loop-row : goal.decreases-loop-row
decreases-loop-row l = length l.hc - l.row
