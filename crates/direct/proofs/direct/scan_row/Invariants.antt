use Prim.Native.Nat.{◌*◌, ◌-◌}
use mathlib.Core.Path.{◌≡◌}
use lib.ListN.{length}
use Rattle.best.specs.CellTables.{cells}
use Rattle.direct.specs.Direct.{tried}
use Rattle.direct.specs.DirectLaws.{RowTurn}
use Rattle.scan.specs.Lead.{lead_of}
use Rattle.direct.proofs.direct.scan_row.Given as goal

abbrev pub invariant-loop-col : goal.invariant-loop-col
invariant-loop-col l = RowTurn l.periods.h l.periods.v l.hbase l.vbase l.hb l.vb l.col × (l.kept ≡ tried l.periods.h l.periods.v l.asked.edges l.asked.confidence l.asked.error_limit l.listed (cells l.hc l.hw l.vc l.vw) (l.row * (3 * l.periods.v)) l.initial.kept l.col) × (l.lead ≡ lead_of l.kept)

abbrev pub decreases-loop-col : goal.decreases-loop-col
decreases-loop-col l = length l.vc - l.col
