use mathlib.Core.Path.{◌≡◌}
use Prim.Native.Nat.{◌*◌, ◌-◌, ◌≤◌}
use Rattle.part_scan.specs.Kept.{walked}
use Rattle.part_scan.specs.Walk.{number_value, first_number, in_cols}
use Rattle.part_scan.proofs.walk.offer_rows.Given as goal

abbrev pub invariant-loop-row : goal.invariant-loop-row
invariant-loop-row l =
    (l.from ≤ l.row) × (l.row ≤ l.to) × (l.held ≡ walked (in_cols l.cols) (number_value l.hs l.vs) l.initial.held (first_number l.listed l.from) ((l.row - l.from) * 501))

abbrev pub decreases-loop-row : goal.decreases-loop-row
decreases-loop-row l = l.to - l.row
