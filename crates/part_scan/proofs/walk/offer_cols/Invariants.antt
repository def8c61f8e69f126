use mathlib.Core.Path.{◌≡◌}
use Prim.Native.Nat.{◌+◌, ◌-◌, ◌%◌, ◌≤◌}
use Rattle.laws.specs.Words.{all}
use Rattle.part_scan.specs.Kept.{walked}
use Rattle.part_scan.specs.Walk.{number_value, first_number}
use Rattle.part_scan.proofs.walk.offer_cols.Given as goal

abbrev pub invariant-loop-col : goal.invariant-loop-col
invariant-loop-col l =
    (l.from ≤ l.col) × (l.col ≤ l.to) × (l.short ≡ l.col % 3) × (l.long ≡ l.col % 167) × (l.held ≡ walked all (number_value l.hs l.vs) l.initial.held (first_number l.listed l.row + l.from) (l.col - l.from))

abbrev pub decreases-loop-col : goal.decreases-loop-col
decreases-loop-col l = l.to - l.col
