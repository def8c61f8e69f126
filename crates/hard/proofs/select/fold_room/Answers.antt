use mathlib.Core.Path.{◌≡◌, ap, sym, subst, ◌∙◌}
use mathlib.Core.List.{List}
use Prim.Native.Nat.{ℕ, ◌+◌, ◌*◌, ◌-◌}
use native.Mathlib.Omega.{arith}
use lib.Ieee.{Float}
use lib.ListN.{take, drop}
use Rattle.best.specs.CellTables.{CellTables, cells, TablesOk}
use Rattle.folding.specs.Transform.{fold_transform}
use Rattle.hard.specs.SelectLaws.{room_cells}
use Rattle.hard.proofs.select.fold_room.Goals as goal

-- the parts that are lent are the tables in the room
parts : (L M : ℕ) (c : List ℕ) (w : List Float) → cells (take (3 * L - 0) (drop 0 c)) (take (3 * L - 0) (drop 0 w)) (take (3 * L + 3 * M - 3 * L) (drop (3 * L) c)) (take (3 * L + 3 * M - 3 * L) (drop (3 * L) w)) ≡ room_cells L M c w
unfolding room_cells
parts L M c w =
    let a : 3 * L - 0 ≡ 3 * L = omega arith in
    let b : 3 * L + 3 * M - 3 * L ≡ 3 * M = omega arith in
    λ i. cells (take (a i) (drop 0 c)) (take (a i) (drop 0 w)) (take (b i) (drop (3 * L) c)) (take (b i) (drop (3 * L) w))

pub fold_tables-requires : goal.fold_tables-requires
fold_tables-requires c =
    let s = c in
    let p = s.requires.room_ready in
    let a = s.args in
    ((p.h, p.v, subst (λ (X : CellTables). TablesOk a.periods.h a.periods.v a.asked.edges X) (sym (parts a.periods.h a.periods.v a.counts.now a.weights.now)) p.tables), s.requires.count_bound)

pub returns : goal.returns
returns c =
    let s = c in
    let a = s.args in
    c.fold_tables.ensures ∙ ap (λ (X : CellTables). fold_transform a.periods.h a.periods.v a.asked.edges a.asked.confidence a.asked.error_limit a.transform X a.scan) (parts a.periods.h a.periods.v a.counts.now a.weights.now)
