use mathlib.Core.Path.{◌≡◌, ap, sym, subst, ◌∙◌}
use mathlib.Core.List.{List}
use Prim.Native.Nat.{ℕ, ◌+◌, ◌*◌, ◌-◌}
use native.Mathlib.Omega.{arith}
use lib.ListN.{take, drop}
use Rattle.exact_scan.specs.Exact.{ValueTables, value_tables, ValuesOk, fold_exact}
use Rattle.exact.specs.SelectLaws.{room_values}
use Rattle.exact.proofs.select.fold_value_room.Goals as goal

-- the parts that are lent are the tables in the room
parts : (L M : ℕ) (a : List ℕ) → value_tables (take (3 * L - 0) (drop 0 a)) (take (3 * L + 3 * M - 3 * L) (drop (3 * L) a)) ≡ room_values L M a
unfolding room_values
parts L M a =
    let h : 3 * L - 0 ≡ 3 * L = omega arith in
    let v : 3 * L + 3 * M - 3 * L ≡ 3 * M = omega arith in
    λ i. value_tables (take (h i) (drop 0 a)) (take (v i) (drop (3 * L) a))

pub fold_values-requires : goal.fold_values-requires
fold_values-requires c =
    let p = c.requires.value_room_ready in
    let a = c.args in
    ((p.h, p.v, subst (λ (X : ValueTables). ValuesOk a.periods.h a.periods.v X) (sym (parts a.periods.h a.periods.v a.units.now)) p.tables), c.requires.count_bound)

pub returns : goal.returns
returns c =
    let a = c.args in
    c.fold_values.ensures ∙ ap (λ (X : ValueTables). fold_exact a.periods.h a.periods.v a.transform X a.scan) (parts a.periods.h a.periods.v a.units.now)
