use mathlib.Core.Path.{◌≡◌, ap, sym, subst, ◌∙◌}
use mathlib.Core.List.{List}
use Prim.Native.Nat.{ℕ, ◌+◌, ◌*◌, ◌-◌}
use native.Mathlib.Omega.{arith}
use lib.ListN.{take, drop}
use Rattle.exact_scan.specs.Exact.{ValueTables, value_tables}
use Rattle.exact.specs.SelectLaws.{room_values}
use Rattle.part_scan.specs.Kept.{walked}
use Rattle.part_scan.specs.Walk.{number_value, first_number, in_both, TablesReady}
use Rattle.part_select.specs.Select.{room_number}
use Rattle.part_select.proofs.SelectLaws.{flat-tables}
use Rattle.part_select.proofs.select.offer_room.Goals as goal

-- the parts that are lent are the tables in the room
parts : (L M : ℕ) (a : List ℕ) → value_tables (take (3 * L - 0) (drop 0 a)) (take (3 * L + 3 * M - 3 * L) (drop (3 * L) a)) ≡ room_values L M a
unfolding room_values
parts L M a =
    let h : 3 * L - 0 ≡ 3 * L = omega arith in
    let v : 3 * L + 3 * M - 3 * L ≡ 3 * M = omega arith in
    λ i. value_tables (take (h i) (drop 0 a)) (take (v i) (drop (3 * L) a))

pub offer_origins-requires : goal.offer_origins-requires
offer_origins-requires c =
    let p = c.requires.value_room_ready in
    let a = c.args in
    let ok = flat-tables a.periods.h a.periods.v (room_values a.periods.h a.periods.v a.units.now) p.1 p.2 p.0.tables in
    record {
      tables_ready = subst (λ (X : ValueTables). TablesReady X.hs X.vs) (sym (parts a.periods.h a.periods.v a.units.now)) ok;
      listed_bound = c.requires.listed_bound;
    }

pub returns : goal.returns
unfolding room_number
returns c =
    let a = c.args in
    c.offer_origins.ensures ∙ ap (λ (X : ValueTables). walked (in_both a.down a.across) (number_value X.hs X.vs) a.kept (first_number a.listed 0) 251001) (parts a.periods.h a.periods.v a.units.now)
