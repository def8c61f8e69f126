use mathlib.Core.Path.{◌≡◌, ap, sym, subst, ◌∙◌}
use mathlib.Core.List.{List}
use Prim.Native.Nat.{ℕ, ◌+◌, ◌*◌, ◌-◌}
use native.Mathlib.Omega.{arith}
use lib.IntN.{ℤ}
use lib.ListN.{take, drop}
use Rattle.level.specs.Sums.{SumTables, sums, SumsOk}
use Rattle.soft.specs.Scan.{soft_folded}
use Rattle.soft.specs.SelectLaws.{room_sums}
use Rattle.soft.proofs.select.fold_room.Goals as goal

-- the parts that are lent are the tables in the room
parts : (L M : ℕ) (a : List ℤ) → sums (take (3 * L - 0) (drop 0 a)) (take (3 * L + 3 * M - 3 * L) (drop (3 * L) a)) ≡ room_sums L M a
unfolding room_sums
parts L M a =
    let x : 3 * L - 0 ≡ 3 * L = omega arith in
    let y : 3 * L + 3 * M - 3 * L ≡ 3 * M = omega arith in
    λ i. sums (take (x i) (drop 0 a)) (take (y i) (drop (3 * L) a))

pub fold_transform-requires : goal.fold_transform-requires
fold_transform-requires c =
    let p = c.requires.sums_room_ready in
    let a = c.args in
    record {
      period = (p.h, p.v, subst (λ (X : SumTables). SumsOk a.periods.h a.periods.v X.hs X.vs) (sym (parts a.periods.h a.periods.v a.sums.now)) p.sums);
      count_bound = c.requires.count_bound;
    }

pub returns : goal.returns
returns c =
    let a = c.args in
    c.fold_transform.ensures ∙ ap (λ (X : SumTables). soft_folded a.periods.h a.periods.v X a.scan) (parts a.periods.h a.periods.v a.sums.now)
