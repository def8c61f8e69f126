use Prim.Native.Nat.{◌+◌, ◌*◌, ◌^◌, ◌≤◌, ◌<◌}
use lib.IntN.{nat_abs}
use native.Mathlib.Omega.{arith}
use native.Mathlib.Nat.{div-le_self, mod-le}
use Rattle.laws.specs.Words.{origins}
use Rattle.grid.specs.BoardGrid.{grid}
use Rattle.level.specs.Level.{s_at}
use Rattle.level.specs.Sums.{sums}
use Rattle.level.specs.SumsLaws.{sum_fits, sum-small, sum-read}
use Rattle.soft.specs.ScanLaws.{candidate-made}
use Rattle.soft.proofs.record.candidate_of.Goals as goal

pub overflow_mul-h : goal.overflow_mul-h
overflow_mul-h c =
    let h-cell : (origins c.args.periods.h c.args.periods.v).h_of c.args.key < 3 * c.args.periods.h = (grid _ _ c.requires.0 c.requires.1).h-in c.args.key in
    record { fits = omega (arith, h-cell, c.requires.0.few) }

pub overflow_add-h : goal.overflow_add-h
overflow_add-h c =
    let h-cell : (origins c.args.periods.h c.args.periods.v).h_of c.args.key < 3 * c.args.periods.h = (grid _ _ c.requires.0 c.requires.1).h-in c.args.key in
    record { fits = omega (arith, h-cell, c.requires.0.few) }

pub overflow_mul-v : goal.overflow_mul-v
overflow_mul-v c =
    let v-cell : (origins c.args.periods.h c.args.periods.v).v_of c.args.key < 3 * c.args.periods.v = (grid _ _ c.requires.0 c.requires.1).v-in c.args.key in
    record { fits = omega (arith, v-cell, c.requires.1.few) }

pub overflow_add-v : goal.overflow_add-v
overflow_add-v c =
    let v-cell : (origins c.args.periods.h c.args.periods.v).v_of c.args.key < 3 * c.args.periods.v = (grid _ _ c.requires.0 c.requires.1).v-in c.args.key in
    record { fits = omega (arith, v-cell, c.requires.1.few) }

pub offset_bounds-hs-h : goal.offset_bounds-hs-h
offset_bounds-hs-h c =
    let h-cell : (origins c.args.periods.h c.args.periods.v).h_of c.args.key < 3 * c.args.periods.h = (grid _ _ c.requires.0 c.requires.1).h-in c.args.key in
    record { fits = omega (arith, h-cell, c.requires.0.few) }

pub bounds-hs-h : goal.bounds-hs-h
bounds-hs-h c =
    let h-cell : (origins c.args.periods.h c.args.periods.v).h_of c.args.key < 3 * c.args.periods.h = (grid _ _ c.requires.0 c.requires.1).h-in c.args.key in
    omega (arith, h-cell, c.requires.2.hlen)

pub offset_bounds-vs-v : goal.offset_bounds-vs-v
offset_bounds-vs-v c =
    let v-cell : (origins c.args.periods.h c.args.periods.v).v_of c.args.key < 3 * c.args.periods.v = (grid _ _ c.requires.0 c.requires.1).v-in c.args.key in
    record { fits = omega (arith, v-cell, c.requires.1.few) }

pub bounds-vs-v : goal.bounds-vs-v
bounds-vs-v c =
    let v-cell : (origins c.args.periods.h c.args.periods.v).v_of c.args.key < 3 * c.args.periods.v = (grid _ _ c.requires.0 c.requires.1).v-in c.args.key in
    omega (arith, v-cell, c.requires.2.vlen)

pub overflow_add-sum : goal.overflow_add-sum
overflow_add-sum c =
    let h-cell : (origins c.args.periods.h c.args.periods.v).h_of c.args.key < 3 * c.args.periods.h = (grid _ _ c.requires.0 c.requires.1).h-in c.args.key in
    let v-cell : (origins c.args.periods.h c.args.periods.v).v_of c.args.key < 3 * c.args.periods.v = (grid _ _ c.requires.0 c.requires.1).v-in c.args.key in
    let bound : nat_abs (s_at c.args.hs.now ((origins c.args.periods.h c.args.periods.v).h_of c.args.key)) + nat_abs (s_at c.args.vs.now ((origins c.args.periods.h c.args.periods.v).v_of c.args.key)) ≤ 2 ^ 53 = c.requires.2.bounded _ _ h-cell v-cell in
    sum_fits ((s_at c.args.hs.now ((origins c.args.periods.h c.args.periods.v).h_of c.args.key))) ((s_at c.args.vs.now ((origins c.args.periods.h c.args.periods.v).v_of c.args.key))) (bound)

pub dequantize_ll-total-requires : goal.dequantize_ll-total-requires
dequantize_ll-total-requires c =
    let h-cell : (origins c.args.periods.h c.args.periods.v).h_of c.args.key < 3 * c.args.periods.h = (grid _ _ c.requires.0 c.requires.1).h-in c.args.key in
    let v-cell : (origins c.args.periods.h c.args.periods.v).v_of c.args.key < 3 * c.args.periods.v = (grid _ _ c.requires.0 c.requires.1).v-in c.args.key in
    let bound : nat_abs (s_at c.args.hs.now ((origins c.args.periods.h c.args.periods.v).h_of c.args.key)) + nat_abs (s_at c.args.vs.now ((origins c.args.periods.h c.args.periods.v).v_of c.args.key)) ≤ 2 ^ 53 = c.requires.2.bounded _ _ h-cell v-cell in
    rw (sum-read ((s_at c.args.hs.now ((origins c.args.periods.h c.args.periods.v).h_of c.args.key))) ((s_at c.args.vs.now ((origins c.args.periods.h c.args.periods.v).v_of c.args.key))) (bound)) (sum-small ((s_at c.args.hs.now ((origins c.args.periods.h c.args.periods.v).h_of c.args.key))) ((s_at c.args.vs.now ((origins c.args.periods.h c.args.periods.v).v_of c.args.key))) (bound))

pub overflow_cast-r : goal.overflow_cast-r
overflow_cast-r c = record { fits = omega (arith, div-le_self c.args.key (3 * c.args.periods.v)) }

pub overflow_cast-c : goal.overflow_cast-c
overflow_cast-c c = record { fits = omega (arith, mod-le c.args.key (3 * c.args.periods.v)) }

pub returns : goal.returns
returns c =
    let h-cell : (origins c.args.periods.h c.args.periods.v).h_of c.args.key < 3 * c.args.periods.h = (grid _ _ c.requires.0 c.requires.1).h-in c.args.key in
    let v-cell : (origins c.args.periods.h c.args.periods.v).v_of c.args.key < 3 * c.args.periods.v = (grid _ _ c.requires.0 c.requires.1).v-in c.args.key in
    let bound : nat_abs (s_at c.args.hs.now ((origins c.args.periods.h c.args.periods.v).h_of c.args.key)) + nat_abs (s_at c.args.vs.now ((origins c.args.periods.h c.args.periods.v).v_of c.args.key)) ≤ 2 ^ 53 = c.requires.2.bounded _ _ h-cell v-cell in
    candidate-made _ _ (sums c.args.hs.now c.args.vs.now) _ _ _ _ (sum-read ((s_at c.args.hs.now ((origins c.args.periods.h c.args.periods.v).h_of c.args.key))) ((s_at c.args.vs.now ((origins c.args.periods.h c.args.periods.v).v_of c.args.key))) (bound)) c.dequantize_ll-total.ensures
