use mathlib.Core.Path.{◌≡◌, refl}
use mathlib.Core.List.{List}
use Prim.Native.Nat.{ℕ, ◌+◌, ◌^◌, ◌<◌}
use native.Mathlib.Omega.{arith}
use lib.ListN.{length, get_or}
use Rattle.laws.specs.declared.Modulus.{Modulus}
use Rattle.laws.specs.Modulus.{modulus-n, modulus-ok}
use Rattle.board.specs.Hits.{EdgeList}
use Rattle.room.specs.Room.{row_length}
use Rattle.groups.specs.Fill.{place_at}
use Rattle.groups.specs.FillLaws.{place-held}
use Rattle.units.specs.Units.{value_at}
use Rattle.units.specs.UnitParts.{UnitsFillReady}
use Rattle.units.specs.UnitPartsLaws.{ready-held_u, filled-held_u, units-none, unit-room, units-more}
use Rattle.units.proofs.fill_units.Goals as goal
use Rattle.board.specs.Given.{list_of}

pub loop-i-init : goal.loop-i-init
loop-i-init c =
    let E : EdgeList = list_of c.args.list in
    let h : Modulus = c.modulus_of-h.result in
    let v : Modulus = c.modulus_of-v.result in
    let h-is : h.n ≡ c.args.periods.h = modulus-n _ _ c.modulus_of-h.ensures in
    let v-is : v.n ≡ c.args.periods.v = modulus-n _ _ c.modulus_of-v.ensures in
    let ready : UnitsFillReady h.n v.n E c.args.t c.args.base c.args.units.now = ready-held_u _ _ _ _ E _ _ h-is v-is _ c.requires in
    (omega arith, units-none _ _ E _ _ _ ready)

pub group_place-p-requires-clause-modulus_ok : goal.group_place-p-requires-clause-modulus_ok
group_place-p-requires-clause-modulus_ok c = (
  modulus-ok _ _ c.modulus_of-h.ensures c.requires.periods.some.0 c.requires.periods.few.0,
  modulus-ok _ _ c.modulus_of-v.ensures c.requires.periods.some.1 c.requires.periods.few.1,
  c.matrix_of-matrix.ensures,
)

pub add_at-requires : goal.add_at-requires
add_at-requires c =
    let E : EdgeList = list_of c.args.list in
    let h : Modulus = c.modulus_of-h.result in
    let v : Modulus = c.modulus_of-v.result in
    let h-is : h.n ≡ c.args.periods.h = modulus-n _ _ c.modulus_of-h.ensures in
    let v-is : v.n ≡ c.args.periods.v = modulus-n _ _ c.modulus_of-v.ensures in
    let ready : UnitsFillReady h.n v.n E c.args.t c.args.base c.args.units.now = ready-held_u _ _ _ _ E _ _ h-is v-is _ c.requires in
    let i : ℕ = c.loop-i.i in
    let units : List ℕ = c.loop-i.units in
    let p : ℕ = c.group_place-p.result in
    let at : ℕ = c.args.base + p in
    let told : (p ≡ place_at h.n v.n E c.args.t i) × (p < row_length h.n v.n) = place-held _ _ _ _ E c.args.t i _ p refl refl c.edge_at-edge.ensures c.group_place-p.ensures in
    let room : (at < length units) × (get_or units at 0 + value_at E i < 2 ^ 64) = unit-room _ _ E _ _ _ ready i p c.loop-i-test.true told.1 told.0 units c.loop-i.invariant.1 in
    rw c.value_of-value.ensures room

pub loop-i-preserved : goal.loop-i-preserved
loop-i-preserved c =
    let E : EdgeList = list_of c.args.list in
    let h : Modulus = c.modulus_of-h.result in
    let v : Modulus = c.modulus_of-v.result in
    let h-is : h.n ≡ c.args.periods.h = modulus-n _ _ c.modulus_of-h.ensures in
    let v-is : v.n ≡ c.args.periods.v = modulus-n _ _ c.modulus_of-v.ensures in
    let ready : UnitsFillReady h.n v.n E c.args.t c.args.base c.args.units.now = ready-held_u _ _ _ _ E _ _ h-is v-is _ c.requires in
    let i : ℕ = c.loop-i.i in
    let units : List ℕ = c.loop-i.units in
    let p : ℕ = c.group_place-p.result in
    let at : ℕ = c.args.base + p in
    let told : (p ≡ place_at h.n v.n E c.args.t i) × (p < row_length h.n v.n) = place-held _ _ _ _ E c.args.t i _ p refl refl c.edge_at-edge.ensures c.group_place-p.ensures in
    (omega arith, units-more _ _ E _ _ _ ready i p c.loop-i-test.true told.1 told.0 units c.loop-i.invariant.1 _ (rw c.value_of-value.ensures at c.add_at.ensures))

pub returns : goal.returns
returns c =
    let E : EdgeList = list_of c.args.list in
    let h : Modulus = c.modulus_of-h.result in
    let v : Modulus = c.modulus_of-v.result in
    let h-is : h.n ≡ c.args.periods.h = modulus-n _ _ c.modulus_of-h.ensures in
    let v-is : v.n ≡ c.args.periods.v = modulus-n _ _ c.modulus_of-v.ensures in
    let l = c.loop-i in
    let e : l.i ≡ length c.args.list.edges.rows.now = omega (arith, l.invariant.0, c.loop-i-test.false) in
    filled-held_u _ _ _ _ E c.args.t c.args.base h-is v-is _ _ e _ _ l.invariant.1
