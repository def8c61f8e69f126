use mathlib.Core.Path.{◌≡◌, refl}
use mathlib.Core.List.{List}
use Prim.Native.Nat.{ℕ, ◌+◌, ◌*◌, ◌^◌, ◌≤◌, ◌<◌}
use native.Mathlib.Omega.{arith}
use lib.ListN.{length, get_or}
use lib.Ieee.{Float}
use Rattle.laws.specs.declared.Modulus.{Modulus}
use Rattle.laws.specs.Modulus.{modulus-n, modulus-ok}
use Rattle.board.specs.Hits.{EdgeList}
use Rattle.room.specs.Room.{row_length}
use Rattle.groups.specs.Fill.{FillReady, place_at}
use Rattle.groups.specs.FillLaws.{place-held, ready_held, filled-held, filled_none, filled_more, filled-few}
use Rattle.groups.proofs.groups.fill_groups.Goals as goal
use Rattle.board.specs.Given.{list_of}

pub loop-i-init : goal.loop-i-init
loop-i-init c =
    let E : EdgeList = list_of c.args.list in
    let h : Modulus = c.modulus_of-h.result in
    let v : Modulus = c.modulus_of-v.result in
    let h-is : h.n ≡ c.args.periods.h = modulus-n _ _ c.modulus_of-h.ensures in
    let v-is : v.n ≡ c.args.periods.v = modulus-n _ _ c.modulus_of-v.ensures in
    let ready : FillReady h.n v.n E c.args.t c.args.base c.args.counts.now c.args.weights.now = ready_held _ _ _ _ E _ _ h-is v-is _ _ c.requires in
    (omega arith, filled_none _ _ _ _ _ _ _ ready)

pub group_place-p-requires-clause-modulus_ok : goal.group_place-p-requires-clause-modulus_ok
group_place-p-requires-clause-modulus_ok c = (
  modulus-ok _ _ c.modulus_of-h.ensures c.requires.periods.some.0 c.requires.periods.few.0,
  modulus-ok _ _ c.modulus_of-v.ensures c.requires.periods.some.1 c.requires.periods.few.1,
  c.matrix_of-matrix.ensures,
)

in_both_lem : (b p n r x y : ℕ) → p < r → b + r ≤ x → b + r ≤ y → 4 * x < 2 ^ 64 → 4 * y < 2 ^ 64 → n ≡ b + p → (4 * n < 2 ^ 64) × (n < x) × (n < y)
in_both_lem b p n r x y h i j k l e = omega arith

pub bounds-counts-at : goal.bounds-counts-at
bounds-counts-at c =
    let E : EdgeList = list_of c.args.list in
    let h : Modulus = c.modulus_of-h.result in
    let v : Modulus = c.modulus_of-v.result in
    let h-is : h.n ≡ c.args.periods.h = modulus-n _ _ c.modulus_of-h.ensures in
    let v-is : v.n ≡ c.args.periods.v = modulus-n _ _ c.modulus_of-v.ensures in
    let ready : FillReady h.n v.n E c.args.t c.args.base c.args.counts.now c.args.weights.now = ready_held _ _ _ _ E _ _ h-is v-is _ _ c.requires in
    let i : ℕ = c.loop-i.i in
    let counts : List ℕ = c.loop-i.counts in
    let weights : List Float = c.loop-i.weights in
    let p : ℕ = c.group_place-p.result in
    let at : ℕ = c.args.base + p in
    let told : (p ≡ place_at h.n v.n E c.args.t i) × (p < row_length h.n v.n) = place-held _ _ _ _ E c.args.t i _ p refl refl c.edge_at-edge.ensures c.group_place-p.ensures in
    let room : (at < length counts) × (at < length weights) × (get_or counts at 0 ≤ 8192) = filled-few _ _ E _ _ _ _ ready i p counts weights c.loop-i.invariant.1 c.loop-i.invariant.0 told.1 in
    omega (arith, room.0)

pub overflow_add-counts : goal.overflow_add-counts
overflow_add-counts c =
    let E : EdgeList = list_of c.args.list in
    let h : Modulus = c.modulus_of-h.result in
    let v : Modulus = c.modulus_of-v.result in
    let h-is : h.n ≡ c.args.periods.h = modulus-n _ _ c.modulus_of-h.ensures in
    let v-is : v.n ≡ c.args.periods.v = modulus-n _ _ c.modulus_of-v.ensures in
    let ready : FillReady h.n v.n E c.args.t c.args.base c.args.counts.now c.args.weights.now = ready_held _ _ _ _ E _ _ h-is v-is _ _ c.requires in
    let i : ℕ = c.loop-i.i in
    let counts : List ℕ = c.loop-i.counts in
    let weights : List Float = c.loop-i.weights in
    let p : ℕ = c.group_place-p.result in
    let at : ℕ = c.args.base + p in
    let told : (p ≡ place_at h.n v.n E c.args.t i) × (p < row_length h.n v.n) = place-held _ _ _ _ E c.args.t i _ p refl refl c.edge_at-edge.ensures c.group_place-p.ensures in
    let room : (at < length counts) × (at < length weights) × (get_or counts at 0 ≤ 8192) = filled-few _ _ E _ _ _ _ ready i p counts weights c.loop-i.invariant.1 c.loop-i.invariant.0 told.1 in
    omega (arith, room.2)

pub bounds-counts-at-in-loop-i : goal.bounds-counts-at-in-loop-i
bounds-counts-at-in-loop-i c =
    let E : EdgeList = list_of c.args.list in
    let h : Modulus = c.modulus_of-h.result in
    let v : Modulus = c.modulus_of-v.result in
    let h-is : h.n ≡ c.args.periods.h = modulus-n _ _ c.modulus_of-h.ensures in
    let v-is : v.n ≡ c.args.periods.v = modulus-n _ _ c.modulus_of-v.ensures in
    let ready : FillReady h.n v.n E c.args.t c.args.base c.args.counts.now c.args.weights.now = ready_held _ _ _ _ E _ _ h-is v-is _ _ c.requires in
    let i : ℕ = c.loop-i.i in
    let counts : List ℕ = c.loop-i.counts in
    let weights : List Float = c.loop-i.weights in
    let p : ℕ = c.group_place-p.result in
    let at : ℕ = c.args.base + p in
    let told : (p ≡ place_at h.n v.n E c.args.t i) × (p < row_length h.n v.n) = place-held _ _ _ _ E c.args.t i _ p refl refl c.edge_at-edge.ensures c.group_place-p.ensures in
    let room : (at < length counts) × (at < length weights) × (get_or counts at 0 ≤ 8192) = filled-few _ _ E _ _ _ _ ready i p counts weights c.loop-i.invariant.1 c.loop-i.invariant.0 told.1 in
    omega (arith, room.0)

pub bounds-weights-at : goal.bounds-weights-at
bounds-weights-at c =
    let E : EdgeList = list_of c.args.list in
    let h : Modulus = c.modulus_of-h.result in
    let v : Modulus = c.modulus_of-v.result in
    let h-is : h.n ≡ c.args.periods.h = modulus-n _ _ c.modulus_of-h.ensures in
    let v-is : v.n ≡ c.args.periods.v = modulus-n _ _ c.modulus_of-v.ensures in
    let ready : FillReady h.n v.n E c.args.t c.args.base c.args.counts.now c.args.weights.now = ready_held _ _ _ _ E _ _ h-is v-is _ _ c.requires in
    let i : ℕ = c.loop-i.i in
    let counts : List ℕ = c.loop-i.counts in
    let weights : List Float = c.loop-i.weights in
    let p : ℕ = c.group_place-p.result in
    let at : ℕ = c.args.base + p in
    let told : (p ≡ place_at h.n v.n E c.args.t i) × (p < row_length h.n v.n) = place-held _ _ _ _ E c.args.t i _ p refl refl c.edge_at-edge.ensures c.group_place-p.ensures in
    let room : (at < length counts) × (at < length weights) × (get_or counts at 0 ≤ 8192) = filled-few _ _ E _ _ _ _ ready i p counts weights c.loop-i.invariant.1 c.loop-i.invariant.0 told.1 in
    omega (arith, room.1)

pub bounds-weights-at-in-loop-i : goal.bounds-weights-at-in-loop-i
bounds-weights-at-in-loop-i c =
    let E : EdgeList = list_of c.args.list in
    let h : Modulus = c.modulus_of-h.result in
    let v : Modulus = c.modulus_of-v.result in
    let h-is : h.n ≡ c.args.periods.h = modulus-n _ _ c.modulus_of-h.ensures in
    let v-is : v.n ≡ c.args.periods.v = modulus-n _ _ c.modulus_of-v.ensures in
    let ready : FillReady h.n v.n E c.args.t c.args.base c.args.counts.now c.args.weights.now = ready_held _ _ _ _ E _ _ h-is v-is _ _ c.requires in
    let i : ℕ = c.loop-i.i in
    let counts : List ℕ = c.loop-i.counts in
    let weights : List Float = c.loop-i.weights in
    let p : ℕ = c.group_place-p.result in
    let at : ℕ = c.args.base + p in
    let told : (p ≡ place_at h.n v.n E c.args.t i) × (p < row_length h.n v.n) = place-held _ _ _ _ E c.args.t i _ p refl refl c.edge_at-edge.ensures c.group_place-p.ensures in
    let room : (at < length counts) × (at < length weights) × (get_or counts at 0 ≤ 8192) = filled-few _ _ E _ _ _ _ ready i p counts weights c.loop-i.invariant.1 c.loop-i.invariant.0 told.1 in
    omega (arith, room.1)

pub loop-i-preserved : goal.loop-i-preserved
loop-i-preserved c =
    let E : EdgeList = list_of c.args.list in
    let h : Modulus = c.modulus_of-h.result in
    let v : Modulus = c.modulus_of-v.result in
    let h-is : h.n ≡ c.args.periods.h = modulus-n _ _ c.modulus_of-h.ensures in
    let v-is : v.n ≡ c.args.periods.v = modulus-n _ _ c.modulus_of-v.ensures in
    let ready : FillReady h.n v.n E c.args.t c.args.base c.args.counts.now c.args.weights.now = ready_held _ _ _ _ E _ _ h-is v-is _ _ c.requires in
    let i : ℕ = c.loop-i.i in
    let counts : List ℕ = c.loop-i.counts in
    let weights : List Float = c.loop-i.weights in
    let p : ℕ = c.group_place-p.result in
    let told : (p ≡ place_at h.n v.n E c.args.t i) × (p < row_length h.n v.n) = place-held _ _ _ _ E c.args.t i _ p refl refl c.edge_at-edge.ensures c.group_place-p.ensures in
    (omega arith, filled_more _ _ E _ _ _ _ ready i p counts weights c.loop-i.invariant.1 told.0 told.1)

pub returns : goal.returns
returns c =
    let E : EdgeList = list_of c.args.list in
    let h : Modulus = c.modulus_of-h.result in
    let v : Modulus = c.modulus_of-v.result in
    let h-is : h.n ≡ c.args.periods.h = modulus-n _ _ c.modulus_of-h.ensures in
    let v-is : v.n ≡ c.args.periods.v = modulus-n _ _ c.modulus_of-v.ensures in
    let l = c.loop-i in
    let e : l.i ≡ length c.args.list.edges.rows.now = omega (arith, l.invariant.0, c.loop-i-test.false) in
    filled-held _ _ _ _ E c.args.t c.args.base h-is v-is _ _ e _ _ _ _ l.invariant.1
