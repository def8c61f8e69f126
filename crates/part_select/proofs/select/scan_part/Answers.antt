use mathlib.Core.Path.{◌≡◌, subst}
use Prim.Native.Nat.{ℕ}
use native.Mathlib.Omega.{arith}
use lib.ListN.{length}
use Rattle.exact.specs.SelectLaws.{value-rooms-ready, value-room-beyond, value-room-ready}
use Rattle.part_select.specs.Select.{PartScanDone}
use Rattle.part_select.proofs.SelectLaws.{scan-part-none, scan-part-more}
use Rattle.part_select.proofs.select.scan_part.Goals as goal
use Rattle.board.specs.Given.{board_of, list_of}

pub loop-i-init : goal.loop-i-init
loop-i-init c = (omega arith, scan-part-none (board_of c.args.tables) (let a = c.args in list_of a.list) (c.args.transforms.now) c.args.down c.args.across (c.args.units.now) c.requires.flat_ready)

pub build_units-requires : goal.build_units-requires
build_units-requires c =
    value-rooms-ready (board_of c.args.tables) (let a = c.args in list_of a.list) (c.args.transforms.now) (c.args.units.now) c.requires.flat_ready.ready (c.loop-i.i) c.loop-i.units (c.loop-i.invariant.1).room c.loop-i-test.true

pub offer_room-kept-requires : goal.offer_room-kept-requires
offer_room-kept-requires c =
    record {
      value_room_ready = (value-room-ready (board_of c.args.tables) (let a = c.args in list_of a.list) _ c.loop-i.units _ (value-rooms-ready (board_of c.args.tables) (let a = c.args in list_of a.list) (c.args.transforms.now) (c.args.units.now) c.requires.flat_ready.ready (c.loop-i.i) c.loop-i.units (c.loop-i.invariant.1).room c.loop-i-test.true) c.build_units.ensures, c.requires.flat_ready.h, c.requires.flat_ready.v);
      listed_bound = (omega (arith, c.loop-i-test.true, c.requires.flat_ready.ready.transforms.1), c.requires.runs_ok.0, c.requires.runs_ok.1);
    }

pub overflow_step-i : goal.overflow_step-i
overflow_step-i c = omega (arith, c.loop-i-test.true, c.requires.flat_ready.ready.transforms.1)

pub loop-i-preserved : goal.loop-i-preserved
loop-i-preserved c =
    (omega arith, scan-part-more (board_of c.args.tables) (let a = c.args in list_of a.list) (c.args.transforms.now) c.args.down c.args.across (c.args.units.now) c.requires.flat_ready (c.loop-i.i) c.loop-i.units _ c.loop-i.kept c.offer_room-kept.result c.loop-i-test.true (c.loop-i.invariant.1) c.build_units.ensures c.offer_room-kept.ensures)

pub shape_of-units : goal.shape_of-units
shape_of-units c = (value-room-beyond (board_of c.args.tables) (let a = c.args in list_of a.list) (c.args.transforms.now) (c.args.units.now) c.requires.flat_ready.ready c.loop-i.i c.loop-i.units c.loop-i.invariant.1.room).len

pub returns : goal.returns
returns c =
    let e : c.loop-i.i ≡ length (c.args.transforms.now) = omega (arith, c.loop-i.invariant.0) in
    subst (λ (n : ℕ). PartScanDone (board_of c.args.tables) (let a = c.args in list_of a.list) (c.args.transforms.now) c.args.down c.args.across n (c.args.units.now) c.loop-i.units c.loop-i.kept) e c.loop-i.invariant.1
