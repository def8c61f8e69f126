use mathlib.Core.Path.{◌≡◌, subst, ◌∙◌}
use Prim.Native.Nat.{ℕ}
use native.Mathlib.Omega.{arith}
use lib.ListN.{length}
use Rattle.exact.specs.SelectLaws.{ExactScanDone, scan-none, scan-more, scan-count, value-rooms-ready, value-room-beyond, value-room-ready}
use Rattle.exact.proofs.select.scan_values.Goals as goal
use Rattle.board.specs.Given.{board_of, list_of}

pub loop-i-init : goal.loop-i-init
loop-i-init c =
    let n = scan-none (board_of c.args.tables) (let a = c.args in list_of a.list) (c.args.transforms.now) (c.args.units.now) in
    (omega arith, record { answer = c.empty_exact-scan.ensures ∙ n.answer; room = n.room })

pub build_units-requires : goal.build_units-requires
build_units-requires c =
    value-rooms-ready (board_of c.args.tables) (let a = c.args in list_of a.list) (c.args.transforms.now) (c.args.units.now) c.requires (c.loop-i.i) c.loop-i.units (c.loop-i.invariant.1).room c.loop-i-test.true

pub fold_value_room-scan-requires : goal.fold_value_room-scan-requires
fold_value_room-scan-requires c =
    record {
      value_room_ready = value-room-ready (board_of c.args.tables) (let a = c.args in list_of a.list) _ c.loop-i.units _ (value-rooms-ready (board_of c.args.tables) (let a = c.args in list_of a.list) (c.args.transforms.now) (c.args.units.now) c.requires (c.loop-i.i) c.loop-i.units (c.loop-i.invariant.1).room c.loop-i-test.true) c.build_units.ensures;
      count_bound = omega (arith, scan-count (board_of c.args.tables) (let a = c.args in list_of a.list) (c.args.transforms.now) (c.args.units.now) (c.loop-i.i) c.loop-i.units c.loop-i.scan (c.loop-i.invariant.1), c.loop-i-test.true, c.requires.transforms.1);
    }

pub overflow_step-i : goal.overflow_step-i
overflow_step-i c = omega (arith, c.loop-i-test.true, c.requires.transforms.1)

pub loop-i-preserved : goal.loop-i-preserved
loop-i-preserved c =
    (omega arith, scan-more (board_of c.args.tables) (let a = c.args in list_of a.list) (c.args.transforms.now) (c.args.units.now) c.requires (c.loop-i.i) c.loop-i.units _ c.loop-i.scan c.fold_value_room-scan.result c.loop-i-test.true (c.loop-i.invariant.1) c.build_units.ensures c.fold_value_room-scan.ensures)

pub shape_of-units : goal.shape_of-units
shape_of-units c = (value-room-beyond (board_of c.args.tables) (let a = c.args in list_of a.list) (c.args.transforms.now) (c.args.units.now) c.requires c.loop-i.i c.loop-i.units c.loop-i.invariant.1.room).len

pub returns : goal.returns
returns c =
    let e : c.loop-i.i ≡ length (c.args.transforms.now) = omega (arith, c.loop-i.invariant.0) in
    subst (λ (n : ℕ). ExactScanDone (board_of c.args.tables) (let a = c.args in list_of a.list) (c.args.transforms.now) n (c.args.units.now) c.loop-i.units c.loop-i.scan) e c.loop-i.invariant.1
