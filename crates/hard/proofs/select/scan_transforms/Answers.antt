use mathlib.Core.Path.{◌≡◌, subst, ◌∙◌}
use Prim.Native.Nat.{ℕ}
use native.Mathlib.Omega.{arith}
use lib.ListN.{length}
use Rattle.hard.specs.SelectLaws.{ScanDone, scan-none, scan-more, scan-count, rooms-ready, rooms-length, room-ready}
use Rattle.hard.proofs.select.scan_transforms.Goals as goal
use Rattle.board.specs.Given.{board_of, list_of}

pub overflow_cast-edges : goal.overflow_cast-edges
overflow_cast-edges c = omega (arith, c.requires.list.few)

pub loop-i-init : goal.loop-i-init
loop-i-init c =
    let s = c in
    let n = scan-none (board_of s.args.tables) (list_of s.args.list) s.args.transforms.now s.args.confidence s.args.error_limit s.args.counts.now s.args.weights.now in
    (omega arith, record { answer = c.empty-scan.ensures ∙ n.answer; rooms = n.rooms })

pub build_tables-requires : goal.build_tables-requires
build_tables-requires c =
    let a = c.args in
    let B = board_of a.tables in
    let E = list_of a.list in
    let l = c.loop-i in
    rooms-ready B E a.transforms.now _ _ c.requires l.i l.counts l.weights l.invariant.1.rooms c.loop-i-test.true

pub fold_room-scan-requires : goal.fold_room-scan-requires
fold_room-scan-requires c =
    let a = c.args in
    let B = board_of a.tables in
    let E = list_of a.list in
    let l = c.loop-i in
    record {
      room_ready = room-ready B E _ l.counts _ l.weights _ (rooms-ready B E a.transforms.now _ _ c.requires l.i _ _ l.invariant.1.rooms c.loop-i-test.true) c.build_tables.ensures;
      count_bound = omega (arith, scan-count B E a.transforms.now a.confidence a.error_limit _ _ l.i _ _ _ l.invariant.1, c.loop-i-test.true, c.requires.transforms.1);
    }

pub overflow_step-i : goal.overflow_step-i
overflow_step-i c = omega (arith, c.loop-i-test.true, c.requires.transforms.1)

pub loop-i-preserved : goal.loop-i-preserved
loop-i-preserved c =
    let a = c.args in
    let B = board_of a.tables in
    let E = list_of a.list in
    let l = c.loop-i in
    (omega arith, scan-more B E a.transforms.now a.confidence a.error_limit _ _ c.requires l.i _ _ _ _ _ _ c.loop-i-test.true l.invariant.1 c.build_tables.ensures c.fold_room-scan.ensures)

pub shape_of-counts : goal.shape_of-counts
shape_of-counts c = let s = c in (rooms-length _ _ _ _ _ s.requires c.loop-i.i _ _ c.loop-i.invariant.1.rooms).0

pub shape_of-weights : goal.shape_of-weights
shape_of-weights c = let s = c in (rooms-length _ _ _ _ _ s.requires c.loop-i.i _ _ c.loop-i.invariant.1.rooms).1

pub returns : goal.returns
returns c =
    let s = c in
    let e : c.loop-i.i ≡ length s.args.transforms.now = omega (arith, c.loop-i.invariant.0) in
    subst (λ (n : ℕ). ScanDone (board_of s.args.tables) (list_of s.args.list) s.args.transforms.now s.args.confidence s.args.error_limit n s.args.counts.now c.loop-i.counts s.args.weights.now c.loop-i.weights c.loop-i.scan) e c.loop-i.invariant.1
