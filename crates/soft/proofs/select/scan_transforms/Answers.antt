use mathlib.Core.Path.{◌≡◌, subst, ◌∙◌}
use Prim.Native.Nat.{ℕ}
use native.Mathlib.Omega.{arith}
use lib.ListN.{length}
use Rattle.sums.specs.Sums.{likelihoods}
use Rattle.sums.specs.SumsTheorems.{bare-ready, bare-built}
use Rattle.soft.specs.Select.{SoftScanned}
use Rattle.soft.specs.SelectLaws.{scan-none, scan-more, scan-count, room_next, room-length, room-ready}
use Rattle.soft.proofs.select.scan_transforms.Goals as goal
use Rattle.board.specs.Given.{board_of, list_of}
use Rattle.likelihood.specs.Given.{likelihoods_of}

pub loop-i-init : goal.loop-i-init
loop-i-init c =
    let n = scan-none (board_of c.args.tables) (list_of c.args.list) (likelihoods_of c.args.likelihoods) c.args.transforms.now c.args.sums.now c.requires in
    (omega arith, record { answer = c.empty-scan.ensures ∙ n.answer; room = n.room })

pub build_sums-requires : goal.build_sums-requires
build_sums-requires c = bare-ready (board_of c.args.tables) (let a = c.args in list_of a.list) (likelihoods_of c.args.likelihoods) _ _ (room_next (board_of c.args.tables) (let a = c.args in list_of a.list) (likelihoods_of c.args.likelihoods) (c.args.transforms.now) _ c.requires (c.loop-i.i) c.loop-i.sums (c.loop-i.invariant.1).room c.loop-i-test.true)

pub fold_room-scan-requires : goal.fold_room-scan-requires
fold_room-scan-requires c =
    record {
      sums_room_ready = room-ready (board_of c.args.tables) (let a = c.args in list_of a.list) (likelihoods_of c.args.likelihoods) (c.args.transforms.now) _ c.requires _ c.loop-i.sums _ (room_next (board_of c.args.tables) (let a = c.args in list_of a.list) (likelihoods_of c.args.likelihoods) (c.args.transforms.now) _ c.requires (c.loop-i.i) _ (c.loop-i.invariant.1).room c.loop-i-test.true) (bare-built (board_of c.args.tables) (let a = c.args in list_of a.list) (likelihoods_of c.args.likelihoods) _ _ _ c.build_sums.ensures);
      count_bound = omega (arith, scan-count (board_of c.args.tables) (let a = c.args in list_of a.list) (likelihoods_of c.args.likelihoods) (c.args.transforms.now) _ c.requires (c.loop-i.i) _ _ (c.loop-i.invariant.1), c.loop-i-test.true, c.requires.transforms.1);
    }

pub overflow_step-i : goal.overflow_step-i
overflow_step-i c = omega (arith, c.loop-i-test.true, c.requires.transforms.1)

pub loop-i-preserved : goal.loop-i-preserved
loop-i-preserved c = (omega arith, scan-more (board_of c.args.tables) (let a = c.args in list_of a.list) (likelihoods_of c.args.likelihoods) (c.args.transforms.now) _ c.requires (c.loop-i.i) _ _ _ _ c.loop-i-test.true (c.loop-i.invariant.1) (bare-built (board_of c.args.tables) (let a = c.args in list_of a.list) (likelihoods_of c.args.likelihoods) _ _ _ c.build_sums.ensures) c.fold_room-scan.ensures)

pub shape_of-sums : goal.shape_of-sums
shape_of-sums c = room-length _ _ _ _ _ c.requires c.loop-i.i _ c.loop-i.invariant.1.room

pub returns : goal.returns
returns c =
    let e : c.loop-i.i ≡ length c.args.transforms.now = omega (arith, c.loop-i.invariant.0) in
    subst (λ (n : ℕ). SoftScanned (board_of c.args.tables) (list_of c.args.list) (likelihoods_of c.args.likelihoods) c.args.transforms.now n c.args.sums.now c.loop-i.sums c.loop-i.scan) e c.loop-i.invariant.1
