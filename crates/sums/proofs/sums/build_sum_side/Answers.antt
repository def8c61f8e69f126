use mathlib.Core.Path.{◌≡◌, ap, subst, ◌∙◌}
use Prim.Native.Nat.{ℕ}
use native.Mathlib.Nat.{sub-zero}
use native.Mathlib.Omega.{arith}
use lib.ListN.{length, length-drop}
use Rattle.board.specs.Sides.{table_of, period_of}
use Rattle.room.specs.Room.{is_horizontal}
use Rattle.sums.specs.SumParts.{SideCellsZ}
use Rattle.sums.specs.SumPartsLaws.{side-none_z, family-ready_z, side-more_z}
use Rattle.sums.proofs.sums.build_sum_side.Goals as goal
use Rattle.board.specs.Given.{board_of}

pub loop-family-init : goal.loop-family-init
loop-family-init c =
    let a = c.args in
    (omega arith, side-none_z (board_of a.tables) a.side _ _ c.requires)

pub credit_sum_family-requires : goal.credit_sum_family-requires
credit_sum_family-requires c =
    let period : length c.patterns_from-period.result.now ≡ period_of (board_of c.args.tables) (is_horizontal c.args.side) = ap length c.patterns_from-period.ensures ∙ length-drop 0 (table_of (board_of c.args.tables) (is_horizontal c.args.side)) ∙ sub-zero (period_of (board_of c.args.tables) (is_horizontal c.args.side)) in
    family-ready_z (board_of c.args.tables) (c.args.side) _ _ c.requires c.loop-family.family (omega (arith, period, c.loop-family-test.true)) _ c.loop-family.invariant.1

pub loop-family-preserved : goal.loop-family-preserved
loop-family-preserved c =
    let period : length c.patterns_from-period.result.now ≡ period_of (board_of c.args.tables) (is_horizontal c.args.side) = ap length c.patterns_from-period.ensures ∙ length-drop 0 (table_of (board_of c.args.tables) (is_horizontal c.args.side)) ∙ sub-zero (period_of (board_of c.args.tables) (is_horizontal c.args.side)) in
    (omega arith, side-more_z (board_of c.args.tables) (c.args.side) _ _ c.requires c.loop-family.family (omega (arith, period, c.loop-family-test.true)) _ c.loop-family.invariant.1 _ c.credit_sum_family.ensures)

pub shape_of-sums : goal.shape_of-sums
shape_of-sums c = c.loop-family.invariant.1.len

pub returns : goal.returns
returns c =
    let period : length c.patterns_from-period.result.now ≡ period_of (board_of c.args.tables) (is_horizontal c.args.side) = ap length c.patterns_from-period.ensures ∙ length-drop 0 (table_of (board_of c.args.tables) (is_horizontal c.args.side)) ∙ sub-zero (period_of (board_of c.args.tables) (is_horizontal c.args.side)) in
    let a = c.args in
    let e : c.loop-family.family ≡ period_of (board_of c.args.tables) (is_horizontal (c.args.side)) = omega (arith, period, c.loop-family-test.false, c.loop-family.invariant.0) in
    subst (λ (n : ℕ). SideCellsZ (board_of c.args.tables) (c.args.side) a.also n a.sums.now c.loop-family.sums) e c.loop-family.invariant.1
