use mathlib.Core.Path.{◌≡◌, ap, subst, ◌∙◌}
use Prim.Native.Nat.{ℕ, ◌-◌}
use native.Mathlib.Nat.{sub-zero}
use native.Mathlib.Omega.{arith}
use lib.ListN.{length, length-drop}
use Rattle.board.specs.Sides.{table_of, period_of}
use Rattle.room.specs.Room.{is_horizontal}
use Rattle.tables.specs.Side.{SideCells}
use Rattle.tables.specs.SideLaws.{side-none, family-ready, side-more}
use Rattle.tables.proofs.build.build_side.Goals as goal
use Rattle.board.specs.Given.{board_of}

pub loop-nth-init : goal.loop-nth-init
loop-nth-init c =
    let a = c.args in
    (omega arith, omega arith, side-none (board_of a.tables) a.side _ _ c.requires)

pub credit_family-requires : goal.credit_family-requires
credit_family-requires c =
    let period : length c.patterns_from-period.result.now ≡ period_of (board_of c.args.tables) (is_horizontal c.args.side) = ap length c.patterns_from-period.ensures ∙ length-drop 0 (table_of (board_of c.args.tables) (is_horizontal c.args.side)) ∙ sub-zero (period_of (board_of c.args.tables) (is_horizontal c.args.side)) in
    family-ready (board_of c.args.tables) (c.args.side) _ _ c.requires _ (omega (arith, period, c.loop-nth-test.true, c.loop-nth.invariant.0)) _ _ c.loop-nth.invariant.2

pub loop-nth-preserved : goal.loop-nth-preserved
loop-nth-preserved c =
    let period : length c.patterns_from-period.result.now ≡ period_of (board_of c.args.tables) (is_horizontal c.args.side) = ap length c.patterns_from-period.ensures ∙ length-drop 0 (table_of (board_of c.args.tables) (is_horizontal c.args.side)) ∙ sub-zero (period_of (board_of c.args.tables) (is_horizontal c.args.side)) in
    (omega arith, omega arith, side-more (board_of c.args.tables) (c.args.side) _ _ c.requires _ (omega (arith, period, c.loop-nth-test.true, c.loop-nth.invariant.0)) _ _ c.loop-nth.invariant.2 _ (omega (arith, c.loop-nth.invariant.0)) _ _ c.credit_family.ensures)

pub shape_of-counts : goal.shape_of-counts
shape_of-counts c = c.loop-nth.invariant.2.counts.len

pub shape_of-weights : goal.shape_of-weights
shape_of-weights c = c.loop-nth.invariant.2.weights.len

pub returns : goal.returns
returns c =
    let period : length c.patterns_from-period.result.now ≡ period_of (board_of c.args.tables) (is_horizontal c.args.side) = ap length c.patterns_from-period.ensures ∙ length-drop 0 (table_of (board_of c.args.tables) (is_horizontal c.args.side)) ∙ sub-zero (period_of (board_of c.args.tables) (is_horizontal c.args.side)) in
    let a = c.args in
    let e : c.loop-nth.nth - 1 ≡ period_of (board_of c.args.tables) (is_horizontal (c.args.side)) = omega (arith, period, c.loop-nth-test.false, c.loop-nth.invariant.1) in
    subst (λ (n : ℕ). SideCells (board_of c.args.tables) (c.args.side) n a.counts.now c.loop-nth.counts a.weights.now c.loop-nth.weights) e c.loop-nth.invariant.2
