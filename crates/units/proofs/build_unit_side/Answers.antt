use mathlib.Core.Path.{◌≡◌, ap, ◌∙◌}
use native.Mathlib.Nat.{sub-zero}
use native.Mathlib.Omega.{arith}
use lib.ListN.{length, length-drop}
use Rattle.board.specs.Hits.{Board}
use Rattle.board.specs.Sides.{table_of, period_of}
use Rattle.room.specs.declared.Side.{Side}
use Rattle.room.specs.Room.{is_horizontal}
use Rattle.units.specs.UnitPartsLaws.{side-none_u, family-ready_u, side-more_u}
use Rattle.units.proofs.build_unit_side.Goals as goal
use Rattle.board.specs.Given.{board_of}

pub loop-family-init : goal.loop-family-init
loop-family-init c = (omega arith, side-none_u (board_of c.args.tables) c.args.side _ c.requires)

pub credit_unit_family-requires : goal.credit_unit_family-requires
credit_unit_family-requires c =
    let B : Board = board_of c.args.tables in
    let d : Side = c.args.side in
    let period : length c.patterns_from-period.result.now ≡ period_of B (is_horizontal d) = ap length c.patterns_from-period.ensures ∙ length-drop 0 (table_of B (is_horizontal d)) ∙ sub-zero (period_of B (is_horizontal d)) in
    family-ready_u B d _ c.requires c.loop-family.family (omega (arith, period, c.loop-family-test.true)) _ c.loop-family.invariant.1

pub loop-family-preserved : goal.loop-family-preserved
loop-family-preserved c =
    let B : Board = board_of c.args.tables in
    let d : Side = c.args.side in
    let period : length c.patterns_from-period.result.now ≡ period_of B (is_horizontal d) = ap length c.patterns_from-period.ensures ∙ length-drop 0 (table_of B (is_horizontal d)) ∙ sub-zero (period_of B (is_horizontal d)) in
    (omega arith, side-more_u B d _ c.requires c.loop-family.family (omega (arith, period, c.loop-family-test.true)) _ c.loop-family.invariant.1 _ c.credit_unit_family.ensures)
