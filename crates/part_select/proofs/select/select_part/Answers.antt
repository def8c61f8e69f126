use mathlib.Core.Path.{sym, subst, ◌∙◌}
use Rattle.exact.specs.SelectLaws.{list-units}
use Rattle.part.specs.Part.{RunsOk}
use Rattle.part.specs.PartLaws.{runs-ok}
use Rattle.part_select.proofs.SelectLaws.{scan-part-sound, part-refused, part-finished}
use Rattle.part_select.proofs.select.select_part.Goals as goal
use Rattle.board.specs.Given.{board_of, list_of}

pub unit_sum-requires : goal.unit_sum-requires
unit_sum-requires c = list-units (let a = c.args in list_of a.list) c.requires.flat.ready.list

pub returns-then-unit_sum-eq0 : goal.returns-then-unit_sum-eq0
returns-then-unit_sum-eq0 c = part-refused (board_of c.args.tables) (let a = c.args in list_of a.list) (c.args.transforms.now) c.args.part c.args.error_limit (c.args.units.now) (sym c.unit_sum.ensures ∙ c.if-unit_sum-eq0.true)

pub scan_part-kept-requires : goal.scan_part-kept-requires
scan_part-kept-requires c =
    record {
      flat_ready = c.requires.flat;
      runs_ok = (subst RunsOk (sym c.runs_of-down.ensures) (runs-ok _ _ c.requires.range.down), subst RunsOk (sym c.runs_of-across.ensures) (runs-ok _ _ c.requires.range.across));
    }

pub finish_part-requires : goal.finish_part-requires
finish_part-requires c = scan-part-sound (board_of c.args.tables) (let a = c.args in list_of a.list) (c.args.transforms.now) (c.args.units.now) _ c.runs_of-down.result c.runs_of-across.result c.scan_part-kept.result c.requires.flat c.scan_part-kept.ensures

pub returns : goal.returns
returns c = part-finished (board_of c.args.tables) (let a = c.args in list_of a.list) (c.args.transforms.now) c.args.part c.args.error_limit (c.args.units.now) _ c.runs_of-down.result c.runs_of-across.result c.scan_part-kept.result c.finish_part.result (λ e. c.if-unit_sum-eq0.false (c.unit_sum.ensures ∙ e)) c.runs_of-down.ensures c.runs_of-across.ensures c.scan_part-kept.ensures c.finish_part.ensures
