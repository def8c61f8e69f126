use mathlib.Core.Path.{sym, ◌∙◌}
use native.Mathlib.Omega.{arith}
use Rattle.exact.specs.SelectLaws.{list-units, exact-refused, exact-finished, scan-sound}
use Rattle.exact.proofs.select.select_exact.Goals as goal
use Rattle.board.specs.Given.{board_of, list_of}

pub unit_sum-requires : goal.unit_sum-requires
unit_sum-requires c = list-units (let a = c.args in list_of a.list) c.requires.list

pub returns-then-unit_sum-eq0 : goal.returns-then-unit_sum-eq0
returns-then-unit_sum-eq0 c = exact-refused (board_of c.args.tables) (let a = c.args in list_of a.list) (c.args.transforms.now) c.args.error_limit (c.args.units.now) (sym c.unit_sum.ensures ∙ c.if-unit_sum-eq0.true)

pub overflow_cast-edges : goal.overflow_cast-edges
overflow_cast-edges c = omega (arith, c.requires.list.few)

pub finish_exact-requires : goal.finish_exact-requires
finish_exact-requires c =
    scan-sound (board_of c.args.tables) (let a = c.args in list_of a.list) (c.args.transforms.now) c.args.error_limit (c.args.units.now) c.requires _ c.scan_values-scan.result c.scan_values-scan.ensures

pub returns : goal.returns
returns c =
    exact-finished (board_of c.args.tables) (let a = c.args in list_of a.list) (c.args.transforms.now) c.args.error_limit (c.args.units.now) _ c.scan_values-scan.result c.finish_exact.result (λ e. c.if-unit_sum-eq0.false (c.unit_sum.ensures ∙ e)) c.scan_values-scan.ensures c.finish_exact.ensures
