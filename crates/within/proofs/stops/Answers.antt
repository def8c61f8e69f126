use mathlib.Core.Path.{sym, ◌∙◌}
use Rattle.within.specs.WithinLaws.{stops-certain, stops-fault}
use Rattle.within.proofs.stops.Goals as goal
use Rattle.board.specs.Given.{list_of}

-- the list

pub returns-then-is_certain : goal.returns-then-is_certain
returns-then-is_certain c = stops-certain (let a = c.args in list_of a.list) c.args.error_limit c.args.i c.args.hits (sym c.if-is_certain.true ∙ c.is_certain.ensures)

pub returns : goal.returns
returns c = stops-fault (let a = c.args in list_of a.list) c.args.error_limit c.args.i c.args.hits (sym c.is_certain.ensures ∙ c.if-is_certain.false) _ c.fault_at.ensures
