use Rattle.std.specs.Prelude.{Err}
use mathlib.Core.Path.{sym, ap, ◌∙◌}
use lib.ListN.{length}
use Rattle.within.specs.WithinLaws.{open-below, told-yes, told-fault, told-no}
use Rattle.within.proofs.conclude.Goals as goal
use Rattle.board.specs.Given.{list_of}

-- the list

pub returns-then-allowed : goal.returns-then-allowed
returns-then-allowed c = told-yes (let a = c.args in list_of a.list) c.args.error_limit c.args.stop (sym c.allowed.ensures ∙ c.if-allowed.true)

pub fault_at-number-requires : goal.fault_at-number-requires
fault_at-number-requires c =
    (c.requires.columns, open-below (length c.args.list.edges.rows.now) c.args.error_limit c.args.stop.read c.args.stop.hits c.requires.hits_le_read.1 (sym c.allowed.ensures ∙ c.if-allowed.false) (sym c.allowed-2.ensures ∙ c.if-allowed-2.true))

pub returns-then-allowed-2 : goal.returns-then-allowed-2
returns-then-allowed-2 c =
    ap Err c.edge_refusal.ensures
    ∙ told-fault (let a = c.args in list_of a.list) c.args.error_limit c.args.stop (sym c.allowed.ensures ∙ c.if-allowed.false) _ c.fault_at-number.ensures (sym c.allowed-2.ensures ∙ c.if-allowed-2.true)

pub returns : goal.returns
returns c =
    told-no (let a = c.args in list_of a.list) c.args.error_limit c.args.stop (sym c.allowed.ensures ∙ c.if-allowed.false) (sym c.allowed-2.ensures ∙ c.if-allowed-2.false)
