use Rattle.std.specs.Prelude.{Ok}
use mathlib.Core.Path.{sym, ap, ◌∙◌}
use Rattle.ten_fields.specs.TenFields.{ten_fields}
use Rattle.ten_fields.proofs.ten_fields.Goals as goal

pub returns-in-Hard : goal.returns-in-Hard
returns-in-Hard c = ap Ok c.ten_of_hard.ensures ∙ ap ten_fields (sym c.in-Hard.is)

pub returns-in-Soft : goal.returns-in-Soft
returns-in-Soft c = ap Ok c.ten_of_soft.ensures ∙ ap ten_fields (sym c.in-Soft.is)

pub returns-in-Refused : goal.returns-in-Refused
returns-in-Refused c = ap ten_fields (sym c.in-Refused.is)
