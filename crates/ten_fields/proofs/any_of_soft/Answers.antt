use mathlib.Core.Path.{sym, ap}
use Rattle.ten_fields.specs.TenFields.{any_of_soft}
use Rattle.ten_fields.proofs.any_of_soft.Goals as goal

pub returns-in-Ok : goal.returns-in-Ok
returns-in-Ok c = ap any_of_soft (sym c.in-Ok.is)

pub returns-in-Err : goal.returns-in-Err
returns-in-Err c = ap any_of_soft (sym c.in-Err.is)
