-- Each way out is the case of the definition that the match told.
use Rattle.findings.specs.FindingsLaws.{else-accepted, else-refused}
use Rattle.findings.proofs.or_else.Goals as goal

pub returns-in-Ok : goal.returns-in-Ok
returns-in-Ok c = else-accepted _ _ c.in-Ok.is

pub returns-in-Err : goal.returns-in-Err
returns-in-Err c = else-refused _ _ _ c.in-Err.is
