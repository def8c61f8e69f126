use Rattle.std.specs.Prelude.{Err}
use lib.Ieee.{of_bits}
use mathlib.Core.Path.{ap, ◌∙◌}
use Rattle.tally_checks.proofs.JudgedLaws.{missing-refused, missing-taken}
use Rattle.tally_checks.proofs.judge_missing.Goals as goal

pub returns-in-Err : goal.returns-in-Err
unfolding of_bits
returns-in-Err c = missing-refused c.args.position _ _ c.judge_edge-judged.result c.judge_edge-judged.ensures _ c.in-Err.is

pub returns-in-Ok : goal.returns-in-Ok
unfolding of_bits
returns-in-Ok c = ap Err c.numbered.ensures ∙ missing-taken c.args.position _ _ c.judge_edge-judged.result c.judge_edge-judged.ensures _ c.in-Ok.is
