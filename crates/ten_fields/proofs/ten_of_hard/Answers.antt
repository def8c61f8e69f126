use Rattle.ten_fields.specs.TenFields.{ten_of_hard}
use Rattle.ten_fields.proofs.ten_of_hard.Goals as goal

pub returns : goal.returns
unfolding ten_of_hard
returns c = rw (c.score_of-runner_up_score.ensures, c.score_of-margin.ensures)
