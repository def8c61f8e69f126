use Rattle.ten_fields.specs.TenFields.{ten_of_soft}
use Rattle.ten_fields.proofs.ten_of_soft.Goals as goal

pub returns : goal.returns
unfolding ten_of_soft
returns c = rw c.score_of-runner_up_score.ensures
