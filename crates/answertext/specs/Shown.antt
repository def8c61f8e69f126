-- What the found answers of all decoders have in common, field by field.
use Rattle.std.specs.Prelude.{ℕ, Float}
use Rattle.answer.specs.declared.Decoded.{Decoded}
use Rattle.answer.specs.declared.SoftDecoded.{SoftDecoded}
use Rattle.exact_answer.specs.declared.ExactDecoded.{ExactDecoded}
use Rattle.locate_answer.specs.declared.Located.{Located}
use Rattle.answertext.specs.declared.shown.Shown.{Shown}

-- of a hard answer
abbrev pub shown_of_hard : Decoded → Shown
shown_of_hard d = record { square = d.square; hits = d.hits; edges = d.edges; error_rate = d.error_rate; runner_up = d.runner_up; runner_up_hits = d.runner_up_hits }

-- of a soft answer: the second by likelihood is told beside it
abbrev pub shown_of_soft : SoftDecoded → Shown
shown_of_soft d = record { square = d.square; hits = d.hits; edges = d.edges; error_rate = d.error_rate; runner_up = d.runner_up; runner_up_hits = d.runner_up_hits }

-- of an exact answer: the weights are told beside it
abbrev pub shown_of_exact : ExactDecoded → Shown
shown_of_exact d = record { square = d.square; hits = d.hits; edges = d.edges; error_rate = d.error_rate; runner_up = d.runner_up; runner_up_hits = d.runner_up_hits }

-- of what is located without tables: the edges of its list and the error rate are told with it
abbrev pub shown_of_located : Located → ℕ → Float → Shown
shown_of_located l edges rate = record { square = l.square; hits = l.hits; edges = edges; error_rate = rate; runner_up = l.runner_up; runner_up_hits = l.runner_up_hits }
