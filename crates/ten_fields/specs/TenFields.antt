-- Document 01's answer of ten fields, from the answers of request C-12: "The old fields stay derivable and equal to the Rust."
use Rattle.std.specs.Prelude.{cond, ℕ, ltb, pos, Float, Err, Ok}
use Rattle.std.specs.Float.{nan, binary32}
use Rattle.std.specs.Float.Ieee.{of_int}
use Rattle.answer.specs.declared.Decoded.{Decoded}
use Rattle.answer.specs.declared.SoftDecoded.{SoftDecoded}
use Rattle.answer.specs.Answers.{Answer}
use Rattle.answer.specs.Answers.{SoftAnswer}
use Rattle.answer.specs.declared.AnyAnswer.{AnyAnswer}
use Rattle.answer.specs.declared.AnyAnswer.TheVariants as any
use Rattle.ten_fields.specs.declared.TenFields.{TenFields}
use Rattle.ten_fields.specs.Answers.{TenAnswer}

-- a hard answer, and a soft one, as one of either decoder's
abbrev pub any_of_hard : Answer → AnyAnswer
any_of_hard (Ok d) = any.Hard d
any_of_hard (Err r) = any.Refused r

abbrev pub any_of_soft : SoftAnswer → AnyAnswer
any_of_soft (Ok d) = any.Soft d
any_of_soft (Err r) = any.Refused r

-- a count as an f32: every whole number up to 2^24 is one. (Above it, where no count of an answer is, NaN.)
unfoldable pub as_score : ℕ → Float
as_score n = cond (ltb 16777216 n) nan (of_int binary32 (pos n))

-- "runner-up hits as score, margin": both are counts in a hard answer
unfoldable pub ten_of_hard : Decoded → TenFields
unfolding as_score
ten_of_hard d = record {
  square = d.square;
  hits = d.hits;
  edges = d.edges;
  weighted_score = d.weighted_score;
  error_rate = d.error_rate;
  mean_confidence = d.mean_confidence;
  best_score = d.best_score;
  runner_up_score = as_score d.runner_up_hits;
  margin = as_score d.margin_hits;
  runner_up = d.runner_up;
}

-- "the runner-up fields are replaced by the hard runner-up (score = its hits); the margin stays"
unfoldable pub ten_of_soft : SoftDecoded → TenFields
unfolding as_score
ten_of_soft d = record {
  square = d.square;
  hits = d.hits;
  edges = d.edges;
  weighted_score = d.weighted_score;
  error_rate = d.error_rate;
  mean_confidence = d.mean_confidence;
  best_score = d.best_score;
  runner_up_score = as_score d.runner_up_hits;
  margin = d.margin;
  runner_up = d.runner_up;
}

-- the answer of either decoder as document 01 has it
abbrev pub ten_fields : AnyAnswer → TenAnswer
ten_fields (any.Hard d) = Ok (ten_of_hard d)
ten_fields (any.Soft d) = Ok (ten_of_soft d)
ten_fields (any.Refused r) = Err r
