-- The answer of soft decode as a struct of plain numbers. C-12: "separate places for the hard runner-up's hits and the soft second-best total, both always filled in a soft answer"; a refusal has none.
use Rattle.std.specs.Prelude.{ℕ, Float, Err, Ok}
use Rattle.std.specs.Float.{nan}
use Rattle.refusals.specs.declared.Refusal.{Refusal}
use Rattle.answer.specs.declared.SoftDecoded.{SoftDecoded}
use Rattle.answer.specs.Answers.{SoftAnswer}
use Rattle.flat.specs.declared.flat_soft.FlatSoft.{FlatSoft}
use Rattle.flat.specs.Flat.{nothing, not_refused, flat_list, flat_position}

-- a found answer: not refused, about no edge, and each field of the answer at its place
abbrev pub flat_soft_found : SoftDecoded → FlatSoft
flat_soft_found d = record {
  refusal = not_refused;
  list = nothing;
  position = nothing;
  transform = d.square.transform;
  row = d.square.row;
  col = d.square.col;
  hits = d.hits;
  edges = d.edges;
  weighted_score = d.weighted_score;
  error_rate = d.error_rate;
  mean_confidence = d.mean_confidence;
  best_score = d.best_score;
  second_transform = d.second.transform;
  second_row = d.second.row;
  second_col = d.second.col;
  second_score = d.second_score;
  margin = d.margin;
  runner_up_transform = d.runner_up.transform;
  runner_up_row = d.runner_up.row;
  runner_up_col = d.runner_up.col;
  runner_up_hits = d.runner_up_hits;
}

-- a refusal: its number, the list and the position of its edge, 0xFFFFFFFF for every other whole number, and x for every float
abbrev pub soft_refused_with : ℕ → ℕ → ℕ → Float → FlatSoft
soft_refused_with n l i x = record {
  refusal = n;
  list = l;
  position = i;
  transform = nothing;
  row = nothing;
  col = nothing;
  hits = nothing;
  edges = nothing;
  weighted_score = x;
  error_rate = x;
  mean_confidence = x;
  best_score = x;
  second_transform = nothing;
  second_row = nothing;
  second_col = nothing;
  second_score = x;
  margin = x;
  runner_up_transform = nothing;
  runner_up_row = nothing;
  runner_up_col = nothing;
  runner_up_hits = nothing;
}

-- and x is NaN
abbrev pub flat_soft_refused : Refusal → FlatSoft
flat_soft_refused r = soft_refused_with r.number (flat_list r.place) (flat_position r.place) nan

-- the answer of soft decode
abbrev pub flat_soft : SoftAnswer → FlatSoft
flat_soft (Ok d) = flat_soft_found d
flat_soft (Err r) = flat_soft_refused r
