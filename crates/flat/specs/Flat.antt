-- The answers as structs of plain numbers. As asked of the boundary (docs/CONTRACTS.md): "On a refusal every other field is 0xFFFFFFFF or NaN: no square, no zeros, nothing of an earlier call." C-11 adds the place of a refusal.
use Rattle.std.specs.Prelude.{cond, ℕ, ltb, Float, Err, None, Ok, Option, Some}
use Rattle.std.specs.Float.{nan}
use Rattle.refusals.specs.declared.EdgePlace.{EdgePlace}
use Rattle.refusals.specs.declared.Refusal.{Refusal}
use Rattle.refusals.specs.declared.ListName.{ListName}
use Rattle.refusals.specs.declared.ListName.TheVariants.{Logical, Physical, Only}
use Rattle.answer.specs.declared.Decoded.{Decoded}
use Rattle.answer.specs.Answers.{Answer}
use Rattle.answer.specs.declared.MatchStats.{MatchStats}
use Rattle.answer.specs.Answers.{StatsAnswer}
use Rattle.flat.specs.declared.flat.FlatAnswer.{FlatAnswer}
use Rattle.flat.specs.declared.flat_stats.FlatStats.{FlatStats}

-- 0xFFFFFFFF: no transform, no row, no column, and more than any count
abbrev pub nothing : ℕ
nothing = 4294967295

-- the refusal of an answer that is none: SAMBUREXT_FOUND in the C header
abbrev pub not_refused : ℕ
not_refused = 0

-- C-11, "carry the list and the position": the lists by number; none is 0
abbrev pub list_number : ListName → ℕ
list_number Logical = 1
list_number Physical = 2
list_number Only = 3

-- "At the C boundary the two new fields are SAMBUREXT_NOTHING where there is no place"
abbrev pub flat_list : Option EdgePlace → ℕ
flat_list None = nothing
flat_list (Some p) = list_number p.list

abbrev pub flat_position : Option EdgePlace → ℕ
flat_position None = nothing
flat_position (Some p) = p.position

-- a found answer: not refused, about no edge, and each field of the answer at its place
abbrev pub flat_found : Decoded → FlatAnswer
flat_found d = record {
  refusal = not_refused;
  list = nothing;
  position = nothing;
  transform = d.square.transform;
  row = d.square.row;
  col = d.square.col;
  hits = d.hits;
  edges = d.edges;
  weighted_score = d.weighted_score;
  error_rate = d.error_rate;
  mean_confidence = d.mean_confidence;
  best_score = d.best_score;
  runner_up_transform = d.runner_up.transform;
  runner_up_row = d.runner_up.row;
  runner_up_col = d.runner_up.col;
  runner_up_hits = d.runner_up_hits;
  margin_hits = d.margin_hits;
}

-- a refusal: its number, the list and the position of its edge, 0xFFFFFFFF for every other whole number, and x for every float
abbrev pub refused_with : ℕ → ℕ → ℕ → Float → FlatAnswer
refused_with n l i x = record {
  refusal = n;
  list = l;
  position = i;
  transform = nothing;
  row = nothing;
  col = nothing;
  hits = nothing;
  edges = nothing;
  weighted_score = x;
  error_rate = x;
  mean_confidence = x;
  best_score = x;
  runner_up_transform = nothing;
  runner_up_row = nothing;
  runner_up_col = nothing;
  runner_up_hits = nothing;
  margin_hits = nothing;
}

-- and x is NaN
abbrev pub flat_refused : Refusal → FlatAnswer
flat_refused r = refused_with r.number (flat_list r.place) (flat_position r.place) nan

-- the answer of hard decode
abbrev pub flat : Answer → FlatAnswer
flat (Ok d) = flat_found d
flat (Err r) = flat_refused r

-- counted statistics, and refused ones
abbrev pub flat_counted : MatchStats → FlatStats
flat_counted s = record { refusal = not_refused; list = nothing; position = nothing; edges = s.edges; hits = s.hits; error_rate = s.error_rate; mean_confidence = s.mean_confidence }

abbrev pub uncounted_with : ℕ → ℕ → ℕ → Float → FlatStats
uncounted_with n l i x = record { refusal = n; list = l; position = i; edges = nothing; hits = nothing; error_rate = x; mean_confidence = x }

abbrev pub flat_uncounted : Refusal → FlatStats
flat_uncounted r = uncounted_with r.number (flat_list r.place) (flat_position r.place) nan

-- the answer of match statistics
abbrev pub flat_stats : StatsAnswer → FlatStats
flat_stats (Ok s) = flat_counted s
flat_stats (Err r) = flat_uncounted r

-- a transform number as a byte: above 7 it is 255
unfoldable pub narrow : ℕ → ℕ
narrow t = cond (ltb 7 t) 255 t
