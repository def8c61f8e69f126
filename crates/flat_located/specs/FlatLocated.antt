-- The answer of the engine without tables as a struct of plain numbers. C-16: the placing, its hits, and the runner-up with its hits; a refusal has none.
use Rattle.std.specs.Prelude.{ℕ, Err, Ok}
use Rattle.refusals.specs.declared.Refusal.{Refusal}
use Rattle.locate_answer.specs.declared.Located.{Located}
use Rattle.locate_answer.specs.Answers.{LocateAnswer}
use Rattle.flat.specs.Flat.{nothing, not_refused, flat_list, flat_position}
use Rattle.flat_located.specs.declared.FlatLocated.{FlatLocated}

-- what is found: not refused, about no edge, and each field of the answer at its place
abbrev pub flat_located_found : Located → FlatLocated
flat_located_found l = record {
  refusal = not_refused;
  list = nothing;
  position = nothing;
  transform = l.square.transform;
  row = l.square.row;
  col = l.square.col;
  hits = l.hits;
  runner_up_transform = l.runner_up.transform;
  runner_up_row = l.runner_up.row;
  runner_up_col = l.runner_up.col;
  runner_up_hits = l.runner_up_hits;
}

-- a refusal: its number, the list and the position of its edge, and 0xFFFFFFFF for every other number
abbrev pub located_refused_with : ℕ → ℕ → ℕ → FlatLocated
located_refused_with n l i = record {
  refusal = n;
  list = l;
  position = i;
  transform = nothing;
  row = nothing;
  col = nothing;
  hits = nothing;
  runner_up_transform = nothing;
  runner_up_row = nothing;
  runner_up_col = nothing;
  runner_up_hits = nothing;
}

-- and its list and position are those of its place
abbrev pub flat_located_refused : Refusal → FlatLocated
flat_located_refused r = located_refused_with r.number (flat_list r.place) (flat_position r.place)

-- the answer of the engine without tables
abbrev pub flat_located : LocateAnswer → FlatLocated
flat_located (Ok l) = flat_located_found l
flat_located (Err r) = flat_located_refused r
