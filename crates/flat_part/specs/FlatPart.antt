-- The answer of decode over a part as a struct of plain numbers. C-20: "its hits count as 0 and the answer says none is shown": then all that is said of a runner-up is 0xFFFFFFFF or 0xFFFFFFFFFFFFFFFF.
use Rattle.std.specs.Prelude.{ℕ, ◌-◌, Float, Err, None, Ok, Some}
use Rattle.std.specs.Float.{nan}
use Rattle.refusals.specs.declared.Refusal.{Refusal}
use Rattle.answer.specs.declared.Square.{Square}
use Rattle.part_answer.specs.Answers.{PartRunnerUp}
use Rattle.part_answer.specs.declared.PartDecoded.{PartDecoded}
use Rattle.part_answer.specs.Answers.{PartAnswer}
use Rattle.flat.specs.Flat.{nothing, not_refused, flat_list, flat_position}
use Rattle.flat_exact.specs.FlatExact.{no_weight}
use Rattle.flat_part.specs.declared.FlatNext.{FlatNext}
use Rattle.flat_part.specs.declared.FlatPart.{FlatPart}

-- a runner-up that is shown: its square, its hits, its weight, and so many hits behind
abbrev pub next_with : Square → ℕ → ℕ → ℕ → FlatNext
next_with square hits weight margin = record {
  next_transform = square.transform;
  next_row = square.row;
  next_col = square.col;
  next_hits = hits;
  next_margin = margin;
  next_weight = weight;
}

-- the runner-up of a square with so many hits: where none is shown, no field says a square and the hits of none are 0; else its own
abbrev pub flat_next : ℕ → PartRunnerUp → FlatNext
flat_next hits None = record {
  next_transform = nothing;
  next_row = nothing;
  next_col = nothing;
  next_hits = nothing;
  next_margin = hits;
  next_weight = no_weight;
}
flat_next hits (Some (square, behind, weight)) = next_with square behind weight (hits - behind)

-- a found answer: not refused, about no edge, each field of the answer at its place, and what is said of its runner-up
abbrev pub part_found_with : PartDecoded → FlatNext → FlatPart
part_found_with d next = record {
  refusal = not_refused;
  list = nothing;
  position = nothing;
  transform = d.square.transform;
  row = d.square.row;
  col = d.square.col;
  hits = d.hits;
  edges = d.edges;
  error_rate = d.error_rate;
  runner_up_transform = next.next_transform;
  runner_up_row = next.next_row;
  runner_up_col = next.next_col;
  runner_up_hits = next.next_hits;
  margin_hits = next.next_margin;
  weight = d.weight;
  total = d.total;
  runner_up_weight = next.next_weight;
}

abbrev pub flat_part_found : PartDecoded → FlatPart
flat_part_found d = part_found_with d (flat_next d.hits d.runner_up)

-- a refusal: its number, the list and the position of its edge, 0xFFFFFFFF or 0xFFFFFFFFFFFFFFFF for every other whole number, and x for the float
abbrev pub part_refused_with : ℕ → ℕ → ℕ → Float → FlatPart
part_refused_with n l i x = record {
  refusal = n;
  list = l;
  position = i;
  transform = nothing;
  row = nothing;
  col = nothing;
  hits = nothing;
  edges = nothing;
  error_rate = x;
  runner_up_transform = nothing;
  runner_up_row = nothing;
  runner_up_col = nothing;
  runner_up_hits = nothing;
  margin_hits = nothing;
  weight = no_weight;
  total = no_weight;
  runner_up_weight = no_weight;
}

-- and x is NaN
abbrev pub flat_part_refused : Refusal → FlatPart
flat_part_refused r = part_refused_with r.number (flat_list r.place) (flat_position r.place) nan

-- the answer of decode over a part
abbrev pub flat_part : PartAnswer → FlatPart
flat_part (Ok d) = flat_part_found d
flat_part (Err r) = flat_part_refused r
