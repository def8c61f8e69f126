-- The answer of exact decode as a struct of plain numbers. C-15: the square, hits and edges, the weight of the hits and the list's total in units, the error rate, and the runner-up with its hits and its weight; a refusal has none.
use Rattle.std.specs.Prelude.{ℕ, ◌-◌, Float, Err, Ok}
use Rattle.std.specs.Float.{nan}
use Rattle.refusals.specs.declared.Refusal.{Refusal}
use Rattle.exact_answer.specs.declared.ExactDecoded.{ExactDecoded}
use Rattle.exact_answer.specs.Answers.{ExactAnswer}
use Rattle.flat.specs.Flat.{nothing, not_refused, flat_list, flat_position}
use Rattle.flat_exact.specs.declared.FlatExact.{FlatExact}

-- 0xFFFFFFFFFFFFFFFF: more than any list weighs
abbrev pub no_weight : ℕ
no_weight = 18446744073709551615

-- a found answer: not refused, about no edge, each field of the answer at its place, and m hits ahead of the runner-up
abbrev pub exact_found_with : ExactDecoded → ℕ → FlatExact
exact_found_with d m = record {
  refusal = not_refused;
  list = nothing;
  position = nothing;
  transform = d.square.transform;
  row = d.square.row;
  col = d.square.col;
  hits = d.hits;
  edges = d.edges;
  error_rate = d.error_rate;
  runner_up_transform = d.runner_up.transform;
  runner_up_row = d.runner_up.row;
  runner_up_col = d.runner_up.col;
  runner_up_hits = d.runner_up_hits;
  margin_hits = m;
  weight = d.weight;
  total = d.total;
  runner_up_weight = d.runner_up_weight;
}

-- and m is how many hits the square has more
abbrev pub flat_exact_found : ExactDecoded → FlatExact
flat_exact_found d = exact_found_with d (d.hits - d.runner_up_hits)

-- a refusal: its number, the list and the position of its edge, 0xFFFFFFFF or 0xFFFFFFFFFFFFFFFF for every other whole number, and x for the float
abbrev pub exact_refused_with : ℕ → ℕ → ℕ → Float → FlatExact
exact_refused_with n l i x = record {
  refusal = n;
  list = l;
  position = i;
  transform = nothing;
  row = nothing;
  col = nothing;
  hits = nothing;
  edges = nothing;
  error_rate = x;
  runner_up_transform = nothing;
  runner_up_row = nothing;
  runner_up_col = nothing;
  runner_up_hits = nothing;
  margin_hits = nothing;
  weight = no_weight;
  total = no_weight;
  runner_up_weight = no_weight;
}

-- and x is NaN
abbrev pub flat_exact_refused : Refusal → FlatExact
flat_exact_refused r = exact_refused_with r.number (flat_list r.place) (flat_position r.place) nan

-- the answer of exact decode
abbrev pub flat_exact : ExactAnswer → FlatExact
flat_exact (Ok d) = flat_exact_found d
flat_exact (Err r) = flat_exact_refused r
