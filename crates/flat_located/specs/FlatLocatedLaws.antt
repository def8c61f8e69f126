-- Which flat answers of the engine without tables are refusals, and that these hold nothing but their number and their place.
use Rattle.std.specs.Prelude.{◌≡◌, refl, Err, Ok}
use Rattle.refusals.specs.declared.Refusal.{Refusal}
use Rattle.locate_answer.specs.Answers.{LocateAnswer}
use Rattle.flat.specs.Flat.{not_refused}
use Rattle.flat_located.specs.FlatLocated.{flat_located, flat_located_refused}

-- A REFUSAL CARRIES NO SQUARE: where the number is not 0, the answer is a refusal, and every field but its number and its place is 0xFFFFFFFF
pub only-its-refusal-located : (a : LocateAnswer) → ((flat_located a).refusal ≡ not_refused → ⊥) → (r : Refusal) × (a ≡ Err r) × (flat_located a ≡ flat_located_refused r)
only-its-refusal-located (Ok l) h = absurd (h refl)
only-its-refusal-located (Err r) h = (r, refl, refl)
