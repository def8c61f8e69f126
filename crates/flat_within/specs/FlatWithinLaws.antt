-- Which flat answers of the test are refusals, and that these hold nothing but their number and their place.
use Rattle.std.specs.Prelude.{◌≡◌, refl, Err, Ok}
use Rattle.refusals.specs.declared.Refusal.{Refusal}
use Rattle.within_answer.specs.Answers.{WithinAnswer}
use Rattle.flat.specs.Flat.{not_refused}
use Rattle.flat_within.specs.FlatWithin.{flat_within, flat_unjudged}

-- A REFUSAL IS NEITHER YES NOR NO: where the number is not 0, the answer is a refusal, and every field but its number and its place is 0xFFFFFFFF
pub only-its-refusal-within : (a : WithinAnswer) → ((flat_within a).refusal ≡ not_refused → ⊥) → (r : Refusal) × (a ≡ Err r) × (flat_within a ≡ flat_unjudged r)
only-its-refusal-within (Ok j) h = absurd (h refl)
only-its-refusal-within (Err r) h = (r, refl, refl)
