-- Which flat answers of exact decode are refusals, and that these hold nothing but their number and their place.
use Rattle.std.specs.Prelude.{◌≡◌, refl, Err, Ok}
use Rattle.refusals.specs.declared.Refusal.{Refusal}
use Rattle.exact_answer.specs.Answers.{ExactAnswer}
use Rattle.flat.specs.Flat.{not_refused}
use Rattle.flat_exact.specs.FlatExact.{flat_exact, flat_exact_refused}

-- A REFUSAL CARRIES NO SQUARE: where the number is not 0, the answer is a refusal, and every field but its number and its place is 0xFFFFFFFF, 0xFFFFFFFFFFFFFFFF or NaN
pub only-its-refusal-exact : (a : ExactAnswer) → ((flat_exact a).refusal ≡ not_refused → ⊥) → (r : Refusal) × (a ≡ Err r) × (flat_exact a ≡ flat_exact_refused r)
only-its-refusal-exact (Ok d) h = absurd (h refl)
only-its-refusal-exact (Err r) h = (r, refl, refl)
