-- Which flat answers are refusals, and that these hold nothing but their number and their place.
use Rattle.std.specs.Prelude.{◌≡◌, refl, Err, Ok}
use Rattle.refusals.specs.declared.Refusal.{Refusal}
use Rattle.answer.specs.Answers.{Answer}
use Rattle.answer.specs.Answers.{StatsAnswer}
use Rattle.answer.specs.Answers.{SoftAnswer}
use Rattle.flat.specs.Flat.{not_refused, flat, flat_refused, flat_stats, flat_uncounted}
use Rattle.flat.specs.FlatSoft.{flat_soft, flat_soft_refused}

-- A REFUSAL CARRIES NO SQUARE: where the number is not 0, the answer is a refusal, and every field but its number and its place is 0xFFFFFFFF or NaN
pub only-its-refusal : (a : Answer) → ((flat a).refusal ≡ not_refused → ⊥) → (r : Refusal) × (a ≡ Err r) × (flat a ≡ flat_refused r)
only-its-refusal (Ok d) h = absurd (h refl)
only-its-refusal (Err r) h = (r, refl, refl)

pub only-its-refusal-soft : (a : SoftAnswer) → ((flat_soft a).refusal ≡ not_refused → ⊥) → (r : Refusal) × (a ≡ Err r) × (flat_soft a ≡ flat_soft_refused r)
only-its-refusal-soft (Ok d) h = absurd (h refl)
only-its-refusal-soft (Err r) h = (r, refl, refl)

pub only-its-refusal-stats : (a : StatsAnswer) → ((flat_stats a).refusal ≡ not_refused → ⊥) → (r : Refusal) × (a ≡ Err r) × (flat_stats a ≡ flat_uncounted r)
only-its-refusal-stats (Ok s) h = absurd (h refl)
only-its-refusal-stats (Err r) h = (r, refl, refl)
