-- Which flat answers of decode over a part are refusals, and that these hold nothing but their number and their place; and which found ones show no runner-up.
use Rattle.std.specs.Prelude.{◌≡◌, refl, ℕ, ◌<◌, Err, None, Ok, Some}
use Rattle.std.proofs.Common.{arith}
use Rattle.refusals.specs.declared.Refusal.{Refusal}
use Rattle.part_answer.specs.Answers.{PartRunnerUp}
use Rattle.part_answer.specs.Answers.{PartAnswer}
use Rattle.flat.specs.Flat.{nothing, not_refused}
use Rattle.flat_exact.specs.FlatExact.{no_weight}
use Rattle.flat_part.specs.declared.FlatNext.{FlatNext}
use Rattle.flat_part.specs.FlatPart.{flat_next, flat_part, flat_part_refused}

-- A REFUSAL CARRIES NO SQUARE: where the number is not 0, the answer is a refusal, and every field but its number and its place is 0xFFFFFFFF, 0xFFFFFFFFFFFFFFFF or NaN
pub only-its-refusal-part : (a : PartAnswer) → ((flat_part a).refusal ≡ not_refused → ⊥) → (r : Refusal) × (a ≡ Err r) × (flat_part a ≡ flat_part_refused r)
only-its-refusal-part (Ok d) h = absurd (h refl)
only-its-refusal-part (Err r) h = (r, refl, refl)

-- the fields of a runner-up show none: no square, no hits and no weight
pub record NoneFlat (next : FlatNext) : Type 0 where
  pub transform : next.next_transform ≡ nothing
  pub row : next.next_row ≡ nothing
  pub col : next.next_col ≡ nothing
  pub hits : next.next_hits ≡ nothing
  pub weight : next.next_weight ≡ no_weight

-- a runner-up that is shown has a transform's number, 0 to 7
abbrev pub NumberedUp : PartRunnerUp → Type 0
NumberedUp None = Unit
NumberedUp (Some (square, hits, weight)) = square.transform < 8

-- NONE IS SHOWN EXACTLY WHERE ITS TRANSFORM IS 0xFFFFFFFF: all five fields then say so, and a runner-up that is shown never does
pub none-flat : (hits : ℕ) (next : PartRunnerUp) → next ≡ None → NoneFlat (flat_next hits next)
none-flat hits None e = record { transform = refl; row = refl; col = refl; hits = refl; weight = refl }
none-flat hits (Some (square, behind, weight)) e = let z : ◌≡◌ {A = ℕ} 0 1 = cc in absurd (omega arith)

pub flat-none : (hits : ℕ) (next : PartRunnerUp) → NumberedUp next → (flat_next hits next).next_transform ≡ nothing → next ≡ None
flat-none hits None h e = refl
flat-none hits (Some (square, behind, weight)) h e = absurd (omega (arith, h, e))
