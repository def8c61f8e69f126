-- What holds of answers, hard or soft: one is refused or found and never both, two numbers are two refusals, and found means accepted.
use Rattle.std.specs.Prelude.{◌≡◌, refl, ◌⊎◌, ℕ, Err, Ok, Result}
use Rattle.std.proofs.Common.{sym, ap, inl, inr, arith}
use Rattle.refusals.specs.declared.Refusal.{Refusal}
use Rattle.refusals.specs.Admission.{Admission, accepted}
use Rattle.refusals.specs.Numbers.{numbered}
use Rattle.verdict.specs.Verdict.{when_accepted}

-- an answer is made in one of two ways, not in both, and a refusal can be told from it
pub record Answers {Answer Told : Type 0} (refusing : Refusal → Answer) (finding : Told → Answer) : Type 0 where
  pub either : (a : Answer) → ((told : Told) × (a ≡ finding told)) ⊎ ((r : Refusal) × (a ≡ refusing r))
  pub apart : (told : Told) (r : Refusal) → finding told ≡ refusing r → ⊥
  pub once : (r s : Refusal) → refusing r ≡ refusing s → r ≡ s

-- so are all: of whatever is found, an answer is that or a refusal
pub answers : {Told : Type 0} → Answers {Answer = Result Told Refusal} {Told = Told} Err Ok
answers {Told} = record { either = either; apart = λ d r e. let z : ◌≡◌ {A = ℕ} 0 1 = cc in omega arith; once = λ r s e. cc }
  where
    either : (a : Result Told Refusal) → ((d : Told) × (a ≡ Ok d)) ⊎ ((r : Refusal) × (a ≡ Err r))
    either (Ok d) = inl (d, refl)
    either (Err r) = inr (r, refl)

module _ {Answer Told : Type 0} {refusing : Refusal → Answer} {finding : Told → Answer} (ways : Answers refusing finding) where
  -- a refusal is no found answer
  pub never_both : (told : Told) (r : Refusal) → refusing r ≡ finding told → ⊥
  never_both told r e = ways.apart told r (sym e)

  -- a found answer is no refusal by a number
  pub found-not : (told : Told) (n : ℕ) → {A : Type 0} → finding told ≡ refusing (numbered n) → A
  found-not told n e = absurd (ways.apart told (numbered n) e)

  -- two numbers that differ are two refusals
  pub numbers_apart : (m n : ℕ) → (m ≡ n → ⊥) → {A : Type 0} → refusing (numbered m) ≡ refusing (numbered n) → A
  numbers_apart m n d e = absurd (d (ap (λ (x : Refusal). x.number) (ways.once (numbered m) (numbered n) e)))

  -- what is found was accepted, and x is it
  pub found-only : (a : Admission) (x : Answer) (told : Told) → finding told ≡ when_accepted refusing a x → (a ≡ accepted) × (x ≡ finding told)
  found-only (Ok _) x told e = (refl, sym e)
  found-only (Err r) x told e = absurd (ways.apart told r e)
