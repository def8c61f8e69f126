-- How an entry point comes to meet its demands: its checks judge the early conditions, and what it answers to an accepted call is right by the late ones. Said once, for all answers.
use Rattle.std.specs.Prelude.{◌≡◌, refl, ◌⊎◌, List, ◌++◌, ℕ, Err, Ok}
use Rattle.std.proofs.Common.{sym, subst, ◌∙◌, inl, inr, arith}
use Rattle.refusals.specs.declared.Refusal.{Refusal}
use Rattle.refusals.specs.Admission.{Admission, accepted}
use Rattle.admission.specs.Conditions.{Condition, AllMet, FirstFails}
use Rattle.admission.specs.ConditionLaws.{met-or-fails, fails-once, met-both, met-parts, fails-early, fails-late}
use Rattle.answer.specs.declared.MatchStats.{MatchStats}
use Rattle.answer.specs.Answers.{StatsAnswer}
use Rattle.verdict.specs.Answers.{Answers, never_both, answers}
use Rattle.claims.specs.Promises.{Demands}

-- what match statistics answer is made in two ways, as hard and soft answers are
pub stats-answers : Answers {Answer = StatsAnswer} Err Ok
stats-answers = answers

module _ {Answer Told : Type 0} (refusing : Refusal → Answer) (finding : Told → Answer) where
  -- an answer is right by conditions: found where all are met, refused by the number of the first that is not
  abbrev pub Right : List Condition → Answer → Type 0
  Right rows a = ((told : Told) → a ≡ finding told → AllMet rows) × ((r : Refusal) → a ≡ refusing r → FirstFails rows r.number)

  -- so are a found answer where they are met, and a refusal by the number of the first that is not
  module _ (ways : Answers refusing finding) (rows : List Condition) where
    pub right-found : (told : Told) → AllMet rows → Right rows (finding told)
    right-found told m = ((λ other e. m), λ r e. absurd (ways.apart told r e))

    pub right-refused : (r : Refusal) → FirstFails rows r.number → Right rows (refusing r)
    right-refused r f = ((λ told e. absurd (never_both ways told r e)), λ s e. subst (λ (z : Refusal). FirstFails rows z.number) (ways.once r s e) f)

  -- THE DEMANDS ARE MET by an answer that hands on what the checks refuse, with the room as it was, and is otherwise what is right of an accepted call
  module _ (ways : Answers refusing finding) (early late : List Condition) (as_it_was emptied : Type 0) (says : Told → Type 0) (answer core : Answer) (checked : Admission)
      (accepts : (checked ≡ accepted → AllMet early) × (AllMet early → checked ≡ accepted))
      (first : (r : Refusal) → checked ≡ Err r → FirstFails early r.number)
      (handed : (r : Refusal) → checked ≡ Err r → (answer ≡ refusing r) × as_it_was) (given : AllMet early → answer ≡ core) (right : AllMet early → Right late core) where
    by-check : {A : Type 0} → (checked ≡ accepted → A) → ((r : Refusal) → checked ≡ Err r → A) → A
    by-check {A} f g = go checked refl
      where
        go : (a : Admission) → checked ≡ a → A
        go (Ok _) h = f h
        go (Err r) h = g r h

    refused : (r : Refusal) → answer ≡ refusing r → FirstFails (early ++ late) r.number
    refused r e =
        by-check (λ h. let m = accepts.0 h in fails-late early late r.number m ((right m).1 r (sym (given m) ∙ e)))
        (λ x h. let q = ways.once x r (sym (handed x h).0 ∙ e) in subst (λ (z : Refusal). FirstFails (early ++ late) z.number) q (fails-early early late x.number (first x h)))

    untouched : (n : ℕ) → FirstFails early n → as_it_was
    untouched n f = by-check (λ h. absurd (met-or-fails early n (accepts.0 h) f)) (λ r h. (handed r h).1)

    all-met : (told : Told) → answer ≡ finding told → AllMet (early ++ late)
    all-met told e =
        by-check (λ h. let m = accepts.0 h in met-both early late m ((right m).0 told (sym (given m) ∙ e))) (λ r h. absurd (ways.apart told r (sym e ∙ (handed r h).0)))

    finds : AllMet (early ++ late) → (told : Told) × (answer ≡ finding told)
    finds m = go (ways.either core)
      where
        p : AllMet early × AllMet late
        p = met-parts early late m

        go : ((told : Told) × (core ≡ finding told)) ⊎ ((r : Refusal) × (core ≡ refusing r)) → (told : Told) × (answer ≡ finding told)
        go (inl f) = (f.0, given p.0 ∙ f.1)
        go (inr f) = absurd (met-or-fails late f.0.number p.1 ((right p.0).1 f.0 f.1))

    pub demands-met : (AllMet early → emptied) → ((told : Told) → answer ≡ finding told → says told) → Demands refusing finding early late as_it_was emptied says answer
    demands-met zero says_so = record { refused = refused; untouched = untouched; room_zero = zero; found = λ told e. (all-met told e, says_so told e); finds = finds }

-- AND A CALL IS REFUSED BY THE NUMBER OF THE CONDITION THAT FAILS FIRST: the demands say it of a refusal, so with them it is so exactly when
pub refuses-by : {Answer Told : Type 0} {refusing : Refusal → Answer} {finding : Told → Answer} (ways : Answers refusing finding) {early late : List Condition} {as_it_was emptied : Type 0} {says : Told → Type 0} {answer : Answer}
    → Demands refusing finding early late as_it_was emptied says answer → (n : ℕ) → FirstFails (early ++ late) n → (r : Refusal) × (answer ≡ refusing r) × (r.number ≡ n)
refuses-by {refusing = refusing} {finding = finding} ways {early} {late} {answer = answer} demands n f = go (ways.either answer)
  where
    go : ((told : _) × (answer ≡ finding told)) ⊎ ((r : Refusal) × (answer ≡ refusing r)) → (r : Refusal) × (answer ≡ refusing r) × (r.number ≡ n)
    go (inl x) = absurd (met-or-fails (early ++ late) n (demands.found x.0 x.1).0 f)
    go (inr x) = (x.0, x.1, fails-once (early ++ late) x.0.number n (demands.refused x.0 x.1) f)
