-- Narrowing a transform number to a byte changes no answer.
use Rattle.std.specs.Prelude.{◌≡◌, refl, Bool, true, false, ℕ, ltb, length, Float, Err, Ok}
use Rattle.std.proofs.Common.{sym, ap, ◌∙◌, arith, ltb-true}
use Rattle.board.specs.Hits.{EdgeList, Board, size}
use Rattle.checks.specs.Checks.{lengths_differ, size_bad}
use Rattle.refusals.specs.Admission.{Admission, accepted}
use Rattle.refusals.specs.Numbers as why
use Rattle.findings.specs.Findings.{refused_if, or_else, first_found, settings_findings}
use Rattle.admission.specs.Refusals.{tables_bad}
use Rattle.within_answer.specs.Answers.{WithinAnswer}
use Rattle.within_admission.specs.WithinAdmission.{setting_bad, within_admission}
use Rattle.within_admission.specs.WithinAdmissionLaws.{within-accepted}
use Rattle.within.specs.Within.{judged_of, or_judged, within_answer}
use Rattle.flat.specs.Flat.{narrow}

-- the checks ask only whether it is above 7
same-admission : (E : EdgeList) (t s row col : ℕ) (B : Board) (limit : Float) → ltb 7 t ≡ ltb 7 s → within_admission E t row col B limit ≡ within_admission E s row col B limit
unfolding within_admission
same-admission E t s row col B limit e =
    ap
    (λ (b : Bool).
    or_else (refused_if (lengths_differ E) why.lengths_differ) (or_else (refused_if (size_bad 0 (size E)) why.list_size) (first_found (settings_findings b (tables_bad B) (setting_bad (length B.h) row col limit))))) e

-- a transform number above 7 is refused whatever it is
same-refusal : (a : Admission) (x y : WithinAnswer) → (a ≡ accepted → ⊥) → or_judged a x ≡ or_judged a y
same-refusal (Ok _) x y h = absurd (h refl)
same-refusal (Err r) x y h = refl

narrow-above : (E : EdgeList) (t row col : ℕ) (B : Board) (limit : Float) → ltb 7 t ≡ true → within_answer E (narrow t) row col B limit ≡ within_answer E t row col B limit
unfolding narrow within_answer
narrow-above E t row col B limit e =
    rw e
    (ap (λ (a : Admission). or_judged a (judged_of E 255 row col B limit)) (same-admission E 255 t row col B limit (sym e))
    ∙ same-refusal (within_admission E t row col B limit) (judged_of E 255 row col B limit) (judged_of E t row col B limit) (λ h. omega (arith, (within-accepted E t row col B limit h).transform, ltb-true 7 t e)))

narrow_below : (E : EdgeList) (t row col : ℕ) (B : Board) (limit : Float) → ltb 7 t ≡ false → within_answer E (narrow t) row col B limit ≡ within_answer E t row col B limit
unfolding narrow
narrow_below E t row col B limit e = ap (λ (k : ℕ). within_answer E k row col B limit) (simp e)

pub narrow-answer : (E : EdgeList) (t row col : ℕ) (B : Board) (limit : Float) → within_answer E (narrow t) row col B limit ≡ within_answer E t row col B limit
narrow-answer E t row col B limit = go (ltb 7 t) refl
  where
    go : (b : Bool) → ltb 7 t ≡ b → within_answer E (narrow t) row col B limit ≡ within_answer E t row col B limit
    go true e = narrow-above E t row col B limit e
    go false e = narrow_below E t row col B limit e

pub within-narrowed : (E : EdgeList) (t n row col : ℕ) (B : Board) (limit : Float) (r : WithinAnswer) → n ≡ narrow t → r ≡ within_answer E n row col B limit → r ≡ within_answer E t row col B limit
within-narrowed E t n row col B limit r e h = h ∙ ap (λ (k : ℕ). within_answer E k row col B limit) e ∙ narrow-answer E t row col B limit
