-- Narrowing a transform number to a byte changes no answer.
use Rattle.std.specs.Prelude.{◌≡◌, refl, Bool, true, false, ℕ, ltb, length, Err, Ok}
use Rattle.std.proofs.Common.{sym, ap, ◌∙◌}
use Rattle.laws.specs.Tests.{clash}
use Rattle.board.specs.Hits.{EdgeList, Board}
use Rattle.checks.specs.Checks.{origin_bad}
use Rattle.refusals.specs.Admission.{Admission, accepted}
use Rattle.refusals.specs.declared.ListName.TheVariants as list
use Rattle.findings.specs.Findings.{first_found, joined, list_findings, settings_findings}
use Rattle.admission.specs.Refusals.{tables_bad, stats_admission}
use Rattle.admission.specs.Accepted.{stats-tests-of}
use Rattle.answer.specs.declared.MatchStats.{MatchStats}
use Rattle.answer.specs.Answers.{StatsAnswer}
use Rattle.stats.specs.Stats.{stats_answer, stats_of, or_counted}
use Rattle.flat.specs.Flat.{narrow}

-- the checks ask only whether it is above 7
same-admission : (E : EdgeList) (t s row col : ℕ) (B : Board) → ltb 7 t ≡ ltb 7 s → stats_admission E t row col B ≡ stats_admission E s row col B
unfolding stats_admission
same-admission E t s row col B e = ap (λ (b : Bool). first_found (joined (list_findings 0 list.Only E) (settings_findings b (tables_bad B) (origin_bad (length B.h) row col)))) e

-- a transform number above 7 is refused whatever it is, so statistics of the narrowed number are those of the number
same-refusal : (a : Admission) (s u : MatchStats) → (a ≡ accepted → ⊥) → or_counted a s ≡ or_counted a u
same-refusal (Ok _) s u h = absurd (h refl)
same-refusal (Err r) s u h = refl

narrow-above : (E : EdgeList) (t row col : ℕ) (B : Board) → ltb 7 t ≡ true → stats_answer E (narrow t) row col B ≡ stats_answer E t row col B
unfolding narrow stats_answer
narrow-above E t row col B e =
    rw e
    (ap (λ (a : Admission). or_counted a (stats_of E 255 row col B)) (same-admission E 255 t row col B (sym e)) ∙ same-refusal (stats_admission E t row col B) (stats_of E 255 row col B) (stats_of E t row col B) (λ h. clash e (stats-tests-of E t row col B h).transform))

narrow_below : (E : EdgeList) (t row col : ℕ) (B : Board) → ltb 7 t ≡ false → stats_answer E (narrow t) row col B ≡ stats_answer E t row col B
unfolding narrow
narrow_below E t row col B e = ap (λ (k : ℕ). stats_answer E k row col B) (simp e)

pub narrow-answer : (E : EdgeList) (t row col : ℕ) (B : Board) → stats_answer E (narrow t) row col B ≡ stats_answer E t row col B
narrow-answer E t row col B = go (ltb 7 t) refl
  where
    go : (b : Bool) → ltb 7 t ≡ b → stats_answer E (narrow t) row col B ≡ stats_answer E t row col B
    go true e = narrow-above E t row col B e
    go false e = narrow_below E t row col B e

pub stats-narrowed : (E : EdgeList) (t n row col : ℕ) (B : Board) (r : StatsAnswer) → n ≡ narrow t → r ≡ stats_answer E n row col B → r ≡ stats_answer E t row col B
stats-narrowed E t n row col B r e h = h ∙ ap (λ (k : ℕ). stats_answer E k row col B) e ∙ narrow-answer E t row col B
