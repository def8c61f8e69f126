-- The number tells found from refused: where it is 0 the public library found or counted (and `flat` makes it 0 there). A refusal never has the number 0.
use Rattle.std.specs.Prelude.{◌≡◌, refl, Bool, true, ◌&&◌, ◌⊎◌, List, [], ◌∷◌, ◌++◌, ℕ, ltb, ℤ, Float, Ok}
use Rattle.std.proofs.Common.{sym, ap, ◌∙◌, inl, inr, arith, ltb-true}
use Rattle.laws.specs.Tests.{and-true}
use Rattle.board.specs.Hits.{EdgeList, Board}
use Rattle.refusals.specs.declared.Refusal.{Refusal}
use Rattle.admission.specs.Calls.{HardCall, SoftCall}
use Rattle.admission.specs.Conditions.{Condition, FirstFails}
use Rattle.admission.specs.Domain.{early, hard_early, soft_early, stats_early}
use Rattle.answer.specs.declared.Decoded.{Decoded}
use Rattle.answer.specs.Answers.{Answer}
use Rattle.answer.specs.declared.SoftDecoded.{SoftDecoded}
use Rattle.answer.specs.Answers.{SoftAnswer}
use Rattle.answer.specs.declared.MatchStats.{MatchStats}
use Rattle.answer.specs.Answers.{StatsAnswer}
use Rattle.stats.specs.Stats.{stats_answer}
use Rattle.verdict.specs.Answers.{Answers, answers}
use Rattle.soft_verdict.specs.SoftVerdictTheorems.{soft-answers}
use Rattle.flat.specs.declared.flat.FlatAnswer.{FlatAnswer}
use Rattle.flat.specs.declared.flat_soft.FlatSoft.{FlatSoft}
use Rattle.flat.specs.Flat.{not_refused, flat, flat_stats}
use Rattle.flat.specs.FlatSoft.{flat_soft}
use Rattle.export_hard.specs.Exports.{HardFlat}
use Rattle.export_soft.specs.Exports.{SoftFlat}
use Rattle.export_exact.specs.Exports.{ExactFlat}
use Rattle.flat_exact.specs.declared.FlatExact.{FlatExact}
use Rattle.flat_exact.specs.FlatExact.{flat_exact}
use Rattle.exact_answer.specs.declared.ExactDecoded.{ExactDecoded}
use Rattle.exact_answer.specs.Answers.{ExactAnswer}
use Rattle.exact_demand.specs.ExactDomain.{exact_early_by}
use Rattle.exact_demand.proofs.ExactEnds.{exact-answers}
use Rattle.claims.specs.Late.{hard_late, soft_late, exact_late}
use Rattle.claims.specs.Promises.{Demands}
use Rattle.claims.proofs.DemandsLaws.{stats-answers}
use Rattle.claims.proofs.Claims.{hard-promise, soft-promise, stats-promise}
use Rattle.claims.proofs.ExactClaims.{exact-promise}

-- every condition of a list has a number above that of no refusal
unfoldable numbers_above : List Condition → Bool
numbers_above [] = true
numbers_above (row ∷ rows) = ltb not_refused row.0 && numbers_above rows

-- so the first that is not met has one
fails-above : (rows : List Condition) (n : ℕ) → numbers_above rows ≡ true → FirstFails rows n → n ≡ not_refused → ⊥
unfolding numbers_above FirstFails
fails-above [] n h f z = f
fails-above (row ∷ rows) n h (inl f) z = let l = ltb-true not_refused row.0 (and-true (ltb not_refused row.0) (numbers_above rows) h).0 in omega (arith, f.1)
fails-above (row ∷ rows) n h (inr f) z = fails-above rows n (and-true (ltb not_refused row.0) (numbers_above rows) h).1 f.1 z

-- an answer that meets its demands under such conditions, shown by a number that is a refusal's own: where this is 0, it is found
module _ {Answer Told : Type 0} {refusing : Refusal → Answer} {finding : Told → Answer} (ways : Answers refusing finding) (number : Answer → ℕ)
    (own : (r : Refusal) → number (refusing r) ≡ r.number) where
  zero-found : {early late : List Condition} {as_it_was emptied : Type 0} {says : Told → Type 0} {answer : Answer} → Demands refusing finding early late as_it_was emptied says answer
      → numbers_above (early ++ late) ≡ true → number answer ≡ not_refused → (told : Told) × (answer ≡ finding told)
  zero-found {early} {late} {answer = answer} demands above zero = go (ways.either answer)
    where
      go : ((told : Told) × (answer ≡ finding told)) ⊎ ((r : Refusal) × (answer ≡ refusing r)) → (told : Told) × (answer ≡ finding told)
      go (inl f) = f
      go (inr f) = absurd (fails-above (early ++ late) f.0.number above (demands.refused f.0 f.1) (sym (own f.0) ∙ sym (ap number f.1) ∙ zero))

-- HARD: the number is 0 only where the library found
pub hard-zero-found : (call : HardCall) (c c' : List ℕ) (w w' : List Float) (r : FlatAnswer) → (h : HardFlat call c c' w w' r) → r.refusal ≡ not_refused
    → (d : Decoded) × (h.told ≡ Ok d)
unfolding numbers_above early hard_early hard_late
hard-zero-found call c c' w w' r h e =
    zero-found answers (λ (a : Answer). (flat a).refusal) (λ x. refl)
    (hard-promise call (record { counts = c; weights = w }) (record { counts = c'; weights = w' }) h.told h.done).demands refl
    (ap (λ (x : FlatAnswer). x.refusal) (sym h.shown) ∙ e)

-- SOFT: the same
pub soft-zero-found : (call : SoftCall) (c c' : List ℕ) (w w' : List Float) (a a' : List ℤ) (r : FlatSoft)
    → (h : SoftFlat call c c' w w' a a' r) → r.refusal ≡ not_refused → (d : SoftDecoded) × (h.told ≡ Ok d)
unfolding numbers_above early soft_early soft_late
soft-zero-found call c c' w w' a a' r h e =
    zero-found soft-answers (λ (x : SoftAnswer). (flat_soft x).refusal) (λ x. refl)
    (soft-promise call (record { counts = c; weights = w; sums = a }) (record { counts = c'; weights = w'; sums = a' }) h.told h.done).demands refl
    (ap (λ (x : FlatSoft). x.refusal) (sym h.shown) ∙ e)

-- EXACT: the same
pub exact-zero-found : (call : HardCall) (c c' u u' : List ℕ) (r : FlatExact) → (h : ExactFlat call c c' u u' r) → r.refusal ≡ not_refused → (d : ExactDecoded) × (h.told ≡ Ok d)
unfolding numbers_above early exact_early_by exact_late
exact-zero-found call c c' u u' r h e =
    zero-found exact-answers (λ (x : ExactAnswer). (flat_exact x).refusal) (λ x. refl)
    (exact-promise call (record { counts = c; units = u }) (record { counts = c'; units = u' }) h.told h.done).demands refl
    (ap (λ (x : FlatExact). x.refusal) (sym h.shown) ∙ e)

-- MATCH STATISTICS: the same
pub stats-zero-counted : (E : EdgeList) (t row col : ℕ) (B : Board) → (flat_stats (stats_answer E t row col B)).refusal ≡ not_refused → (s : MatchStats) × (stats_answer E t row col B ≡ Ok s)
unfolding numbers_above early stats_early
stats-zero-counted E t row col B e =
    zero-found stats-answers (λ (x : StatsAnswer). (flat_stats x).refusal) (λ x. refl) (stats-promise E t row col B (stats_answer E t row col B) refl).demands refl e
