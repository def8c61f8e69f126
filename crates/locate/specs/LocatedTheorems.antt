-- Any two answers that the meaning allows are equal.
use Rattle.std.specs.Prelude.{◌≡◌, ◌⊎◌, List, ℕ, ◌≤◌, ◌<◌, length, Float, Err, Ok}
use Rattle.std.proofs.Common.{sym, ap, ap₂, ◌∙◌, inl, inr, arith}
use Rattle.laws.specs.Tests.{clash}
use Rattle.board.specs.Hits.{EdgeList, Board, size}
use Rattle.refusals.specs.declared.Refusal.{Refusal}
use Rattle.refusals.specs.Admission.{Admission}
use Rattle.hard.specs.Placings.{MostOther, Sole}
use Rattle.hard.specs.PlacingsLaws.{sole-only}
use Rattle.hard.proofs.SelectTheorems.{hits_at_key}
use Rattle.locate_answer.specs.declared.Located.{Located}
use Rattle.locate_answer.specs.Answers.{LocateAnswer}
use Rattle.locate_admission.specs.LocateAdmission.{locate_admission}
use Rattle.locate.specs.Located.{FirstOther, origins_of, square_at, FoundAs, RefusedAs, LocatedAs, AfterChecks, LocateDone}

-- ---- the first of the others is one placing, with one number of hits
module _ (n none : ℕ) (hit : ℕ → ℕ → ℕ) (p k q j r q' j' r' : ℕ) (A : FirstOther n none hit p k q j r) (A' : FirstOther n none hit p k q' j' r') where
  pub other-hits : r ≡ r'
  other-hits = omega (arith, A.hits, A'.hits, A'.most q j A.listed A.key A.other, A.most q' j' A'.listed A'.key A'.other)

  pub other-one : (q ≡ q') × (j ≡ j')
  other-one = go (A.first q' j' A'.listed A'.key A'.other (A'.hits ∙ sym other-hits)) (A'.first q j A.listed A.key A.other (A.hits ∙ other-hits))
    where
      go : (q < q') ⊎ ((q ≡ q') × (j ≤ j')) → (q' < q) ⊎ ((q' ≡ q) × (j' ≤ j)) → (q ≡ q') × (j ≡ j')
      go (inl a) (inl b) = absurd (omega arith)
      go (inl a) (inr b) = absurd (omega (arith, b.0))
      go (inr a) (inl b) = absurd (omega (arith, a.0))
      go (inr a) (inr b) = (a.0, omega (arith, a.1, b.1))

-- the others' most hits
pub most_other : (n none edges : ℕ) (limit : Float) (hit : ℕ → ℕ → ℕ) (p k q j r : ℕ) → FirstOther n none hit p k q j r → MostOther n none edges limit hit p k r
most_other n none edges limit hit p k q j r A = record { reached = (q, j, A.listed, A.key, A.other, A.hits); most = A.most }

module _ (B : Board) (E : EdgeList) (ts : List ℕ) (limit : Float) where
  found-one : (l m : Located) → FoundAs B E ts limit l → FoundAs B E ts limit m → l ≡ m
  found-one l m X Y =
      let o = sole-only (length ts) (origins_of B) (size E) limit (hits_at_key B E ts) X.listed X.key Y.listed Y.key X.sole Y.sole in
      let Z : FirstOther (length ts) (origins_of B) (hits_at_key B E ts) Y.listed Y.key X.other_listed X.other_key l.runner_up_hits = rw (o.0, o.1) at X.others in
      let h = other-hits (length ts) (origins_of B) (hits_at_key B E ts) Y.listed Y.key X.other_listed X.other_key l.runner_up_hits Y.other_listed Y.other_key m.runner_up_hits Z Y.others in
      let w = other-one (length ts) (origins_of B) (hits_at_key B E ts) Y.listed Y.key X.other_listed X.other_key l.runner_up_hits Y.other_listed Y.other_key m.runner_up_hits Z Y.others in
      same (X.square ∙ ap₂ (square_at B ts) o.0 o.1 ∙ sym Y.square) (X.hits ∙ ap₂ (hits_at_key B E ts) o.0 o.1 ∙ sym Y.hits) (X.runner-up ∙ ap₂ (square_at B ts) w.0 w.1 ∙ sym Y.runner-up) h
    where
      same : l.square ≡ m.square → l.hits ≡ m.hits → l.runner_up ≡ m.runner_up → l.runner_up_hits ≡ m.runner_up_hits → l ≡ m
      same a b c d = λ i. record { square = a i; hits = b i; runner_up = c i; runner_up_hits = d i }

  pub refused-one : (r s : Refusal) → RefusedAs B E ts limit r → RefusedAs B E ts limit s → r ≡ s
  refused-one r s (inl a) (inl b) = a.0 ∙ sym b.0
  refused-one r s (inl a) (inr b) = let w = b.1 in clash (a.1 w.0 w.1 w.2 w.3) w.4
  refused-one r s (inr a) (inl b) = let w = a.1 in clash (b.1 w.0 w.1 w.2 w.3) w.4
  refused-one r s (inr a) (inr b) = a.0 ∙ sym b.0

  pub never_both : (r : Refusal) (p k : ℕ) → RefusedAs B E ts limit r → Sole (length ts) (origins_of B) (size E) limit (hits_at_key B E ts) p k → ⊥
  never_both r p k (inl a) Z = clash (a.1 p k Z.listed Z.key) Z.allowed
  never_both r p k (inr a) Z = a.2 p k Z

  pub located-unique : (a b : LocateAnswer) → LocatedAs B E ts limit a → LocatedAs B E ts limit b → a ≡ b
  located-unique (Err r) (Err s) (inl a) (inl b) = ap Err (a.1 ∙ sym b.1)
  located-unique (Err r) (Err s) (inl a) (inr b) = clash a.0 b.0
  located-unique (Err r) (Err s) (inr a) (inl b) = clash b.0 a.0
  located-unique (Err r) (Err s) (inr a) (inr b) = ap Err (refused-one r s a.1 b.1)
  located-unique (Err r) (Ok m) (inl a) b = clash a.0 b.0
  located-unique (Err r) (Ok m) (inr a) b = absurd (never_both r b.1.listed b.1.key a.1 b.1.sole)
  located-unique (Ok l) (Err s) a (inl b) = clash b.0 a.0
  located-unique (Ok l) (Err s) a (inr b) = absurd (never_both s a.1.listed a.1.key b.1 a.1.sole)
  located-unique (Ok l) (Ok m) a b = ap Ok (found-one l m a.1 b.1)

  -- ANY TWO ANSWERS THAT THE CONTRACT OF `locate` ALLOWS ARE EQUAL
  pub locate-unique : (a b : LocateAnswer) → LocateDone B E ts limit a → LocateDone B E ts limit b → a ≡ b
  locate-unique a b X Y = go (locate_admission E ts B limit) X.done Y.done
    where
      go : (x : Admission) → AfterChecks B E ts limit x a → AfterChecks B E ts limit x b → a ≡ b
      go (Err r) d e = d ∙ sym e
      go (Ok _) d e = located-unique a b d e
