-- THE MEANING of the engine without tables (C-16): one list judged by the hits of every placing, counted edge by edge, and nothing else. A placing is a list position p with the key k of an
-- origin, row · columns + column; so keys are in order of row and column.
use Rattle.std.specs.Prelude.{◌≡◌, ◌⊎◌, true, false, List, ℕ, ◌*◌, ◌/◌, ◌%◌, ◌≤◌, ◌<◌, get_or, length, Float, Err, Ok}
use Rattle.board.specs.Hits.{EdgeList, Board, size}
use Rattle.board.specs.Sides.{period_of}
use Rattle.answer.specs.declared.Square.{Square}
use Rattle.refusals.specs.declared.Refusal.{Refusal}
use Rattle.refusals.specs.Admission.{Admission}
use Rattle.refusals.specs.Numbers.{numbered}
use Rattle.refusals.specs.Numbers as why
use Rattle.figures.specs.Figures.{no_confidence}
use Rattle.hard.specs.Placings.{NoneWithin, SomeWithin, Sole}
use Rattle.hard.specs.OneList.{origin_number}
use Rattle.hard.proofs.SelectTheorems.{hits_at_key}
use Rattle.locate_answer.specs.declared.Located.{Located}
use Rattle.locate_answer.specs.Answers.{LocateAnswer}
use Rattle.locate_admission.specs.LocateAdmission.{locate_admission}

-- "the first by list position, row and column among the others with most hits": (q, j) with r hits, of n list positions and the keys below `none`, where (p, k) is the winner
pub record FirstOther (n none : ℕ) (hit : ℕ → ℕ → ℕ) (p k q j r : ℕ) : Type 0 where
  pub listed : q < n
  pub key : j < none
  pub other : (q ≡ p) × (j ≡ k) → ⊥
  pub hits : hit q j ≡ r
  pub most : (i l : ℕ) → i < n → l < none → ((i ≡ p) × (l ≡ k) → ⊥) → hit i l ≤ r
  pub first : (i l : ℕ) → i < n → l < none → ((i ≡ p) × (l ≡ k) → ⊥) → hit i l ≡ r → (q < i) ⊎ ((q ≡ i) × (j ≤ l))

-- how many origins a board has
abbrev pub origins_of : Board → ℕ
origins_of B = origin_number (period_of B true) (period_of B false)

-- the square of a placing
abbrev pub square_at : Board → List ℕ → ℕ → ℕ → Square
square_at B ts p k = record { transform = get_or ts p 0; row = k / (3 * period_of B false); col = k % (3 * period_of B false) }

module _ (B : Board) (E : EdgeList) (ts : List ℕ) (limit : Float) where
  -- what is found: the placing within the limit that is ahead of every other by more than its own misses, with its hits, and the first of the others with most hits
  pub record FoundAs (l : Located) : Type 0 where
    pub listed : ℕ
    pub key : ℕ
    pub other_listed : ℕ
    pub other_key : ℕ
    pub sole : Sole (length ts) (origins_of B) (size E) limit (hits_at_key B E ts) listed key
    pub square : l.square ≡ square_at B ts listed key
    pub hits : l.hits ≡ hits_at_key B E ts listed key
    pub runner-up : l.runner_up ≡ square_at B ts other_listed other_key
    pub others : FirstOther (length ts) (origins_of B) (hits_at_key B E ts) listed key other_listed other_key l.runner_up_hits

  -- a late refusal: 11 where no placing is within the limit, 13 where some are and none is ahead of every other by more than its own misses
  abbrev pub RefusedAs : Refusal → Type 0
  RefusedAs r =
      ((r ≡ numbered why.none_within_limit) × NoneWithin (length ts) (origins_of B) (size E) limit (hits_at_key B E ts))
      ⊎ ((r ≡ numbered why.not_far_ahead) × SomeWithin (length ts) (origins_of B) (size E) limit (hits_at_key B E ts) × ((p k : ℕ) → Sole (length ts) (origins_of B) (size E) limit (hits_at_key B E ts) p k → ⊥))

  -- an accepted call: 10 where document 01's total confidence is 0, else by hits alone
  abbrev pub LocatedAs : LocateAnswer → Type 0
  LocatedAs (Err r) = ((no_confidence E ≡ true) × (r ≡ numbered why.no_confidence)) ⊎ ((no_confidence E ≡ false) × RefusedAs r)
  LocatedAs (Ok l) = (no_confidence E ≡ false) × FoundAs l

  -- by the early refusals: handed on, or accepted
  abbrev pub AfterChecks : Admission → LocateAnswer → Type 0
  AfterChecks (Err r) a = a ≡ Err r
  AfterChecks (Ok _) a = LocatedAs a

  -- what a call did, for all inputs
  pub record LocateDone (a : LocateAnswer) : Type 0 where
    pub done : AfterChecks (locate_admission E ts B limit) a
