-- One list decided, by hits alone: hits are board's, counted edge by edge; no table, weight or score occurs.
use Rattle.std.specs.Prelude.{◌≡◌, refl, Bool, true, false, cond, ◌⊎◌, List, ℕ, ◌≤◌, length, Float, Err, None, Ok, Some}
use Rattle.std.proofs.Common.{sym, ◌∙◌, inl, inr}
use Rattle.board.specs.Hits.{EdgeList, Board, size}
use Rattle.board.specs.Sides.{period_of}
use Rattle.board.specs.Domain.{ListOk, BoardOk}
use Rattle.refusals.specs.Numbers.{numbered}
use Rattle.refusals.specs.Numbers as why
use Rattle.figures.specs.Gate.{passed}
use Rattle.figures.specs.Figures.{no_confidence}
use Rattle.scan.specs.Scan.{chosen}
use Rattle.scan.specs.declared.scan.Candidate.{Candidate}
use Rattle.scan.specs.declared.scan.RunnerUp.{RunnerUp}
use Rattle.scan.specs.Kinds.{Choice}
use Rattle.hard.specs.Placings.{NoneWithin, SomeWithin, Sole, MostOther, Right, not-far-ahead, found}
use Rattle.hard.specs.OneList.{key_at, origin_number, outcome_of}
use Rattle.hard.specs.Select.{scan_of, of_choice, selection}
use Rattle.hard.specs.SelectLaws.{select-unique}
use Rattle.hard.proofs.SelectTheorems.{hits_at_key, selection-is, one-list-by-hits}
use Rattle.decide.specs.Kinds.{Outcome}
use Rattle.decide.specs.Decide.{when_passed, gated, DecideDone}

module _ (B : Board) (E : EdgeList) (ts : List ℕ) (limit : Float) where
  -- how many origins there are, and the key of a winner's
  abbrev origins : ℕ
  origins = origin_number (period_of B true) (period_of B false)

  abbrev key_of : Candidate → ℕ
  key_of w = key_at (period_of B false) w.placing.row w.placing.col

  -- the right outcome: nothing within the limit exactly when no placing is; not far enough ahead exactly when some are and none is ahead of every other by more than its own
  -- misses; else that one placing, its hits, and the most hits of any other
  abbrev pub RightOutcome : Outcome → Type 0
  RightOutcome (Err r) =
      ((r ≡ numbered why.none_within_limit) × NoneWithin (length ts) origins (size E) limit (hits_at_key B E ts))
      ⊎ ((r ≡ numbered why.not_far_ahead) × SomeWithin (length ts) origins (size E) limit (hits_at_key B E ts) × ((p k : ℕ) → Sole (length ts) origins (size E) limit (hits_at_key B E ts) p k → ⊥))
  RightOutcome (Ok (w, runner-up)) =
      Sole (length ts) origins (size E) limit (hits_at_key B E ts) w.placing.listed (key_of w)
      × (w.hits ≡ hits_at_key B E ts w.placing.listed (key_of w))
      × MostOther (length ts) origins (size E) limit (hits_at_key B E ts) w.placing.listed (key_of w) runner-up.hits

  by-gate : (b : Bool) (w : Candidate) (runner-up : RunnerUp)
      → Right (length ts) origins (size E) limit (hits_at_key B E ts) (cond b (found w.placing.listed (key_of w) w.hits runner-up.hits) not-far-ahead) → RightOutcome (when_passed b w runner-up)
  by-gate true w runner-up r = r
  by-gate false w runner-up r = inr (refl, r.0, r.1)

  by-choice : (x : Choice) → Right (length ts) origins (size E) limit (hits_at_key B E ts) (outcome_of (period_of B false) (size E) x) → RightOutcome (gated (size E) (of_choice x))
  by-choice None r = inl (refl, r)
  by-choice (Some (w, runner-up)) r = by-gate (passed (size E) w.hits runner-up.hits) w runner-up r

  -- ONE LIST, DECIDED: where there is some confidence, the outcome is the right one
  pub decided-by-hits : BoardOk B → ListOk E → length ts ≤ 8 → no_confidence E ≡ false → RightOutcome (gated (size E) (selection B E ts limit))
  decided-by-hits board list few some = rw (selection-is B E ts limit some) (by-choice (chosen (scan_of B E ts limit (length ts))) (one-list-by-hits B E ts limit board list few))

-- any two results that the contract of `decide` allows are equal
pub decide-unique : (B : Board) (E : EdgeList) (ts : List ℕ) (limit : Float) (c : List ℕ) (w : List Float) (c' d' : List ℕ) (w' x' : List Float) (r s : Outcome)
    → DecideDone B E ts limit c c' w w' r → DecideDone B E ts limit c d' w x' s → (r ≡ s) × (c' ≡ d') × (w' ≡ x')
decide-unique B E ts limit c w c' d' w' x' r s p q =
    let u = select-unique B E ts limit c w c' d' w' x' (selection B E ts limit) (selection B E ts limit) (record { answer = refl; rooms = p.rooms }) (record { answer = refl; rooms = q.rooms }) in
    (p.answer ∙ sym q.answer, u.1, u.2)
