-- THE EQUALITY OF THE TWO ENGINES (C-16), for all inputs and any room that is long enough: one list by hits alone stands between them.
use Rattle.std.specs.Prelude.{◌≡◌, refl, Bool, true, false, List, ℕ, ◌*◌, ◌≤◌, ◌<◌, get_or, length, Float, Err, Ok}
use Rattle.std.proofs.Common.{sym, ap, ap₂, ◌∙◌, inl, inr}
use Rattle.std.proofs.Math.Arith.{digits_div, digits_mod}
use Rattle.laws.specs.Tests.{clash}
use Rattle.answer.specs.declared.Square.{Square}
use Rattle.board.specs.Hits.{EdgeList, Board, size}
use Rattle.board.specs.Sides.{period_of}
use Rattle.board.specs.Domain.{ListOk, BoardOk}
use Rattle.refusals.specs.declared.Refusal.{Refusal}
use Rattle.refusals.specs.Admission.{Admission, accepted}
use Rattle.findings.specs.FindingsLaws.{no-refusal}
use Rattle.figures.specs.Gate.{passed}
use Rattle.figures.specs.Figures.{no_confidence}
use Rattle.admission.specs.Calls.{hard_call}
use Rattle.admission.specs.Accepted.{hard-accepted}
use Rattle.scan.specs.declared.scan.Candidate.{Candidate}
use Rattle.scan.specs.declared.scan.RunnerUp.{RunnerUp}
use Rattle.hard.specs.Kinds.{Selection}
use Rattle.hard.specs.Placings.{Sole, MostOther}
use Rattle.hard.specs.PlacingsLaws.{sole-only, most-other-one}
use Rattle.hard.specs.OneList.{key_at}
use Rattle.hard.proofs.Ready.{ready-logical}
use Rattle.hard.specs.Select.{selection}
use Rattle.hard.proofs.SelectTheorems.{hits_at_key, refuses-10, selected-in-range}
use Rattle.decide.specs.Kinds.{Outcome}
use Rattle.decide.specs.Decide.{when_passed, gated}
use Rattle.decide.proofs.DecideTheorems.{RightOutcome, decided-by-hits}
use Rattle.locate_answer.specs.declared.Located.{Located}
use Rattle.locate_answer.specs.Answers.{LocateAnswer}
use Rattle.locate_admission.specs.LocateAdmission.{locate_admission}
use Rattle.locate.specs.Located.{origins_of, square_at, FoundAs, LocatedAs, AfterChecks, LocateDone}
use Rattle.locate.specs.LocatedTheorems.{refused-one, most_other, never_both}
use Rattle.locate_equal.specs.Equal.{as_logical, Same, SameAsTables}
use Rattle.locate_equal.specs.EarlyLaws.{relabelled, early-same}

module _ (B : Board) (E : EdgeList) (ts : List ℕ) (limit : Float) where
  abbrev M : ℕ
  M = period_of B false

  abbrev SoleAt : ℕ → ℕ → Type 0
  SoleAt = Sole (length ts) (origins_of B) (size E) limit (hits_at_key B E ts)

  -- ---- with some confidence: both are right by hits alone
  module _ (some : no_confidence E ≡ false) where
    -- what is located, where the tables decide for w
    found-same : (w : Candidate) (runner : RunnerUp) (l : Located) → w.placing.col < 3 * M
        → SoleAt w.placing.listed (key_at M w.placing.row w.placing.col)
        → w.hits ≡ hits_at_key B E ts w.placing.listed (key_at M w.placing.row w.placing.col)
        → MostOther (length ts) (origins_of B) (size E) limit (hits_at_key B E ts) w.placing.listed (key_at M w.placing.row w.placing.col) runner.hits
        → FoundAs B E ts limit l → Same ts (Ok (w, runner)) (Ok l)
    found-same w runner l c Z h O X =
        let k = key_at M w.placing.row w.placing.col in
        let o = sole-only (length ts) (origins_of B) (size E) limit (hits_at_key B E ts) X.listed X.key w.placing.listed k X.sole Z in
        let m = most_other (length ts) (origins_of B) (size E) limit (hits_at_key B E ts) X.listed X.key X.other_listed X.other_key l.runner_up_hits X.others in (
          l,
          refl,
          X.square ∙ ap₂ (square_at B ts) o.0 o.1 ∙ ap₂ (λ (r d : ℕ). sq (get_or ts w.placing.listed 0) r d) (digits_div w.placing.row c) (digits_mod w.placing.row c),
          X.hits ∙ ap₂ (hits_at_key B E ts) o.0 o.1 ∙ sym h,
          most-other-one (length ts) (origins_of B) (size E) limit (hits_at_key B E ts) w.placing.listed k l.runner_up_hits runner.hits (rw (o.0, o.1) at m) O,
        )
      where
        sq : ℕ → ℕ → ℕ → Square
        sq t r d = record { transform = t; row = r; col = d }

    -- an outcome that is right, and whose winner stands in a column of the board
    abbrev InBoard : Outcome → Type 0
    InBoard (Err r) = Unit {0}
    InBoard (Ok (w, runner)) = w.placing.col < 3 * M

    right-same : (x : Outcome) → RightOutcome B E ts limit x → InBoard x → (a : LocateAnswer) → LocatedAs B E ts limit a → Same ts x a
    right-same (Err r) R c (Err s) (inl a) = clash a.0 some
    right-same (Err r) R c (Err s) (inr a) = ap Err (refused-one B E ts limit s r a.1 R)
    right-same (Err r) R c (Ok l) a = absurd (never_both B E ts limit r a.1.listed a.1.key R a.1.sole)
    right-same (Ok (w, runner)) R c (Err s) (inl a) = clash a.0 some
    right-same (Ok (w, runner)) R c (Err s) (inr a) = absurd (never_both B E ts limit s w.placing.listed (key_at M w.placing.row w.placing.col) a.1 R.0)
    right-same (Ok (w, runner)) R c (Ok l) a = found-same w runner l c R.0 R.1 R.2 a.1

  module _ (board : BoardOk B) (list : ListOk E) (few : length ts ≤ 8) where
    in-board : (some : no_confidence E ≡ false) (x : Selection) → selection B E ts limit ≡ x → InBoard some (gated (size E) x)
    in-board some (Err r) e = tt
    in-board some (Ok (w, runner)) e = go (passed (size E) w.hits runner.hits)
      where
        go : (b : Bool) → InBoard some (when_passed b w runner)
        go true = (selected-in-range B E ts limit board list few w runner e).col
        go false = tt

    -- without confidence both refuse with 10
    ten-same : no_confidence E ≡ true → (a : LocateAnswer) → LocatedAs B E ts limit a → Same ts (gated (size E) (selection B E ts limit)) a
    ten-same h (Err s) (inl a) = rw ((refuses-10 B E ts limit).1 h) (ap Err a.1)
    ten-same h (Err s) (inr a) = clash h a.0
    ten-same h (Ok l) a = clash h a.0

    -- ---- ON AN ACCEPTED LIST BOTH ENGINES ANSWER THE SAME
    pub located-same : (a : LocateAnswer) → LocatedAs B E ts limit a → Same ts (gated (size E) (selection B E ts limit)) a
    located-same a X = go (no_confidence E) refl
      where
        go : (b : Bool) → no_confidence E ≡ b → Same ts (gated (size E) (selection B E ts limit)) a
        go true h = ten-same h a X
        go false h = right-same h (gated (size E) (selection B E ts limit)) (decided-by-hits B E ts limit board list few h) (in-board h (selection B E ts limit) refl) a X

  -- ---- THE THEOREM: whatever `locate` answers is what document 01's engine answers, refusals by number and place
  pub same-as-tables : (a : LocateAnswer) → LocateDone B E ts limit a → SameAsTables B E ts limit a
  same-as-tables a D = record {
    early = λ c w enough x e. refused (locate_admission E ts B limit) D.done x (sym (early-same E ts B limit (length c) (length w) enough) ∙ e);
    ready = λ c w enough e. ready-logical (hard_call E E ts B limit) c w (hard-accepted (hard_call E E ts B limit) (length c) (length w) e);
    late = λ c w enough e c' w' r X.
        let A = hard-accepted (hard_call E E ts B limit) (length c) (length w) e in
        rw X.answer (located-same A.board A.logical A.transforms.few a (was-accepted (locate_admission E ts B limit) D.done (sym (early-same E ts B limit (length c) (length w) enough) ∙ e)));
  }
    where
      refused : (y : Admission) → AfterChecks B E ts limit y a → (x : Refusal) → relabelled y ≡ Err x → (r : Refusal) × (a ≡ Err r) × (x ≡ as_logical r)
      refused (Ok _) d x e = no-refusal x e
      refused (Err r) d x e = (r, d, let z : as_logical r ≡ x = cc in sym z)

      was-accepted : (y : Admission) → AfterChecks B E ts limit y a → relabelled y ≡ accepted → LocatedAs B E ts limit a
      was-accepted (Ok _) d e = d
      was-accepted (Err r) d e = no-refusal (as_logical r) (sym e)
