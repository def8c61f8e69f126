-- The theorem on one list, by hits alone. `one_list`: selection and gate give the right outcome (there is one, `right_unique` of PlacingsLaws). Then the same
-- as named statements: `refuses-none-within`, `refuses-not-ahead`, `finds`, what is `reported` of a placing that passes, and `runner-up-exists`.
use Rattle.std.specs.Prelude.{◌≡◌, refl, Bool, true, false, cond, ℕ, ◌≤◌, ◌<◌, Float, None, Some}
use Rattle.std.proofs.Common.{sym, ap, ◌∙◌, le_trans}
use Rattle.laws.specs.Tests.{clash, not_so}
use Rattle.laws.specs.Words.{origins}
use Rattle.best.specs.CellTables.{CellTables, Period, TablesOk}
use Rattle.figures.specs.Gate.{passed}
use Rattle.scan.specs.Scan.{over_limit, runner_up_of}
use Rattle.folding.specs.Transform.{best_origin, best_at, selected}
use Rattle.folding.specs.TransformLaws.{best-under}
use Rattle.hard.specs.RateLaws.{fewer-over, more_within}
use Rattle.hard.specs.SummedLaws.{summed}
use Rattle.hard.specs.Placings.{not-far-ahead, found, NoneWithin, Sole, MostOther, Right}
use Rattle.hard.specs.PlacingsLaws.{sole-only}
use Rattle.hard.specs.OneList.{hits_of, key_at, origin_number, outcome_of, choice, Stopped, Unclear, Passes, Reported, InRange}
use Rattle.hard.specs.WinnerLaws.{Winner, Chose, is-chosen, runner-up-most, in-range, ahead, passes, place-named}
use Rattle.scan.specs.declared.scan.Candidate.{Candidate}
use Rattle.scan.specs.declared.scan.RunnerUp.{RunnerUp}
use Rattle.scan.specs.Kinds.{Choice}

-- n positions, at most eight, each with the tables of a list of `edges` edges
module _ (L M edges : ℕ) (confidence limit : Float) (ts : ℕ → ℕ) (tab : ℕ → CellTables) (n : ℕ) (p : Period L) (q : Period M) (few : n ≤ 8) (ok : (i : ℕ) → i < n → TablesOk L M edges (tab i)) where
  abbrev hit : ℕ → ℕ → ℕ
  hit = hits_of L M tab

  abbrev none : ℕ
  none = origin_number L M

  abbrev chose : Choice
  chose = choice L M edges confidence limit ts tab n

  -- what is known of a choice, and of a placing that is chosen
  abbrev Known : Choice → Type 0
  Known = Chose L M edges confidence limit ts tab n p q few ok

  known : (x : Choice) → chose ≡ x → Known x
  known x e = rw e at (is-chosen L M edges confidence limit ts tab n p q few ok)

  abbrev Won : Candidate → Type 0
  Won c = Winner L M edges confidence limit ts tab n c.placing.listed c

  abbrev runner-up : Candidate → RunnerUp
  runner-up c = runner_up_of (selected L M edges confidence limit ts tab n).summaries c.placing.listed n

  abbrev key : Candidate → ℕ
  key c = key_at M c.placing.row c.placing.col

  judged : (c : Candidate) (r : RunnerUp) → Won c → r ≡ runner-up c → (t : Bool) → passed edges c.hits r.hits ≡ t
      → Right n none edges limit hit (cond t (found c.placing.listed (key c) c.hits r.hits) not-far-ahead)
  judged c r W e true t = (ahead L M edges confidence limit ts tab n p q few ok c.placing.listed c W (rw e at t), sym W.at, rw e (runner-up-most L M edges confidence limit ts tab n p q few ok c.placing.listed c W))
  judged c r W e false t = (
    (c.placing.listed, key c, W.in_list, W.inside, rw W.at W.allowed),
    λ i k S. clash (passes L M edges confidence limit ts tab n p q few ok c.placing.listed c W i k S) (rw e at t),
  )

  right : (x : Choice) → Known x → Right n none edges limit hit (outcome_of M edges x)
  right None h = h
  right (Some (c, r)) h = judged c r h.0 h.1 (passed edges c.hits r.hits) refl

  -- ---- the theorem: selection and gate give the right outcome
  pub one_list_lem : Right n none edges limit hit (outcome_of M edges (choice L M edges confidence limit ts tab n))
  one_list_lem = right chose (known chose refl)

  -- ---- the same, statement by statement
  -- (a) nothing is chosen exactly when no placing is within the limit
  pub refuses-none-within : (choice L M edges confidence limit ts tab n ≡ None → NoneWithin n none edges limit hit) × (NoneWithin n none edges limit hit → choice L M edges confidence limit ts tab n ≡ None)
  refuses-none-within = (known None, λ h. go h chose (known chose refl))
    where
      go : NoneWithin n none edges limit hit → (x : Choice) → Known x → x ≡ None
      go h None t = refl
      go h (Some (c, r)) t = let W = t.0 in clash (h c.placing.listed (key c) W.in_list W.inside) (rw W.at W.allowed)

  -- (b) a placing is chosen and the gate refuses it exactly when some placing is within the limit but none is ahead of every other
  pub refuses-not-ahead : (Stopped L M edges confidence limit ts tab n → Unclear L M edges confidence limit ts tab n) × (Unclear L M edges confidence limit ts tab n → Stopped L M edges confidence limit ts tab n)
  refuses-not-ahead = (λ s. let k = known (Some (s.0, s.1)) s.2 in judged s.0 s.1 k.0 k.1 false s.3, λ u. go u chose refl)
    where
      go : Unclear L M edges confidence limit ts tab n → (x : Choice) → chose ≡ x → Stopped L M edges confidence limit ts tab n
      go u None e = let w = u.0 in clash (known None e w.0 w.1 w.2 w.3) w.4
      go u (Some (c, r)) e =
          let k = known (Some (c, r)) e in
          (c, r, e, not_so (passed edges c.hits r.hits) (λ t. u.1 c.placing.listed (key c) (judged c r k.0 k.1 true t).0))

  -- (c) a placing is chosen and passes the gate exactly when it is ahead of every other by more than its own misses
  pub finds : (i k : ℕ) → (Passes L M edges confidence limit ts tab n i k → Sole n none edges limit hit i k) × (Sole n none edges limit hit i k → Passes L M edges confidence limit ts tab n i k)
  finds i k = (passing, λ S. go S chose refl)
    where
      passing : Passes L M edges confidence limit ts tab n i k → Sole n none edges limit hit i k
      passing s =
          let w = known (Some (s.0, s.1)) s.2 in
          rw (s.4, s.5) at (judged s.0 s.1 w.0 w.1 true s.3).0

      go : Sole n none edges limit hit i k → (x : Choice) → chose ≡ x → Passes L M edges confidence limit ts tab n i k
      go S None e = clash (known None e i k S.listed S.key) S.allowed
      go S (Some (c, r)) e =
          let w = known (Some (c, r)) e in
          let t = passes L M edges confidence limit ts tab n p q few ok c.placing.listed c w.0 i k S in
          let o = sole-only n none edges limit hit c.placing.listed (key c) i k (ahead L M edges confidence limit ts tab n p q few ok c.placing.listed c w.0 t) S in
          (c, r, e, rw w.1 t, o.0, o.1)

  -- and then this is reported of it
  pub reported : (c : Candidate) (r : RunnerUp) → choice L M edges confidence limit ts tab n ≡ Some (c, r) → passed edges c.hits r.hits ≡ true → Reported L M edges confidence limit ts tab n c r
  reported c r e t =
      let w = known (Some (c, r)) e in
      let j = judged c r w.0 w.1 true t in
      record {
        sole = j.0;
        only = λ i k S. sole-only n none edges limit hit i k c.placing.listed (key c) S j.0;
        hits = j.1;
        runner-up = j.2;
        named = rw w.1 (place-named L M edges confidence limit ts tab n p q few ok c.placing.listed c w.0 (rw w.1 at t));
      }

  -- a runner-up always exists: whatever is chosen, passed or not, its runner-up's hits are the most that any other placing has
  pub runner-up-exists : (c : Candidate) (r : RunnerUp) → choice L M edges confidence limit ts tab n ≡ Some (c, r) → MostOther n none edges limit hit c.placing.listed (key_at M c.placing.row c.placing.col) r.hits
  runner-up-exists c r e = let w = known (Some (c, r)) e in rw w.1 (runner-up-most L M edges confidence limit ts tab n p q few ok c.placing.listed c w.0)

  -- both are placings of the list, with no more hits than there are edges
  pub choice-in-range : (c : Candidate) (r : RunnerUp) → choice L M edges confidence limit ts tab n ≡ Some (c, r) → InRange L M edges confidence limit ts tab n c r
  choice-in-range c r e = let w = known (Some (c, r)) e in rw w.1 (in-range L M edges confidence limit ts tab n p q few ok c.placing.listed c w.0)

  -- what is chosen has the hits that it says, and no placing within the limit has more
  pub choice-most : (c : Candidate) (r : RunnerUp) → choice L M edges confidence limit ts tab n ≡ Some (c, r)
      → (hit c.placing.listed (key_at M c.placing.row c.placing.col) ≡ c.hits) × ((i k : ℕ) → i < n → k < none → over_limit edges limit (hit i k) ≡ false → hit i k ≤ c.hits)
  choice-most c r e =
      let W = (known (Some (c, r)) e).0 in (
        W.at,
        λ i k hi hk h.
            let m = (summed L M p q edges (tab i) (ok i hi)).most k in
            le_trans m (W.most i hi (more_within edges limit (hit i k) (best_at tab i) (ok i hi).few m (best-under L M p q edges (tab i) (ok i hi)) h)),
      )

  -- ---- refusal 11 in document 01's words: "no listed transform's best hits are within the limit"
  pub none-within-best : (choice L M edges confidence limit ts tab n ≡ None → (i : ℕ) → i < n → over_limit edges limit (best_at tab i) ≡ true)
      × (((i : ℕ) → i < n → over_limit edges limit (best_at tab i) ≡ true) → choice L M edges confidence limit ts tab n ≡ None)
  none-within-best = (over, λ h. refuses-none-within.1 (λ i k hi hk. fewer-over edges limit (hit i k) (best_at tab i) (ok i hi).few ((summed L M p q edges (tab i) (ok i hi)).most k) (best-under L M p q edges (tab i) (ok i hi)) (h i hi)))
    where
      over : choice L M edges confidence limit ts tab n ≡ None → (i : ℕ) → i < n → over_limit edges limit (best_at tab i) ≡ true
      over e i hi =
          let s = summed L M p q edges (tab i) (ok i hi) in
          ap (over_limit edges limit) (sym s.at) ∙ refuses-none-within.0 e i (best_origin (origins L M) (tab i)) hi s.inside
