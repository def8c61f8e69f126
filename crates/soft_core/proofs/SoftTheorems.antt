-- DEMAND 3, SOFT. For accepted inputs with some confidence in each list, soft decode answers exactly when its own best placing clears the soft margin and meets
-- limit and lead on the logical list; it gives that placing, and the runner-up of the logical list. Sums and hits are counted edge by edge.
use Rattle.std.specs.Prelude.{◌≡◌, Bool, false, ◌&&◌, cond, ℕ, ◌*◌, ◌/◌, ◌%◌, length, pos, Float, Err, Ok, Some}
use Rattle.std.proofs.Math.Path.{refl, sym, subst}
use Rattle.std.proofs.Common.{ap, ap₂, ◌∙◌, arith}
use Rattle.std.proofs.Math.Bool.{true}
use Rattle.std.proofs.Math.Dec.{eqb}
use Rattle.std.proofs.Math.ListN.{get_or}
use Rattle.std.specs.Float.{binary32}
use Rattle.std.specs.Float.Ieee.{sub, div, of_int}
use borrow.Author.Tests.{eq-eqb, eqb-true, eqb-false}
use Rattle.laws.specs.Tests.{and-true}
use Rattle.laws.specs.Words.{origins}
use Rattle.board.specs.declared.edge.Placing.{Placing}
use Rattle.board.specs.Hits.{EdgeList, Board, size, hits, hits_at}
use Rattle.board.specs.Sides.{period_of}
use Rattle.board.specs.Domain.{BoardOk}
use Rattle.admission.specs.Calls.{SoftCall}
use Rattle.admission.specs.Accepted.{SoftAccepted}
use Rattle.likelihood.specs.Likelihood.{dequantised}
use Rattle.sums.specs.Sums.{score}
use Rattle.tables.specs.TablesTheorems.{cell-pair-hits}
use Rattle.figures.specs.Gate.{passed}
use Rattle.figures.specs.Figures.{no_confidence}
use Rattle.hard.specs.Select.{tables_of, selection}
use Rattle.grid.specs.BoardGrid.{period-h, period-v}
use Rattle.hard.proofs.SelectTheorems.{sole-selected}
use Rattle.scan.specs.declared.scan.Candidate.{Candidate}
use Rattle.scan.specs.declared.scan.RunnerUp.{RunnerUp}
use Rattle.hard.specs.Kinds.{Selection}
use Rattle.margin.specs.declared.slots.SoftCandidate.{SoftCandidate}
use Rattle.margin.specs.Kinds.{SoftChoice}
use Rattle.soft.specs.BestPlacing.{FirstPlace, SecondPlace, BestTwo}
use Rattle.soft.specs.BestPlacingUnique.{best-two-only}
use Rattle.margin.specs.Margin.{below_margin}
use Rattle.soft.specs.Select.{soft_selection}
use Rattle.soft.specs.SelectLaws.{score_at_key, soft-best-edges}
use Rattle.refusals.specs.Admission.{Admission, accepted}
use Rattle.refusals.specs.Numbers.{numbered}
use Rattle.refusals.specs.Numbers as why
use Rattle.answer.specs.declared.SoftDecoded.{SoftDecoded}
use Rattle.verdict.specs.Verdict.{when_accepted}
use Rattle.verdict.specs.Answers.{never_both}
use Rattle.soft_verdict.specs.SoftVerdict.{soft_refused_by, soft_verdict, soft_decoded_of, best_of}
use Rattle.soft_logical.specs.Logical.{cell_fit, fit_of, soft_judged, after_hard}
use Rattle.soft_core.specs.Soft.{after_soft, soft_core}
use Rattle.soft_core.specs.SoftLaws.{likelihoods-ok}
use Rattle.demand.specs.Demand.{OnBoard, Leads, RunsUp}
use Rattle.demand.specs.DemandLaws.{key_of, placing, placing-on, key-same, key_back, row_back, col-back, leads-sole}
use Rattle.soft_verdict.specs.SoftVerdictTheorems.{soft-answers}
use Rattle.soft_core.specs.SoftDemand.{total, with_total, margin_of, FirstByLikelihood, SecondByLikelihood, BestByLikelihood, SoftKept, SoftAnswered}
use Rattle.soft_core.specs.SoftPlaces.{first-once, best-by-rows, second-total}
use Rattle.demand.specs.Winners.{runner_at, winner-on, winner-leads, named, runner-hits, runs_up}

-- ---- the verdict
-- 0: both winners agree, and the gate is passed
pub verdict-passed : (t : ℕ) (first : SoftCandidate) (s : ℕ) (w : Candidate) (runner : RunnerUp) (edges : ℕ) → soft_verdict t first s w runner edges ≡ accepted
    → (t ≡ s) × (first.placing.row ≡ w.placing.row) × (first.placing.col ≡ w.placing.col) × (passed edges w.hits runner.hits ≡ true)
unfolding soft_verdict
verdict-passed t first s w runner edges h =
    go (eqb t s && (eqb first.placing.row w.placing.row && eqb first.placing.col w.placing.col)) (passed edges w.hits runner.hits) refl refl h
  where
    go : (a b : Bool) → (eqb t s && (eqb first.placing.row w.placing.row && eqb first.placing.col w.placing.col)) ≡ a → passed edges w.hits runner.hits ≡ b → cond a (cond b accepted (Err (numbered why.not_far_ahead))) (Err (numbered why.soft_hard_disagree)) ≡ accepted
        → (t ≡ s) × (first.placing.row ≡ w.placing.row) × (first.placing.col ≡ w.placing.col) × (passed edges w.hits runner.hits ≡ true)
    go true true e g k =
        let u = and-true (eqb t s) _ e in
        let v = and-true (eqb first.placing.row w.placing.row) (eqb first.placing.col w.placing.col) u.1 in
        (eqb-true t s u.0, eqb-true first.placing.row w.placing.row v.0, eqb-true first.placing.col w.placing.col v.1, g)
    go true false e g k = let z : ◌≡◌ {A = ℕ} 0 1 = cc in absurd (omega arith)
    go false b e g k = let z : ◌≡◌ {A = ℕ} 0 1 = cc in absurd (omega arith)

-- the figures' hits are board's
pub fit-hits : (B : Board) (E : EdgeList) (t row col : ℕ) → BoardOk B → (fit_of B E t row col).hits ≡ hits B E t row col
unfolding cell_fit tables_of
fit-hits B E t row col board = sym (cell-pair-hits B E t board row col)

module _ (call : SoftCall) (m n o : ℕ) (A : SoftAccepted call m n o) where
  -- ---- its own best placing
  abbrev Best : SoftChoice → Type 0
  Best = BestTwo (period_of call.hard.board true) (period_of call.hard.board false) (length call.hard.transforms) (score_at_key call.hard.board call.hard.physical call.likelihoods call.hard.transforms)

  best : Best (soft_selection call.hard.board call.hard.physical call.likelihoods call.hard.transforms)
  best = soft-best-edges call.hard.board call.hard.physical call.likelihoods call.hard.transforms A.hard.board A.hard.physical (likelihoods-ok call m n o A) A.hard.transforms.some

  -- a placing by its key has the total that its row and column have
  by_key : (Q : Placing) → OnBoard call.hard.board call.hard.transforms Q → record { placing = record { listed = Q.listed; row = key_of call.hard.board A.hard.board Q / (3 * period_of call.hard.board false); col = key_of call.hard.board A.hard.board Q % (3 * period_of call.hard.board false) }; total = dequantised (score_at_key call.hard.board call.hard.physical call.likelihoods call.hard.transforms Q.listed (key_of call.hard.board A.hard.board Q)) } ≡ with_total call.hard.board call.hard.physical call.likelihoods call.hard.transforms Q
  by_key Q u =
      let r = row_back call.hard.board A.hard.board call.hard.transforms Q u in
      let c = col-back call.hard.board A.hard.board call.hard.transforms Q u in
      λ i. record { placing = record { listed = Q.listed; row = r i; col = c i }; total = dequantised (score call.hard.board call.hard.physical call.likelihoods (get_or call.hard.transforms Q.listed 0) (r i) (c i)) }

  -- the two best by likelihood are what soft selection holds
  pub own-best : (Q R : Placing) → BestByLikelihood call.hard.board call.hard.physical call.likelihoods call.hard.transforms Q R → soft_selection call.hard.board call.hard.physical call.likelihoods call.hard.transforms ≡ Some ((with_total call.hard.board call.hard.physical call.likelihoods call.hard.transforms Q), (with_total call.hard.board call.hard.physical call.likelihoods call.hard.transforms R))
  own-best Q R b =
      best-two-only (period_of call.hard.board true) (period_of call.hard.board false) (length call.hard.transforms) (period-h call.hard.board A.hard.board) (period-v call.hard.board A.hard.board) (score_at_key call.hard.board call.hard.physical call.likelihoods call.hard.transforms) (soft_selection call.hard.board call.hard.physical call.likelihoods call.hard.transforms) _ best
      (record { p = Q.listed; k = key_of call.hard.board A.hard.board Q; q = R.listed; j = key_of call.hard.board A.hard.board R; chosen = refl; first = b.first; second = b.second })
      ∙ ap₂ (λ (x y : SoftCandidate). Some (x, y)) (by_key Q b.on-board) (by_key R b.second_on)

  -- and it always holds two
  pub first-placing : Placing
  first-placing = placing call.hard.board A.hard.board best.p best.k

  pub second-placing : Placing
  second-placing = placing call.hard.board A.hard.board best.q best.j

  pub own-exists : BestByLikelihood call.hard.board call.hard.physical call.likelihoods call.hard.transforms first-placing second-placing
  unfolding first-placing second-placing
  own-exists =
      let e = key_back call.hard.board A.hard.board call.hard.transforms best.p best.k in
      let f = key_back call.hard.board A.hard.board call.hard.transforms best.q best.j in
      let G = origins (period_of call.hard.board true) (period_of call.hard.board false) in
      record {
        on-board = placing-on call.hard.board A.hard.board call.hard.transforms best.p best.k best.first.listed best.first.own.key;
        second_on = placing-on call.hard.board A.hard.board call.hard.transforms best.q best.j best.second.listed best.second.key;
        first = subst (λ (k : ℕ). FirstPlace (origins (period_of call.hard.board true) (period_of call.hard.board false)) (length call.hard.transforms) (score_at_key call.hard.board call.hard.physical call.likelihoods call.hard.transforms) best.p k) (sym e) best.first;
        second = subst (λ (k : ℕ). SecondPlace (origins (period_of call.hard.board true) (period_of call.hard.board false)) (length call.hard.transforms) (score_at_key call.hard.board call.hard.physical call.likelihoods call.hard.transforms) best.p k best.q (key_of call.hard.board A.hard.board (placing call.hard.board A.hard.board best.q best.j))) (sym e)
            (subst (λ (j : ℕ). SecondPlace (origins (period_of call.hard.board true) (period_of call.hard.board false)) (length call.hard.transforms) (score_at_key call.hard.board call.hard.physical call.likelihoods call.hard.transforms) best.p best.k best.q j) (sym f) best.second);
      }

  -- by rows and columns: some placing has first place, and some has second place after it
  pub places-exist : FirstByLikelihood call.hard.board call.hard.physical call.likelihoods call.hard.transforms first-placing
      × SecondByLikelihood call.hard.board call.hard.physical call.likelihoods call.hard.transforms first-placing second-placing
  places-exist = best-by-rows call.hard.board call.hard.physical call.likelihoods call.hard.transforms A.hard.board first-placing second-placing own-exists

  -- ---- found: then its own best placing clears the margin and leads
  -- how an answer comes to be found: the two best by likelihood, the winner of the logical list with its runner-up, and what is told of them
  pub record FoundBy (d : SoftDecoded) : Type 0 where
    pub first : Placing
    pub second : Placing
    pub best : BestByLikelihood call.hard.board call.hard.physical call.likelihoods call.hard.transforms first second
    pub clears : below_margin (margin_of call.hard.board call.hard.physical call.likelihoods call.hard.transforms first second) call.soft-margin ≡ false
    pub winner : Candidate
    pub runner : RunnerUp
    pub selected : selection call.hard.board call.hard.logical call.hard.transforms call.hard.error_limit ≡ Ok (winner, runner)
    pub agrees : (get_or call.hard.transforms first.listed 0 ≡ get_or call.hard.transforms winner.placing.listed 0) × (first.row ≡ winner.placing.row) × (first.col ≡ winner.placing.col) × (passed (size call.hard.logical) winner.hits runner.hits ≡ true)
    pub told : soft_decoded_of (get_or call.hard.transforms first.listed 0) (get_or call.hard.transforms second.listed 0) (best_of (with_total call.hard.board call.hard.physical call.likelihoods call.hard.transforms first) (with_total call.hard.board call.hard.physical call.likelihoods call.hard.transforms second) (size call.hard.physical)) (fit_of call.hard.board call.hard.physical (get_or call.hard.transforms first.listed 0) first.row first.col) (size call.hard.physical) runner ≡ d

  module _ (d : SoftDecoded) (Q R : Placing) (b : BestByLikelihood call.hard.board call.hard.physical call.likelihoods call.hard.transforms Q R) (clear : below_margin (margin_of call.hard.board call.hard.physical call.likelihoods call.hard.transforms Q R) call.soft-margin ≡ false) where
    abbrev t : ℕ
    t = get_or call.hard.transforms Q.listed 0

    abbrev answer : RunnerUp → SoftDecoded
    answer r = soft_decoded_of t (get_or call.hard.transforms R.listed 0) (best_of (with_total call.hard.board call.hard.physical call.likelihoods call.hard.transforms Q) (with_total call.hard.board call.hard.physical call.likelihoods call.hard.transforms R) (size call.hard.physical)) (fit_of call.hard.board call.hard.physical t Q.row Q.col) (size call.hard.physical) r

    module _ (x : Candidate) (r : RunnerUp) (e : selection call.hard.board call.hard.logical call.hard.transforms call.hard.error_limit ≡ Ok (x, r)) (p : (t ≡ get_or call.hard.transforms x.placing.listed 0) × (Q.row ≡ x.placing.row) × (Q.col ≡ x.placing.col) × (passed (size call.hard.logical) x.hits r.hits ≡ true)) where
      lead : Leads call.hard.board call.hard.logical call.hard.transforms call.hard.error_limit x.placing
      lead = winner-leads call.hard.board call.hard.logical call.hard.transforms call.hard.error_limit A.hard.board A.hard.logical A.hard.transforms.few x r e p.3

      -- the same transform and origin, so as many hits: were it at another place of the list, neither would lead
      same-hits : hits_at call.hard.board call.hard.logical call.hard.transforms Q ≡ hits_at call.hard.board call.hard.logical call.hard.transforms x.placing
      same-hits = λ i. hits call.hard.board call.hard.logical (p.0 i) (p.1 i) (p.2 i)

      same_place : (e : Bool) → eqb Q.listed x.placing.listed ≡ e → Q.listed ≡ x.placing.listed
      same_place true h = eqb-true Q.listed x.placing.listed h
      same_place false h = absurd (omega (arith, same-hits, lead.ahead Q b.on-board (λ s. eqb-false Q.listed x.placing.listed h s.0)))

      same-one : x.placing ≡ Q
      same-one = let q = same_place (eqb Q.listed x.placing.listed) refl in λ i. record { listed = sym q i; row = sym p.1 i; col = sym p.2 i }

      soft-answered : soft_decoded_of t (get_or call.hard.transforms R.listed 0) (best_of (with_total call.hard.board call.hard.physical call.likelihoods call.hard.transforms Q) (with_total call.hard.board call.hard.physical call.likelihoods call.hard.transforms R) (size call.hard.physical)) (fit_of call.hard.board call.hard.physical t Q.row Q.col) (size call.hard.physical) r ≡ d → SoftAnswered call d
      unfolding soft_decoded_of
      soft-answered q =
          let l = named call.hard.board call.hard.logical call.hard.transforms call.hard.error_limit A.hard.board A.hard.logical A.hard.transforms.few x r e p.3 in
          subst (λ (z : SoftDecoded). SoftAnswered call z) q (record {
            square = Q;
            second = R;
            runner-up = runner_at l.0 r;
            clears = let p = best-by-rows call.hard.board call.hard.physical call.likelihoods call.hard.transforms A.hard.board Q R b in record { first = p.0; second = p.1; margin = clear };
            leads = subst (λ (z : Placing). Leads call.hard.board call.hard.logical call.hard.transforms call.hard.error_limit z) same-one lead;
            runs_up = subst (λ (z : Placing). RunsUp call.hard.board call.hard.logical call.hard.transforms z (runner_at l.0 r)) same-one (runs_up call.hard.board call.hard.logical call.hard.transforms call.hard.error_limit A.hard.board A.hard.logical A.hard.transforms.few x r e p.3);
            tells = record {
              square = (refl, refl, refl);
              hits = fit-hits call.hard.board call.hard.physical t Q.row Q.col A.hard.board;
              edges = refl;
              runner-up = (l.2, refl, refl);
              runner_up_hits = sym (runner-hits call.hard.board call.hard.logical call.hard.transforms call.hard.error_limit A.hard.board A.hard.logical A.hard.transforms.few x r e p.3);
            };
            best_score = refl;
            second_named = (refl, refl, refl);
            second_score = refl;
            margin = refl;
          })

    abbrev verdict : Candidate → RunnerUp → Admission
    verdict x r = soft_verdict t (with_total call.hard.board call.hard.physical call.likelihoods call.hard.transforms Q) (get_or call.hard.transforms x.placing.listed 0) x r (size call.hard.logical)

    by-verdict : (x : Candidate) (r : RunnerUp) (v : Admission) → selection call.hard.board call.hard.logical call.hard.transforms call.hard.error_limit ≡ Ok (x, r) → verdict x r ≡ v → when_accepted Err v (Ok (answer r)) ≡ Ok d → FoundBy d
    by-verdict x r (Ok _) e h k = record {
      first = Q;
      second = R;
      best = b;
      clears = clear;
      winner = x;
      runner = r;
      selected = e;
      agrees = verdict-passed t (with_total call.hard.board call.hard.physical call.likelihoods call.hard.transforms Q) (get_or call.hard.transforms x.placing.listed 0) x r (size call.hard.logical) h;
      told = let q : answer r ≡ d = cc in q;
    }
    by-verdict x r (Err j) e h k = absurd (never_both soft-answers d j k)

    by-logical : (q : Selection) → selection call.hard.board call.hard.logical call.hard.transforms call.hard.error_limit ≡ q → after_hard call.hard (best_of (with_total call.hard.board call.hard.physical call.likelihoods call.hard.transforms Q) (with_total call.hard.board call.hard.physical call.likelihoods call.hard.transforms R) (size call.hard.physical)) q ≡ Ok d → FoundBy d
    unfolding soft_judged
    by-logical (Err j) e h = absurd (never_both soft-answers d j h)
    by-logical (Ok (x, r)) e h = by-verdict x r (verdict x r) e refl h

  by-margin : (d : SoftDecoded) (Q R : Placing) → BestByLikelihood call.hard.board call.hard.physical call.likelihoods call.hard.transforms Q R → (v : Bool) → below_margin (margin_of call.hard.board call.hard.physical call.likelihoods call.hard.transforms Q R) call.soft-margin ≡ v
      → cond v (soft_refused_by why.soft_margin) (after_hard call.hard (best_of (with_total call.hard.board call.hard.physical call.likelihoods call.hard.transforms Q) (with_total call.hard.board call.hard.physical call.likelihoods call.hard.transforms R) (size call.hard.physical)) (selection call.hard.board call.hard.logical call.hard.transforms call.hard.error_limit)) ≡ Ok d → FoundBy d
  by-margin d Q R b true e h = absurd (never_both soft-answers d (numbered why.soft_margin) h)
  by-margin d Q R b false e h = by-logical d Q R b e (selection call.hard.board call.hard.logical call.hard.transforms call.hard.error_limit) refl h

  by-confidence : (d : SoftDecoded) (v : Bool) → cond v (soft_refused_by why.no_confidence) (after_soft call.hard call.soft-margin (soft_selection call.hard.board call.hard.physical call.likelihoods call.hard.transforms)) ≡ Ok d → FoundBy d
  by-confidence d true h = absurd (never_both soft-answers d (numbered why.no_confidence) h)
  by-confidence d false h =
      let Q = first-placing in
      let R = second-placing in
      by-margin d Q R own-exists (below_margin (margin_of call.hard.board call.hard.physical call.likelihoods call.hard.transforms Q R) call.soft-margin) refl (ap (after_soft call.hard call.soft-margin) (sym (own-best Q R own-exists)) ∙ h)

  -- how it was found
  pub found-by : (d : SoftDecoded) → soft_core call ≡ Ok d → FoundBy d
  unfolding soft_core
  found-by d h = by-confidence d (no_confidence call.hard.physical) h

  -- FOUND MEANS TRUE
  pub soft-sound : (d : SoftDecoded) → soft_core call ≡ Ok d → SoftAnswered call d
  soft-sound d h = let f = found-by d h in soft-answered d f.first f.second f.best f.clears f.winner f.runner f.selected f.agrees f.told

  -- and which of the second-best placings is meant, where several tie
  pub soft-kept : (d : SoftDecoded) → soft_core call ≡ Ok d → SoftKept call d
  unfolding soft_decoded_of
  soft-kept d h =
      let f = found-by d h in
      subst (λ (z : SoftDecoded). SoftKept call z) f.told (record { square = f.first; second = f.second; best = f.best; names = (refl, refl, refl); second_named = (refl, refl, refl); margin = refl })

  -- ---- its own best placing clears the margin and leads: then soft decode finds
  -- A TRUE SQUARE IS FOUND
  pub soft-complete : no_confidence call.hard.physical ≡ false → no_confidence call.hard.logical ≡ false → (Q R : Placing) → BestByLikelihood call.hard.board call.hard.physical call.likelihoods call.hard.transforms Q R → below_margin (margin_of call.hard.board call.hard.physical call.likelihoods call.hard.transforms Q R) call.soft-margin ≡ false → Leads call.hard.board call.hard.logical call.hard.transforms call.hard.error_limit Q
      → (d : SoftDecoded) × (soft_core call ≡ Ok d)
  unfolding soft_core soft_judged soft_verdict
  soft-complete h g Q R b clear l =
      let s = sole-selected call.hard.board call.hard.logical call.hard.transforms call.hard.error_limit A.hard.board A.hard.logical A.hard.transforms.few g Q.listed (key_of call.hard.board A.hard.board Q) (leads-sole call.hard.board A.hard.board call.hard.transforms call.hard.logical call.hard.error_limit Q l) in
      let x = s.0 in
      let r = s.1 in
      let k = key-same call.hard.board A.hard.board call.hard.transforms Q x.placing l.on-board (winner-on call.hard.board call.hard.logical call.hard.transforms call.hard.error_limit A.hard.board A.hard.logical A.hard.transforms.few x r s.2) (s.4, s.5) in
      let t = get_or call.hard.transforms Q.listed 0 in
      let p1 : eqb t (get_or call.hard.transforms x.placing.listed 0) ≡ true = eq-eqb t (get_or call.hard.transforms x.placing.listed 0) (ap (λ (i : ℕ). get_or call.hard.transforms i 0) k.0) in
      let p2 : eqb Q.row x.placing.row ≡ true = eq-eqb Q.row x.placing.row k.1 in
      let p3 : eqb Q.col x.placing.col ≡ true = eq-eqb Q.col x.placing.col k.2 in
      (soft_decoded_of t (get_or call.hard.transforms R.listed 0) (best_of (with_total call.hard.board call.hard.physical call.likelihoods call.hard.transforms Q) (with_total call.hard.board call.hard.physical call.likelihoods call.hard.transforms R) (size call.hard.physical)) (fit_of call.hard.board call.hard.physical t Q.row Q.col) (size call.hard.physical) r, rw (h, own-best Q R b, clear, s.2, p1, p2, p3, s.3))

  -- the same by rows and columns: a placing that has first place, clears the margin over any that has second place, and leads, is found
  pub soft-complete-by-rows : no_confidence call.hard.physical ≡ false → no_confidence call.hard.logical ≡ false → (Q R : Placing)
      → FirstByLikelihood call.hard.board call.hard.physical call.likelihoods call.hard.transforms Q
      → SecondByLikelihood call.hard.board call.hard.physical call.likelihoods call.hard.transforms Q R
      → below_margin (margin_of call.hard.board call.hard.physical call.likelihoods call.hard.transforms Q R) call.soft-margin ≡ false
      → Leads call.hard.board call.hard.logical call.hard.transforms call.hard.error_limit Q → (d : SoftDecoded) × (soft_core call ≡ Ok d)
  soft-complete-by-rows h g Q R u v clear l =
      let H = call.hard in
      let X = call.likelihoods in
      let P = first-placing in
      let S = second-placing in
      let b = places-exist in
      let s = first-once H.board H.physical X H.transforms A.hard.board Q P u b.0 in
      let e : Q ≡ P = λ i. record { listed = s.0 i; row = s.1 i; col = s.2 i } in
      let w = subst (λ (z : Placing). SecondByLikelihood H.board H.physical X H.transforms z R) e v in
      let k = second-total H.board H.physical X H.transforms A.hard.board A.hard.physical (likelihoods-ok call m n o A) P R S w b.1 in
      soft-complete h g P S own-exists
      (sym (ap₂ (λ (x y : Float). below_margin (div binary32 (sub binary32 x y) (of_int binary32 (pos (size H.physical)))) call.soft-margin) (ap (total H.board H.physical X H.transforms) e) k) ∙ clear)
      (subst (λ (z : Placing). Leads H.board H.logical H.transforms H.error_limit z) e l)
