-- The kept candidate and its runner-up, as statements about every placing: the winner has the most hits of those within the limit, the runner-up's hits are the
-- most that another placing has, and the gate is passed exactly when the winner is ahead of every other placing by more than its own misses.
use Rattle.std.specs.Prelude.{◌≡◌, refl, Bool, true, false, List, ◌⊎◌, ℕ, ◌-◌, ◌*◌, ◌/◌, ◌%◌, ◌≤◌, ◌<◌, Float, get_or, None, Some}
use Rattle.std.proofs.Common.{sym, ap₂, subst, ◌∙◌, inl, inr, mod-lt, div-lt_iff_lt-mul, div-add-mod', arith, ltb-true, lt-ltb}
use Rattle.std.proofs.Math.Path.{ap}
use Rattle.std.proofs.Math.Logic.{⊎_elim}
use Rattle.laws.specs.Tests.{clash, cases, compared, decided, not_so}
use Rattle.laws.specs.Words.{origins}
use Rattle.best.specs.CellTables.{CellTables, Period, TablesOk}
use Rattle.best.specs.Lex.{lex_of}
use Rattle.figures.specs.Gate.{passed}
use Rattle.scan.specs.Scan.{over_limit, no_summary, runner_up_of, chosen, chosen_by}
use Rattle.direct.specs.Direct.{origin_candidate}
use Rattle.folding.specs.Transform.{best_origin, best_hits, best_candidate, pairs_tied, runner_up_within, summary_of, transform_summary, selected, separation_product_cap}
use Rattle.folding.specs.TransformLaws.{best-under, selected-count, summary-at}
use Rattle.folding.proofs.KeptLaws.{MostOf, Offers, Listed, kept-most, offers-place}
use Rattle.hard.specs.RateLaws.{fewer-over, more_within}
use Rattle.hard.specs.SummedLaws.{Summed, summed, many-tied}
use Rattle.hard.specs.RunnerUpLaws.{runner-up-inside, others-bounded, other-attains, runner-up-named, own_origin}
use Rattle.hard.specs.Placings.{NoneWithin, Sole, MostOther}
use Rattle.hard.specs.OneList.{hits_of, key_at, origin_number, choice, InRange}
use Rattle.best.specs.declared.lex.LexMax.{LexMax}
use Rattle.scan.specs.declared.scan.TransformSummary.{TransformSummary}
use Rattle.scan.specs.declared.scan.Candidate.{Candidate}
use Rattle.scan.specs.declared.scan.RunnerUp.{RunnerUp}
use Rattle.scan.specs.Kinds.{Kept}
use Rattle.scan.specs.Kinds.{Choice}
use Rattle.folding.specs.declared.transform.Ranked.{Ranked}

-- n list positions with the transforms ts and the tables tab, of a list of `edges` edges
module _ (L M edges : ℕ) (confidence limit : Float) (ts : ℕ → ℕ) (tab : ℕ → CellTables) (n : ℕ) where
  abbrev hit : ℕ → ℕ → ℕ
  hit = hits_of L M tab

  abbrev none : ℕ
  none = origin_number L M

  abbrev ha : ℕ → LexMax
  ha i = lex_of (tab i).hc (tab i).hw

  abbrev va : ℕ → LexMax
  va i = lex_of (tab i).vc (tab i).vw

  -- most hits, best origin, runner-up inside, and whether there is a tie, at position i
  abbrev B : ℕ → ℕ
  B i = best_hits (ha i) (va i)

  abbrev O : ℕ → ℕ
  O i = best_origin (origins L M) (tab i)

  abbrev N : ℕ → Ranked
  N i = runner_up_within L M (ha i) (va i) (O i)

  abbrev tie : ℕ → Bool
  tie i = pairs_tied (ha i) (va i)

  -- the kept candidate c, offered at position w
  pub record Winner (w : ℕ) (c : Candidate) : Type 0 where
    pub listed : c.placing.listed ≡ w
    pub in_list : w < n
    pub row : c.placing.row < 3 * L
    pub col : c.placing.col < 3 * M
    pub inside : key_at M c.placing.row c.placing.col < none
    pub at : hit w (key_at M c.placing.row c.placing.col) ≡ c.hits
    pub best : c.hits ≡ B w
    pub allowed : over_limit edges limit c.hits ≡ false
    pub most : (i : ℕ) → i < n → over_limit edges limit (B i) ≡ false → B i ≤ c.hits
    pub first : tie w ≡ false → key_at M c.placing.row c.placing.col ≡ O w

  module _ (p : Period L) (q : Period M) (few : n ≤ 8) (ok : (i : ℕ) → i < n → TablesOk L M edges (tab i)) where
    sums : (i : ℕ) → i < n → Summed none (hit i) (B i) (O i) (N i) (tie i)
    sums i l = summed L M p q edges (tab i) (ok i l)

    under-edges : (i : ℕ) → i < n → B i ≤ edges
    under-edges i l = best-under L M p q edges (tab i) (ok i l)

    key_back : (k : ℕ) → key_at M (k / (3 * M)) (k % (3 * M)) ≡ k
    key_back k = div-add-mod' k (3 * M)

    -- a key below `none` has its row and column on the board
    row_in : (k : ℕ) → k < none → k / (3 * M) < 3 * L
    row_in k l = (div-lt_iff_lt-mul {k = 3 * M} {x = k} {y = 3 * L} (omega (arith, q.more))).1 l

    col-in : (k : ℕ) → k % (3 * M) < 3 * M
    col-in k = mod-lt k (omega (arith, q.more))

    -- ---- the kept candidate
    -- a position whose best hits are within the limit offers a candidate with them
    offers-best : (i : ℕ) → i < n → over_limit edges limit (B i) ≡ false → (c : Candidate) × Offers L M edges confidence limit i (tab i) c × (c.hits ≡ B i)
    unfolding origin_candidate
    offers-best i l e = go (compared separation_product_cap ((ha i).optimal * (va i).optimal))
      where
        s : Summed none (hit i) (B i) (O i) (N i) (tie i)
        s = sums i l

        go : (separation_product_cap < (ha i).optimal * (va i).optimal) ⊎ ((ha i).optimal * (va i).optimal ≤ separation_product_cap) → (c : Candidate) × Offers L M edges confidence limit i (tab i) c × (c.hits ≡ B i)
        go (inl m) = (origin_candidate L M edges confidence limit i (tab i) (O i), (e, inr (m, (O i, s.inside, ap (over_limit edges limit) s.at ∙ e, refl))), s.at)
        go (inr m) = (best_candidate M confidence i (ha i) (va i) (O i), (e, inl (m, refl)), refl)

    winner : (w : ℕ) (c : Candidate) → w < n → Offers L M edges confidence limit w (tab w) c → ((d : Candidate) → Listed L M edges confidence limit ts tab n d → d.hits ≤ c.hits) → Winner w c
    unfolding origin_candidate
    winner w c l o h = ⊎_elim single scanned o.1
      where
        s : Summed none (hit w) (B w) (O w) (N w) (tie w)
        s = sums w l

        -- no allowed position has more
        most : (i : ℕ) → i < n → over_limit edges limit (B i) ≡ false → B i ≤ c.hits
        most i m e = let b = offers-best i m e in omega (arith, h b.0 (i, m, b.1), b.2)

        -- an origin of this position, with the best hits
        with-key : (k : ℕ) → k < none → hit w k ≡ c.hits → c.hits ≡ B w → (c.placing.row ≡ k / (3 * M)) × (c.placing.col ≡ k % (3 * M)) → (tie w ≡ false → k ≡ O w) → Winner w c
        with-key k m at best rc f =
            let e : key_at M c.placing.row c.placing.col ≡ k = ap₂ (key_at M) rc.0 rc.1 ∙ key_back k in
            record {
              listed = offers-place L M edges confidence limit ts tab w c o;
              in_list = l;
              row = rw rc.0 (row_in k m);
              col = rw rc.1 (col-in k);
              inside = rw e m;
              at = rw e at;
              best = best;
              allowed = rw best o.0;
              most = most;
              first = λ d. e ∙ f d;
            }

        single : ((ha w).optimal * (va w).optimal ≤ separation_product_cap) × (c ≡ best_candidate M confidence w (ha w) (va w) (O w)) → Winner w c
        single u =
            let best : c.hits ≡ B w = ap (λ (d : Candidate). d.hits) u.1 in
            with-key (O w) s.inside (s.at ∙ sym best) best (ap (λ (d : Candidate). d.placing.row) u.1, ap (λ (d : Candidate). d.placing.col) u.1) (λ d. refl)

        scanned : (separation_product_cap < (ha w).optimal * (va w).optimal)
            × ((k : ℕ) × (k < none) × (over_limit edges limit (hit w k) ≡ false) × (c ≡ origin_candidate L M edges confidence limit w (tab w) k)) → Winner w c
        scanned u =
            let t = u.1 in
            let at : c.hits ≡ hit w t.0 = ap (λ (d : Candidate). d.hits) t.3 in
            let best : c.hits ≡ B w = omega (arith, at, s.most t.0, most w l o.0) in
            with-key t.0 t.1 (sym at) best (ap (λ (d : Candidate). d.placing.row) t.3, ap (λ (d : Candidate). d.placing.col) t.3)
            (λ d. clash (many-tied L M p q edges (tab w) (ok w l) u.0) d)

    -- ---- the runner-up
    abbrev ss : List TransformSummary
    ss = (selected L M edges confidence limit ts tab n).summaries

    module _ (w : ℕ) (c : Candidate) (W : Winner w c) where
      abbrev key : ℕ
      key = key_at M c.placing.row c.placing.col

      abbrev r : RunnerUp
      r = runner_up_of ss w n

      at_position : (i : ℕ) → i < n → get_or ss i no_summary ≡ summary_of M (record { hits = B i; key = O i }) (N i) (ts i)
      unfolding transform_summary
      at_position i l = summary-at L M edges confidence limit ts tab n i l few

      -- no other placing has more hits than the runner-up, and one has as many
      own : (N w).hits ≤ r.hits
      own = runner-up-inside L M n ts hit B O N tie ss at_position sums w key W.in_list W.first

      bounded : (i j : ℕ) → i < n → j < none → ((i ≡ w) × (j ≡ key) → ⊥) → hit i j ≤ r.hits
      bounded = others-bounded L M n ts hit B O N tie ss at_position sums w key W.in_list W.first

      attained : (i : ℕ) × (j : ℕ) × (i < n) × (j < none) × ((i ≡ w) × (j ≡ key) → ⊥) × (hit i j ≡ r.hits)
      attained = other-attains L M n ts hit B O N tie ss at_position sums w key W.in_list W.first

      pub runner-up-most : MostOther n none edges limit hit w key r.hits
      runner-up-most = record { reached = attained; most = bounded }

      -- it stands at a list position, on the board
      named : (i : ℕ) × (k : ℕ) × (i < n) × (k < none) × (ts i ≡ r.transform) × (r.row ≡ k / (3 * M)) × (r.col ≡ k % (3 * M))
      named = runner-up-named L M n ts hit B O N tie ss at_position sums w key W.in_list W.first

      pub in-range : InRange L M edges confidence limit ts tab n c r
      in-range =
          let v = named in
          let a = attained in
          record {
            listed = rw W.listed W.in_list;
            row = W.row;
            col = W.col;
            hits = omega (arith, W.best, under-edges w W.in_list);
            runner_up_listed = (v.0, v.2, v.4);
            runner_up_row = rw v.5 (row_in v.1 v.3);
            runner_up_col = rw v.6 (col-in v.1);
            runner_up_hits = omega (arith, a.5, (sums a.0 a.2).most a.1, under-edges a.0 a.2);
          }

      -- ---- the gate
      -- passed: the winner is ahead of every other placing by more than its own misses
      pub ahead : passed edges c.hits r.hits ≡ true → Sole n none edges limit hit w key
      ahead e =
          let g = ltb-true (edges - c.hits) (c.hits - r.hits) e in
          record {
            listed = W.in_list;
            key = W.inside;
            allowed = rw W.at W.allowed;
            ahead = λ i j hi hj ne. rw W.at (omega (arith, bounded i j hi hj ne));
          }

      -- a placing that is so is the winner, and the gate is passed
      pub passes : (i k : ℕ) → Sole n none edges limit hit i k → passed edges c.hits r.hits ≡ true
      passes i k S = go (decided w i) (decided key k)
        where
          -- its position's best hits are within the limit too, so the winner has no fewer
          more : hit i k ≤ c.hits
          more =
              let t = (sums i S.listed).most k in
              omega (arith, W.most i S.listed (more_within edges limit (hit i k) (B i) (ok i S.listed).few t (under-edges i S.listed) S.allowed))

          beaten : ((w ≡ i) × (key ≡ k) → ⊥) → ⊥
          beaten ne = omega (arith, S.ahead w key W.in_list W.inside ne, W.at, more)

          go : (w ≡ i) ⊎ (w ≡ i → ⊥) → (key ≡ k) ⊎ (key ≡ k → ⊥) → passed edges c.hits r.hits ≡ true
          go (inl e) (inl d) =
              let u = attained in
              let same : hit i k ≡ c.hits = ap₂ hit (sym e) (sym d) ∙ W.at in
              lt-ltb (edges - c.hits) (c.hits - r.hits) (omega (arith, S.ahead u.0 u.1 u.2 u.3 (λ x. u.4 (x.0 ∙ sym e, x.1 ∙ sym d)), u.5, same))
          go (inr e) d = absurd (beaten (λ x. e x.0))
          go (inl e) (inr d) = absurd (beaten (λ x. d x.1))

      -- passed: no two pairs of cells have the winner's counts
      alone : passed edges c.hits r.hits ≡ true → tie w ≡ false
      alone e = not_so (tie w) (λ t. omega (arith, ltb-true (edges - c.hits) (c.hits - r.hits) e, (sums w W.in_list).tied t, W.best, own))

      -- so the runner-up is named by an origin of its own
      pub place-named : passed edges c.hits r.hits ≡ true
          → (i : ℕ) × (i < n) × (ts i ≡ r.transform) × (key_at M r.row r.col < none) × ((i ≡ w) × (key_at M r.row r.col ≡ key) → ⊥) × (hit i (key_at M r.row r.col) ≡ r.hits)
      place-named e = own_origin L M n ts hit B O N tie ss at_position sums w key W.in_list W.first (alone e)

    -- ---- what the choice is
    abbrev pub Chose : Choice → Type 0
    Chose None = NoneWithin n none edges limit hit
    Chose (Some (c, r)) = Winner c.placing.listed c × (r ≡ runner_up_of ss c.placing.listed n)

    -- no position's best hits are within the limit, so no placing is
    nobody : ((c : Candidate) → Listed L M edges confidence limit ts tab n c → ⊥) → NoneWithin n none edges limit hit
    nobody h i k hi hk =
        fewer-over edges limit (hit i k) (B i) (ok i hi).few ((sums i hi).most k) (under-edges i hi)
        (⊎_elim (λ e. e) (λ e. let b = offers-best i hi e in absurd (h b.0 (i, hi, b.1))) (cases (over_limit edges limit (B i))))

    pub is-chosen : Chose (choice L M edges confidence limit ts tab n)
    unfolding chosen
    is-chosen = go (selected L M edges confidence limit ts tab n).best (kept-most L M edges confidence limit ts tab n)
      where
        go : (o : Kept) → MostOf (Listed L M edges confidence limit ts tab n) o → Chose (chosen_by (selected L M edges confidence limit ts tab n) o)
        go None h = nobody h
        go (Some c) h =
            let W = winner h.0.0 c h.0.1 h.0.2 h.1 in
            (subst (λ (w : ℕ). Winner w c) (sym W.listed) W, ap (runner_up_of ss c.placing.listed) (selected-count L M edges confidence limit ts tab n))
