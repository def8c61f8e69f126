-- What the exact scan keeps: of all placings the one of greatest value, of those the one at the earliest list position, and there the row-major first. And its runner-up: the most hits that another
-- placing has.
use Rattle.std.specs.Prelude.{◌≡◌, Bool, true, List, length, get_or, Float, Some}
use Rattle.std.proofs.Math.Path.{refl, ap, subst}
use Rattle.std.proofs.Common.{sym, ◌∙◌, div-lt_iff_lt-mul, arith}
use Rattle.std.proofs.Math.Logic.{⊎_elim}
use Prim.Native.Nat.{ℕ, zero, suc, ◌+◌, ◌*◌, ◌/◌, ◌%◌, ◌≤◌, ◌<◌}
use Rattle.std.proofs.Math.Nat.{mod-lt, div-add-mod'}
use Rattle.laws.specs.Tests.{compared, not_so, split}
use Rattle.laws.specs.Words.{origins}
use Rattle.laws.specs.GridLaws.{Laws}
use Rattle.best.specs.CellTables.{Period}
use Rattle.grid.specs.BoardGrid.{grid}
use Rattle.scan.specs.Scan.{no_summary, runner_up_of}
use Rattle.scan.specs.ScanLaws.{pushed-count, pushed-summary}
use Rattle.scan.specs.declared.scan.TransformSummary.{TransformSummary}
use Rattle.scan.specs.declared.scan.RunnerUp.{RunnerUp}
use Rattle.folding.specs.Transform.{best_hits, pairs_tied, runner_up_within, summary_of}
use Rattle.folding.specs.declared.transform.Ranked.{Ranked}
use Rattle.hard.specs.OneList.{key_at, origin_number}
use Rattle.hard.specs.Placings.{MostOther}
use Rattle.hard.specs.SummedLaws.{Summed, Said, BestPair, summed_by}
use Rattle.hard.specs.RunnerUpLaws.{runner-up-inside, others-bounded, other-attains, runner-up-named, own_origin}
use Rattle.unit_terms.specs.Values.{one_hit}
use Rattle.values.specs.Values.{hits_of, weight_of, v_at, n_at, value_best, value_of, pair_value, by_hits}
use Rattle.values.specs.ValuesLaws.{more-hits, best-top, cell_in, second-inside, second-other, second-most}
use Rattle.values.specs.OriginLaws.{first_under, first-is, first-has, greatest, first-least}
use Rattle.exact_scan.specs.Exact.{ValueTables, ValuesOk, summary_by, exact_origin, exact_summary, candidate_at, exact_candidate, better_of, taken, empty_exact, fold_exact, exact_scanned}
use Rattle.exact_scan.specs.ExactLaws.{h-two, v-two, stays, greater}
use Rattle.exact_scan.specs.declared.kept.ExactCandidate.{ExactCandidate}
use Rattle.exact_scan.specs.Kinds.{ExactKept}
use Rattle.exact_scan.specs.declared.kept.ExactScan.{ExactScan}

-- the value of the origin with the key k, by one transform's tables, and its hits
abbrev pub value_by : ℕ → ℕ → ValueTables → ℕ → ℕ
value_by L M X k = pair_value (origins L M) X.hs X.vs k

abbrev pub hits_by : ℕ → ℕ → ValueTables → ℕ → ℕ
hits_by L M X k = n_at X.hs ((origins L M).h_of k) + n_at X.vs ((origins L M).v_of k)

-- the key of a candidate's origin
abbrev pub key_of : ℕ → ExactCandidate → ℕ
key_of M c = key_at M c.placing.row c.placing.col

-- ---- one transform
-- c is the best origin of the tables X, at list position i
pub record Own (L M : ℕ) (X : ValueTables) (i : ℕ) (c : ExactCandidate) : Type 0 where
  pub listed : c.placing.listed ≡ i
  pub row : c.placing.row < 3 * L
  pub col : c.placing.col < 3 * M
  pub origin : key_of M c ≡ exact_origin L M X
  pub inside : key_of M c < origin_number L M
  pub at : value_by L M X (key_of M c) ≡ c.value
  pub most : (k : ℕ) → value_by L M X k ≤ c.value
  pub least : (k : ℕ) → k < origin_number L M → value_by L M X k ≡ c.value → key_of M c ≤ k

module _ (L M : ℕ) (p : Period L) (q : Period M) (X : ValueTables) (ok : ValuesOk L M X) where
  pub own-best : (i : ℕ) → Own L M X i (exact_candidate L M i X)
  unfolding exact_candidate candidate_at exact_origin
  own-best i =
      let under = first_under L M p q X.hs X.vs ok.hcells ok.vcells in
      let back = div-add-mod' (exact_origin L M X) (3 * M) in
      record {
        listed = refl;
        row = (div-lt_iff_lt-mul {k = 3 * M} {x = exact_origin L M X} {y = 3 * L} (omega (arith, q.more))).1 under;
        col = mod-lt (exact_origin L M X) (omega (arith, q.more));
        origin = back;
        inside = omega (arith, back, under);
        at = ap (value_by L M X) back ∙ first-has L M p q X.hs X.vs ok.hcells ok.vcells;
        most = greatest L M p q X.hs X.vs ok.hcells ok.vcells;
        least = λ k l e. omega (arith, back, first-least L M p q X.hs X.vs ok.hcells ok.vcells k l e);
      }

  -- what such tables say, by hits
  grid-of : Laws (origins L M) (length X.hs) (length X.vs)
  grid-of = rw (ok.hcells, ok.vcells) (grid L M p q)

  said : (xs : List ℕ) → 1 < length xs → Said (length xs) (n_at xs) (by_hits (value_of xs))
  unfolding value_of
  said xs two = record {
    cell_in = cell_in xs two;
    cell_has = refl;
    most = λ j l. more-hits (v_at xs j) (v_at xs (value_best xs)) (best-top xs j l);
    number = refl;
    second-in = second-inside xs two (value_best xs);
    second-not = second-other xs two (value_best xs);
    second_has = refl;
    second-most = second-most xs two (value_best xs);
  }

  best-pair : BestPair (origins L M) (length X.hs) (length X.vs) (n_at X.hs) (n_at X.vs) (by_hits (value_of X.hs)) (by_hits (value_of X.vs)) (exact_origin L M X)
  unfolding exact_origin
  best-pair = let w = first-is L M p q X.hs X.vs ok.hcells ok.vcells in (w.0, w.1, w.2, w.3, ap hits_of w.4, ap hits_of w.5, w.6)

  -- the summary of this transform is right
  pub exact-summed : Summed (origin_number L M) (hits_by L M X) (best_hits (by_hits (value_of X.hs)) (by_hits (value_of X.vs))) (exact_origin L M X) (runner_up_within L M (by_hits (value_of X.hs)) (by_hits (value_of X.vs)) (exact_origin L M X)) (pairs_tied (by_hits (value_of X.hs)) (by_hits (value_of X.vs)))
  exact-summed =
      summed_by L M (length X.hs) (length X.vs) grid-of (n_at X.hs) (n_at X.vs) (by_hits (value_of X.hs)) (by_hits (value_of X.vs))
      (said X.hs (h-two L M p q X ok)) (said X.vs (v-two L M p q X ok)) (exact_origin L M X) best-pair

  -- the hits of a value are those of its two cells
  both : (x y : ℕ) → weight_of x + weight_of y < one_hit → hits_of (x + y) ≡ hits_of x + hits_of y
  both x y l = omega arith

  pub value-hits : (k : ℕ) → hits_of (value_by L M X k) ≡ hits_by L M X k
  value-hits k =
      let h = (origins L M).h_of k in
      let v = (origins L M).v_of k in
      both (v_at X.hs h) (v_at X.vs v) (ok.adds h v ((grid L M p q).h-in k) ((grid L M p q).v-in k))

-- ---- the list positions
module _ (L M : ℕ) (ts : ℕ → ℕ) (tab : ℕ → ValueTables) where
  abbrev scan : ℕ → ExactScan
  scan = exact_scanned L M ts tab

  pub exact-count : (n : ℕ) → (scan n).positions.count ≡ n
  unfolding exact_scanned fold_exact empty_exact
  exact-count = pushed-count (λ n. (scan n).positions) (λ i. exact_summary L M (ts i) (tab i)) refl (λ n. refl)

  pub exact-summary : (n i : ℕ) → i < n → n ≤ 8 → get_or (scan n).positions.summaries i no_summary ≡ exact_summary L M (ts i) (tab i)
  unfolding exact_scanned fold_exact empty_exact
  exact-summary = pushed-summary (λ n. (scan n).positions) (λ i. exact_summary L M (ts i) (tab i)) refl (λ n. refl)

  best-more : (n : ℕ) → (scan (suc n)).best ≡ taken (scan n).best (exact_candidate L M n (tab n))
  unfolding exact_scanned fold_exact
  best-more n = rw (exact-count n)

  -- c is the first best of the first n positions: no placing has a greater value, and of those with as great a value it stands at the earliest position, and there row-major first
  pub record First (n : ℕ) (c : ExactCandidate) : Type 0 where
    pub in_list : c.placing.listed < n
    pub own : Own L M (tab c.placing.listed) c.placing.listed c
    pub most : (i k : ℕ) → i < n → value_by L M (tab i) k ≤ c.value
    pub earliest : (i k : ℕ) → i < n → k < origin_number L M → value_by L M (tab i) k ≡ c.value → (c.placing.listed ≤ i) × (i ≡ c.placing.listed → key_of M c ≤ k)

  module _ (p : Period L) (q : Period M) where
    -- the first position
    first_one : (c : ExactCandidate) → Own L M (tab 0) 0 c → First 1 c
    first_one c o = record {
      in_list = omega (arith, o.listed);
      own = subst (λ (j : ℕ). Own L M (tab j) j c) (sym o.listed) o;
      most = λ i k l. let e : i ≡ 0 = omega arith in rw e (o.most k);
      earliest = λ i k l m e. let z : i ≡ 0 = omega arith in (omega (arith, o.listed), λ d. o.least k m (rw z at e));
    }

    -- one more, of greater value
    first-new : (n : ℕ) (kept c : ExactCandidate) → First n kept → Own L M (tab n) n c → kept.value < c.value → First (suc n) c
    first-new n kept c F o g = record {
      in_list = omega (arith, o.listed);
      own = subst (λ (j : ℕ). Own L M (tab j) j c) (sym o.listed) o;
      most = λ i k l. ⊎_elim (λ e. rw e (o.most k)) (λ m. omega (arith, F.most i k m)) (split i n l);
      earliest = λ i k l m e. ⊎_elim (λ z. (omega (arith, o.listed), λ d. o.least k m (rw z at e))) (λ z. absurd (omega (arith, F.most i k z, e))) (split i n l);
    }

    -- one more, of no greater value
    first-old : (n : ℕ) (kept c : ExactCandidate) → First n kept → Own L M (tab n) n c → c.value ≤ kept.value → First (suc n) kept
    first-old n kept c F o g = record {
      in_list = omega (arith, F.in_list);
      own = F.own;
      most = λ i k l. ⊎_elim (λ e. rw e (omega (arith, o.most k))) (λ m. F.most i k m) (split i n l);
      earliest = λ i k l m e. ⊎_elim (λ z. (omega (arith, F.in_list), λ d. absurd (omega (arith, F.in_list)))) (λ z. F.earliest i k z m e) (split i n l);
    }

    -- one is kept of the first n positions, and it is the first best
    pub record KeptFirst (n : ℕ) : Type 0 where
      pub one : ExactCandidate
      pub kept : (scan n).best ≡ Some one
      pub first : First n one

    pub kept-first : (n : ℕ) → ((i : ℕ) → i < suc n → ValuesOk L M (tab i)) → KeptFirst (suc n)
    unfolding exact_scanned empty_exact
    kept-first zero ok = record { one = exact_candidate L M 0 (tab 0); kept = best-more 0; first = first_one (exact_candidate L M 0 (tab 0)) (own-best L M p q (tab 0) (ok 0 (omega arith)) 0) }
    kept-first (suc n) ok =
        let o = own-best L M p q (tab (suc n)) (ok (suc n) (omega arith)) (suc n) in
        let K = kept-first n (λ i l. ok i (omega arith)) in
        let k = K.one in
        let c = exact_candidate L M (suc n) (tab (suc n)) in
        record {
          one = better_of k c;
          kept = best-more (suc n) ∙ ap (λ (x : ExactKept). taken x c) K.kept;
          first =
              ⊎_elim
              (λ g. subst (First (suc (suc n))) (greater k c g) (first-new (suc n) k c K.first o g))
              (λ g. subst (First (suc (suc n))) (stays k c g) (first-old (suc n) k c K.first o g))
              (compared k.value c.value);
        }

    -- ---- the runner-up
    module _ (n : ℕ) (few : n ≤ 8) (ok : (i : ℕ) → i < n → ValuesOk L M (tab i)) (c : ExactCandidate) (F : First n c) where
      -- most hits, best origin, runner-up inside, and whether there is a tie, at position i
      abbrev B : ℕ → ℕ
      B i = best_hits (by_hits (value_of (tab i).hs)) (by_hits (value_of (tab i).vs))

      abbrev O : ℕ → ℕ
      O i = exact_origin L M (tab i)

      abbrev N : ℕ → Ranked
      N i = runner_up_within L M (by_hits (value_of (tab i).hs)) (by_hits (value_of (tab i).vs)) (O i)

      abbrev tie : ℕ → Bool
      tie i = pairs_tied (by_hits (value_of (tab i).hs)) (by_hits (value_of (tab i).vs))

      abbrev hit : ℕ → ℕ → ℕ
      hit i k = hits_by L M (tab i) k

      sums : (i : ℕ) → i < n → Summed (origin_number L M) (hit i) (B i) (O i) (N i) (tie i)
      sums i l = exact-summed L M p q (tab i) (ok i l)

      abbrev ss : List TransformSummary
      ss = (scan n).positions.summaries

      at_position : (i : ℕ) → i < n → get_or ss i no_summary ≡ summary_of M (record { hits = B i; key = O i }) (N i) (ts i)
      unfolding exact_summary summary_by
      at_position i l = exact-summary n i l few

      -- its hits are the most that another placing has
      pub runner-up-other : (edges : ℕ) (limit : Float) → MostOther n (origin_number L M) edges limit hit c.placing.listed (key_of M c) (runner_up_of ss c.placing.listed n).hits
      runner-up-other edges limit = record {
        reached = other-attains L M n ts hit B O N tie ss at_position sums c.placing.listed (key_of M c) F.in_list (λ t. F.own.origin);
        most = others-bounded L M n ts hit B O N tie ss at_position sums c.placing.listed (key_of M c) F.in_list (λ t. F.own.origin);
      }

      abbrev r : RunnerUp
      r = runner_up_of ss c.placing.listed n

      -- it names a list position and an origin on the board
      pub runner-up-place : (i : ℕ) × (k : ℕ) × (i < n) × (k < origin_number L M) × (ts i ≡ r.transform) × (r.row ≡ k / (3 * M)) × (r.col ≡ k % (3 * M))
      runner-up-place = runner-up-named L M n ts hit B O N tie ss at_position sums c.placing.listed (key_of M c) F.in_list (λ t. F.own.origin)

      -- and, with fewer hits than the winner, another placing that has its hits
      pub runner-up-own : r.hits < hit c.placing.listed (key_of M c)
          → (i : ℕ) × (i < n) × (ts i ≡ r.transform) × (key_at M r.row r.col < origin_number L M) × ((i ≡ c.placing.listed) × (key_at M r.row r.col ≡ key_of M c) → ⊥) × (hit i (key_at M r.row r.col) ≡ r.hits)
      runner-up-own l = own_origin L M n ts hit B O N tie ss at_position sums c.placing.listed (key_of M c) F.in_list (λ t. F.own.origin) (not_so (tie c.placing.listed) behind)
        where
          behind : tie c.placing.listed ≡ true → ⊥
          behind t =
              let s = sums c.placing.listed F.in_list in
              let top : hit c.placing.listed (key_of M c) ≡ B c.placing.listed = ap (hit c.placing.listed) F.own.origin ∙ s.at in
              omega (arith, l, top, s.tied t, runner-up-inside L M n ts hit B O N tie ss at_position sums c.placing.listed (key_of M c) F.in_list (λ d. F.own.origin))
