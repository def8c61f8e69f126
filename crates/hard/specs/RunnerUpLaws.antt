-- The runner-up of a winner, over summaries that are right at every list position: its hits are the most that another placing has, and it names a placing.
use Rattle.std.specs.Prelude.{◌≡◌, Bool, true, false, List, ◌⊎◌, ℕ, ◌*◌, ◌/◌, ◌%◌, ◌≤◌, ◌<◌, get_or}
use Rattle.std.proofs.Math.Path.{refl, sym}
use Rattle.std.proofs.Common.{ap, ◌∙◌, inl, inr, arith}
use Rattle.std.proofs.Math.Logic.{⊎_elim}
use Rattle.std.proofs.Math.Nat.{div-add-mod'}
use Rattle.laws.specs.Tests.{cases, decided}
use Rattle.scan.specs.Scan.{no_summary, runner_up_of}
use Rattle.scan.specs.ScanLaws.{runner-up-own, runner-up-other, runner-up-is}
use Rattle.folding.specs.Transform.{competitor_of, summary_of}
use Rattle.hard.specs.SummedLaws.{Summed}
use Rattle.hard.specs.OneList.{key_at, origin_number}
use Rattle.scan.specs.declared.scan.TransformSummary.{TransformSummary}
use Rattle.scan.specs.declared.scan.RunnerUp.{RunnerUp}
use Rattle.folding.specs.declared.transform.Ranked.{Ranked}

-- n list positions with the transforms ts and the hits `hit`; at position i the most hits B i, at the origin O i, the runner-up N i inside, and whether there is a tie. The winner stands at
-- position w with an origin that is its position's best where there is no tie
module _ (L M n : ℕ) (ts : ℕ → ℕ) (hit : ℕ → ℕ → ℕ) (B O : ℕ → ℕ) (N : ℕ → Ranked) (tie : ℕ → Bool) (ss : List TransformSummary)
    (at_position : (i : ℕ) → i < n → get_or ss i no_summary ≡ summary_of M (record { hits = B i; key = O i }) (N i) (ts i))
    (sums : (i : ℕ) → i < n → Summed (origin_number L M) (hit i) (B i) (O i) (N i) (tie i))
    (w key : ℕ) (in_list : w < n) (first : tie w ≡ false → key ≡ O w) where
  abbrev none : ℕ
  none = origin_number L M

  abbrev r : RunnerUp
  r = runner_up_of ss w n

  abbrev summary : ℕ → TransformSummary
  summary i = summary_of M (record { hits = B i; key = O i }) (N i) (ts i)

  pub runner-up-inside : (N w).hits ≤ r.hits
  unfolding summary_of competitor_of
  runner-up-inside = rw (at_position w in_list) at (runner-up-own ss w n)

  other : (i : ℕ) → i < n → (i ≡ w → ⊥) → B i ≤ r.hits
  unfolding summary_of competitor_of
  other i l ne = rw (at_position i l) at (runner-up-other ss w n i l ne)

  -- what it is: the runner-up inside the winner's transform, or another position's best
  is : (r ≡ (summary w).within) ⊎ ((i : ℕ) × (i < n) × (i ≡ w → ⊥) × (r ≡ (summary i).best))
  is = ⊎_elim
      (λ e. inl (e ∙ ap (λ (x : TransformSummary). x.within) (at_position w in_list)))
      (λ u. inr (u.0, u.1, u.2, u.3 ∙ ap (λ (x : TransformSummary). x.best) (at_position u.0 u.1)))
      (runner-up-is ss w n)

  -- no other placing has more hits
  pub others-bounded : (i j : ℕ) → i < n → j < none → ((i ≡ w) × (j ≡ key) → ⊥) → hit i j ≤ r.hits
  others-bounded i j hi hj ne = go (decided i w) (cases (tie w))
    where
      s : Summed none (hit w) (B w) (O w) (N w) (tie w)
      s = sums w in_list

      go : (i ≡ w) ⊎ (i ≡ w → ⊥) → (tie w ≡ true) ⊎ (tie w ≡ false) → hit i j ≤ r.hits
      go (inl e) (inl t) = rw e (omega (arith, s.most j, s.tied t, runner-up-inside))
      go (inl e) (inr t) = rw e (omega (arith, s.others j hj (λ d. ne (e, d ∙ sym (first t))), runner-up-inside))
      go (inr d) t = omega (arith, (sums i hi).most j, other i hi d)

  -- and one has as many
  pub other-attains : (i : ℕ) × (j : ℕ) × (i < n) × (j < none) × ((i ≡ w) × (j ≡ key) → ⊥) × (hit i j ≡ r.hits)
  unfolding summary_of competitor_of
  other-attains = ⊎_elim inside (λ u. let t = sums u.0 u.1 in (u.0, O u.0, u.1, t.inside, (λ x. u.2 x.0), t.at ∙ sym (ap (λ (x : RunnerUp). x.hits) u.3))) is
    where
      s : Summed none (hit w) (B w) (O w) (N w) (tie w)
      s = sums w in_list

      inside : r ≡ (summary w).within → (i : ℕ) × (j : ℕ) × (i < n) × (j < none) × ((i ≡ w) × (j ≡ key) → ⊥) × (hit i j ≡ r.hits)
      inside e = go (decided key (O w)) (cases (tie w))
        where
          hits : (N w).hits ≡ r.hits
          hits = sym (ap (λ (x : RunnerUp). x.hits) e)

          go : (key ≡ O w) ⊎ (key ≡ O w → ⊥) → (tie w ≡ true) ⊎ (tie w ≡ false) → (i : ℕ) × (j : ℕ) × (i < n) × (j < none) × ((i ≡ w) × (j ≡ key) → ⊥) × (hit i j ≡ r.hits)
          go (inl o) t = let u = s.had in (w, u.0, in_list, u.1, (λ x. u.2 (x.1 ∙ o)), u.3 ∙ hits)
          go (inr d) (inl t) = (w, O w, in_list, s.inside, (λ x. d (sym x.1)), s.at ∙ sym (s.tied t) ∙ hits)
          go (inr d) (inr t) = absurd (d (first t))

  -- it stands at a list position, on the board
  pub runner-up-named : (i : ℕ) × (k : ℕ) × (i < n) × (k < none) × (ts i ≡ r.transform) × (r.row ≡ k / (3 * M)) × (r.col ≡ k % (3 * M))
  unfolding summary_of competitor_of
  runner-up-named = ⊎_elim
      (λ e. rw e (w, (N w).key, in_list, (sums w in_list).key_in, refl, refl, refl))
      (λ u. rw u.3 (u.0, O u.0, u.1, (sums u.0 u.1).inside, refl, refl, refl))
      is

  -- where the winner's position has no tie, the runner-up is named by an origin of its own
  pub own_origin : tie w ≡ false → (i : ℕ) × (i < n) × (ts i ≡ r.transform) × (key_at M r.row r.col < none) × ((i ≡ w) × (key_at M r.row r.col ≡ key) → ⊥) × (hit i (key_at M r.row r.col) ≡ r.hits)
  unfolding summary_of competitor_of
  own_origin t = ⊎_elim inside outside is
    where
      back : (k : ℕ) → key_at M (k / (3 * M)) (k % (3 * M)) ≡ k
      back k = div-add-mod' k (3 * M)

      Named : RunnerUp → Type 0
      Named x = (i : ℕ) × (i < n) × (ts i ≡ x.transform) × (key_at M x.row x.col < none) × ((i ≡ w) × (key_at M x.row x.col ≡ key) → ⊥) × (hit i (key_at M x.row x.col) ≡ x.hits)

      inside : r ≡ (summary w).within → Named r
      inside d =
          let u = (sums w in_list).named t in
          let b = back (N w).key in
          rw d (w, in_list, refl, rw b u.0, (λ x. u.1 (sym b ∙ x.1 ∙ first t)), rw b u.2)

      outside : (i : ℕ) × (i < n) × (i ≡ w → ⊥) × (r ≡ (summary i).best) → Named r
      outside v =
          let i = v.0 in
          let s = sums i v.1 in
          let b = back (O i) in
          rw v.3 (i, v.1, refl, rw b s.inside, (λ x. v.2 x.0), rw b s.at)
