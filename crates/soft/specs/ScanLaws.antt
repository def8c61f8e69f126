-- What offering a candidate comes to, case by case, and one list position more.
use Rattle.std.specs.Prelude.{◌≡◌, true, false, ℤ, Float, Some}
use Rattle.std.proofs.Math.Path.{refl, ap₂}
use Prim.Native.Nat.{ℕ, zero, suc, ◌+◌, ◌*◌, ◌/◌, ◌%◌}
use Rattle.std.proofs.Common.{add-one}
use Rattle.laws.specs.Words.{origins}
use Rattle.likelihood.specs.Likelihood.{dequantised}
use Rattle.level.specs.Sums.{SumTables, sum_at}
use Rattle.pair.specs.Pair.{winner_of, second_of, two_of}
use Rattle.soft.specs.Scan.{yields, soft_candidate, soft_offered, soft_empty, soft_folded, soft_selected}
use Rattle.pair.specs.declared.pair.TwoBest.{TwoBest}
use Rattle.margin.specs.declared.slots.SoftCandidate.{SoftCandidate}
use Rattle.margin.specs.declared.slots.SoftScan.{SoftScan}

-- ---- one candidate more
module _ (s : SoftScan) (c : SoftCandidate) where
  pub offer-first : yields s.first c.total ≡ true → ◌≡◌ {A = SoftScan} (record { first = Some c; second = s.first; count = s.count }) (soft_offered s c)
  unfolding soft_offered
  offer-first t = rw t

  module _ (t : yields s.first c.total ≡ false) where
    pub offer-second : yields s.second c.total ≡ true → ◌≡◌ {A = SoftScan} (record { first = s.first; second = Some c; count = s.count }) (soft_offered s c)
    unfolding soft_offered
    offer-second u = rw (t, u)

    pub offer-none : yields s.second c.total ≡ false → s ≡ soft_offered s c
    unfolding soft_offered
    offer-none u = rw (t, u)

-- a scan with a winner and a second offered, one list position on
abbrev pub with_both : SoftScan → SoftCandidate → SoftCandidate → SoftScan
with_both s a b =
    let both = soft_offered (soft_offered s a) b in
    record { first = both.first; second = both.second; count = s.count + 1 }

module _ (L M : ℕ) where
  -- ---- a candidate from its parts
  pub candidate-made : (X : SumTables) (listed k : ℕ) (x : ℤ) (f : Float) → x ≡ sum_at (origins L M) X.hs X.vs k → f ≡ dequantised x
      → ◌≡◌ {A = SoftCandidate} (record { placing = record { listed = listed; row = k / (3 * M); col = k % (3 * M) }; total = f }) (soft_candidate L M X listed k)
  unfolding soft_candidate
  candidate-made X listed k x f e d = rw (d, e)

  -- ---- a transform from its parts
  pub folded : (X : SumTables) (s one both : SoftScan) (two : TwoBest) (a b : SoftCandidate)
      → two ≡ two_of (origins L M) X.hs X.vs
      → a ≡ soft_candidate L M X s.count two.winner
      → b ≡ soft_candidate L M X s.count two.second
      → one ≡ soft_offered s a
      → both ≡ soft_offered one b
      → ◌≡◌ {A = SoftScan} (record { first = both.first; second = both.second; count = s.count + 1 }) (soft_folded L M X s)
  unfolding soft_folded two_of
  folded X s one both two a b e ea eb eo ep = rw (ep, eo, eb, ea, e)

  -- the same of a winner and a second that are known otherwise
  pub folded-with : (X : SumTables) (s : SoftScan) (a b : SoftCandidate)
      → soft_candidate L M X s.count (winner_of (origins L M) X.hs X.vs) ≡ a
      → soft_candidate L M X s.count (second_of (origins L M) X.hs X.vs) ≡ b
      → soft_folded L M X s ≡ with_both s a b
  unfolding soft_folded
  folded-with X s a b ea eb = ap₂ (with_both s) ea eb

  -- ---- one list position more
  pub soft-selected-more : (tab : ℕ → SumTables) (n : ℕ) (x : SoftScan) → x ≡ soft_selected L M tab n → soft_folded L M (tab n) x ≡ soft_selected L M tab (n + 1)
  unfolding soft_selected
  soft-selected-more tab n x e = rw (add-one n, ← e)

  pub soft-selected-none : (tab : ℕ → SumTables) → soft_selected L M tab 0 ≡ soft_empty
  unfolding soft_selected
  soft-selected-none tab = refl

  -- the count is the number of list positions
  pub soft-selected-count : (tab : ℕ → SumTables) (n : ℕ) → (soft_selected L M tab n).count ≡ n
  unfolding soft_selected soft_folded soft_empty
  soft-selected-count tab zero = refl
  soft-selected-count tab (suc n) = rw (soft-selected-count tab n) (add-one n)
