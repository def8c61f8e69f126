-- One list judged by hits alone. A placing is a list position p with the key k of an origin, and `hit p k` are its hits, however they are counted. This says
-- what the selection with the gate must answer; how the winner was found, and all weights and scores, do not occur.
use Rattle.std.specs.Prelude.{◌≡◌, true, false, ℕ, ◌+◌, ◌-◌, ◌≤◌, ◌<◌, Float}
use Rattle.scan.specs.Scan.{over_limit}

-- what one list comes to: document 01's refusals 11 and 13, or a placing (position and key) with its hits and the runner-up's hits
pub data Outcome : Type 0 where
  none-within-limit : Outcome
  not-far-ahead : Outcome
  found : (listed key hits runner-up : ℕ) → Outcome

-- n list positions, the keys below `none`, of a list of `edges` edges
module _ (n none edges : ℕ) (limit : Float) (hit : ℕ → ℕ → ℕ) where
  -- no placing is within the limit
  abbrev pub NoneWithin : Type 0
  NoneWithin = (p k : ℕ) → p < n → k < none → over_limit edges limit (hit p k) ≡ true

  -- some placing is
  abbrev pub SomeWithin : Type 0
  SomeWithin = (p : ℕ) × (k : ℕ) × (p < n) × (k < none) × (over_limit edges limit (hit p k) ≡ false)

  -- (p, k) is within the limit, and ahead of every other placing by more than its own misses
  pub record Sole (p k : ℕ) : Type 0 where
    pub listed : p < n
    pub key : k < none
    pub allowed : over_limit edges limit (hit p k) ≡ false
    pub ahead : (q j : ℕ) → q < n → j < none → ((q ≡ p) × (j ≡ k) → ⊥) → hit q j + (edges - hit p k) < hit p k

  -- r is the most hits of any placing but (p, k)
  pub record MostOther (p k r : ℕ) : Type 0 where
    pub reached : (q : ℕ) × (j : ℕ) × (q < n) × (j < none) × ((q ≡ p) × (j ≡ k) → ⊥) × (hit q j ≡ r)
    pub most : (q j : ℕ) → q < n → j < none → ((q ≡ p) × (j ≡ k) → ⊥) → hit q j ≤ r

  -- the right outcome: 11 exactly when no placing is within the limit; 13 exactly when some are but none is ahead of every other by more than its own
  -- misses; else that one placing, its hits, and the most hits of any other
  abbrev pub Right : Outcome → Type 0
  Right none-within-limit = NoneWithin
  Right not-far-ahead = SomeWithin × ((p k : ℕ) → Sole p k → ⊥)
  Right (found p k hits runner-up) = Sole p k × (hits ≡ hit p k) × MostOther p k runner-up
