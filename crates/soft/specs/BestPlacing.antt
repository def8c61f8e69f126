-- What soft selection keeps, by sums alone. A placing is a list position p with the key k of an origin, and `S p k` is its whole sum, however it is counted; its
-- total is that sum as an f32. How the sums were found, and in which order placings were offered, does not occur. This is what "its own best placing" of
-- demand 3 (docs/CONTRACTS.md) means.
use Rattle.std.specs.Prelude.{◌≡◌, true, false, ◌⊎◌, ℕ, ◌*◌, ◌/◌, ◌%◌, ◌≤◌, ◌<◌, ℤ, Some}
use Rattle.std.specs.Int.Signed.{lt_z}
use Rattle.std.specs.Float.Ieee.{lt}
use Rattle.laws.specs.Words.{Grid, origins}
use Rattle.likelihood.specs.Likelihood.{dequantised}
use Rattle.margin.specs.declared.slots.SoftCandidate.{SoftCandidate}
use Rattle.margin.specs.Kinds.{SoftChoice}

-- ---- one transform, with the whole sum s k at the origin of key k
-- k is its own best origin: no origin has a greater whole sum, and each before it, row by row, has a smaller one
pub record OwnBest (G : Grid) (s : ℕ → ℤ) (k : ℕ) : Type 0 where
  pub key : k < G.none
  pub largest : (i : ℕ) → i < G.none → lt_z (s k) (s i) ≡ false
  pub first : (i : ℕ) → i < k → lt_z (s i) (s k) ≡ true

-- the cells of j come first, "by horizontal then vertical cell position", or are those of i
abbrev pub NotAfter : Grid → ℕ → ℕ → Type 0
NotAfter G j i = (G.h_of j < G.h_of i) ⊎ ((G.h_of j ≡ G.h_of i) × (G.v_of j ≤ G.v_of i))

-- j shares the vertical cell with k, and each origin but k that does so with a horizontal cell before j's has a smaller sum
pub record Across (G : Grid) (s : ℕ → ℤ) (k j : ℕ) : Type 0 where
  pub shared : G.v_of j ≡ G.v_of k
  pub first : (i : ℕ) → i < G.none → (i ≡ k → ⊥) → G.v_of i ≡ G.v_of k → G.h_of i < G.h_of j → lt_z (s i) (s j) ≡ true

-- j shares the horizontal cell with k, each origin but k that does so with a vertical cell before j's has a smaller sum, and so has each that shares the
-- vertical cell with k: "horizontal on a tie"
pub record Down (G : Grid) (s : ℕ → ℤ) (k j : ℕ) : Type 0 where
  pub shared : G.h_of j ≡ G.h_of k
  pub first : (i : ℕ) → i < G.none → (i ≡ k → ⊥) → G.h_of i ≡ G.h_of k → G.v_of i < G.v_of j → lt_z (s i) (s j) ≡ true
  pub greater : (i : ℕ) → i < G.none → (i ≡ k → ⊥) → G.v_of i ≡ G.v_of k → lt_z (s i) (s j) ≡ true

-- j is second to k: another origin, and no origin but k has a greater whole sum
pub record OwnSecond (G : Grid) (s : ℕ → ℤ) (k j : ℕ) : Type 0 where
  pub key : j < G.none
  pub other : j ≡ k → ⊥
  pub largest : (i : ℕ) → i < G.none → (i ≡ k → ⊥) → lt_z (s j) (s i) ≡ false
  -- "If several pairs tie, its runner-up is the first, by horizontal then vertical cell position, that isn't the winner"
  pub tied : lt_z (s j) (s k) ≡ false → (i : ℕ) → i < G.none → (i ≡ k → ⊥) → lt_z (s i) (s k) ≡ false → NotAfter G j i
  -- "else from the second-best cells as above, by sums, horizontal on a tie"
  pub alone : lt_z (s j) (s k) ≡ true → Across G s k j ⊎ Down G s k j

-- ---- n list positions
module _ (G : Grid) (n : ℕ) (S : ℕ → ℕ → ℤ) where
  -- first place: its own best placing, no placing has a greater f32 total, and each of an earlier list position has a smaller one
  pub record FirstPlace (p k : ℕ) : Type 0 where
    pub listed : p < n
    pub own : OwnBest G (S p) k
    pub greatest : (r i : ℕ) → r < n → i < G.none → lt (dequantised (S p k)) (dequantised (S r i)) ≡ false
    pub earliest : (r i : ℕ) → r < p → i < G.none → lt (dequantised (S r i)) (dequantised (S p k)) ≡ true

  -- second place after (p, k): another placing, no placing but the first has a greater f32 total, and each of an earlier list position but the first has a
  -- smaller one; in another transform it is its own best placing, in the first's the second there
  pub record SecondPlace (p k q j : ℕ) : Type 0 where
    pub listed : q < n
    pub key : j < G.none
    pub other : (q ≡ p) × (j ≡ k) → ⊥
    pub greatest : (r i : ℕ) → r < n → i < G.none → ((r ≡ p) × (i ≡ k) → ⊥) → lt (dequantised (S q j)) (dequantised (S r i)) ≡ false
    pub earliest : (r i : ℕ) → r < q → i < G.none → ((r ≡ p) × (i ≡ k) → ⊥) → lt (dequantised (S r i)) (dequantised (S q j)) ≡ true
    pub elsewhere : (q ≡ p → ⊥) → OwnBest G (S q) j
    pub inside : q ≡ p → OwnSecond G (S q) k j

-- ---- the choice
-- a placing with its total, by row and column on a board of 3 M columns
abbrev pub candidate_at : ℕ → (ℕ → ℕ → ℤ) → ℕ → ℕ → SoftCandidate
candidate_at M S p k = record { placing = record { listed = p; row = k / (3 * M); col = k % (3 * M) }; total = dequantised (S p k) }

-- the choice holds first place and second place, with their totals
pub record BestTwo (L M n : ℕ) (S : ℕ → ℕ → ℤ) (choice : SoftChoice) : Type 0 where
  pub p : ℕ
  pub k : ℕ
  pub q : ℕ
  pub j : ℕ
  pub chosen : choice ≡ Some ((candidate_at M S p k), (candidate_at M S q j))
  pub first : FirstPlace (origins L M) n S p k
  pub second : SecondPlace (origins L M) n S p k q j
