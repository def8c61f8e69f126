-- Selection and then the gate on one list, in terms of placings: a list position with the key of an origin. The theorem that these are about is in OneListLaws.
use Rattle.std.specs.Prelude.{◌≡◌, true, false, cond, ℕ, ◌+◌, ◌*◌, ◌≤◌, ◌<◌, Float, None, Some}
use Rattle.laws.specs.Words.{origins}
use Rattle.best.specs.CellTables.{CellTables}
use Rattle.figures.specs.Gate.{passed}
use Rattle.scan.specs.Scan.{chosen}
use Rattle.direct.specs.Direct.{pair_hits}
use Rattle.folding.specs.Transform.{selected}
use Rattle.hard.specs.Placings.{Outcome, none-within-limit, not-far-ahead, found, SomeWithin, Sole, MostOther}
use Rattle.scan.specs.declared.scan.Candidate.{Candidate}
use Rattle.scan.specs.declared.scan.RunnerUp.{RunnerUp}
use Rattle.scan.specs.Kinds.{Choice}

-- the hits of the origin with the key k at list position p, by that position's tables
abbrev pub hits_of : ℕ → ℕ → (ℕ → CellTables) → ℕ → ℕ → ℕ
hits_of L M tab p k = pair_hits (origins L M) (tab p) k

-- the key of a row and a column
abbrev pub key_at : ℕ → ℕ → ℕ → ℕ
key_at M row col = row * (3 * M) + col

-- what a choice comes to with the gate
abbrev pub outcome_of : ℕ → ℕ → Choice → Outcome
outcome_of M edges None = none-within-limit
outcome_of M edges (Some (c, r)) = cond (passed edges c.hits r.hits) (found c.placing.listed (key_at M c.placing.row c.placing.col) c.hits r.hits) not-far-ahead

-- how many origins there are: 3 L rows of 3 M columns
abbrev pub origin_number : ℕ → ℕ → ℕ
origin_number L M = 3 * L * (3 * M)

-- a list of `edges` edges and of n positions, of which position p has the transform ts p and the tables tab p
module _ (L M edges : ℕ) (confidence limit : Float) (ts : ℕ → ℕ) (tab : ℕ → CellTables) (n : ℕ) where
  -- what the selection chooses
  abbrev pub choice : Choice
  choice = chosen (selected L M edges confidence limit ts tab n)

  -- a placing is chosen, and the gate refuses it
  abbrev pub Stopped : Type 0
  Stopped = (c : Candidate) × (r : RunnerUp) × (choice ≡ Some (c, r)) × (passed edges c.hits r.hits ≡ false)

  -- some placing is within the limit, but none is ahead of every other by more than its own misses
  abbrev pub Unclear : Type 0
  Unclear = SomeWithin n (origin_number L M) edges limit (hits_of L M tab) × ((p k : ℕ) → Sole n (origin_number L M) edges limit (hits_of L M tab) p k → ⊥)

  -- the placing (p, k) is chosen and passes the gate
  abbrev pub Passes : ℕ → ℕ → Type 0
  Passes p k = (c : Candidate) × (r : RunnerUp) × (choice ≡ Some (c, r)) × (passed edges c.hits r.hits ≡ true) × (c.placing.listed ≡ p) × (key_at M c.placing.row c.placing.col ≡ k)

  -- what is reported where the winner c with the runner-up r passes: the winner alone is ahead of every other placing, its hits are those of its placing, the
  -- runner-up's hits are the most that another placing has, and the runner-up's transform, row and column name such a placing
  pub record Reported (c : Candidate) (r : RunnerUp) : Type 0 where
    pub sole : Sole n (origin_number L M) edges limit (hits_of L M tab) c.placing.listed (key_at M c.placing.row c.placing.col)
    pub only : (p k : ℕ) → Sole n (origin_number L M) edges limit (hits_of L M tab) p k → (p ≡ c.placing.listed) × (k ≡ key_at M c.placing.row c.placing.col)
    pub hits : c.hits ≡ hits_of L M tab c.placing.listed (key_at M c.placing.row c.placing.col)
    pub runner-up : MostOther n (origin_number L M) edges limit (hits_of L M tab) c.placing.listed (key_at M c.placing.row c.placing.col) r.hits
    pub named : (p : ℕ) × (p < n) × (ts p ≡ r.transform) × (key_at M r.row r.col < origin_number L M)
        × ((p ≡ c.placing.listed) × (key_at M r.row r.col ≡ key_at M c.placing.row c.placing.col) → ⊥) × (hits_of L M tab p (key_at M r.row r.col) ≡ r.hits)

  -- a winner and its runner-up are placings of the list, and have no more hits than there are edges
  pub record InRange (c : Candidate) (r : RunnerUp) : Type 0 where
    pub listed : c.placing.listed < n
    pub row : c.placing.row < 3 * L
    pub col : c.placing.col < 3 * M
    pub hits : c.hits ≤ edges
    pub runner_up_listed : (p : ℕ) × (p < n) × (ts p ≡ r.transform)
    pub runner_up_row : r.row < 3 * L
    pub runner_up_col : r.col < 3 * M
    pub runner_up_hits : r.hits ≤ edges
