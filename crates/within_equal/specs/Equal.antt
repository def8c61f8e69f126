-- What is promised of the test of one placing, by its answer: what was read, and which lists it cannot tell apart.
use Rattle.std.specs.Prelude.{◌≡◌, Bool, true, false, ℕ, ◌≤◌, ◌<◌, get_or, Float}
use Rattle.std.specs.Float.{nan}
use Rattle.board.specs.Hits.{EdgeList, Board, size, edge_at}
use Rattle.within_answer.specs.declared.LimitTest.{LimitTest}
use Rattle.within_admission.specs.WithinAdmission.{fault_at}
use Rattle.within.specs.Within.{allowed, certain, hits_to}

-- two lists of one length whose first r edges are the same, in every field
pub record Agree (r : ℕ) (E F : EdgeList) : Type 0 where
  pub size : size F ≡ size E
  pub edge : (i : ℕ) → i < r → edge_at F i ≡ edge_at E i
  pub confidence : (i : ℕ) → i < r → get_or F.confidences i nan ≡ get_or E.confidences i nan

-- after i edges of a list the answer is certain: the limit holds with every other edge a miss, or is broken with every other a hit
abbrev pub certain_after : EdgeList → ℕ → ℕ → ℕ → Board → Float → ℕ → Bool
certain_after E t row col B limit i = certain (size E) limit i (hits_to E t row col B i)

-- C-18: "stop reading once the limit is broken with every remaining edge a hit, or holds with every one a miss": after what was read the answer is certain, and after fewer edges it is not
pub record LeastRead (E : EdgeList) (t row col : ℕ) (B : Board) (limit : Float) (j : LimitTest) : Type 0 where
  pub inside : j.read ≤ size E
  pub enough : certain_after E t row col B limit j.read ≡ true
  pub not_before : (i : ℕ) → i < j.read → certain_after E t row col B limit i ≡ false
  pub good : (i : ℕ) → i < j.read → fault_at E i ≡ 0
  pub answer : j.within ≡ allowed (size E) limit (hits_to E t row col B j.read)

-- a bad edge that was reached, at the position p: the answer was not certain before it, nor any edge before it bad
pub record Reached (E : EdgeList) (t row col : ℕ) (B : Board) (limit : Float) (p : ℕ) : Type 0 where
  pub inside : p < size E
  pub bad : fault_at E p ≡ 0 → ⊥
  pub undecided : (i : ℕ) → i ≤ p → certain_after E t row col B limit i ≡ false
  pub good : (i : ℕ) → i < p → fault_at E i ≡ 0
