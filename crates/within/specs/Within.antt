-- C-18, can this placing still pass? "Answer yes or no, and stop reading once the limit is broken with every remaining edge a hit, or holds with every one a miss. The answer equals that of
-- match statistics' rate on the full list. Edges are checked only as far as read, and the answer says how many that was .. The empty list answers by rate 1."
use Rattle.std.specs.Prelude.{Bool, true, false, not, ◌||◌, cond, ℕ, ◌+◌, ◌-◌, eqb, Float, Err, Ok}
use Rattle.std.specs.Float.Ieee.{le}
use Rattle.laws.specs.Words.{first, count}
use Rattle.board.specs.Hits.{EdgeList, Board, size, hit}
use Rattle.refusals.specs.Admission.{Admission}
use Rattle.refusals.specs.declared.ListName.TheVariants as list
use Rattle.refusals.specs.Numbers.{edge_refusal}
use Rattle.within_answer.specs.Answers.{WithinAnswer}
use Rattle.within_admission.specs.WithinAdmission.{fault_at, within_admission}
use Rattle.stats.specs.Stats.{stats_rate}
use Rattle.within.specs.declared.Stop.{Stop}

-- match statistics' rate of n edges with so many hits is at most the limit; it is 1 for no edges
unfoldable pub allowed : ℕ → Float → ℕ → Bool
allowed n limit hits = le (stats_rate n hits) limit

-- of n edges i were read, and so many of them are hits: the limit "holds with every one a miss", so that the hits stay as they are,
-- or "is broken with every remaining edge a hit", so that n - i hits come to them
unfoldable pub certain : ℕ → Float → ℕ → ℕ → Bool
certain n limit i hits = allowed n limit hits || not (allowed n limit (hits + (n - i)))

-- what is told of a list that was left at a stop: yes or no with the number of edges read, where that is certain, else the fault of the edge there
unfoldable pub concluded : EdgeList → Float → Stop → WithinAnswer
concluded E limit s =
    cond (allowed (size E) limit s.hits) (Ok (record { within = true; read = s.read }))
    (cond (allowed (size E) limit (s.hits + (size E - s.read))) (Err (edge_refusal (fault_at E s.read) list.Only s.read))
    (Ok (record { within = false; read = s.read })))

-- how many of the first i edges are hits
unfoldable pub hits_to : EdgeList → ℕ → ℕ → ℕ → Board → ℕ → ℕ
hits_to E t row col B i = count i (hit B E t row col)

module _ (E : EdgeList) (t row col : ℕ) (B : Board) (limit : Float) where
  -- reading stops before edge i: the answer is certain after the i edges before it, or the edge is bad
  unfoldable pub stops_at : ℕ → Bool
  stops_at i = certain (size E) limit i (hits_to E t row col B i) || not (eqb (fault_at E i) 0)

  -- THE NUMBER READ: the least for which the answer is certain or the next edge is bad. Where the list is read to its end, the answer is certain
  unfoldable pub read_to : ℕ
  read_to = first stops_at (size E)

  -- where the list is left
  unfoldable pub stop_of : Stop
  stop_of = record { read = read_to; hits = hits_to E t row col B read_to }

  -- what an accepted call comes to
  unfoldable pub judged_of : WithinAnswer
  judged_of = concluded E limit stop_of

-- an accepted call is judged
abbrev pub or_judged : Admission → WithinAnswer → WithinAnswer
or_judged (Ok _) a = a
or_judged (Err r) a = Err r

-- THE ANSWER, for all inputs
unfoldable pub within_answer : EdgeList → ℕ → ℕ → ℕ → Board → Float → WithinAnswer
within_answer E t row col B limit = or_judged (within_admission E t row col B limit) (judged_of E t row col B limit)
