-- WHAT SAMBUREXT PROMISES, in words: definitions alone. First demands 1 and 3 (docs/CONTRACTS.md, which the quotes are of): a record for each entry point, which with all that it unfolds into
-- is the reading list of docs/TRUST.md. Then the particulars: the places of refusals, each late number by itself, ranges, and demand 2. Claims.antt proves them of all that the contracts allow
-- (`hard-promise`, `hard-particulars`, ..); these have no `requires`, so the promises hold for all inputs and every pair of pattern tables. That there are cases to which demand 3 applies is
-- in Witness.antt. The words:
--   condition   a fact with a number: a call is refused by the number of the first whose fact does not hold (admission/specs/Conditions.antt)
--   early       conditions before any work is done: the domain (admission/specs/Domain.antt); late: those on an accepted call (Late.antt)
--   list        edges, a column for each field: row, column, orientation, bit, confidence; logical after the votes, physical as seen (board/specs/Hits.antt)
--   board       the two pattern tables, horizontal and vertical (Hits.antt); a call holds lists, transforms, board and error limit (admission/specs/Calls.antt)
--   placing     a place in the transform list with a row and a column of the board (demand/specs/Demand.antt)
--   hits        the edges of a list whose bit the board predicts at a placing, one by one (`hits_at`, Hits.antt)
--   leads       within the error limit, and beats the hits of every other placing by more than its own misses (Demand.antt)
--   wins        has the transform and the origin of a list's winner, and agrees: of the physical list's (Demand.antt); `WinsByHits` below says what that is in hits
--   clears      its own best placing by likelihood, edge by edge, clears the soft margin (soft_core/specs/SoftDemand.antt)
--   answered    what a found answer says (hard_core/specs/HardDemand.antt, SoftDemand.antt); a square is a transform's number, a row and a column
--   room        what the caller lends; its first places are used, and the rest is surplus
use Rattle.std.specs.Prelude.{◌≡◌, Bool, false, ◌⊎◌, List, [], ◌++◌, ℕ, ◌-◌, ◌≤◌, ◌<◌, get_or, length, pos, Float, Err, None, Ok}
use Rattle.std.specs.Float.{nan, binary32}
use Rattle.std.specs.Float.Ieee.{sub, div, of_int}
use Rattle.laws.specs.Words.{zero_f, one_f}
use Rattle.board.specs.declared.edge.Placing.{Placing}
use Rattle.board.specs.Hits.{EdgeList, Board, size, hits, hits_at}
use Rattle.board.specs.Domain.{BoardOk, ListOk}
use Rattle.refusals.specs.declared.Refusal.{Refusal}
use Rattle.refusals.specs.declared.ListName.{ListName}
use Rattle.refusals.specs.Admission.{Admission, accepted}
use Rattle.findings.specs.Places.{PlaceRight}
use Rattle.admission.specs.Calls.{HardCall, SoftCall, HardRoom, SoftRoom}
use Rattle.admission.specs.Refusals.{stats_admission, hard_checked, soft_checked}
use Rattle.admission.specs.Conditions.{Condition, AllMet, FirstFails}
use Rattle.admission.specs.Domain.{hard_early, soft_early, stats_early}
use Rattle.admission.specs.PlaceTheorems.{hard_count, hard_bad, soft_bad, stats_count, stats_bad}
use Rattle.admission.specs.Document01.{admission01, hard_numbers01, soft_numbers01, stats_numbers01}
use Rattle.figures.specs.Figures.{no_confidence}
use Rattle.scan.specs.declared.scan.Candidate.{Candidate}
use Rattle.scan.specs.declared.scan.RunnerUp.{RunnerUp}
use Rattle.hard.specs.Select.{selection}
use Rattle.answer.specs.declared.Decoded.{Decoded}
use Rattle.answer.specs.Answers.{Answer}
use Rattle.answer.specs.declared.SoftDecoded.{SoftDecoded}
use Rattle.answer.specs.Answers.{SoftAnswer}
use Rattle.answer.specs.declared.MatchStats.{MatchStats}
use Rattle.answer.specs.Answers.{StatsAnswer}
use Rattle.demand.specs.Demand.{OnBoard, Same, WithinLimit, Leads, RunnerUpExists, Names, Wins, AgreesPhysical}
use Rattle.demand.specs.FoundRange.{AnswerInRange, SoftAnswerInRange}
use Rattle.decode_hard.specs.HardAnswer.{hard_answer, HardDone}
use Rattle.hard_core.specs.HardDemand.{HardAnswered}
use Rattle.hard_core.specs.HardLate.{HardLate}
use Rattle.decode_soft.specs.SoftAnswer.{soft_answer, SoftDone}
use Rattle.soft_core.specs.SoftDemand.{Clears, SoftAnswered, SoftKept}
use Rattle.soft_core.specs.SoftLate.{SoftLate}
use Rattle.stats.specs.Stats.{stats_of}
use Rattle.stats.specs.StatsRange.{StatsInRange}
use Rattle.claims.specs.Late.{hard_late, soft_late}

-- ==== DEMANDS 1 AND 3

-- "A refusal carries no square": it is its number and its place, and nothing else
abbrev pub NumberAndPlace : Type 0
NumberAndPlace = (one other : Refusal) → one.number ≡ other.number → one.place ≡ other.place → one ≡ other

-- an answer made by `refusing` or `finding`, under these early and late conditions; the room is `as_it_was` or `emptied`, and `says` is what a found answer says
pub record Demands {Answer Told : Type 0} (refusing : Refusal → Answer) (finding : Told → Answer) (early late : List Condition) (as_it_was emptied : Type 0) (says : Told → Type 0) (answer : Answer) : Type 0 where
  -- it "refuses with the number document 01 gives": that of the first condition that is not met
  pub refused : (refusal : Refusal) → answer ≡ refusing refusal → FirstFails (early ++ late) refusal.number
  -- "After refusals 1 to 9 the lent room is untouched; after every other call the used room is zero."
  pub untouched : (n : ℕ) → FirstFails early n → as_it_was
  pub room_zero : AllMet early → emptied
  -- it finds exactly where all conditions are met, and found means true
  pub found : (told : Told) → answer ≡ finding told → AllMet (early ++ late) × says told
  pub finds : AllMet (early ++ late) → (told : Told) × (answer ≡ finding told)

-- a slice before and after a call that uses n places of it: they exist and are zero, the surplus is as it was
pub record Emptied {A : Type 0} (missing zero : A) (n : ℕ) (before after : List A) : Type 0 where
  pub room : n ≤ length before
  pub len : length after ≡ length before
  pub used : (k : ℕ) → k < n → get_or after k missing ≡ zero
  pub surplus : (k : ℕ) → n ≤ k → get_or after k missing ≡ get_or before k missing

-- what it is in hits to win on a list, whatever the weights: no placing within the limit has more hits than the winner, and one within it with more hits than every other wins
pub record WinsByHits (B : Board) (E : EdgeList) (ts : List ℕ) (limit : Float) : Type 0 where
  pub wins-most : (P : Placing) → Wins B E ts limit P → (Q : Placing) → WithinLimit B E ts limit Q → hits_at B E ts Q ≤ hits_at B E ts P
  pub most-wins : no_confidence E ≡ false → (P : Placing) → WithinLimit B E ts limit P
      → ((Q : Placing) → OnBoard B ts Q → (Same Q P → ⊥) → hits_at B E ts Q < hits_at B E ts P) → Wins B E ts limit P

-- HARD DECODE: `answer` is what the call gave, with the room before and after it. The early conditions are `hard_early`, and tables_for L places of each slice are used (`hard-promise`)
pub record HardPromise (early : List Condition) (used : ℕ) (call : HardCall) (before after : HardRoom) (answer : Answer) : Type 0 where
  pub demands : Demands Err Ok early (hard_late call) (after ≡ before)
      (Emptied 0 0 used before.counts after.counts × Emptied nan zero_f used before.weights after.weights) (HardAnswered call) answer
  -- "answers exactly when": a placing that leads and agrees is found, and it is the one that the answer names
  pub finds_square : AllMet early → no_confidence call.logical ≡ false → (P : Placing)
      → Leads call.board call.logical call.transforms call.error_limit P → AgreesPhysical call.board call.physical call.transforms P
      → (found : Decoded) × (answer ≡ Ok found) × Names call.transforms P found.square
  pub logical-winner : AllMet early → WinsByHits call.board call.logical call.transforms call.error_limit
  pub physical-winner : AllMet early → WinsByHits call.board call.physical call.transforms one_f

-- SOFT DECODE: `soft_early`, and sums_for L places of the sums (`soft-promise`)
pub record SoftPromise (early : List Condition) (used used-sums : ℕ) (call : SoftCall) (before after : SoftRoom) (answer : SoftAnswer) : Type 0 where
  pub demands : Demands Err Ok early (soft_late call) (after ≡ before)
      (Emptied 0 0 used before.counts after.counts × Emptied nan zero_f used before.weights after.weights × Emptied (pos 0) (pos 0) used-sums before.sums after.sums) (SoftAnswered call) answer
  -- "answers exactly when": its own best placing, where it clears the margin and leads, is found, and it is the one that the answer names
  pub finds_square : AllMet early → no_confidence call.hard.physical ≡ false → no_confidence call.hard.logical ≡ false → (P Q : Placing)
      → Clears call P Q → Leads call.hard.board call.hard.logical call.hard.transforms call.hard.error_limit P
      → (found : SoftDecoded) × (answer ≡ Ok found) × Names call.hard.transforms P found.square
  pub logical-winner : AllMet early → WinsByHits call.hard.board call.hard.logical call.hard.transforms call.hard.error_limit

-- MATCH STATISTICS, of a list at one square: `stats_early`, no late conditions, no room, and the hits are counted edge by edge (`stats-promise`)
pub record StatsPromise (early : List Condition) (list : EdgeList) (transform row col : ℕ) (board : Board) (answer : StatsAnswer) : Type 0 where
  pub demands : Demands Err Ok early [] (Unit {0}) (Unit {0})
      (λ counted. (counted.hits ≡ hits board list transform row col) × (counted.edges ≡ size list)) answer

-- ==== PARTICULARS

-- ---- EARLY REFUSALS, of every entry point
-- a call that is refused before any work is done is refused by one of 1 to 9, 16 and 17
abbrev pub EarlyNumber : Admission → Type 0
EarlyNumber checked = (refusal : Refusal) → checked ≡ Err refusal → ((1 ≤ refusal.number) × (refusal.number ≤ 9)) ⊎ ((refusal.number ≡ 16) ⊎ (refusal.number ≡ 17))

-- a call is accepted exactly in its domain; else it is refused by one of these numbers, and the call `refused` as is said for each entry point. A refusal about an edge names the first
-- bad edge of its kind, the logical list first, and every other names none (findings/specs/Places.antt); where 16 and 17 are read as 4, the number is that of document 01's table
pub record Early (checked : Admission) (domain : Type 0) (count : ListName → ℕ) (bad : ℕ → ListName → ℕ → Bool) (document-01 : Admission) (refused : Refusal → Type 0) : Type 0 where
  pub accepts : (checked ≡ accepted → domain) × (domain → checked ≡ accepted)
  pub number : EarlyNumber checked
  pub place : (refusal : Refusal) → checked ≡ Err refusal → PlaceRight count bad refusal
  pub old_number : admission01 checked ≡ document-01
  pub refuses : (refusal : Refusal) → checked ≡ Err refusal → refused refusal

-- ---- RUNNER-UP
-- "In the domain a runner-up always exists, and this is proved": whatever the selection on an accepted list chose, passed by the gate or not, another placing
-- has the hits that are reported as the runner-up's, and no third has more
abbrev pub RunnerUpAlways : Type 0
RunnerUpAlways =
    (board : Board) (list : EdgeList) (transforms : List ℕ) (limit : Float) → BoardOk board → ListOk list → length transforms ≤ 8
    → (winner : Candidate) (runner-up : RunnerUp) → selection board list transforms limit ≡ Ok (winner, runner-up) → RunnerUpExists board list transforms winner.placing runner-up.hits

-- ---- HARD DECODE
-- all early conditions are met
abbrev pub InHardDomain : HardCall → HardRoom → Type 0
InHardDomain call room = AllMet (hard_early call room)

-- the contract of `decode_hard`
abbrev pub HardGave : HardCall → HardRoom → HardRoom → Answer → Type 0
HardGave call before after answer = HardDone call before.counts after.counts before.weights after.weights answer

-- the particulars of hard decode
pub record HardParticulars (call : HardCall) (before after : HardRoom) (answer : Answer) : Type 0 where
  -- DEMAND 1, early refusals
  pub early : Early (hard_checked call before) (InHardDomain call before) (hard_count call) (hard_bad call) (hard_numbers01 call (length before.counts) (length before.weights))
      (λ refusal. (answer ≡ Err refusal) × (after.counts ≡ before.counts) × (after.weights ≡ before.weights))
  -- else it is refused by 10 to 13, if at all, and about no edge
  pub refused_late : InHardDomain call before → (refusal : Refusal) → answer ≡ Err refusal → (10 ≤ refusal.number) × (refusal.number ≤ 13) × (refusal.place ≡ None)
  -- each of them exactly when
  pub refused_exactly : InHardDomain call before → HardLate call answer
  -- a found answer is in range: its whole numbers, and no float is a NaN or an infinity
  pub answer_in_range : (found : Decoded) → answer ≡ Ok found → AnswerInRange (length call.board.h) found
  -- "What the room held before has no influence": the same call with room as long gives the same answer
  pub no_influence : (before' after' : HardRoom) (answer' : Answer) → HardGave call before' after' answer' → length before'.counts ≡ length before.counts → length before'.weights ≡ length before.weights
      → answer' ≡ answer
  -- C-12: the margin is the winner's hits less the runner-up's, of exactly the two counts that the answer holds
  pub margin-of-the-two : (found : Decoded) → answer ≡ Ok found → found.margin_hits ≡ found.hits - found.runner_up_hits
  -- DEMAND 2: the answer is document 01's
  pub by_the_rules : answer ≡ hard_answer call (length before.counts) (length before.weights)

-- ---- SOFT DECODE
-- all early conditions are met
abbrev pub InSoftDomain : SoftCall → SoftRoom → Type 0
InSoftDomain call room = AllMet (soft_early call room)

-- the contract of `decode_soft`
abbrev pub SoftGave : SoftCall → SoftRoom → SoftRoom → SoftAnswer → Type 0
SoftGave call before after answer = SoftDone call before.counts after.counts before.weights after.weights before.sums after.sums answer

-- "(first - second) / edges", of an answer's own fields
abbrev pub MarginOfTheTwo : SoftDecoded → Type 0
MarginOfTheTwo found = found.margin ≡ div binary32 (sub binary32 found.best_score found.second_score) (of_int binary32 (pos found.edges))

-- the particulars of soft decode
pub record SoftParticulars (call : SoftCall) (before after : SoftRoom) (answer : SoftAnswer) : Type 0 where
  -- DEMAND 1, early refusals
  pub early : Early (soft_checked call before) (InSoftDomain call before) (hard_count call.hard) (soft_bad call) (soft_numbers01 call (length before.counts) (length before.weights) (length before.sums))
      (λ refusal. (answer ≡ Err refusal) × (after.counts ≡ before.counts) × (after.weights ≡ before.weights) × (after.sums ≡ before.sums))
  -- else it is refused by 10, 11, 13, 14 or 15, if at all, and about no edge
  pub refused_late : InSoftDomain call before → (refusal : Refusal) → answer ≡ Err refusal
      → ((10 ≤ refusal.number) × (refusal.number ≤ 15) × (refusal.number ≡ 12 → ⊥)) × (refusal.place ≡ None)
  pub refused_exactly : InSoftDomain call before → SoftLate call answer
  pub answer_in_range : (found : SoftDecoded) → answer ≡ Ok found → SoftAnswerInRange (length call.hard.board.h) found
  pub no_influence : (before' after' : SoftRoom) (answer' : SoftAnswer) → SoftGave call before' after' answer'
      → length before'.counts ≡ length before.counts → length before'.weights ≡ length before.weights → length before'.sums ≡ length before.sums → answer' ≡ answer
  -- C-12: the margin is (best - second) / edges of exactly the two totals that the answer holds
  pub margin-of-the-two : (found : SoftDecoded) → answer ≡ Ok found → MarginOfTheTwo found
  -- DEMAND 2: the answer is document 01's
  pub by_the_rules : answer ≡ soft_answer call (length before.counts) (length before.weights) (length before.sums)
  -- and which of the second-best placings its margin is of, where several tie
  pub kept : (found : SoftDecoded) → answer ≡ Ok found → SoftKept call found

-- ---- MATCH STATISTICS
-- the particulars of match statistics
pub record StatsParticulars (list : EdgeList) (transform row col : ℕ) (board : Board) (answer : StatsAnswer) : Type 0 where
  -- DEMAND 1, early refusals
  pub early : Early (stats_admission list transform row col board) (AllMet (stats_early list transform row col board)) (stats_count list) (stats_bad list) (stats_numbers01 list transform row col board)
      (λ refusal. answer ≡ Err refusal)
  -- DEMAND 2: every other call gives the statistics of document 01
  pub by_the_rules : AllMet (stats_early list transform row col board) → answer ≡ Ok (stats_of list transform row col board)
  -- and what is counted is in range: its whole numbers, and no float is a NaN or an infinity
  pub answer_in_range : (counted : MatchStats) → answer ≡ Ok counted → StatsInRange counted
