-- WHAT THE EXACT MODE PROMISES (request C-15), in words: definitions alone, in the form and with the words of Promises.antt. First demands 1 and 3, then its winner, its particulars, and what joins
-- it to hard decode. ExactClaims.antt proves them of all that the contract of `decode_exact` allows, for all inputs. Besides the words of Promises.antt:
--   units       a confidence as a whole number of 2^-24, halves away from zero (`unit_of`, unit_terms/specs/Values.antt); the unit sum of a list is `total_units` (exact_core/specs/ExactCore.antt)
--   weight      of a placing: the units of the edges that are its hits, one by one (`weight_at`, exact/specs/Winner.antt)
--   winner      of a list: the placing with most hits, then most weight, then the earliest list position, then row, then column (`IsWinner`, Winner.antt): no table and no limit occurs
--   wins        has the transform and the origin of a list's winner (`ExactWins`, exact_demand/specs/ExactDemand.antt)
--   answered    what a found answer says (`ExactAnswered`, ExactDemand.antt)
use Rattle.std.specs.Prelude.{◌≡◌, ◌⊎◌, List, ◌++◌, ℕ, ◌≤◌, ◌<◌, length, Err, None, Ok}
use Rattle.board.specs.declared.edge.Placing.{Placing}
use Rattle.board.specs.Hits.{EdgeList, Board}
use Rattle.refusals.specs.declared.Refusal.{Refusal}
use Rattle.admission.specs.Calls.{HardCall}
use Rattle.admission.specs.Conditions.{Condition, AllMet, FirstFails}
use Rattle.admission.specs.PlaceTheorems.{hard_count, hard_bad}
use Rattle.admission.specs.Document01.{hard_numbers01}
use Rattle.answer.specs.declared.Decoded.{Decoded}
use Rattle.answer.specs.Answers.{Answer}
use Rattle.demand.specs.Demand.{Same, Leads, Names}
use Rattle.exact.specs.Winner.{IsWinner}
use Rattle.exact_answer.specs.declared.ExactDecoded.{ExactDecoded}
use Rattle.exact_answer.specs.Answers.{ExactAnswer}
use Rattle.exact_core.specs.ExactCore.{total_units}
use Rattle.exact_demand.specs.ExactDemand.{ExactWins, ExactAnswered}
use Rattle.exact_demand.specs.ExactDomain.{ExactRoom, exact_checked, exact_early}
use Rattle.exact_demand.proofs.ExactRange.{ExactInRange}
use Rattle.decode_exact.specs.ExactAnswer.{exact_answer, ExactCallDone}
use Rattle.claims.specs.Late.{exact_late}
use Rattle.claims.specs.Promises.{Demands, Emptied, Early}

-- ==== DEMANDS 1 AND 3

-- a list has one winner
pub record OneWinner (B : Board) (E : EdgeList) (ts : List ℕ) : Type 0 where
  pub winner : Placing
  pub wins : IsWinner B E ts winner
  pub once : (P : Placing) → IsWinner B E ts P → Same P winner

-- EXACT DECODE: `answer` is what the call gave, with the room before and after it. The early conditions are `exact_early`, and tables_for L places of each slice are used (`exact-promise`)
pub record ExactPromise (early : List Condition) (used : ℕ) (call : HardCall) (before after : ExactRoom) (answer : ExactAnswer) : Type 0 where
  pub demands : Demands Err Ok early (exact_late call) (after ≡ before) (Emptied 0 0 used before.counts after.counts × Emptied 0 0 used before.units after.units) (ExactAnswered call) answer
  -- "answers exactly when": a placing that leads and agrees is found, and it is the one that the answer names. The premise is a unit sum above 0 of each list
  pub finds_square : AllMet early → 0 < total_units call.logical → 0 < total_units call.physical → (P : Placing)
      → Leads call.board call.logical call.transforms call.error_limit P → ExactWins call.board call.physical call.transforms P
      → (found : ExactDecoded) × (answer ≡ Ok found) × Names call.transforms P found.square
  -- each list has one winner, over all placings, and a found answer names that of the logical list
  pub logical-winner : AllMet early → OneWinner call.board call.logical call.transforms
  pub physical-winner : AllMet early → OneWinner call.board call.physical call.transforms
  pub names_winner : (found : ExactDecoded) → answer ≡ Ok found → (P : Placing) × IsWinner call.board call.logical call.transforms P × Names call.transforms P found.square

-- ==== PARTICULARS

-- all early conditions are met
abbrev pub InExactDomain : HardCall → ExactRoom → Type 0
InExactDomain call room = AllMet (exact_early call room)

-- the contract of `decode_exact`
abbrev pub ExactGave : HardCall → ExactRoom → ExactRoom → ExactAnswer → Type 0
ExactGave call before after answer = ExactCallDone call before.counts after.counts before.units after.units answer

-- the particulars of exact decode
pub record ExactParticulars (call : HardCall) (before after : ExactRoom) (answer : ExactAnswer) : Type 0 where
  -- DEMAND 1, early refusals: hard decode's
  pub early : Early (exact_checked call before) (InExactDomain call before) (hard_count call) (hard_bad call) (hard_numbers01 call (length before.counts) (length before.units))
      (λ refusal. (answer ≡ Err refusal) × (after.counts ≡ before.counts) × (after.units ≡ before.units))
  -- else it is refused by 10 to 13, if at all, and about no edge
  pub refused_late : InExactDomain call before → (refusal : Refusal) → answer ≡ Err refusal → (10 ≤ refusal.number) × (refusal.number ≤ 13) × (refusal.place ≡ None)
  -- and a call is refused by a number exactly when that is the number of the first condition that it does not meet (the other half is `refused` of its demands)
  pub refused_exactly : (n : ℕ) → FirstFails (exact_early call before ++ exact_late call) n → (refusal : Refusal) × (answer ≡ Err refusal) × (refusal.number ≡ n)
  -- a found answer is in range: its whole numbers, and its error rate is no NaN and no infinity
  pub answer_in_range : (found : ExactDecoded) → answer ≡ Ok found → ExactInRange (length call.board.h) found
  -- "What the room held before has no influence": the same call with room as long gives the same answer
  pub no_influence : (before' after' : ExactRoom) (answer' : ExactAnswer) → ExactGave call before' after' answer' → length before'.counts ≡ length before.counts → length before'.units ≡ length before.units
      → answer' ≡ answer
  -- DEMAND 2: the answer is the rules'
  pub by_the_rules : answer ≡ exact_answer call (length before.counts) (length before.units)

-- ==== THE TWO HARD MODES

-- what two found answers of one call share. The runner-up's square is not among it: of several placings with its hits, weights decide which one is shown
pub record SameFound (d : Decoded) (e : ExactDecoded) : Type 0 where
  pub square : d.square ≡ e.square
  pub hits : d.hits ≡ e.hits
  pub edges : d.edges ≡ e.edges
  pub rate : d.error_rate ≡ e.error_rate
  pub runner_up_hits : d.runner_up_hits ≡ e.runner_up_hits

-- the two numbers that may differ
abbrev pub TenOrTwelve : Refusal → Type 0
TenOrTwelve r = (r.number ≡ 10) ⊎ (r.number ≡ 12)

-- of one call, hard decode's answer and exact decode's: both find the same square, or both refuse alike, or one of them refuses by 10 or 12
pub data ModesAgree : Answer → ExactAnswer → Type 0 where
  both_find : (d : Decoded) (e : ExactDecoded) → SameFound d e → ModesAgree (Ok d) (Ok e)
  both_refuse : (r : Refusal) → ModesAgree (Err r) (Err r)
  hard_refuses : (r : Refusal) (x : ExactAnswer) → TenOrTwelve r → ModesAgree (Err r) x
  exact_refuses : (h : Answer) (r : Refusal) → TenOrTwelve r → ModesAgree h (Err r)
