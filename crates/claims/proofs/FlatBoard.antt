-- THE FLAT BOARD, on which the horizontal table has 167 patterns too: document 01's claims, with its own numbers. C-13 says of every pole what document 01 says of the flat board; where L is
-- 167 the same conditions come out in document 01's words, and so do the promises.
use Rattle.std.specs.Prelude.{◌≡◌, List, [], ◌∷◌, ℕ, ◌*◌, ◌≤◌, ◌<◌, length, get_or, Ok}
use Rattle.std.proofs.Common.{sym}
use Rattle.std.proofs.Math.Path.{subst}
use native.Mathlib.Omega.{arith}
use Rattle.std.specs.Float.{nan}
use Rattle.board.specs.Hits.{EdgeList, Board, size}
use Rattle.refusals.specs.declared.Refusal.{Refusal}
use Rattle.room.specs.Room.{tables_for, sums_for}
use Rattle.admission.specs.Calls.{HardCall, SoftCall, HardRoom, SoftRoom}
use Rattle.admission.specs.Conditions.{Condition}
use Rattle.admission.specs.ConditionLaws.{InOtherWords, word-for-word, reworded, reworded-early}
use Rattle.admission.specs.Domain.{Between, PoleLength, Lent, early, hard_early, soft_early, stats_early}
use Rattle.answer.specs.declared.Decoded.{Decoded}
use Rattle.answer.specs.Answers.{Answer}
use Rattle.answer.specs.declared.SoftDecoded.{SoftDecoded}
use Rattle.answer.specs.Answers.{SoftAnswer}
use Rattle.answer.specs.Answers.{StatsAnswer}
use Rattle.demand.specs.FoundRange.{AnswerInRange, SoftAnswerInRange}
use Rattle.stats.specs.Stats.{stats_answer}
use Rattle.claims.specs.Promises.{Demands, HardPromise, SoftPromise, StatsPromise, HardGave, SoftGave}
use Rattle.claims.proofs.Claims.{hard-promise, hard-answer-in-range, soft-promise, soft-answer-in-range, stats-promise}

-- ---- document 01's conditions
-- a table of 167
abbrev pub Is167 : ℕ → Type 0
Is167 L = L ≡ 167

-- a hard call with its room: "Room: 3,006 u32 and 3,006 f32", "Error limit: f32 from 0 to 1"
unfoldable pub hard_early01 : HardCall → HardRoom → List Condition
hard_early01 call room =
    early (λ P. P call.logical × P call.physical) 1 call.transforms Is167 call.board
    ((3006 ≤ length room.counts) × (3006 ≤ length room.weights)) (Unit {0}) (Unit {0}) (Between 0 1 call.error_limit)

-- a soft call: "soft also 5,010 i64", "Each log likelihood is a finite f32 from -65,536 to 65,536", "Soft margin: f32 from 0 to 65,536"
unfoldable pub soft_early01 : SoftCall → SoftRoom → List Condition
soft_early01 call room =
    early (λ P. P call.hard.logical × P call.hard.physical) 1 call.hard.transforms Is167 call.hard.board
    ((3006 ≤ length room.counts) × (3006 ≤ length room.weights) × (5010 ≤ length room.sums))
    ((length call.likelihoods.matches ≡ size call.hard.physical) × (length call.likelihoods.mismatches ≡ size call.hard.physical))
    ((i : ℕ) → i < size call.hard.physical → Between 65536 65536 (get_or call.likelihoods.matches i nan) × Between 65536 65536 (get_or call.likelihoods.mismatches i nan))
    (Between 0 1 call.hard.error_limit × Between 0 65536 call.soft-margin)

-- match statistics, which have no room and also take no edges: "An origin given to match statistics: 0 to 500 each way"
unfoldable pub stats_early01 : EdgeList → ℕ → ℕ → ℕ → Board → List Condition
stats_early01 list transform row col board = early (λ P. P list) 0 (transform ∷ []) Is167 board (Unit {0}) (Unit {0}) (Unit {0}) ((row ≤ 500) × (col ≤ 500))

-- ---- they are those of a pole, where L is 167
flat-length : (L : ℕ) → Is167 L → PoleLength L
flat-length L e = subst PoleLength (sym e) (omega arith, omega arith, λ z. omega arith)

flat-lent : (asked : ℕ → ℕ) (L n : ℕ) → Is167 L → asked 4 ≤ asked 167 → (Lent asked L n → asked 167 ≤ n) × (asked 167 ≤ n → Lent asked L n)
flat-lent asked L n e more = (
  (λ h. subst (λ (k : ℕ). asked k ≤ n) e (h.1 (flat-length L e))),
  λ h. (omega (arith, more, h), λ g. subst (λ (k : ℕ). asked k ≤ n) (sym e) h),
)

in-words-01 : (each : (EdgeList → Type 0) → Type 0) (least : ℕ) (ts : List ℕ) (B : Board) {room room' : Type 0} (columns likelihoods : Type 0) {settings settings' : Type 0} → Is167 (length B.h)
    → (room → room') × (room' → room) → (settings → settings') × (settings' → settings)
    → InOtherWords (early each least ts PoleLength B room columns likelihoods settings) (early each least ts Is167 B room' columns likelihoods settings')
unfolding early
in-words-01 each least ts B columns likelihoods e room settings =
    reworded room.0 room.1 (kept (kept (kept (kept (kept (kept (kept (kept
    (reworded (λ h. (e, h.1, h.2, h.3)) (λ h. (flat-length (length B.h) e, h.1, h.2, h.3)) (reworded settings.0 settings.1 (word-for-word [])))))))))))
  where
    -- a condition that stays, and then the rest
    kept : {n : ℕ} {fact : Type 0} {rows others : List Condition} → InOtherWords rows others → InOtherWords ((n, fact) ∷ rows) ((n, fact) ∷ others)
    kept w = reworded (λ h. h) (λ h. h) w

-- ---- what is demanded under conditions is demanded under the same in other words
demands-reworded : {A Told : Type 0} (refusing : Refusal → A) (finding : Told → A) (rows others late : List Condition) (as_it_was emptied : Type 0) (says : Told → Type 0) (answer : A)
    → InOtherWords rows others → Demands refusing finding rows late as_it_was emptied says answer → Demands refusing finding others late as_it_was emptied says answer
demands-reworded refusing finding rows others late as_it_was emptied says answer w d =
    let v = reworded-early rows others late w in
    record {
      refused = λ r e. v.fails r.number (d.refused r e);
      untouched = λ n f. d.untouched n (w.fails_back n f);
      room_zero = λ m. d.room_zero (w.back m);
      found = λ t e. let f = d.found t e in (v.met f.0, f.1);
      finds = λ m. d.finds (v.back m);
    }

-- ---- HARD DECODE on the flat board
module _ (call : HardCall) (before after : HardRoom) (answer : Answer) (done : HardGave call before after answer) (flat : Is167 (length call.board.h)) where
  pub hard-words-01 : InOtherWords (hard_early call before) (hard_early01 call before)
  unfolding hard_early hard_early01
  hard-words-01 =
      let c = flat-lent tables_for (length call.board.h) (length before.counts) flat (omega arith) in
      let w = flat-lent tables_for (length call.board.h) (length before.weights) flat (omega arith) in
      in-words-01 _ 1 call.transforms call.board _ _ flat ((λ h. (c.0 h.0, w.0 h.1)), λ h. (c.1 h.0, w.1 h.1)) ((λ h. h), λ h. h)

  -- DOCUMENT 01'S CLAIM: what hard decode promises, with 3,006 places of each slice and 167 patterns in each table
  pub hard-promise-01 : HardPromise (hard_early01 call before) 3006 call before after answer
  hard-promise-01 =
      let p = subst (λ (L : ℕ). HardPromise (hard_early call before) (tables_for L) call before after answer) flat (hard-promise call before after answer done) in
      let w = hard-words-01 in
      record {
        demands = demands-reworded _ _ (hard_early call before) (hard_early01 call before) _ _ _ _ answer w p.demands;
        finds_square = λ m. p.finds_square (w.back m);
        logical-winner = λ m. p.logical-winner (w.back m);
        physical-winner = λ m. p.physical-winner (w.back m);
      }

  -- rows and columns of a found answer are below 501
  pub hard-range-01 : (found : Decoded) → answer ≡ Ok found → AnswerInRange 167 found
  hard-range-01 found e = subst (λ (L : ℕ). AnswerInRange L found) flat (hard-answer-in-range call before after answer done found e)

-- ---- SOFT DECODE on the flat board
module _ (call : SoftCall) (before after : SoftRoom) (answer : SoftAnswer) (done : SoftGave call before after answer) (flat : Is167 (length call.hard.board.h)) where
  pub soft-words-01 : InOtherWords (soft_early call before) (soft_early01 call before)
  unfolding soft_early soft_early01
  soft-words-01 =
      let c = flat-lent tables_for (length call.hard.board.h) (length before.counts) flat (omega arith) in
      let w = flat-lent tables_for (length call.hard.board.h) (length before.weights) flat (omega arith) in
      let s = flat-lent sums_for (length call.hard.board.h) (length before.sums) flat (omega arith) in
      in-words-01 _ 1 call.hard.transforms call.hard.board _ _ flat ((λ h. (c.0 h.0, w.0 h.1, s.0 h.2)), λ h. (c.1 h.0, w.1 h.1, s.1 h.2)) ((λ h. h), λ h. h)

  -- DOCUMENT 01'S CLAIM, with 3,006 places of two slices, 5,010 of the third, and 167 patterns in each table
  pub soft-promise-01 : SoftPromise (soft_early01 call before) 3006 5010 call before after answer
  soft-promise-01 =
      let p = subst (λ (L : ℕ). SoftPromise (soft_early call before) (tables_for L) (sums_for L) call before after answer) flat (soft-promise call before after answer done) in
      let w = soft-words-01 in
      record {
        demands = demands-reworded _ _ (soft_early call before) (soft_early01 call before) _ _ _ _ answer w p.demands;
        finds_square = λ m. p.finds_square (w.back m);
        logical-winner = λ m. p.logical-winner (w.back m);
      }

  pub soft-range-01 : (found : SoftDecoded) → answer ≡ Ok found → SoftAnswerInRange 167 found
  soft-range-01 found e = subst (λ (L : ℕ). SoftAnswerInRange L found) flat (soft-answer-in-range call before after answer done found e)

-- ---- MATCH STATISTICS on the flat board
module _ (list : EdgeList) (transform row col : ℕ) (board : Board) (answer : StatsAnswer) (done : answer ≡ stats_answer list transform row col board) (flat : Is167 (length board.h)) where
  pub stats-words-01 : InOtherWords (stats_early list transform row col board) (stats_early01 list transform row col board)
  unfolding stats_early stats_early01
  stats-words-01 =
      in-words-01 _ 0 (transform ∷ []) board _ _ flat ((λ h. h), λ h. h)
      ((λ h. (let r : row < 3 * 167 = subst (λ (L : ℕ). row < 3 * L) flat h.0 in omega arith, h.1)), λ h. (subst (λ (L : ℕ). row < 3 * L) (sym flat) (omega (arith, h.0)), h.1))

  -- DOCUMENT 01'S CLAIM, with origins from 0 to 500 each way
  pub stats-promise-01 : StatsPromise (stats_early01 list transform row col board) list transform row col board answer
  stats-promise-01 = record {
    demands = demands-reworded _ _ (stats_early list transform row col board) (stats_early01 list transform row col board) [] _ _ _ answer stats-words-01 (stats-promise list transform row col board answer done).demands;
  }
