-- CAN THIS PLACING STILL PASS? (C-18): what is promised of `within_limit`, whose contract is `answer ≡ within_answer ..` and has no `requires`. `certain`, `LeastRead`, `Agree` and `Completion` stand
-- in within/specs/Within.antt and within_equal/specs. In words: it answers yes or no with the least number of edges after which that is certain, as match statistics' rate of the full list would, or
-- refuses the call by 2, 3, 7, 8 or 9, or the first bad edge that it reaches.
use Rattle.std.specs.Prelude.{◌≡◌, true, false, ℕ, ◌<◌, Float, Err, Ok}
use Rattle.std.proofs.Common.{sym, ◌∙◌, arith}
use Rattle.std.specs.Float.Ieee.{le}
use Rattle.laws.specs.Words.{one_f}
use Rattle.board.specs.Hits.{EdgeList, Board, size}
use Rattle.ranges.specs.Ranges.{in_range}
use Rattle.refusals.specs.declared.Refusal.{Refusal}
use Rattle.refusals.specs.declared.ListName.TheVariants as name
use Rattle.refusals.specs.Numbers.{edge_refusal}
use Rattle.answer.specs.declared.MatchStats.{MatchStats}
use Rattle.stats.specs.Stats.{stats_answer}
use Rattle.within_answer.specs.declared.LimitTest.{LimitTest}
use Rattle.within_answer.specs.Answers.{WithinAnswer}
use Rattle.within_admission.specs.WithinAdmission.{fault_at, within_admission}
use Rattle.within_admission.specs.WithinAdmissionLaws.{within-accepted}
use Rattle.within.specs.Within.{read_to, within_answer}
use Rattle.within_equal.specs.Equal.{Agree, LeastRead, Reached}
use Rattle.within_equal.proofs.EqualTheorems.{judged-accepted, least-read, reached, as-match-stats, empty-by-one}
use Rattle.within_equal.proofs.Unread.{unread-part}
use Rattle.within_equal.specs.Completions.{Completion, both-possible}
use Rattle.refusals.specs.Admission.{accepted}

-- WITHIN THE LIMIT, of a list at one square: `answer` is what the call gave (`within-promise`)
pub record WithinPromise (list : EdgeList) (transform row col : ℕ) (board : Board) (limit : Float) (answer : WithinAnswer) : Type 0 where
  -- after the edges read it is certain, and after fewer it is not; none of them is bad
  pub least : (told : LimitTest) → answer ≡ Ok told → LeastRead list transform row col board limit told
  -- after fewer, the edges that were not read can still make it yes, and can still make it no
  pub not-sooner : (told : LimitTest) → answer ≡ Ok told → (i : ℕ) → i < told.read → Completion list transform row col board limit i true × Completion list transform row col board limit i false
  -- "The answer equals that of match statistics' rate on the full list"
  pub as_statistics : (counted : MatchStats) → stats_answer list transform row col board ≡ Ok counted → in_range one_f limit ≡ true
      → answer ≡ Ok (record { within = le counted.error_rate limit; read = read_to list transform row col board limit })
  -- "where the unread part is bad, the equality is of the list with good edges there"
  pub unread : (other : EdgeList) (told : LimitTest) (counted : MatchStats) → answer ≡ Ok told → Agree told.read list other → stats_answer other transform row col board ≡ Ok counted
      → told.within ≡ le counted.error_rate limit
  -- "then a bad edge field by its number when reached"
  pub refuses : within_admission list transform row col board limit ≡ accepted → (refusal : Refusal) → answer ≡ Err refusal
      → (p : ℕ) × (refusal ≡ edge_refusal (fault_at list p) name.Only p) × Reached list transform row col board limit p
  -- "The empty list answers by rate 1"
  pub empty : within_admission list transform row col board limit ≡ accepted → size list ≡ 0 → answer ≡ Ok (record { within = le one_f limit; read = 0 })

-- a judged call was accepted
module _ (list : EdgeList) (transform row col : ℕ) (board : Board) (limit : Float) (answer : WithinAnswer) (done : answer ≡ within_answer list transform row col board limit) where
  not-sooner : (told : LimitTest) → answer ≡ Ok told → (i : ℕ) → i < told.read → Completion list transform row col board limit i true × Completion list transform row col board limit i false
  not-sooner told e i l =
      let L = least-read list transform row col board limit told (sym done ∙ e) in
      let a = within-accepted list transform row col board limit (judged-accepted list transform row col board limit told (sym done ∙ e)) in
      both-possible list transform row col board limit a.columns.few i (omega (arith, L.inside)) (λ k h. L.good k (omega arith)) (L.not_before i l)

  -- THE PROMISE, of whatever the contract of `within_limit` allows
  pub within-promise : WithinPromise list transform row col board limit answer
  within-promise = record {
    least = λ told e. least-read list transform row col board limit told (sym done ∙ e);
    not-sooner = not-sooner;
    as_statistics = λ counted e h. done ∙ as-match-stats list transform row col board limit counted e h;
    unread = λ other told counted e same k. unread-part list other transform row col board limit told counted (sym done ∙ e) same k;
    refuses = λ h refusal e. reached list transform row col board limit h refusal (sym done ∙ e);
    empty = λ h z. done ∙ empty-by-one list transform row col board limit h z;
  }
