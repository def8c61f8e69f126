-- Document 01, 'Hard selection': candidates, the runner-up and the choice; and the scan record, "HardScan by value with an array of eight summaries and a count".
use Rattle.std.specs.Prelude.{Bool, true, false, cond, ◌&&◌, ◌||◌, List, ℕ, zero, suc, ◌+◌, ◌≤◌, ◌<◌, ltb, eqb, get_or, set, replicate, Float, None, Some}
use Rattle.std.specs.Float.Ieee.{lt}
use Rattle.figures.specs.Figures.{rate_of}
use Rattle.scan.specs.declared.scan.TransformSummary.{TransformSummary}
use Rattle.scan.specs.declared.scan.HardScan.{HardScan}
use Rattle.scan.specs.declared.scan.RunnerUp.{RunnerUp}
use Rattle.scan.specs.declared.scan.Candidate.{Candidate}
use Rattle.scan.specs.Kinds.{Kept}
use Rattle.scan.specs.Kinds.{Choice}

-- "rate over the limit": so many hits are not within it
unfoldable pub over_limit : ℕ → Float → ℕ → Bool
unfolding rate_of
over_limit edges limit hits = lt limit (rate_of edges hits)

-- ---- candidates
-- "A candidate replaces the kept one on more hits, or on equal hits and strictly greater score"
unfoldable pub takes : Kept → ℕ → Float → Bool
takes None hits score = true
takes (Some k) hits score = ltb k.hits hits || (eqb hits k.hits && lt k.score score)

-- what is kept after the candidate c was offered
unfoldable pub replaced : Kept → Candidate → Kept
unfolding takes
replaced kept c = cond (takes kept c.hits c.score) (Some c) kept

-- the same of a candidate that is rate-tested first
unfoldable pub offered_within : ℕ → Float → Kept → Candidate → Kept
unfolding over_limit replaced
offered_within edges limit kept c = cond (over_limit edges limit c.hits) kept (replaced kept c)

-- so many hits are fewer than the kept candidate's
unfoldable pub behind : Kept → ℕ → Bool
behind None hits = false
behind (Some k) hits = ltb hits k.hits

-- ---- the scan record
-- what stands in a place of the array that holds no summary yet
abbrev pub no_runner_up : RunnerUp
no_runner_up = record { hits = 0; row = 0; col = 0; transform = 0 }

abbrev pub no_summary : TransformSummary
no_summary = record { best = no_runner_up; within = no_runner_up }

-- of no transforms
unfoldable pub empty_scan : HardScan
empty_scan = record { summaries = replicate 8 no_summary; count = 0; best = None }

-- one transform more, with its summary, and what is kept after it
unfoldable pub pushed : HardScan → TransformSummary → Kept → HardScan
pushed h s best = record { summaries = set h.summaries h.count s; count = h.count + 1; best = best }

-- ---- the runner-up
-- "each other list position, in order, with its best hits and best origin, replaces it only on strictly more hits"
abbrev pub stepped : RunnerUp → TransformSummary → Bool → RunnerUp
stepped r s own = cond own r (cond (ltb r.hits s.best.hits) s.best r)

-- "Runner-up: inside the winner's transform, .. Then each other list position": of the winner at position w, over the first n positions
unfoldable pub runner_up_of : List TransformSummary → ℕ → ℕ → RunnerUp
runner_up_of ss w zero = (get_or ss w no_summary).within
runner_up_of ss w (suc i) = stepped (runner_up_of ss w i) (get_or ss i no_summary) (eqb i w)

-- ---- the choice
-- a scan whose kept candidate stands at one of its positions
abbrev pub SoundKept : Kept → ℕ → Type 0
SoundKept None n = Unit {0}
SoundKept (Some c) n = c.placing.listed < n

-- and that has at most eight
abbrev pub SoundScan : HardScan → Type 0
SoundScan h = (h.count ≤ 8) × SoundKept h.best h.count

-- nothing where no candidate was kept, or the kept one with its runner-up
abbrev pub chosen_by : HardScan → Kept → Choice
chosen_by h None = None
chosen_by h (Some c) = Some (c, (runner_up_of h.summaries c.placing.listed h.count))

-- what the scan comes to
unfoldable pub chosen : HardScan → Choice
unfolding runner_up_of
chosen h = chosen_by h h.best
