-- C-18: where the part that was not read is bad, the answer is that of every list with good edges there.
use Rattle.std.specs.Prelude.{◌≡◌, ℕ, Float, Ok}
use Rattle.std.proofs.Common.{◌∙◌}
use Rattle.std.specs.Float.Ieee.{le}
use Rattle.board.specs.Hits.{EdgeList, Board}
use Rattle.answer.specs.declared.MatchStats.{MatchStats}
use Rattle.stats.specs.Stats.{stats_answer}
use Rattle.within_answer.specs.declared.LimitTest.{LimitTest}
use Rattle.within_admission.specs.WithinAdmissionLaws.{within-accepted}
use Rattle.within.specs.Within.{within_answer}
use Rattle.within_equal.specs.Equal.{Agree}
use Rattle.within_equal.proofs.EqualTheorems.{judged-accepted, nothing-else-read, of-all-edges, stats-admitted, stats-allowed}

-- WHERE THE UNREAD PART IS BAD: the answer is match statistics' of every list that they take, of the same length, that agrees on the part read
pub unread-part : (E F : EdgeList) (t row col : ℕ) (B : Board) (limit : Float) (j : LimitTest) (s : MatchStats) → within_answer E t row col B limit ≡ Ok j → Agree j.read E F
    → stats_answer F t row col B ≡ Ok s → j.within ≡ le s.error_rate limit
unread-part E F t row col B limit j s e same k =
    let a = within-accepted E t row col B limit (judged-accepted E t row col B limit j e) in
    let f = nothing-else-read E F t row col B limit j e same (stats-admitted F t row col B limit s k a.limited) in
    of-all-edges F t row col B limit j f ∙ stats-allowed F t row col B limit s k
