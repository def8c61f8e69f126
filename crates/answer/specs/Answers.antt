-- What the entry points answer: the code's types of these names. Each is what was found, or a refusal.
use Rattle.std.specs.Prelude.{Result}
use Rattle.refusals.specs.declared.Refusal.{Refusal}
use Rattle.answer.specs.declared.Decoded.{Decoded}
use Rattle.answer.specs.declared.SoftDecoded.{SoftDecoded}
use Rattle.answer.specs.declared.MatchStats.{MatchStats}

-- the answer of hard decode
abbrev pub Answer : Type 0
Answer = Result Decoded Refusal

-- the answer of soft decode
abbrev pub SoftAnswer : Type 0
SoftAnswer = Result SoftDecoded Refusal

-- the answer of match statistics
abbrev pub StatsAnswer : Type 0
StatsAnswer = Result MatchStats Refusal
