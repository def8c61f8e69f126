-- What a kept candidate sets to beat, and that being ahead of it is document 01's rule of replacing.
use Rattle.std.specs.Prelude.{◌≡◌, refl, Bool, true, false, cond, ℕ, ◌<◌, Float, None, Some}
use Rattle.std.proofs.Common.{arith, lt-ltb}
use Rattle.laws.specs.Words.{zero_f}
use Rattle.best.specs.Lex.{wins}
use Rattle.scan.specs.Scan.{takes, behind}
use Rattle.scan.specs.declared.record.Lead.{Lead}
use Rattle.scan.specs.Kinds.{Kept}

-- nothing, or a candidate's hits and score
abbrev pub lead_of : Kept → Lead
lead_of None = record { some = false; hits = 0; score = zero_f }
lead_of (Some k) = record { some = true; hits = k.hits; score = k.score }

-- whether so many hits with that score are ahead
abbrev pub ahead_of : Lead → ℕ → Float → Bool
ahead_of l hits score = cond l.some (wins hits score l.hits l.score) true

-- "on more hits, or on equal hits and strictly greater score"
pub ahead-takes : (kept : Kept) (hits : ℕ) (score : Float) → takes kept hits score ≡ ahead_of (lead_of kept) hits score
unfolding takes
ahead-takes None hits score = refl
ahead-takes (Some k) hits score = refl

-- fewer hits than the lead's are behind
pub below-behind : (kept : Kept) (hits : ℕ) → hits < (lead_of kept).hits → behind kept hits ≡ true
unfolding behind
below-behind None hits l = absurd (omega arith)
below-behind (Some k) hits l = lt-ltb hits k.hits l
