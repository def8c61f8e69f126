-- The answer of the test of one placing as a struct of plain numbers. C-18: yes or no, and how many edges were read; a refusal has neither.
use Rattle.std.specs.Prelude.{cond, ℕ, Err, Ok}
use Rattle.refusals.specs.declared.Refusal.{Refusal}
use Rattle.within_answer.specs.declared.LimitTest.{LimitTest}
use Rattle.within_answer.specs.Answers.{WithinAnswer}
use Rattle.flat.specs.Flat.{nothing, not_refused, flat_list, flat_position}
use Rattle.flat_within.specs.declared.FlatWithin.{FlatWithin}

-- what was judged: not refused, about no edge, 1 for yes and 0 for no
abbrev pub judged_with : ℕ → ℕ → FlatWithin
judged_with w n = record { refusal = not_refused; list = nothing; position = nothing; within = w; read = n }

abbrev pub flat_judged : LimitTest → FlatWithin
flat_judged j = judged_with (cond j.within 1 0) j.read

-- a refusal: its number, the list and the position of its edge, and 0xFFFFFFFF for both others
abbrev pub unjudged_with : ℕ → ℕ → ℕ → FlatWithin
unjudged_with n l i = record { refusal = n; list = l; position = i; within = nothing; read = nothing }

abbrev pub flat_unjudged : Refusal → FlatWithin
flat_unjudged r = unjudged_with r.number (flat_list r.place) (flat_position r.place)

-- the answer of the test
abbrev pub flat_within : WithinAnswer → FlatWithin
flat_within (Ok j) = flat_judged j
flat_within (Err r) = flat_unjudged r
