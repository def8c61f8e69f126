-- C-16: "proved to refuse with the same number or give the same three as document 01's hard selection .. with room enough, then the gate on that list". What that asks, in words: the table engine on
-- one list is the early refusals of a hard call that has this list twice, and then `decide`.
use Rattle.std.specs.Prelude.{◌≡◌, false, List, ℕ, get_or, length, Float, Err, None, Ok, Option, Some}
use Rattle.board.specs.Hits.{EdgeList, Board}
use Rattle.refusals.specs.declared.EdgePlace.{EdgePlace}
use Rattle.refusals.specs.declared.Refusal.{Refusal}
use Rattle.refusals.specs.declared.ListName.TheVariants as list
use Rattle.admission.specs.Calls.{hard_call}
use Rattle.admission.specs.Refusals.{room_short, hard_admission}
use Rattle.hard.specs.Select.{SelectReady}
use Rattle.decide.specs.Kinds.{Outcome}
use Rattle.decide.specs.Decide.{DecideDone}
use Rattle.locate_answer.specs.declared.Located.{Located}
use Rattle.locate_answer.specs.Answers.{LocateAnswer}
use Rattle.refusals.specs.Admission.{accepted}

-- a place in the only list of a call, as a place in the logical list of a call with two
abbrev pub logical_place : Option EdgePlace → Option EdgePlace
logical_place None = None
logical_place (Some e) = Some (record { list = list.Logical; position = e.position })

-- the same of a refusal: its number, and the position of its edge, stay
abbrev pub as_logical : Refusal → Refusal
as_logical r = record { number = r.number; place = logical_place r.place }

-- the same answer: the same refusal, or the same placing (transform, row, column), hits and runner-up hits
abbrev pub Same : List ℕ → Outcome → LocateAnswer → Type 0
Same ts (Err r) a = a ≡ Err r
Same ts (Ok (w, runner-up)) a =
    (l : Located) × (a ≡ Ok l) × (l.square ≡ record { transform = get_or ts w.placing.listed 0; row = w.placing.row; col = w.placing.col }) × (l.hits ≡ w.hits) × (l.runner_up_hits ≡ runner-up.hits)

-- THE TWO ENGINES ANSWER THE SAME, in whatever room is long enough: where the hard call's checks refuse, with the same number and the same edge; else as selection and gate decide the list, which is then
-- ready for them
pub record SameAsTables (B : Board) (E : EdgeList) (ts : List ℕ) (limit : Float) (a : LocateAnswer) : Type 0 where
  pub early : (c : List ℕ) (w : List Float) → room_short (length B.h) (length c) (length w) ≡ false → (x : Refusal)
      → hard_admission (hard_call E E ts B limit) (length c) (length w) ≡ Err x → (r : Refusal) × (a ≡ Err r) × (x ≡ as_logical r)
  pub ready : (c : List ℕ) (w : List Float) → room_short (length B.h) (length c) (length w) ≡ false → hard_admission (hard_call E E ts B limit) (length c) (length w) ≡ accepted → SelectReady B E ts c w
  pub late : (c : List ℕ) (w : List Float) → room_short (length B.h) (length c) (length w) ≡ false → hard_admission (hard_call E E ts B limit) (length c) (length w) ≡ accepted
      → (c' : List ℕ) (w' : List Float) (r : Outcome) → DecideDone B E ts limit c c' w w' r → Same ts r a
