-- `is_name`: the part of the text, where it has one, is compared with the name.
use Rattle.std.proofs.lemmas.Bool.Decides.{Decides-eqb}
use Rattle.std.proofs.lemmas.Slice.Eq.{slice_eq-Decides}
use Rattle.viewtext.proofs.Names.{named-part, named-none}
use Rattle.viewtext.proofs.text.is_name.Goals as goal

pub returns-in-Some : goal.returns-in-Some
returns-in-Some c =
    let s = c.args in
    let l = c.in-Some.ensures.lookup.0 in
    named-part s.s.now s.from s.name.now s.to l.0 l.1 c.in-Some.part.now c.eq.result l.2 (slice_eq-Decides Decides-eqb _ _ _ c.eq.ensures)

pub returns-in-None : goal.returns-in-None
returns-in-None c = let s = c.args in named-none s.s.now s.from s.name.now s.to c.in-None.ensures.lookup.0
