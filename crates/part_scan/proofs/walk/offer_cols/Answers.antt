use mathlib.Core.Path.{◌≡◌, refl, ap, ◌∙◌}
use Prim.Native.Nat.{ℕ, ◌+◌, ◌-◌}
use native.Mathlib.Omega.{arith}
use Rattle.laws.specs.Words.{all}
use Rattle.part_scan.specs.Kept.{walked}
use Rattle.part_scan.specs.Walk.{number_value, first_number}
use Rattle.part_scan.specs.KeptLaws.{walk-empty}
use Rattle.part_scan.specs.WalkLaws.{next-short, next-long, col-more}
use Rattle.part_scan.proofs.walk.offer_cols.Goals as goal

pub loop-col-init : goal.loop-col-init
loop-col-init c = let a = c.args in (omega arith, omega arith, refl, refl, walk-empty _ all a.kept _ a.from)

pub overflow_add-value-in-loop-col-2 : goal.overflow_add-value-in-loop-col-2
overflow_add-value-in-loop-col-2 c = record { fits = c.requires.tables_ready.small _ _ (omega arith) (omega arith) }

pub next_class-short-requires : goal.next_class-short-requires
next_class-short-requires c = (omega arith, omega arith)

pub next_class-long-requires : goal.next_class-long-requires
next_class-long-requires c = (omega arith, omega arith)

pub loop-col-preserved : goal.loop-col-preserved
loop-col-preserved c =
    let l = c.loop-col in
    let a = c.args in
    (omega arith, omega arith, c.next_class-short.ensures ∙ next-short l.short l.col l.invariant.2, c.next_class-long.ensures ∙ next-long l.long l.col l.invariant.3, c.keep-held.ensures ∙ col-more _ _ a.kept a.listed a.row a.from l.col l.held l.short l.long (omega arith) l.invariant.0 (omega arith) l.invariant.2 l.invariant.3 l.invariant.4)

pub returns : goal.returns
returns c =
    let l = c.loop-col in
    let a = c.args in
    let e : l.col ≡ a.to = omega arith in
    l.invariant.4 ∙ ap (λ (x : ℕ). walked all (number_value a.hs.now a.vs.now) a.kept (first_number a.listed a.row + a.from) (x - a.from)) e
