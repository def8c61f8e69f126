use mathlib.Core.Path.{◌≡◌, ap, ◌∙◌}
use mathlib.Core.List.{[]}
use Prim.Native.Nat.{ℕ, ◌-◌, ◌<◌}
use native.Mathlib.Omega.{arith}
use lib.ListN.{get_or, length}
use Rattle.classes.specs.Classes.{CountReady}
use Rattle.lead.specs.Lead.{lead_after, peaks}
use Rattle.lead.specs.LeadLaws.{lead-first, lead-next}
use Rattle.lead.proofs.lead_of.Goals as goal
use Rattle.board.specs.Given.{board_of, edges_of}

pub bounds-transforms-0 : goal.bounds-transforms-0
bounds-transforms-0 c = c.requires.some

pub peak_of-requires : goal.peak_of-requires
peak_of-requires c =
    let ready : (p : ℕ) → p < length c.args.transforms.now → CountReady (board_of c.args.tables) (let a = c.args in edges_of a.edges) (get_or c.args.transforms.now p 0) = λ p h. record { list = c.requires.list; board = c.requires.board; transform = c.requires.small p h } in
    ready 0 c.requires.some

pub start-lead-requires : goal.start-lead-requires
start-lead-requires c = tt

pub loop-p-init : goal.loop-p-init
loop-p-init c = (omega arith, c.requires.some, lead-first (peaks (board_of c.args.tables) (let a = c.args in edges_of a.edges) c.args.transforms.now) _ _ c.peak_of.ensures c.start-lead.ensures)

pub bounds-transforms-p : goal.bounds-transforms-p
bounds-transforms-p c = omega (arith, c.loop-p-test.true)

pub peak_of-peak-requires : goal.peak_of-peak-requires
peak_of-peak-requires c =
    let ready : (p : ℕ) → p < length c.args.transforms.now → CountReady (board_of c.args.tables) (let a = c.args in edges_of a.edges) (get_or c.args.transforms.now p 0) = λ p h. record { list = c.requires.list; board = c.requires.board; transform = c.requires.small p h } in
    ready c.loop-p.p c.loop-p-test.true

pub merge-lead-requires : goal.merge-lead-requires
merge-lead-requires c = tt

pub overflow_add-p : goal.overflow_add-p
overflow_add-p c = omega (arith, c.loop-p-test.true, c.requires.few)

pub loop-p-smaller : goal.loop-p-smaller
loop-p-smaller c = omega (arith, c.loop-p-test.true)

pub loop-p-preserved : goal.loop-p-preserved
loop-p-preserved c =
    let s = c in
    let i = c.loop-p.invariant in
    (omega arith, omega (arith, c.loop-p-test.true), lead-next (peaks (board_of c.args.tables) (let a = c.args in edges_of a.edges) s.args.transforms.now) c.loop-p.p c.loop-p.lead _ c.peak_of-peak.result i.0 i.2 c.peak_of-peak.ensures c.merge-lead.ensures)

pub returns : goal.returns
returns c =
    let e : c.loop-p.p ≡ length c.args.transforms.now = omega (arith, c.loop-p.invariant.1, c.loop-p-test.false) in
    c.loop-p.invariant.2 ∙ ap (λ (n : ℕ). lead_after (peaks (board_of c.args.tables) (let a = c.args in edges_of a.edges) c.args.transforms.now) (n - 1)) e
