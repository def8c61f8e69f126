use mathlib.Core.Path.{◌≡◌, ap, sym, ◌∙◌}
use mathlib.Core.Bool.{Bool, true, false}
use Prim.Native.Nat.{◌≤◌}
use native.Mathlib.Omega.{arith}
use lib.ListN.{length}
use lib.Ieee.{Float, eq, of_bits, binary32}
use Rattle.laws.specs.Words.{zero_f}
use Rattle.board.specs.Hits.{size}
use Rattle.board.specs.DomainLaws.{edges-ok}
use Rattle.figures.specs.Figures.{no_confidence}
use Rattle.hard.proofs.SelectTheorems.{hits_at_key}
use Rattle.lead.specs.LeadLaws.{Leading}
use Rattle.locate.specs.Located.{origins_of}
use Rattle.locate.specs.LocatedLaws.{leads, keys-small, runner-in, best-few, answers-10, answers-11, answers-13, answers-found}
use borrow.Author.Rules.{rules}
use Rattle.locate.proofs.locate_accepted.Goals as goal
use Rattle.board.specs.Given.{board_of, list_of}

pub returns-then-total_confidence : goal.returns-then-total_confidence
unfolding of_bits no_confidence
returns-then-total_confidence c =
    let told : (t : Bool) → eq c.total_confidence.result (of_bits binary32 0) ≡ t → no_confidence (let a = c.args in list_of a.list) ≡ t = λ t e. ap (λ (x : Float). eq x zero_f) (sym c.total_confidence.ensures) ∙ e in
    answers-10 (board_of c.args.tables) (let a = c.args in list_of a.list) (c.args.transforms.now) c.args.error_limit _ (told true c.if-total_confidence.true) c.refuse.ensures

pub overflow_cast-edges : goal.overflow_cast-edges
overflow_cast-edges c = search rules

pub over_limit-requires : goal.over_limit-requires
unfolding of_bits no_confidence
over_limit-requires c =
    let told : (t : Bool) → eq c.total_confidence.result (of_bits binary32 0) ≡ t → no_confidence (let a = c.args in list_of a.list) ≡ t = λ t e. ap (λ (x : Float). eq x zero_f) (sym c.total_confidence.ensures) ∙ e in
    let A : Leading (length (c.args.transforms.now)) (origins_of (board_of c.args.tables)) (hits_at_key (board_of c.args.tables) (let a = c.args in list_of a.list) (c.args.transforms.now)) c.lead_of-lead.result = leads (board_of c.args.tables) (let a = c.args in list_of a.list) (c.args.transforms.now) c.requires.board c.requires.transforms.some c.lead_of-lead.result c.lead_of-lead.ensures in
    let few : size (let a = c.args in list_of a.list) ≤ 8192 = c.requires.list.few in
    let some : no_confidence (let a = c.args in list_of a.list) ≡ false = told false c.if-total_confidence.false in
    (omega (arith, best-few (board_of c.args.tables) (let a = c.args in list_of a.list) (c.args.transforms.now) (c.lead_of-lead.result) (A) c.args.error_limit (few) (some), (A).under), few)

pub returns-then-over_limit : goal.returns-then-over_limit
unfolding of_bits no_confidence
returns-then-over_limit c =
    let told : (t : Bool) → eq c.total_confidence.result (of_bits binary32 0) ≡ t → no_confidence (let a = c.args in list_of a.list) ≡ t = λ t e. ap (λ (x : Float). eq x zero_f) (sym c.total_confidence.ensures) ∙ e in
    let A : Leading (length (c.args.transforms.now)) (origins_of (board_of c.args.tables)) (hits_at_key (board_of c.args.tables) (let a = c.args in list_of a.list) (c.args.transforms.now)) c.lead_of-lead.result = leads (board_of c.args.tables) (let a = c.args in list_of a.list) (c.args.transforms.now) c.requires.board c.requires.transforms.some c.lead_of-lead.result c.lead_of-lead.ensures in
    let few : size (let a = c.args in list_of a.list) ≤ 8192 = c.requires.list.few in
    let some : no_confidence (let a = c.args in list_of a.list) ≡ false = told false c.if-total_confidence.false in
    answers-11 (board_of c.args.tables) (let a = c.args in list_of a.list) (c.args.transforms.now) (c.lead_of-lead.result) (A) c.args.error_limit (few) (some) _ (sym c.over_limit.ensures ∙ c.if-over_limit.true) c.refuse-then-over_limit.ensures

pub bounds-transforms-from : goal.bounds-transforms-from
bounds-transforms-from c =
    let A : Leading (length (c.args.transforms.now)) (origins_of (board_of c.args.tables)) (hits_at_key (board_of c.args.tables) (let a = c.args in list_of a.list) (c.args.transforms.now)) c.lead_of-lead.result = leads (board_of c.args.tables) (let a = c.args in list_of a.list) (c.args.transforms.now) c.requires.board c.requires.transforms.some c.lead_of-lead.result c.lead_of-lead.ensures in
    (A).from_in

pub first_key-key-requires : goal.first_key-key-requires
first_key-key-requires c =
    let A : Leading (length (c.args.transforms.now)) (origins_of (board_of c.args.tables)) (hits_at_key (board_of c.args.tables) (let a = c.args in list_of a.list) (c.args.transforms.now)) c.lead_of-lead.result = leads (board_of c.args.tables) (let a = c.args in list_of a.list) (c.args.transforms.now) c.requires.board c.requires.transforms.some c.lead_of-lead.result c.lead_of-lead.ensures in
    let p = c.requires in
    record { list = edges-ok (let a = c.args in list_of a.list) p.list; board = p.board; transform = p.transforms.small (c.lead_of-lead.result).from (A).from_in }

pub bounds-transforms-listed : goal.bounds-transforms-listed
bounds-transforms-listed c =
    let A : Leading (length (c.args.transforms.now)) (origins_of (board_of c.args.tables)) (hits_at_key (board_of c.args.tables) (let a = c.args in list_of a.list) (c.args.transforms.now)) c.lead_of-lead.result = leads (board_of c.args.tables) (let a = c.args in list_of a.list) (c.args.transforms.now) c.requires.board c.requires.transforms.some c.lead_of-lead.result c.lead_of-lead.ensures in
    omega (arith, (A).listed_in, (A).from_in)

pub square_at-square-requires : goal.square_at-square-requires
square_at-square-requires c =
    let A : Leading (length (c.args.transforms.now)) (origins_of (board_of c.args.tables)) (hits_at_key (board_of c.args.tables) (let a = c.args in list_of a.list) (c.args.transforms.now)) c.lead_of-lead.result = leads (board_of c.args.tables) (let a = c.args in list_of a.list) (c.args.transforms.now) c.requires.board c.requires.transforms.some c.lead_of-lead.result c.lead_of-lead.ensures in
    let p = c.requires in
    (omega (arith, p.board.v.some), omega (arith, (A).key_in, keys-small (board_of c.args.tables) p.board))

pub square_at-runner_up-requires : goal.square_at-runner_up-requires
square_at-runner_up-requires c =
    let A : Leading (length (c.args.transforms.now)) (origins_of (board_of c.args.tables)) (hits_at_key (board_of c.args.tables) (let a = c.args in list_of a.list) (c.args.transforms.now)) c.lead_of-lead.result = leads (board_of c.args.tables) (let a = c.args in list_of a.list) (c.args.transforms.now) c.requires.board c.requires.transforms.some c.lead_of-lead.result c.lead_of-lead.ensures in
    let p = c.requires in
    (omega (arith, p.board.v.some), omega (arith, (A).key_in, runner-in (board_of c.args.tables) (let a = c.args in list_of a.list) (c.args.transforms.now) (c.lead_of-lead.result) (A) c.first_key-key.result c.first_key-key.ensures, keys-small (board_of c.args.tables) p.board))

pub returns-then-passes : goal.returns-then-passes
unfolding of_bits no_confidence
returns-then-passes c =
    let told : (t : Bool) → eq c.total_confidence.result (of_bits binary32 0) ≡ t → no_confidence (let a = c.args in list_of a.list) ≡ t = λ t e. ap (λ (x : Float). eq x zero_f) (sym c.total_confidence.ensures) ∙ e in
    let A : Leading (length (c.args.transforms.now)) (origins_of (board_of c.args.tables)) (hits_at_key (board_of c.args.tables) (let a = c.args in list_of a.list) (c.args.transforms.now)) c.lead_of-lead.result = leads (board_of c.args.tables) (let a = c.args in list_of a.list) (c.args.transforms.now) c.requires.board c.requires.transforms.some c.lead_of-lead.result c.lead_of-lead.ensures in
    let few : size (let a = c.args in list_of a.list) ≤ 8192 = c.requires.list.few in
    let some : no_confidence (let a = c.args in list_of a.list) ≡ false = told false c.if-total_confidence.false in
    answers-found (board_of c.args.tables) (let a = c.args in list_of a.list) (c.args.transforms.now) (c.lead_of-lead.result) (A) c.args.error_limit (few) (some) (sym c.over_limit.ensures ∙ c.if-over_limit.false)
    c.first_key-key.result _ _ (sym c.passes.ensures ∙ c.if-passes.true) c.first_key-key.ensures c.square_at-square.ensures c.square_at-runner_up.ensures

pub returns : goal.returns
unfolding of_bits no_confidence
returns c =
    let told : (t : Bool) → eq c.total_confidence.result (of_bits binary32 0) ≡ t → no_confidence (let a = c.args in list_of a.list) ≡ t = λ t e. ap (λ (x : Float). eq x zero_f) (sym c.total_confidence.ensures) ∙ e in
    let A : Leading (length (c.args.transforms.now)) (origins_of (board_of c.args.tables)) (hits_at_key (board_of c.args.tables) (let a = c.args in list_of a.list) (c.args.transforms.now)) c.lead_of-lead.result = leads (board_of c.args.tables) (let a = c.args in list_of a.list) (c.args.transforms.now) c.requires.board c.requires.transforms.some c.lead_of-lead.result c.lead_of-lead.ensures in
    let few : size (let a = c.args in list_of a.list) ≤ 8192 = c.requires.list.few in
    let some : no_confidence (let a = c.args in list_of a.list) ≡ false = told false c.if-total_confidence.false in
    answers-13 (board_of c.args.tables) (let a = c.args in list_of a.list) (c.args.transforms.now) (c.lead_of-lead.result) (A) c.args.error_limit (few) (some) (sym c.over_limit.ensures ∙ c.if-over_limit.false) _
    (sym c.passes.ensures ∙ c.if-passes.false) c.refuse-2.ensures
