use mathlib.Core.Path.{◌≡◌, ap, ap₂, ◌∙◌}
use mathlib.Core.Bool.{true}
use mathlib.Core.List.{[]}
use Prim.Native.Nat.{◌+◌, ◌%◌, ◌<◌}
use native.Mathlib.Nat.{mod-lt}
use native.Mathlib.Omega.{arith}
use lib.Dec.{lit<}
use lib.ListN.{length}
use Rattle.classes.specs.declared.Three.{Three}
use Rattle.classes.specs.Classes.{three_of}
use Rattle.tops.specs.Tops.{short_tops}
use Rattle.firsts.specs.Firsts.{pick_of, most_of}
use Rattle.firsts.specs.FirstsLaws.{row-few, row-none}
use Rattle.firsts.proofs.row_first.Goals as goal
use Rattle.board.specs.Given.{board_of, edges_of}

pub overflow_cast-long : goal.overflow_cast-long
overflow_cast-long c =
    let class : c.args.row % length c.args.tables.h.now < length c.args.tables.h.now = mod-lt c.args.row (omega (arith, c.requires.count_ready.board.h.some)) in
    omega (arith, class, c.requires.count_ready.board.h.few)

pub long_hits-across-requires : goal.long_hits-across-requires
long_hits-across-requires c =
    let class : c.args.row % length c.args.tables.h.now < length c.args.tables.h.now = mod-lt c.args.row (omega (arith, c.requires.count_ready.board.h.some)) in
    (c.requires.count_ready, class)

pub overflow_add-most_of : goal.overflow_add-most_of
overflow_add-most_of c =
    let best : c.most_of.result + c.pick.result ≡ most_of (three_of (board_of c.args.tables) (let a = c.args in edges_of a.edges) c.args.t true (c.args.row % length c.args.tables.h.now)) + pick_of (short_tops (board_of c.args.tables) (let a = c.args in edges_of a.edges) c.args.t (length c.args.tables.v.now)) (c.args.row % 3) = ap₂ ◌+◌ (c.most_of.ensures ∙ ap most_of c.long_hits-across.ensures) (c.pick.ensures ∙ ap (λ (x : Three). pick_of x (c.args.row % 3)) c.requires.tops_value) in
    omega (arith, best, row-few (board_of c.args.tables) (let a = c.args in edges_of a.edges) c.args.t (c.args.row % length c.args.tables.h.now) (length c.args.tables.v.now) (c.args.row % 3) (mod-lt c.args.row (lit< tt)), c.requires.count_ready.list.few)

pub returns-then-most_of-pick : goal.returns-then-most_of-pick
returns-then-most_of-pick c =
    let best : c.most_of.result + c.pick.result ≡ most_of (three_of (board_of c.args.tables) (let a = c.args in edges_of a.edges) c.args.t true (c.args.row % length c.args.tables.h.now)) + pick_of (short_tops (board_of c.args.tables) (let a = c.args in edges_of a.edges) c.args.t (length c.args.tables.v.now)) (c.args.row % 3) = ap₂ ◌+◌ (c.most_of.ensures ∙ ap most_of c.long_hits-across.ensures) (c.pick.ensures ∙ ap (λ (x : Three). pick_of x (c.args.row % 3)) c.requires.tops_value) in
    row-none (board_of c.args.tables) (let a = c.args in edges_of a.edges) c.args.t c.requires.count_ready.board c.args.wanted c.args.row (omega (arith, best, c.if-most_of-pick.true))
