use mathlib.Core.Path.{◌≡◌, ap₂}
use mathlib.Core.Bool.{Bool, true, false}
use mathlib.Core.List.{[]}
use Prim.Native.Nat.{◌*◌, ◌≤◌, ◌<◌}
use native.Mathlib.Omega.{arith}
use lib.ListN.{length}
use Rattle.board.specs.Hits.{size}
use Rattle.board.specs.Sides.{period_of}
use Rattle.grid.specs.BoardGrid.{period-h, period-v}
use Rattle.tops.specs.declared.Top.{Top}
use Rattle.lead.specs.Lead.{top_of, cell_of, peak_from, peak_of}
use Rattle.lead.specs.PeakLaws.{cell_in, top_in}
use Rattle.lead.proofs.peak_of.Goals as goal
use Rattle.board.specs.Given.{board_of, edges_of}

pub overflow_mul-cell : goal.overflow_mul-cell
overflow_mul-cell c =
    let is-in : (s : Bool) (x : Top) → x ≡ top_of (board_of c.args.tables) (let a = c.args in edges_of a.edges) c.args.t s → (x.at < period_of (board_of c.args.tables) s * 3) × (x.best ≤ size (let a = c.args in edges_of a.edges)) × (x.next ≤ size (let a = c.args in edges_of a.edges)) = λ s x e. rw e (top_in (board_of c.args.tables) (let a = c.args in edges_of a.edges) c.args.t c.requires.board s) in
    let b-in : (c.side_top-b.result.at < length c.args.tables.v.now * 3) × (c.side_top-b.result.best ≤ size (let a = c.args in edges_of a.edges)) × (c.side_top-b.result.next ≤ size (let a = c.args in edges_of a.edges)) = is-in false _ c.side_top-b.ensures in
    let cell : cell_of (length c.args.tables.v.now) c.side_top-b.result.at < 3 * length c.args.tables.v.now = cell_in (length c.args.tables.v.now) (omega (arith, c.requires.board.v.some)) c.side_top-b.result.at (omega (arith, b-in.0)) in
    omega (arith, cell, c.requires.board.v.few)

pub overflow_add-cell : goal.overflow_add-cell
overflow_add-cell c =
    let is-in : (s : Bool) (x : Top) → x ≡ top_of (board_of c.args.tables) (let a = c.args in edges_of a.edges) c.args.t s → (x.at < period_of (board_of c.args.tables) s * 3) × (x.best ≤ size (let a = c.args in edges_of a.edges)) × (x.next ≤ size (let a = c.args in edges_of a.edges)) = λ s x e. rw e (top_in (board_of c.args.tables) (let a = c.args in edges_of a.edges) c.args.t c.requires.board s) in
    let b-in : (c.side_top-b.result.at < length c.args.tables.v.now * 3) × (c.side_top-b.result.best ≤ size (let a = c.args in edges_of a.edges)) × (c.side_top-b.result.next ≤ size (let a = c.args in edges_of a.edges)) = is-in false _ c.side_top-b.ensures in
    let cell : cell_of (length c.args.tables.v.now) c.side_top-b.result.at < 3 * length c.args.tables.v.now = cell_in (length c.args.tables.v.now) (omega (arith, c.requires.board.v.some)) c.side_top-b.result.at (omega (arith, b-in.0)) in
    omega (arith, cell, c.requires.board.v.few)

pub key_of-key-requires : goal.key_of-key-requires
key_of-key-requires c =
    let is-in : (s : Bool) (x : Top) → x ≡ top_of (board_of c.args.tables) (let a = c.args in edges_of a.edges) c.args.t s → (x.at < period_of (board_of c.args.tables) s * 3) × (x.best ≤ size (let a = c.args in edges_of a.edges)) × (x.next ≤ size (let a = c.args in edges_of a.edges)) = λ s x e. rw e (top_in (board_of c.args.tables) (let a = c.args in edges_of a.edges) c.args.t c.requires.board s) in
    let a_in : (c.side_top-a.result.at < length c.args.tables.h.now * 3) × (c.side_top-a.result.best ≤ size (let a = c.args in edges_of a.edges)) × (c.side_top-a.result.next ≤ size (let a = c.args in edges_of a.edges)) = is-in true _ c.side_top-a.ensures in
    let b-in : (c.side_top-b.result.at < length c.args.tables.v.now * 3) × (c.side_top-b.result.best ≤ size (let a = c.args in edges_of a.edges)) × (c.side_top-b.result.next ≤ size (let a = c.args in edges_of a.edges)) = is-in false _ c.side_top-b.ensures in
    let cell : cell_of (length c.args.tables.v.now) c.side_top-b.result.at < 3 * length c.args.tables.v.now = cell_in (length c.args.tables.v.now) (omega (arith, c.requires.board.v.some)) c.side_top-b.result.at (omega (arith, b-in.0)) in
    (period-h (board_of c.args.tables) c.requires.board, period-v (board_of c.args.tables) c.requires.board, omega (arith, (a_in).0), cell)

pub overflow_add-a : goal.overflow_add-a
overflow_add-a c =
    let few : size (let a = c.args in edges_of a.edges) ≤ 8192 = c.requires.list.few in
    let is-in : (s : Bool) (x : Top) → x ≡ top_of (board_of c.args.tables) (let a = c.args in edges_of a.edges) c.args.t s → (x.at < period_of (board_of c.args.tables) s * 3) × (x.best ≤ size (let a = c.args in edges_of a.edges)) × (x.next ≤ size (let a = c.args in edges_of a.edges)) = λ s x e. rw e (top_in (board_of c.args.tables) (let a = c.args in edges_of a.edges) c.args.t c.requires.board s) in
    let a_in : (c.side_top-a.result.at < length c.args.tables.h.now * 3) × (c.side_top-a.result.best ≤ size (let a = c.args in edges_of a.edges)) × (c.side_top-a.result.next ≤ size (let a = c.args in edges_of a.edges)) = is-in true _ c.side_top-a.ensures in
    let b-in : (c.side_top-b.result.at < length c.args.tables.v.now * 3) × (c.side_top-b.result.best ≤ size (let a = c.args in edges_of a.edges)) × (c.side_top-b.result.next ≤ size (let a = c.args in edges_of a.edges)) = is-in false _ c.side_top-b.ensures in
    omega (arith, (a_in).1, (a_in).2, (b-in).1, (b-in).2, few)

pub overflow_add-a-2 : goal.overflow_add-a-2
overflow_add-a-2 c =
    let few : size (let a = c.args in edges_of a.edges) ≤ 8192 = c.requires.list.few in
    let is-in : (s : Bool) (x : Top) → x ≡ top_of (board_of c.args.tables) (let a = c.args in edges_of a.edges) c.args.t s → (x.at < period_of (board_of c.args.tables) s * 3) × (x.best ≤ size (let a = c.args in edges_of a.edges)) × (x.next ≤ size (let a = c.args in edges_of a.edges)) = λ s x e. rw e (top_in (board_of c.args.tables) (let a = c.args in edges_of a.edges) c.args.t c.requires.board s) in
    let a_in : (c.side_top-a.result.at < length c.args.tables.h.now * 3) × (c.side_top-a.result.best ≤ size (let a = c.args in edges_of a.edges)) × (c.side_top-a.result.next ≤ size (let a = c.args in edges_of a.edges)) = is-in true _ c.side_top-a.ensures in
    let b-in : (c.side_top-b.result.at < length c.args.tables.v.now * 3) × (c.side_top-b.result.best ≤ size (let a = c.args in edges_of a.edges)) × (c.side_top-b.result.next ≤ size (let a = c.args in edges_of a.edges)) = is-in false _ c.side_top-b.ensures in
    omega (arith, (a_in).1, (a_in).2, (b-in).1, (b-in).2, few)

pub overflow_add-result : goal.overflow_add-result
overflow_add-result c =
    let few : size (let a = c.args in edges_of a.edges) ≤ 8192 = c.requires.list.few in
    let is-in : (s : Bool) (x : Top) → x ≡ top_of (board_of c.args.tables) (let a = c.args in edges_of a.edges) c.args.t s → (x.at < period_of (board_of c.args.tables) s * 3) × (x.best ≤ size (let a = c.args in edges_of a.edges)) × (x.next ≤ size (let a = c.args in edges_of a.edges)) = λ s x e. rw e (top_in (board_of c.args.tables) (let a = c.args in edges_of a.edges) c.args.t c.requires.board s) in
    let a_in : (c.side_top-a.result.at < length c.args.tables.h.now * 3) × (c.side_top-a.result.best ≤ size (let a = c.args in edges_of a.edges)) × (c.side_top-a.result.next ≤ size (let a = c.args in edges_of a.edges)) = is-in true _ c.side_top-a.ensures in
    let b-in : (c.side_top-b.result.at < length c.args.tables.v.now * 3) × (c.side_top-b.result.best ≤ size (let a = c.args in edges_of a.edges)) × (c.side_top-b.result.next ≤ size (let a = c.args in edges_of a.edges)) = is-in false _ c.side_top-b.ensures in
    omega (arith, (a_in).1, (b-in).1, few)

pub returns : goal.returns
unfolding peak_of
returns c =
    rw (c.larger-next.ensures, c.key_of-key.ensures)
    (ap₂ (peak_from (length c.args.tables.h.now) (length c.args.tables.v.now)) c.side_top-a.ensures c.side_top-b.ensures)
