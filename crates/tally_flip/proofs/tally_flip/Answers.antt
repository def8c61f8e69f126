use Rattle.std.proofs.lemmas.Result.{err_from_is_err_and}
use Rattle.board.specs.Given.{board_of}
use mathlib.Core.Path.{◌≡◌, refl, sym, ap, ◌∙◌}
use mathlib.Core.Bool.{not}
use Prim.Native.Nat.{◌<◌}
use native.Mathlib.Omega.{arith}
use Rattle.board.specs.Hits.{edges}
use Rattle.tally.specs.declared.Tally.{Tally}
use Rattle.tally.specs.Tally.{with_edge}
use Rattle.tally.specs.Counted.{listed_as, hit_at}
use Rattle.tally_checks.proofs.JudgedLaws.{NamedOk, named-taken-ok}
use Rattle.tally_checks.specs.Edited.{edit-refused, edit-taken}
use Rattle.tally_flip.specs.Flipped.{turned, flipped_in, still-adds}
use borrow.Author.Rules.{rules}
use Rattle.tally_flip.proofs.tally_flip.Goals as goal

-- the list that was given

pub bounds-orientations-i : goal.bounds-orientations-i
bounds-orientations-i c =
    let known : NamedOk (let a = c.args in edges a.rows.now a.cols.now a.orientations.now a.bits.now a.confidences.now) c.args.tally c.args.position (board_of c.args.tables) × (_ ≡ hit_at (board_of c.args.tables) (let a = c.args in edges a.rows.now a.cols.now a.orientations.now a.bits.now a.confidences.now) c.args.tally.square c.args.position) = named-taken-ok _ _ _ _ _ (sym c.in_ok-hit.was ∙ c.judge_named.ensures) in
    let k = (known).0 in omega (arith, k.exists, k.kept.few, k.kept.orientations)

pub bounds-bits-i : goal.bounds-bits-i
bounds-bits-i c =
    let known : NamedOk (let a = c.args in edges a.rows.now a.cols.now a.orientations.now a.bits.now a.confidences.now) c.args.tally c.args.position (board_of c.args.tables) × (_ ≡ hit_at (board_of c.args.tables) (let a = c.args in edges a.rows.now a.cols.now a.orientations.now a.bits.now a.confidences.now) c.args.tally.square c.args.position) = named-taken-ok _ _ _ _ _ (sym c.in_ok-hit.was ∙ c.judge_named.ensures) in
    let k = (known).0 in omega (arith, k.exists, k.kept.few, k.kept.bits)

pub overflow_sub-bits : goal.overflow_sub-bits
overflow_sub-bits c =
    let known : NamedOk (let a = c.args in edges a.rows.now a.cols.now a.orientations.now a.bits.now a.confidences.now) c.args.tally c.args.position (board_of c.args.tables) × (_ ≡ hit_at (board_of c.args.tables) (let a = c.args in edges a.rows.now a.cols.now a.orientations.now a.bits.now a.confidences.now) c.args.tally.square c.args.position) = named-taken-ok _ _ _ _ _ (sym c.in_ok-hit.was ∙ c.judge_named.ensures) in
    let k = (known).0 in omega (arith, k.bit)

pub bounds-bits-i-2 : goal.bounds-bits-i-2
bounds-bits-i-2 c =
    let known : NamedOk (let a = c.args in edges a.rows.now a.cols.now a.orientations.now a.bits.now a.confidences.now) c.args.tally c.args.position (board_of c.args.tables) × (_ ≡ hit_at (board_of c.args.tables) (let a = c.args in edges a.rows.now a.cols.now a.orientations.now a.bits.now a.confidences.now) c.args.tally.square c.args.position) = named-taken-ok _ _ _ _ _ (sym c.in_ok-hit.was ∙ c.judge_named.ensures) in
    let k = (known).0 in omega (arith, k.exists, k.kept.few, k.kept.bits)

pub with_edge-requires : goal.with_edge-requires
with_edge-requires c =
    let fits : c.args.tally.edges < 4294967296 = search rules in
    let known : NamedOk (let a = c.args in edges a.rows.now a.cols.now a.orientations.now a.bits.now a.confidences.now) c.args.tally c.args.position (board_of c.args.tables) × (_ ≡ hit_at (board_of c.args.tables) (let a = c.args in edges a.rows.now a.cols.now a.orientations.now a.bits.now a.confidences.now) c.args.tally.square c.args.position) = named-taken-ok _ _ _ _ _ (sym c.in_ok-hit.was ∙ c.judge_named.ensures) in
    let k = known in still-adds (let a = c.args in edges a.rows.now a.cols.now a.orientations.now a.bits.now a.confidences.now) c.args.tally c.args.position (board_of c.args.tables) k.0 _ k.1 _ c.without_edge-without.ensures (fits)

pub returns-in_err-hit : goal.returns-in_err-hit
returns-in_err-hit c =
    let p = err_from_is_err_and c.from_residual.result c.from_residual.ensures.1 in
    rw (p.1, p.2)
    (edit-refused _ _ _ _ c.judge_named.result c.judge_named.ensures _ c.in_err-hit.was)

pub returns : goal.returns
unfolding turned flipped_in
returns c = edit-taken _ _ _ _ c.judge_named.result c.judge_named.ensures _ _ _ c.in_ok-hit.was (c.with_edge.ensures ∙ ap (λ (T : Tally). with_edge T (listed_as (let a = c.args in edges a.rows.now a.cols.now a.orientations.now a.bits.now a.confidences.now) c.args.position) (not c.in_ok-hit.hit)) c.without_edge-without.ensures) refl
