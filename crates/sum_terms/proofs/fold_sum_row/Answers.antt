use Prim.Native.Nat.{ℕ, ◌^◌, ◌<◌}
use native.Mathlib.Omega.{arith}
use lib.IntN.{nat_abs}
use mir.Syntax.{w64}
use Rattle.laws.specs.Signed.{read_at}
use Rattle.sum_terms.specs.SumTerms.{places_z, term_z}
use Rattle.sum_terms.specs.SumTermsLaws.{term-small}
use borrow.Author.Rules.{rules}
use Rattle.sum_terms.proofs.fold_sum_row.Goals as goal

pub fold_sum-a-requires : goal.fold_sum-a-requires
fold_sum-a-requires c = search rules

-- a term is small, so it is kept as it is
small : (c : goal.Start) (s : ℕ) → nat_abs (term_z 6 (places_z c.args.from c.args.sums.now) (places_z c.args.also c.args.sums.now) c.args.pattern s) < 2 ^ 63
small c s = omega (arith, term-small (places_z c.args.from c.args.sums.now) (places_z c.args.also c.args.sums.now) 6 c.args.pattern s c.requires.small (omega arith))

pub returns : goal.returns
returns c =
    let st = c.before.before.before in
    let a = read_at w64 c.fold_sum-a.ensures (small st 0) in
    let b = read_at w64 c.fold_sum-b.ensures (small st 1) in
    let d = read_at w64 c.fold_sum-c.ensures (small st 2) in
    rw (a, b, d)
