-- `clear`: the n places are cleared, and the surplus behind them is as it was.
use Rattle.std.proofs.Common.{◌≡◌, refl, ◌∙◌, ap, List, [], ◌∷◌, ℕ, zero, suc, ◌++◌, take, drop, arith}
use lib.Seq.{length-take-le}
use Rattle.std.proofs.lemmas.List.{append-nil}
use Rattle.laws.specs.Words.{cleared, surplus}
use Rattle.laws.specs.Cleared.{clearing-none, clearing-more, clearing-done}
use Rattle.clearing.proofs.clear.Goals as goal

-- nothing of a front lies past it
none-past : {A : Type 0} (n : ℕ) (l : List A) → drop n (take n l) ≡ []
none-past zero l = refl
none-past (suc n) [] = refl
none-past (suc n) (x ∷ l) = none-past n l

-- the front cleared whole, and behind it what lies past it
front-cleared : {A : Type 0} (a : A) (n : ℕ) (l : List A) → cleared a n (take n l) ++ drop n l ≡ cleared a n l
unfolding cleared surplus
front-cleared a n l = rw (none-past n l, append-nil)

pub loop-place-init : goal.loop-place-init
loop-place-init g c = clearing-none _ _ _

pub loop-place-preserved : goal.loop-place-preserved
loop-place-preserved g c =
    let len = length-take-le c.args.n c.args.room.now c.requires in
    rw c.ZERO.ensures (clearing-more _ _ _ _ _ (omega (arith, len)) (omega (arith, len)) c.loop-place.invariant)

pub returns : goal.returns
returns g c =
    let len = length-take-le c.args.n c.args.room.now c.requires in
    let front = clearing-done _ _ _ _ _ (omega (arith, len)) c.loop-place.invariant in
    ap (λ l. l ++ drop c.args.n c.args.room.now) front ∙ front-cleared g.T.Zero.ZERO c.args.n c.args.room.now
