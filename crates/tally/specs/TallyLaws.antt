-- Records that add up still do with one edge more, and with one less where they have it to give up.
use Rattle.std.specs.Prelude.{◌≡◌, Bool, true, false, ℕ, zero, suc, ◌<◌}
use Rattle.std.proofs.Common.{arith}
use Rattle.tally.specs.declared.Tally.{Tally}
use Rattle.answer.specs.declared.Square.{Square}
use Rattle.tally.specs.Tally.{Adds, tally, with_edge, without_edge, count_of}

-- records with equal fields
pub tally-eq : (q : Square) {n n' a a' b b' c c' d d' : ℕ} → n ≡ n' → a ≡ a' → b ≡ b' → c ≡ c' → d ≡ d' → tally q n a b c d ≡ tally q n' a' b' c' d'
tally-eq q e f g h k = rw (e, f, g, h, k)

-- one edge less
pub without-adds : (T : Tally) (o : ℕ) (hit : Bool) → o < 2 → Adds T → 0 < count_of T o hit → Adds (without_edge T o hit)
unfolding without_edge count_of
without-adds T zero true l a k = omega arith
without-adds T zero false l a k = omega arith
without-adds T (suc zero) true l a k = omega arith
without-adds T (suc zero) false l a k = omega arith
without-adds T (suc (suc o)) hit l a k = absurd (omega arith)

-- it has an edge to give up
pub some_edges : (T : Tally) (o : ℕ) (hit : Bool) → o < 2 → Adds T → 0 < count_of T o hit → 0 < T.edges
unfolding count_of
some_edges T zero true l a k = omega arith
some_edges T zero false l a k = omega arith
some_edges T (suc zero) true l a k = omega arith
some_edges T (suc zero) false l a k = omega arith
some_edges T (suc (suc o)) hit l a k = absurd (omega arith)

-- one edge more
pub with-adds : (T : Tally) (o : ℕ) (hit : Bool) → o < 2 → Adds T → Adds (with_edge T o hit)
unfolding with_edge
with-adds T zero true l a = omega arith
with-adds T zero false l a = omega arith
with-adds T (suc zero) true l a = omega arith
with-adds T (suc zero) false l a = omega arith
with-adds T (suc (suc o)) hit l a = absurd (omega arith)
