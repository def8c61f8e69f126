-- An answer that is not refused by 25 fits itself, and one that fits itself is not refused.
use Rattle.std.specs.Prelude.{◌≡◌, refl, true, false, ◌||◌, ◌≤◌, ◌<◌, eqb, ltb}
use Rattle.std.proofs.Math.Path.{sym}
use Rattle.std.proofs.Common.{⊎_elim, arith}
use borrow.Author.Tests.{lt-ltb, le-ltb, ne_eqb, ltb-false, eqb-false}
use Rattle.laws.specs.Tests.{compared, or-false}
use Rattle.answer.specs.declared.Decoded.{Decoded}
use Rattle.answer_checks.specs.FoundBad.{found_bad, FoundFits}

pub found-fits : (d : Decoded) → found_bad d ≡ false → FoundFits d
unfolding found_bad
found-fits d e =
    let a = or-false (eqb d.edges 0) (ltb 8192 d.edges || (ltb d.edges d.hits || ltb d.hits d.runner_up_hits)) e in
    let b = or-false (ltb 8192 d.edges) (ltb d.edges d.hits || ltb d.hits d.runner_up_hits) a.1 in
    let c = or-false (ltb d.edges d.hits) (ltb d.hits d.runner_up_hits) b.1 in
    let z = eqb-false d.edges 0 a.0 in
    record {
      some = ⊎_elim (λ l. l) (λ l. absurd (z (omega arith))) (compared 0 d.edges);
      few = ltb-false 8192 d.edges b.0;
      hits = ltb-false d.edges d.hits c.0;
      runner-up = ltb-false d.hits d.runner_up_hits c.1;
    }

pub fits-found : (d : Decoded) → FoundFits d → found_bad d ≡ false
unfolding found_bad
fits-found d f = rw (ne_eqb d.edges 0 (λ z. absurd (omega (arith, f.some, z))), le-ltb 8192 d.edges f.few, le-ltb d.edges d.hits f.hits, le-ltb d.hits d.runner_up_hits f.runner-up) refl

-- ---- the tests one by one, in their order
module _ (d : Decoded) where
  pub no_edges_lem : d.edges ≡ 0 → true ≡ found_bad d
  unfolding found_bad
  no_edges_lem z = sym (rw z)

  module _ (some : d.edges ≡ 0 → ⊥) where
    pub many-edges : 8192 < d.edges → true ≡ found_bad d
    unfolding found_bad
    many-edges l = sym (rw (ne_eqb d.edges 0 some, lt-ltb 8192 d.edges l))

    module _ (few : d.edges ≤ 8192) where
      pub many-hits : d.edges < d.hits → true ≡ found_bad d
      unfolding found_bad
      many-hits l = sym (rw (ne_eqb d.edges 0 some, le-ltb 8192 d.edges few, lt-ltb d.edges d.hits l))

      pub by-runner-up : d.hits ≤ d.edges → ltb d.hits d.runner_up_hits ≡ found_bad d
      unfolding found_bad
      by-runner-up l = sym (rw (ne_eqb d.edges 0 some, le-ltb 8192 d.edges few, le-ltb d.edges d.hits l))
