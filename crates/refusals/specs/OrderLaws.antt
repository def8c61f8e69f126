-- The four ways in which a number's place in the order is found, and the four in which the first of two refusals is.
use Rattle.std.specs.Prelude.{◌≡◌, ℕ, ◌+◌, ◌≤◌, ◌<◌, Err}
use Rattle.std.proofs.Math.Path.{sym, ap₂}
use Rattle.std.proofs.Common.{ap, ◌∙◌}
use Rattle.std.proofs.Math.Bool.{true, false}
use Rattle.std.proofs.Math.Dec.{ltb}
use borrow.Author.Tests.{lt-ltb, le-ltb, eq-eqb, ne_eqb}
use Rattle.refusals.specs.declared.Refusal.{Refusal}
use Rattle.refusals.specs.Admission.{Admission, accepted}
use Rattle.refusals.specs.Numbers as why
use Rattle.refusals.specs.Order.{ranked, earlier}

module _ (n : ℕ) where
  pub rank-orientation : n ≡ why.bad_orientation → 5 ≡ ranked n
  unfolding ranked
  rank-orientation e = sym (rw (eq-eqb n why.bad_orientation e))

  module _ (o : n ≡ why.bad_orientation → ⊥) where
    pub rank-bit : n ≡ why.bad_bit → 6 ≡ ranked n
    unfolding ranked
    rank-bit e = sym (rw (ne_eqb n why.bad_orientation o, eq-eqb n why.bad_bit e))

    module _ (b : n ≡ why.bad_bit → ⊥) where
      pub rank-after : why.bad_coordinate < n → n + 2 ≡ ranked n
      unfolding ranked
      rank-after l = sym (rw (ne_eqb n why.bad_orientation o, ne_eqb n why.bad_bit b, lt-ltb why.bad_coordinate n l))

      pub rank-before : n ≤ why.bad_coordinate → n ≡ ranked n
      unfolding ranked
      rank-before l = sym (rw (ne_eqb n why.bad_orientation o, ne_eqb n why.bad_bit b, le-ltb why.bad_coordinate n l))

pub left-accepted : (a b : Admission) → a ≡ accepted → b ≡ earlier a b
unfolding earlier
left-accepted a b e = ap (λ (x : Admission). earlier x b) (sym e)

pub right-accepted : (a b : Admission) (r : Refusal) → a ≡ Err r → b ≡ accepted → Err r ≡ earlier a b
unfolding earlier
right-accepted a b r e f = ap₂ earlier (sym e) (sym f)

module _ (a b : Admission) (r s : Refusal) (e : a ≡ Err r) (f : b ≡ Err s) (m n : ℕ) (p : m ≡ ranked s.number) (q : n ≡ ranked r.number) where
  pub right-first : m < n → Err s ≡ earlier a b
  unfolding earlier
  right-first l =
      let t : ltb (ranked s.number) (ranked r.number) ≡ true = ap₂ ltb (sym p) (sym q) ∙ lt-ltb m n l in
      let g : Err s ≡ earlier (Err r) (Err s) = sym (rw t) in
      g ∙ ap₂ earlier (sym e) (sym f)

  pub left-first : n ≤ m → Err r ≡ earlier a b
  unfolding earlier
  left-first l =
      let t : ltb (ranked s.number) (ranked r.number) ≡ false = ap₂ ltb (sym p) (sym q) ∙ le-ltb m n l in
      let g : Err r ≡ earlier (Err r) (Err s) = sym (rw t) in
      g ∙ ap₂ earlier (sym e) (sym f)
