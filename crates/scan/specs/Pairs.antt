-- What two equal answers that hold pairs have in common.
use Rattle.std.specs.Prelude.{◌≡◌, Some, Ok, Option, Result}
use Rattle.std.proofs.Common.{ap}

module _ {A B : Type 0} where
  -- the first of what is given, and the second
  pub some-first : {x y : A × B} → ◌≡◌ {A = Option (A × B)} (Some x) (Some y) → x.0 ≡ y.0
  some-first {x} {y} e = let z : x ≡ y = cc in ap (λ (p : A × B). p.0) z

  pub some-second : {x y : A × B} → ◌≡◌ {A = Option (A × B)} (Some x) (Some y) → x.1 ≡ y.1
  some-second {x} {y} e = let z : x ≡ y = cc in ap (λ (p : A × B). p.1) z

  module _ {E : Type 0} where
    -- the first of what is answered, and the second
    pub ok-first : {x y : A × B} → ◌≡◌ {A = Result (A × B) E} (Ok x) (Ok y) → x.0 ≡ y.0
    ok-first {x} {y} e = let z : x ≡ y = cc in ap (λ (p : A × B). p.0) z

    pub ok-second : {x y : A × B} → ◌≡◌ {A = Result (A × B) E} (Ok x) (Ok y) → x.1 ≡ y.1
    ok-second {x} {y} e = let z : x ≡ y = cc in ap (λ (p : A × B). p.1) z
