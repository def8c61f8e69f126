-- Every refusal that is found has the right place: part by part, each kind after those before it.
use Rattle.std.specs.Prelude.{◌≡◌, Bool, cond, List, ℕ, ◌<◌, eqb, length, Float, Err, Ok}
use Rattle.std.proofs.Math.Path.{refl}
use Rattle.std.proofs.Common.{sym, subst, arith, ltb-true, ltb-false, eqb-true}
use Rattle.std.proofs.Math.Bool.{true, false}
use Rattle.std.proofs.Math.Dec.{ltb}
use Rattle.std.proofs.lemmas.Bool.{not-false}
use Rattle.laws.specs.Tests.{and-true}
use Rattle.laws.specs.Words.{first}
use Rattle.laws.specs.First.{first_passes, first-before, first-none}
use Rattle.board.specs.Hits.{EdgeList, size}
use Rattle.refusals.specs.declared.Refusal.{Refusal}
use Rattle.refusals.specs.Admission.{Admission, accepted}
use Rattle.refusals.specs.declared.ListName.{ListName}
use Rattle.refusals.specs.declared.ListName.TheVariants as list
use Rattle.refusals.specs.Numbers.{numbered, edge_refusal}
use Rattle.refusals.specs.Numbers as why
use Rattle.checks.specs.Checks.{lengths_differ, size_bad, likelihoods_differ, first_bad_coordinate, first_bad_likelihood}
use Rattle.ranges.specs.Ranges.{first_bad_byte, first_bad_confidence}
use Rattle.findings.specs.Findings.{refused_if, refused_at, or_else, first_of, Findings, first_found, joined, room_findings, list_findings, likelihood_findings, settings_findings}
use Rattle.findings.specs.FindingsLaws.{both-accepted, if-accepted, same_length}
use Rattle.findings.specs.Places.{about_edge, two_lists, one_list, unlikely_in, counted, bad_in, PlaceRight}

-- a fact of the refusal, where there is one
unfoldable pub Of : (Refusal → Type 0) → Admission → Type 0
Of P (Ok _) = Unit
Of P (Err r) = P r

pub of-refusal : (P : Refusal → Type 0) (a : Admission) (r : Refusal) → Of P a → a ≡ Err r → P r
unfolding Of
of-refusal P a r h e = subst (Of P) e h

module _ (P : Refusal → Type 0) where
  of_none : Of P accepted
  unfolding Of
  of_none = tt

  -- of the first of two, where the second is asked only if the first is accepted
  of-after : (a b : Admission) → Of P a → (a ≡ accepted → Of P b) → Of P (or_else a b)
  unfolding Of or_else
  of-after (Ok _) b p q = q refl
  of-after (Err r) b p q = p

  of-else : (a b : Admission) → Of P a → Of P b → Of P (or_else a b)
  of-else a b p q = of-after a b p (λ e. q)

  -- of all that is found in a part, where the lengths are asked before the rest
  pub record Rest (f : Findings) : Type 0 where
    pub size : Of P f.size
    pub coordinate : Of P f.coordinate
    pub orientation : Of P f.orientation
    pub bit : Of P f.bit
    pub confidence : Of P f.confidence
    pub likelihood : Of P f.likelihood
    pub transform : Of P f.transform
    pub table : Of P f.table
    pub setting : Of P f.setting

  pub record Each (f : Findings) : Type 0 where
    pub room : Of P f.room
    pub lengths : Of P f.lengths
    pub rest : f.lengths ≡ accepted → Rest f

  pub each-joined : (f g : Findings) → Each f → Each g → Each (joined f g)
  each-joined f g p q = record {
    room = of-else f.room g.room p.room q.room;
    lengths = of-else f.lengths g.lengths p.lengths q.lengths;
    rest = λ e.
        let b = both-accepted f.lengths g.lengths e in
        let s = p.rest b.0 in
        let t = q.rest b.1 in
        record {
          size = of-else f.size g.size s.size t.size;
          coordinate = of-else f.coordinate g.coordinate s.coordinate t.coordinate;
          orientation = of-else f.orientation g.orientation s.orientation t.orientation;
          bit = of-else f.bit g.bit s.bit t.bit;
          confidence = of-else f.confidence g.confidence s.confidence t.confidence;
          likelihood = of-else f.likelihood g.likelihood s.likelihood t.likelihood;
          transform = of-else f.transform g.transform s.transform t.transform;
          table = of-else f.table g.table s.table t.table;
          setting = of-else f.setting g.setting s.setting t.setting;
        };
  }

  pub of-found : (f : Findings) → Each f → Of P (first_found f)
  unfolding first_found first_of
  of-found f p =
      of-else f.room _ p.room
      (of-after f.lengths _ p.lengths (λ e.
      let t = p.rest e in
      of-else f.size _ t.size
      (of-else f.coordinate _ t.coordinate
      (of-else f.orientation _ t.orientation
      (of-else f.bit _ t.bit
      (of-else f.confidence _ t.confidence
      (of-else f.likelihood _ t.likelihood
      (of-else f.transform _ t.transform
      (of-else f.table _ t.table
      (of-else f.setting _ t.setting of_none))))))))))

-- ---- the places
module _ (count : ListName → ℕ) (bad : ℕ → ListName → ℕ → Bool) where
  abbrev P : Refusal → Type 0
  P = PlaceRight count bad

  -- a refusal that is about no edge
  right-if : (b : Bool) (n : ℕ) → about_edge n ≡ false → Of P (refused_if b n)
  unfolding Of
  right-if true n h = record { fits = h; points = tt }
  right-if false n h = tt

  -- the first bad edge of a list, which is not the physical one, or comes after a logical one without a bad edge
  module _ (n k : ℕ) (l : ListName) where
    right-at : about_edge n ≡ true → (l ≡ list.Physical → (j : ℕ) → j < count list.Logical → bad n list.Logical j ≡ false) → k ≡ count l → Of P (refused_at n l (first (bad n l) k) k)
    unfolding Of
    right-at h g q = go (ltb (first (bad n l) k) k) refl
      where
        go : (b : Bool) → ltb (first (bad n l) k) k ≡ b → Of P (cond b (Err (edge_refusal n l (first (bad n l) k))) accepted)
        go true e = record {
          fits = h;
          points = record {
            inside = rw (sym q) (ltb-true (first (bad n l) k) k e);
            is_bad = first_passes (bad n l) k (ltb-true (first (bad n l) k) k e);
            none_before = first-before (bad n l) k;
            logical_good = g;
          };
        }
        go false e = tt

    -- nothing found in a list: none of its edges is bad
    none-at : refused_at n l (first (bad n l) k) k ≡ accepted → k ≡ count l → (j : ℕ) → j < count l → bad n l j ≡ false
    none-at e q = go (ltb (first (bad n l) k) k) refl e
      where
        go : (b : Bool) → ltb (first (bad n l) k) k ≡ b → cond b (Err (edge_refusal n l (first (bad n l) k))) accepted ≡ accepted → (j : ℕ) → j < count l → bad n l j ≡ false
        go true w e = let z : ◌≡◌ {A = ℕ} 0 1 = cc in absurd (omega arith)
        go false w e = rw (sym q) (first-none (bad n l) k (ltb-false (first (bad n l) k) k w))

  not-physical : list.Logical ≡ list.Physical → ⊥
  not-physical e = let z : ◌≡◌ {A = ℕ} 0 1 = cc in omega arith

  -- a kind in both lists, the logical one first
  right-both : (n k m : ℕ) → about_edge n ≡ true → k ≡ count list.Logical → m ≡ count list.Physical
      → Of P (or_else (refused_at n list.Logical (first (bad n list.Logical) k) k) (refused_at n list.Physical (first (bad n list.Physical) m) m))
  right-both n k m h p q =
      of-after P (refused_at n list.Logical (first (bad n list.Logical) k) k) (refused_at n list.Physical (first (bad n list.Physical) m) m) (right-at n k list.Logical h (λ e. absurd (not-physical e)) p)
      (λ e. right-at n m list.Physical h (λ w. none-at n k list.Logical e p) q)

  -- ---- the parts
  pub each-room : (short : Bool) → Each P (room_findings short)
  unfolding room_findings
  each-room short = record {
    room = right-if short why.room_too_short refl;
    lengths = of_none P;
    rest = λ e. record {
      size = of_none P;
      coordinate = of_none P;
      orientation = of_none P;
      bit = of_none P;
      confidence = of_none P;
      likelihood = of_none P;
      transform = of_none P;
      table = of_none P;
      setting = of_none P;
    };
  }

  pub each-settings : (a b c : Bool) → Each P (settings_findings a b c)
  unfolding settings_findings
  each-settings a b c = record {
    room = of_none P;
    lengths = of_none P;
    rest = λ e. record {
      size = of_none P;
      coordinate = of_none P;
      orientation = of_none P;
      bit = of_none P;
      confidence = of_none P;
      likelihood = of_none P;
      transform = right-if a why.bad_transform refl;
      table = right-if b why.bad_table refl;
      setting = right-if c why.bad_setting refl;
    };
  }

-- two lists, which may have likelihoods besides
module _ (L E : EdgeList) (unlikely : ListName → ℕ → Bool) where
  abbrev count : ListName → ℕ
  count = counted (two_lists L E)

  abbrev bad : ℕ → ListName → ℕ → Bool
  bad = bad_in (two_lists L E) unlikely

  pub each-lists : Each (PlaceRight count bad) (joined (list_findings 1 list.Logical L) (list_findings 1 list.Physical E))
  unfolding list_findings first_bad_coordinate first_bad_byte first_bad_confidence
  each-lists =
      let P = PlaceRight count bad in
      record {
        room = of-else P accepted accepted (of_none P) (of_none P);
        lengths = of-else P (refused_if (lengths_differ L) why.lengths_differ) (refused_if (lengths_differ E) why.lengths_differ) (right-if count bad (lengths_differ L) why.lengths_differ refl) (right-if count bad (lengths_differ E) why.lengths_differ refl);
        rest = λ e.
            let b = both-accepted (refused_if (lengths_differ L) why.lengths_differ) (refused_if (lengths_differ E) why.lengths_differ) e in
            let l = same_length L (if-accepted (lengths_differ L) why.lengths_differ b.0) in
            let p = same_length E (if-accepted (lengths_differ E) why.lengths_differ b.1) in
            record {
              size = of-else P (refused_if (size_bad 1 (size L)) why.list_size) (refused_if (size_bad 1 (size E)) why.list_size) (right-if count bad (size_bad 1 (size L)) why.list_size refl) (right-if count bad (size_bad 1 (size E)) why.list_size refl);
              coordinate = right-both count bad why.bad_coordinate (size L) (size E) refl refl refl;
              orientation = right-both count bad why.bad_orientation (length L.orientations) (length E.orientations) refl l.0 p.0;
              bit = right-both count bad why.bad_bit (length L.bits) (length E.bits) refl l.1 p.1;
              confidence = right-both count bad why.bad_confidence (length L.confidences) (length E.confidences) refl l.2 p.2;
              likelihood = of-else P accepted accepted (of_none P) (of_none P);
              transform = of-else P accepted accepted (of_none P) (of_none P);
              table = of-else P accepted accepted (of_none P) (of_none P);
              setting = of-else P accepted accepted (of_none P) (of_none P);
            };
      }

-- the likelihoods of the physical list
pub each-likelihoods : (L E : EdgeList) (ms us : List Float) → Each (PlaceRight (counted (two_lists L E)) (bad_in (two_lists L E) (unlikely_in ms us))) (likelihood_findings (size E) ms us)
unfolding likelihood_findings likelihoods_differ first_bad_likelihood
each-likelihoods L E ms us =
    let count = counted (two_lists L E) in
    let bad = bad_in (two_lists L E) (unlikely_in ms us) in
    let P = PlaceRight count bad in
    record {
      room = of_none P;
      lengths = right-if count bad (likelihoods_differ (size E) ms us) why.lengths_differ refl;
      rest = λ e.
          let q = and-true (eqb (size E) (length ms)) (eqb (size E) (length us)) (not-false _ (if-accepted (likelihoods_differ (size E) ms us) why.lengths_differ e)) in
          record {
            size = right-if count bad (size_bad 0 (length ms)) why.list_size refl;
            coordinate = of_none P;
            orientation = of_none P;
            bit = of_none P;
            confidence = of_none P;
            likelihood = right-at count bad why.bad_likelihood (length ms) list.Physical refl (λ w j h. refl) (sym (eqb-true (size E) (length ms) q.0));
            transform = of_none P;
            table = of_none P;
            setting = of_none P;
          };
    }

-- an only list
pub each-list : (E : EdgeList) (unlikely : ListName → ℕ → Bool) → Each (PlaceRight (counted (one_list E)) (bad_in (one_list E) unlikely)) (list_findings 0 list.Only E)
unfolding list_findings first_bad_coordinate first_bad_byte first_bad_confidence
each-list E unlikely =
    let count = counted (one_list E) in
    let bad = bad_in (one_list E) unlikely in
    let P = PlaceRight count bad in
    let other : list.Only ≡ list.Physical → ⊥ = λ e. let z : ◌≡◌ {A = ℕ} 1 2 = cc in omega arith in
    record {
      room = of_none P;
      lengths = right-if count bad (lengths_differ E) why.lengths_differ refl;
      rest = λ e.
          let l = same_length E (if-accepted (lengths_differ E) why.lengths_differ e) in
          record {
            size = right-if count bad (size_bad 0 (size E)) why.list_size refl;
            coordinate = right-at count bad why.bad_coordinate (size E) list.Only refl (λ w. absurd (other w)) refl;
            orientation = right-at count bad why.bad_orientation (length E.orientations) list.Only refl (λ w. absurd (other w)) l.0;
            bit = right-at count bad why.bad_bit (length E.bits) list.Only refl (λ w. absurd (other w)) l.1;
            confidence = right-at count bad why.bad_confidence (length E.confidences) list.Only refl (λ w. absurd (other w)) l.2;
            likelihood = of_none P;
            transform = of_none P;
            table = of_none P;
            setting = of_none P;
          };
    }
