-- The first of two refusals, by rank, is what is found in two parts together: so that each part may be judged by itself, and the parts put together in any depth.
use Rattle.std.specs.Prelude.{◌≡◌, Bool, true, false, cond, ◌&&◌, ◌⊎◌, List, [], ◌∷◌, ℕ, ◌<◌, ltb, length, Float, Err, Ok}
use Rattle.std.proofs.Math.Path.{refl}
use Rattle.std.proofs.Common.{sym, ap, ◌∙◌, inl, inr, arith, lt-ltb, le-ltb, ltb-true}
use Rattle.laws.specs.Tests.{and-true}
use Rattle.board.specs.Hits.{EdgeList, size}
use Rattle.refusals.specs.declared.Refusal.{Refusal}
use Rattle.refusals.specs.Admission.{Admission, accepted}
use Rattle.refusals.specs.declared.ListName.{ListName}
use Rattle.refusals.specs.declared.ListName.TheVariants as list
use Rattle.refusals.specs.Numbers.{numbered, edge_refusal}
use Rattle.refusals.specs.Numbers as why
use Rattle.refusals.specs.Order.{ranked, earlier}
use Rattle.checks.specs.Checks.{first_bad_coordinate, first_bad_likelihood, lengths_differ, size_bad, likelihoods_differ}
use Rattle.ranges.specs.Ranges.{first_bad_byte, first_bad_confidence}
use Rattle.findings.specs.Findings.{refused_if, refused_at, or_else, first_of, Findings, in_order, first_found, joined, room_findings, list_findings, likelihood_findings, settings_findings}
use Rattle.findings.specs.FindingsLaws.{no-refusal}

-- accepted, or refused by the number k
abbrev pub Kind : ℕ → Admission → Type 0
Kind k (Ok _) = Unit
Kind k (Err r) = r.number ≡ k

-- accepted, or refused later than by k
abbrev Later : ℕ → Admission → Type 0
Later k (Ok _) = Unit
Later k (Err r) = ranked k < ranked r.number

-- ---- one kind in two parts
module _ (k : ℕ) where
  left-first : (r : Refusal) (y : Admission) → r.number ≡ k → Later k y → earlier (Err r) y ≡ Err r
  unfolding earlier
  left-first r (Ok _) e h = refl
  left-first r (Err s) e h = let l : ranked r.number < ranked s.number = rw e h in rw (le-ltb (ranked s.number) (ranked r.number) (omega arith))

  right-first : (x : Admission) (s : Refusal) → s.number ≡ k → Later k x → earlier x (Err s) ≡ Err s
  unfolding earlier
  right-first (Ok _) s e h = refl
  right-first (Err r) s e h = let l : ranked s.number < ranked r.number = rw e h in rw (lt-ltb (ranked s.number) (ranked r.number) l)

  one-kind : (a b x y : Admission) → Kind k a → Kind k b → Later k x → Later k y → earlier (or_else a x) (or_else b y) ≡ or_else (or_else a b) (earlier x y)
  unfolding or_else earlier
  one-kind (Ok _) (Ok _) x y p q g h = refl
  one-kind (Ok _) (Err s) x y p q g h = right-first x s q g
  one-kind (Err r) (Ok _) x y p q g h = left-first r y p h
  one-kind (Err r) (Err s) x y p q g h = let e : ranked s.number ≡ ranked r.number = rw (p, q) refl in rw (le-ltb (ranked s.number) (ranked r.number) (omega arith))

  later-else : (j : ℕ) (a x : Admission) → Kind j a → ranked k < ranked j → Later k x → Later k (or_else a x)
  unfolding or_else
  later-else j (Ok _) x p l h = h
  later-else j (Err r) x p l h = rw p l

-- ---- all kinds, in an order of rising rank
abbrev Kinds : List ℕ → List Admission → Type 0
Kinds [] [] = Unit
Kinds [] (a ∷ xs) = ⊥
Kinds (k ∷ ks) [] = ⊥
Kinds (k ∷ ks) (a ∷ xs) = Kind k a × Kinds ks xs

-- k stands before each of ks
abbrev before : ℕ → List ℕ → Bool
before k [] = true
before k (j ∷ ks) = ltb (ranked k) (ranked j) && before k ks

abbrev rises : List ℕ → Bool
rises [] = true
rises (k ∷ ks) = before k ks && rises ks

abbrev paired : List Admission → List Admission → List Admission
paired [] ys = ys
paired (a ∷ xs) [] = a ∷ xs
paired (a ∷ xs) (b ∷ ys) = or_else a b ∷ paired xs ys

later-all : (k : ℕ) (ks : List ℕ) (xs : List Admission) → before k ks ≡ true → Kinds ks xs → Later k (first_of xs)
unfolding first_of
later-all k [] (a ∷ xs) b p = elim p [ ]
later-all k (j ∷ ks) [] b p = elim p [ ]
later-all k [] [] b p = tt
later-all k (j ∷ ks) (a ∷ xs) b p =
    let t = and-true (ltb (ranked k) (ranked j)) (before k ks) b in
    later-else k j a (first_of xs) p.0 (ltb-true (ranked k) (ranked j) t.0) (later-all k ks xs t.1 p.1)

in-two-parts : (ks : List ℕ) (xs ys : List Admission) → rises ks ≡ true → Kinds ks xs → Kinds ks ys → earlier (first_of xs) (first_of ys) ≡ first_of (paired xs ys)
unfolding first_of earlier
in-two-parts [] [] (b ∷ ys) h p q = elim q [ ]
in-two-parts [] (a ∷ xs) ys h p q = elim p [ ]
in-two-parts (k ∷ ks) [] ys h p q = elim p [ ]
in-two-parts (k ∷ ks) (a ∷ xs) [] h p q = elim q [ ]
in-two-parts [] [] [] h p q = refl
in-two-parts (k ∷ ks) (a ∷ xs) (b ∷ ys) h p q =
    let t = and-true (before k ks) (rises ks) h in
    one-kind k a b (first_of xs) (first_of ys) p.0 q.0 (later-all k ks xs t.0 p.1) (later-all k ks ys t.0 q.1) ∙ ap (or_else (or_else a b)) (in-two-parts ks xs ys t.1 p.1 q.1)

-- THE ORDER, by numbers
abbrev pub order : List ℕ
order =
    why.room_too_short ∷ why.lengths_differ ∷ why.list_size ∷ why.bad_coordinate ∷ why.bad_orientation ∷ why.bad_bit ∷ why.bad_confidence ∷ why.bad_likelihood ∷ why.bad_transform ∷ why.bad_table ∷ why.bad_setting ∷ []

-- each finding is refused by the number of its kind
abbrev pub Sorted : Findings → Type 0
Sorted f = Kinds order (in_order f)

rising : rises order ≡ true
unfolding ranked
rising = refl

-- FIRST OF TWO PARTS
pub first-joined : (f g : Findings) → Sorted f → Sorted g → earlier (first_found f) (first_found g) ≡ first_found (joined f g)
unfolding first_found
first-joined f g p q = in-two-parts order (in_order f) (in_order g) rising p q

-- ---- each part's findings stand under their kinds
pub if-kind : (b : Bool) (k : ℕ) → Kind k (refused_if b k)
if-kind true k = refl
if-kind false k = tt

pub at-kind : (k : ℕ) (l : ListName) (i n : ℕ) → Kind k (refused_at k l i n)
at-kind k l i n = go (ltb i n)
  where
    go : (b : Bool) → Kind k (cond b (Err (edge_refusal k l i)) accepted)
    go true = refl
    go false = tt

else-kind : (k : ℕ) (a b : Admission) → Kind k a → Kind k b → Kind k (or_else a b)
unfolding or_else
else-kind k (Ok _) b p q = q
else-kind k (Err r) b p q = p

paired-kinds : (ks : List ℕ) (xs ys : List Admission) → Kinds ks xs → Kinds ks ys → Kinds ks (paired xs ys)
paired-kinds [] [] (b ∷ ys) p q = elim q [ ]
paired-kinds [] (a ∷ xs) ys p q = elim p [ ]
paired-kinds (k ∷ ks) [] ys p q = elim p [ ]
paired-kinds (k ∷ ks) (a ∷ xs) [] p q = elim q [ ]
paired-kinds [] [] [] p q = tt
paired-kinds (k ∷ ks) (a ∷ xs) (b ∷ ys) p q = (else-kind k a b p.0 q.0, paired-kinds ks xs ys p.1 q.1)

pub sorted-joined : (f g : Findings) → Sorted f → Sorted g → Sorted (joined f g)
sorted-joined f g p q = paired-kinds order (in_order f) (in_order g) p q

sorted-by : (f : Findings) → Kind why.room_too_short f.room → Kind why.lengths_differ f.lengths → Kind why.list_size f.size → Kind why.bad_coordinate f.coordinate → Kind why.bad_orientation f.orientation → Kind why.bad_bit f.bit → Kind why.bad_confidence f.confidence → Kind why.bad_likelihood f.likelihood → Kind why.bad_transform f.transform → Kind why.bad_table f.table → Kind why.bad_setting f.setting → Sorted f
sorted-by f a b c d e g h i j k l = (a, (b, (c, (d, (e, (g, (h, (i, (j, (k, (l, tt)))))))))))

pub sorted-room : (short : Bool) → Sorted (room_findings short)
unfolding room_findings
sorted-room short = sorted-by (room_findings short) (if-kind short why.room_too_short) tt tt tt tt tt tt tt tt tt tt

pub sorted-list : (least : ℕ) (l : ListName) (E : EdgeList) → Sorted (list_findings least l E)
unfolding list_findings
sorted-list least l E =
    sorted-by (list_findings least l E) tt (if-kind (lengths_differ E) why.lengths_differ) (if-kind (size_bad least (size E)) why.list_size)
    (at-kind why.bad_coordinate l (first_bad_coordinate E.rows E.cols) (size E))
    (at-kind why.bad_orientation l (first_bad_byte 1 E.orientations) (length E.orientations))
    (at-kind why.bad_bit l (first_bad_byte 1 E.bits) (length E.bits))
    (at-kind why.bad_confidence l (first_bad_confidence E.confidences) (length E.confidences)) tt tt tt tt

pub sorted-likelihoods : (n : ℕ) (ms us : List Float) → Sorted (likelihood_findings n ms us)
unfolding likelihood_findings
sorted-likelihoods n ms us =
    sorted-by (likelihood_findings n ms us) tt (if-kind (likelihoods_differ n ms us) why.lengths_differ) (if-kind (size_bad 0 (length ms)) why.list_size) tt tt tt tt
    (at-kind why.bad_likelihood list.Physical (first_bad_likelihood ms us) (length ms)) tt tt tt

pub sorted-settings : (a b c : Bool) → Sorted (settings_findings a b c)
unfolding settings_findings
sorted-settings a b c = sorted-by (settings_findings a b c) tt tt tt tt tt tt tt tt (if-kind a why.bad_transform) (if-kind b why.bad_table) (if-kind c why.bad_setting)

-- ---- an early refusal has one of the numbers of the order
abbrev In : ℕ → List ℕ → Type 0
In n [] = ⊥
In n (k ∷ ks) = (n ≡ k) ⊎ In n ks

of-kinds : (ks : List ℕ) (xs : List Admission) (r : Refusal) → Kinds ks xs → first_of xs ≡ Err r → In r.number ks
unfolding first_of or_else
of-kinds [] (_ ∷ xs) r p e = elim p [ ]
of-kinds (k ∷ ks) [] r p e = elim p [ ]
of-kinds [] [] r p e = no-refusal r e
of-kinds (k ∷ ks) ((Ok _) ∷ xs) r p e = inr (of-kinds ks xs r p.1 e)
of-kinds (k ∷ ks) (Err s ∷ xs) r p e = let z : s ≡ r = cc in inl (ap (λ (x : Refusal). x.number) (sym z) ∙ p.0)

early-in : (n : ℕ) → In n order → why.Early n
early-in n (inl e) = inl (omega arith, omega arith)
early-in n (inr (inl e)) = inl (omega arith, omega arith)
early-in n (inr (inr (inl e))) = inl (omega arith, omega arith)
early-in n (inr (inr (inr (inl e)))) = inl (omega arith, omega arith)
early-in n (inr (inr (inr (inr (inl e))))) = inr (inl e)
early-in n (inr (inr (inr (inr (inr (inl e)))))) = inr (inr e)
early-in n (inr (inr (inr (inr (inr (inr (inl e))))))) = inl (omega arith, omega arith)
early-in n (inr (inr (inr (inr (inr (inr (inr (inl e)))))))) = inl (omega arith, omega arith)
early-in n (inr (inr (inr (inr (inr (inr (inr (inr (inl e))))))))) = inl (omega arith, omega arith)
early-in n (inr (inr (inr (inr (inr (inr (inr (inr (inr (inl e)))))))))) = inl (omega arith, omega arith)
early-in n (inr (inr (inr (inr (inr (inr (inr (inr (inr (inr (inr x11))))))))))) = elim x11 [ ]
early-in n (inr (inr (inr (inr (inr (inr (inr (inr (inr (inr (inl e))))))))))) = inl (omega arith, omega arith)

pub found_early : (f : Findings) (r : Refusal) → Sorted f → first_found f ≡ Err r → why.Early r.number
unfolding first_found
found_early f r p e = early-in r.number (of-kinds order (in_order f) r p e)
