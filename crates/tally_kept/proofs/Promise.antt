-- THE PROMISE OF C-17: "A record that, orientation by orientation, equals match statistics' count on its list's edges of that orientation before an edit equals it so on the edited list after."
use Rattle.std.specs.Prelude.{◌≡◌, Bool, not, List, [], ◌∷◌, ℕ, zero, suc, ◌+◌, ◌-◌, ◌≤◌, ◌<◌, eqb, length, ℤ, pos, ◌+ℤ◌, Float, Err, Ok}
use Rattle.std.proofs.Math.Path.{refl, sym, ap, ap₂}
use Rattle.std.proofs.Common.{◌∙◌, ⊎_elim, get_or-set_same, get_or-set_other, lt-ltb, le-ltb}
use native.Mathlib.Omega.{arith}
use Rattle.std.proofs.Math.ListN.{get_or}
use Rattle.laws.specs.Tests.{by-test, compared}
use Rattle.answer.specs.declared.Square.{Square}
use Rattle.board.specs.declared.edge.Edge.{Edge}
use Rattle.board.specs.declared.edge.EdgeLookup.{EdgeLookup}
use Rattle.board.specs.Hits.{EdgeList, Board, size, seen, edge_at, edge_hit, look, horizontal, pattern_bit, predicted, hit}
use Rattle.board.proofs.HitsLaws.{hit-edge}
use Rattle.closing.specs.Closed.{closed}
use Rattle.closing.specs.ClosedLaws.{closed-written, before_at, after-at}
use Rattle.refusals.specs.declared.Refusal.{Refusal}
use Rattle.refusals.specs.Admission.{Admission}
use Rattle.tally.specs.declared.Tally.{Tally}
use Rattle.tally.specs.Answers.{Judged}
use Rattle.tally.specs.Answers.{TallyAnswer}
use Rattle.tally.specs.Tally.{with_edge, without_edge}
use Rattle.tally.specs.Counted.{listed_as, hit_at, tally_of}
use Rattle.tally.proofs.CountedLaws.{skip, tally-more, tally-same, tally-without, tally-other}
use Rattle.tally_checks.specs.Judged.{judged_add, judged_named, add_found}
use Rattle.tally_checks.proofs.JudgedLaws.{RecordOk, NamedOk, taken-taken, add-taken-ok, named-taken-ok}
use Rattle.tally_checks.specs.Edited.{answered, listed, Done}
use Rattle.tally_of.specs.Begun.{tally_answer, or_kept, begin_found}
use Rattle.tally_add.specs.Added.{added_to}
use Rattle.tally_remove.specs.Removed.{removed_from}
use Rattle.tally_flip.specs.Flipped.{flipped_in, turned}
use Rattle.tally_kept.specs.Listed.{EqualsStatistics, Right}
use Rattle.tally_kept.proofs.ListedLaws.{right-equals, equals-right, edge-eq}
use Rattle.tally_kept.specs.Edits.{Edit, add, remove, flip, record_after, EditDone, Run}

-- ---- an edge added
module _ (B : Board) (E : EdgeList) (T : Tally) (e : Edge) (w : Float) where
  abbrev added : EdgeList
  added = added_to E T.edges e w

  before-added : (i : ℕ) → i < T.edges → edge_at added i ≡ edge_at E i
  unfolding added_to
  before-added i l =
      let k : i ≡ T.edges → ⊥ = λ z. omega arith in
      edge-eq (get_or-set_other E.rows T.edges i e.row (pos 0) k) (get_or-set_other E.cols T.edges i e.col (pos 0) k) (get_or-set_other E.orientations T.edges i e.orientation 0 k) (get_or-set_other E.bits T.edges i e.bit 0 k)

  module _ (ok : RecordOk E T) (room : T.edges < size E) where
    added-last : edge_at added T.edges ≡ e
    unfolding added_to
    added-last =
        edge-eq (get_or-set_same E.rows T.edges e.row (pos 0) room) (get_or-set_same E.cols T.edges e.col (pos 0) (omega (arith, ok.cols))) (get_or-set_same E.orientations T.edges e.orientation 0 (omega (arith, ok.orientations))) (get_or-set_same E.bits T.edges e.bit 0 (omega (arith, ok.bits)))

    pub add_right : (b : Bool) → b ≡ edge_hit B e T.square → Right B E T → Right B added (with_edge T e.orientation b)
    unfolding with_edge
    add_right b h r =
        let q = T.square in
        let hit-here : hit_at B added q T.edges ≡ edge_hit B e q = sym (hit-edge B added q.transform q.row q.col T.edges) ∙ ap (λ (x : Edge). edge_hit B x q) added-last in
        let same : T ≡ tally_of B added q T.edges = r ∙ sym (tally-same B q E added T.edges before-added) in
        with_edge-eq T (tally_of B added q T.edges) e.orientation (listed_as added T.edges) b (hit_at B added q T.edges) same (ap (λ (x : Edge). x.orientation) (sym added-last)) (h ∙ sym hit-here)
        ∙ sym (tally-more B q added T.edges)
      where
        with_edge-eq : (T S : Tally) (o p : ℕ) (b c : Bool) → T ≡ S → o ≡ p → b ≡ c → with_edge T o b ≡ with_edge S p c
        with_edge-eq T S o p b c e f g = ap (λ (x : Tally). with_edge x o b) e ∙ ap₂ (with_edge S) f g

-- ---- an edge removed
module _ (B : Board) (E : EdgeList) (T : Tally) (p : ℕ) where
  abbrev removed : EdgeList
  removed = removed_from E T.edges p

  closed-skips : {A : Type 0} (d z : A) (n : ℕ) (l : List A) → p < n → n ≤ length l → (i : ℕ) → i < n - 1 → get_or (closed z p n l) i d ≡ get_or l (skip p i) d
  closed-skips d z n l h r i m =
      (closed-written d z p n l h r).front i (omega arith)
      ∙ ⊎_elim
      (λ k. before_at d z p n l i k ∙ ap (λ (j : ℕ). get_or l j d) (sym (rw (lt-ltb i p k))))
      (λ k. after-at d z p n l i k (omega arith) ∙ ap (λ (j : ℕ). get_or l j d) (sym (rw (le-ltb i p k))))
      (compared i p)

  module _ (ok : NamedOk E T p B) where
    removed-edge : (i : ℕ) → i < T.edges - 1 → edge_at removed i ≡ edge_at E (skip p i)
    unfolding removed_from
    removed-edge i l =
        let k = ok.kept in
        let n = T.edges in
        edge-eq (closed-skips (pos 0) (pos 0) n E.rows ok.exists k.few i l) (closed-skips (pos 0) (pos 0) n E.cols ok.exists (omega (arith, k.few, k.cols)) i l) (closed-skips 0 0 n E.orientations ok.exists (omega (arith, k.few, k.orientations)) i l) (closed-skips 0 0 n E.bits ok.exists (omega (arith, k.few, k.bits)) i l)

    pub remove-right : (b : Bool) → b ≡ hit_at B E T.square p → Right B E T → Right B removed (without_edge T (listed_as E p) b)
    unfolding without_edge
    remove-right b h r =
        ap (λ (x : Tally). without_edge x (listed_as E p) b) r
        ∙ ap (without_edge (tally_of B E T.square T.edges) (listed_as E p)) h
        ∙ sym (tally-without B T.square E removed T.edges p ok.exists removed-edge)

-- ---- an edge flipped
-- a predicted bit is 0 or 1
below : (ps : List ℕ) (x y : ℤ) → pattern_bit ps x y < 2
below ps x y = omega arith

a-bit : (B : Board) (l : EdgeLookup) (r c : ℕ) → predicted B l r c < 2
unfolding predicted
a-bit B l r c =
    by-test ℕ (λ n. n < 2) (horizontal l) (pattern_bit B.h (l.row +ℤ pos r) (l.col +ℤ pos c)) (pattern_bit B.v (l.col +ℤ pos c) (l.row +ℤ pos r))
    (λ t. below B.h (l.row +ℤ pos r) (l.col +ℤ pos c))
    (λ t. below B.v (l.col +ℤ pos c) (l.row +ℤ pos r))

other-bit : (x b : ℕ) → x < 2 → b < 2 → eqb x (1 - b) ≡ not (eqb x b)
other-bit zero zero h k = refl
other-bit zero (suc zero) h k = refl
other-bit zero (suc (suc b)) h k = absurd (omega arith)
other-bit (suc zero) zero h k = refl
other-bit (suc zero) (suc zero) h k = refl
other-bit (suc zero) (suc (suc b)) h k = absurd (omega arith)
other-bit (suc (suc x)) b h k = absurd (omega arith)

module _ (B : Board) (E : EdgeList) (T : Tally) (p : ℕ) where
  abbrev flipped : EdgeList
  flipped = flipped_in E p

  flip-others : (i : ℕ) → (i ≡ p → ⊥) → edge_at flipped i ≡ edge_at E i
  unfolding flipped_in
  flip-others i k = edge-eq refl refl refl (get_or-set_other E.bits p i (1 - get_or E.bits p 0) 0 k)

  flip-listed : listed_as flipped p ≡ listed_as E p
  unfolding flipped_in
  flip-listed = refl

  module _ (ok : NamedOk E T p B) where
    flip-turned : hit_at B flipped T.square p ≡ not (hit_at B E T.square p)
    unfolding flipped_in hit look
    flip-turned =
        let q = T.square in
        ap (eqb (predicted B (look E q.transform p) q.row q.col)) (get_or-set_same E.bits p (1 - get_or E.bits p 0) 0 (omega (arith, ok.exists, ok.kept.few, ok.kept.bits)))
        ∙ other-bit (predicted B (look E q.transform p) q.row q.col) (seen E p) (a-bit B (look E q.transform p) q.row q.col) ok.bit

    again : T.edges - 1 + 1 ≡ T.edges
    again = omega (arith, ok.exists)

    turned-edges : (S : Tally) (o : ℕ) (b : Bool) → ((turned S o b).square ≡ S.square) × ((turned S o b).edges ≡ S.edges - 1 + 1)
    unfolding turned with_edge without_edge
    turned-edges S o b = (refl, refl)

    pub flip-right : (b : Bool) → b ≡ hit_at B E T.square p → Right B E T → Right B flipped (turned T (listed_as E p) b)
    unfolding turned
    flip-right b h r =
        let k = turned-edges T (listed_as E p) b in
        ap (λ (x : Tally). turned x (listed_as E p) b) r
        ∙ ap (turned (tally_of B E T.square T.edges) (listed_as E p)) h
        ∙ sym (tally-other B T.square E flipped T.edges p ok.exists flip-others flip-listed flip-turned)
        ∙ sym (ap₂ (tally_of B flipped) k.0 (k.1 ∙ again))

-- ---- an edit, taken or refused
-- what holds of the record and the list both where an edit was refused and where it was taken
either : (j : Judged) (f : Bool → Tally) (E E' : EdgeList) (T : Tally) (P : EdgeList → Tally → Type 0) → P E T → ((b : Bool) → Ok b ≡ j → P E' (f b)) → P (listed j E E') (record_after T (answered j f))
unfolding answered listed
either (Err r) f E E' T P x y = x
either (Ok b) f E E' T P x y = y b refl

after : (B : Board) (j : Judged) (f : Bool → Tally) (E E' L : EdgeList) (T : Tally) (a : TallyAnswer) → Done j f E E' a L → Right B E T → ((b : Bool) → Ok b ≡ j → Right B E' (f b)) → Right B L (record_after T a)
after B j f E E' L T a d x y = rw (d.answer, d.list) (either j f E E' T (Right B) x y)

-- A RECORD THAT IS RIGHT STAYS RIGHT
pub edit-right : (B : Board) (E L : EdgeList) (T : Tally) (x : Edit) (a : TallyAnswer) → EditDone B E T x a L → Right B E T → Right B L (record_after T a)
unfolding judged_add
edit-right B E L T (add e w) a d r =
    after B (judged_add E T e w B) (with_edge T e.orientation) E (added_to E T.edges e w) L T a d r
    (λ b h. let k = add-taken-ok E T e w B b h in add_right B E T e w k.0 k.1.0 b (taken-taken (add_found E T e w B) (edge_hit B e T.square) b h).1 r)
edit-right B E L T (remove p) a d r =
    after B (judged_named E T p B) (without_edge T (listed_as E p)) E (removed_from E T.edges p) L T a d r (λ b h. let k = named-taken-ok E T p B b h in remove-right B E T p k.0 b k.1 r)
edit-right B E L T (flip p) a d r =
    after B (judged_named E T p B) (turned T (listed_as E p)) E (flipped_in E p) L T a d r (λ b h. let k = named-taken-ok E T p B b h in flip-right B E T p k.0 b k.1 r)

-- THE PROMISE, in words of match statistics: an edit, taken or refused, of a record that equals match statistics' count leaves one that does
pub tally-kept : (B : Board) (E L : EdgeList) (T : Tally) (x : Edit) (a : TallyAnswer) → EditDone B E T x a L → EqualsStatistics B E T → EqualsStatistics B L (record_after T a)
tally-kept B E L T x a d s = right-equals B L (record_after T a) (edit-right B E L T x a d (equals-right B E T s))

-- ANY RUN OF EDITS, refused ones included
pub run-right : (B : Board) (xs : List Edit) (E L : EdgeList) (T S : Tally) → Run B E T xs L S → Right B E T → Right B L S
unfolding Run
run-right B [] E L T S n r = rw (n.0, n.1) r
run-right B (x ∷ xs) E L T S n r = run-right B xs n.0 L (record_after T n.1) S n.3 (edit-right B E n.0 T x n.1 n.2 r)

pub run-kept : (B : Board) (xs : List Edit) (E L : EdgeList) (T S : Tally) → Run B E T xs L S → EqualsStatistics B E T → EqualsStatistics B L S
run-kept B xs E L T S n s = right-equals B L S (run-right B xs E L T S n (equals-right B E T s))

-- A REFUSED EDIT CHANGES NOTHING of the list
refused-list : (j : Judged) (f : Bool → Tally) (E E' : EdgeList) (r : Refusal) → Err r ≡ answered j f → listed j E E' ≡ E
unfolding answered listed
refused-list (Err x) f E E' r h = refl
refused-list (Ok b) f E E' r h = let z : ◌≡◌ {A = ℕ} 0 1 = cc in absurd (omega arith)

pub refused-same : (j : Judged) (f : Bool → Tally) (E E' L : EdgeList) (r : Refusal) → Done j f E E' (Err r) L → L ≡ E
refused-same j f E E' L r d = d.list ∙ refused-list j f E E' r d.answer

-- THE RECORD THAT `tally_of` COUNTS is right, so edits can begin
kept_of : (a : Admission) (T S : Tally) → Ok T ≡ or_kept a S → T ≡ S
kept_of (Ok _) T S h = cc
kept_of (Err r) T S h = let z : ◌≡◌ {A = ℕ} 0 1 = cc in absurd (omega arith)

pub begun-right : (B : Board) (E : EdgeList) (n : ℕ) (q : Square) (T : Tally) → Ok T ≡ tally_answer E n q B → Right B E T
unfolding tally_answer tally_of
begun-right B E n q T h =
    let k : T ≡ tally_of B E q n = kept_of (begin_found E n q B) T (tally_of B E q n) h in
    k ∙ sym (ap₂ (tally_of B E) (ap (λ (x : Tally). x.square) k) (ap (λ (x : Tally). x.edges) k))

pub begun-equals : (B : Board) (E : EdgeList) (n : ℕ) (q : Square) (T : Tally) → Ok T ≡ tally_answer E n q B → EqualsStatistics B E T
begun-equals B E n q T h = right-equals B E T (begun-right B E n q T h)
