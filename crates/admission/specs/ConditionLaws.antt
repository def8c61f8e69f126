-- Laws of conditions: they are met or fail, not both, and by one number; some after others; and how a check judges them, one by one.
use Rattle.std.specs.Prelude.{◌≡◌, refl, Bool, true, false, cond, ◌⊎◌, List, [], ◌∷◌, ◌++◌, ℕ, ltb, Err, Ok}
use Rattle.std.proofs.Common.{sym, ap, ◌∙◌, inl, inr, ⊎_elim}
use Rattle.laws.specs.Tests.{clash}
use Rattle.refusals.specs.declared.Refusal.{Refusal}
use Rattle.refusals.specs.Admission.{Admission, accepted}
use Rattle.refusals.specs.declared.ListName.{ListName}
use Rattle.refusals.specs.Numbers.{numbered, edge_refusal}
use Rattle.findings.specs.Findings.{refused_if, refused_at, or_else}
use Rattle.findings.specs.FindingsLaws.{no-refusal}
use Rattle.admission.specs.Conditions.{Condition, AllMet, FirstFails}

-- conditions that are met do not fail
pub met-or-fails : (rows : List Condition) (n : ℕ) → AllMet rows → FirstFails rows n → ⊥
unfolding AllMet FirstFails
met-or-fails [] n m f = f
met-or-fails (row ∷ rows) n m (inl f) = f.0 m.0
met-or-fails (row ∷ rows) n m (inr f) = met-or-fails rows n m.1 f.1

-- and they fail by one number
pub fails-once : (rows : List Condition) (n k : ℕ) → FirstFails rows n → FirstFails rows k → n ≡ k
unfolding FirstFails
fails-once [] n k f g = absurd f
fails-once (row ∷ rows) n k (inl f) (inl g) = sym f.1 ∙ g.1
fails-once (row ∷ rows) n k (inl f) (inr g) = absurd (f.0 g.0)
fails-once (row ∷ rows) n k (inr f) (inl g) = absurd (g.0 f.0)
fails-once (row ∷ rows) n k (inr f) (inr g) = fails-once rows n k f.1 g.1

-- ---- early conditions, and late ones after them
pub met-both : (early late : List Condition) → AllMet early → AllMet late → AllMet (early ++ late)
unfolding AllMet
met-both [] late m k = k
met-both (row ∷ early) late m k = (m.0, met-both early late m.1 k)

pub met-parts : (early late : List Condition) → AllMet (early ++ late) → AllMet early × AllMet late
unfolding AllMet
met-parts [] late m = (tt, m)
met-parts (row ∷ early) late m = let p = met-parts early late m.1 in ((m.0, p.0), p.1)

-- an early one fails
pub fails-early : (early late : List Condition) (n : ℕ) → FirstFails early n → FirstFails (early ++ late) n
unfolding FirstFails
fails-early [] late n f = absurd f
fails-early (row ∷ early) late n (inl f) = inl f
fails-early (row ∷ early) late n (inr f) = inr (f.0, fails-early early late n f.1)

-- the early ones are met, and a late one fails
pub fails-late : (early late : List Condition) (n : ℕ) → AllMet early → FirstFails late n → FirstFails (early ++ late) n
unfolding AllMet FirstFails
fails-late [] late n m f = f
fails-late (row ∷ early) late n m f = inr (m.0, fails-late early late n m.1 f)

-- one of the two
fails-parts : (early late : List Condition) (n : ℕ) → FirstFails (early ++ late) n → FirstFails early n ⊎ (AllMet early × FirstFails late n)
unfolding AllMet FirstFails
fails-parts [] late n f = inr (tt, f)
fails-parts (row ∷ early) late n (inl f) = inl (inl f)
fails-parts (row ∷ early) late n (inr f) = ⊎_elim (λ g. inl (inr (f.0, g))) (λ g. inr ((f.0, g.0), g.1)) (fails-parts early late n f.1)

-- ---- the same conditions in other words: by the same numbers, and met and failing alike
pub record InOtherWords (rows others : List Condition) : Type 0 where
  pub met : AllMet rows → AllMet others
  pub back : AllMet others → AllMet rows
  pub fails : (n : ℕ) → FirstFails rows n → FirstFails others n
  pub fails_back : (n : ℕ) → FirstFails others n → FirstFails rows n

pub word-for-word : (rows : List Condition) → InOtherWords rows rows
word-for-word rows = record { met = λ m. m; back = λ m. m; fails = λ n f. f; fails_back = λ n f. f }

-- one fact for another, and then the rest
pub reworded : {n : ℕ} {fact other : Type 0} {rows others : List Condition} → (fact → other) → (other → fact) → InOtherWords rows others → InOtherWords ((n, fact) ∷ rows) ((n, other) ∷ others)
unfolding AllMet FirstFails
reworded to from w = record {
  met = λ m. (to m.0, w.met m.1);
  back = λ m. (from m.0, w.back m.1);
  fails = λ k f. ⊎_elim (λ g. inl ((λ h. g.0 (from h)), g.1)) (λ g. inr (to g.0, w.fails k g.1)) f;
  fails_back = λ k f. ⊎_elim (λ g. inl ((λ h. g.0 (to h)), g.1)) (λ g. inr (from g.0, w.fails_back k g.1)) f;
}

-- with late conditions after them
pub reworded-early : (rows others late : List Condition) → InOtherWords rows others → InOtherWords (rows ++ late) (others ++ late)
reworded-early rows others late w = record {
  met = λ m. let p = met-parts rows late m in met-both others late (w.met p.0) p.1;
  back = λ m. let p = met-parts others late m in met-both rows late (w.back p.0) p.1;
  fails = λ n f. ⊎_elim (λ g. fails-early others late n (w.fails n g)) (λ g. fails-late others late n (w.met g.0) g.1) (fails-parts rows late n f);
  fails_back = λ n f. ⊎_elim (λ g. fails-early rows late n (w.fails_back n g)) (λ g. fails-late rows late n (w.back g.0) g.1) (fails-parts others late n f);
}

-- ---- how a check judges one condition: it accepts exactly where the fact holds, and refuses by the number
pub record Judged (a : Admission) (n : ℕ) (fact : Type 0) : Type 0 where
  pub holds : a ≡ accepted → fact
  pub accepted : fact → a ≡ accepted
  pub number : (r : Refusal) → a ≡ Err r → r.number ≡ n

-- a test that is false exactly where a fact holds
abbrev pub Tests : Bool → Type 0 → Type 0
Tests bad fact = (bad ≡ false → fact) × (fact → bad ≡ false)

pub judged-if : (bad : Bool) (n : ℕ) {fact : Type 0} → Tests bad fact → Judged (refused_if bad n) n fact
judged-if true n t = record { holds = λ e. no-refusal _ (sym e); accepted = λ h. clash refl (t.1 h); number = λ r e. let q : numbered n ≡ r = cc in sym (ap (λ (x : Refusal). x.number) q) }
judged-if false n t = record { holds = λ e. t.0 refl; accepted = λ h. refl; number = λ r e. no-refusal r e }

pub judged-at : (n : ℕ) (l : ListName) (i k : ℕ) {fact : Type 0} → Tests (ltb i k) fact → Judged (refused_at n l i k) n fact
judged-at n l i k {fact} t = go (ltb i k) t
  where
    go : (bad : Bool) → Tests bad fact → Judged (cond bad (Err (edge_refusal n l i)) accepted) n fact
    go true t = record { holds = λ e. no-refusal _ (sym e); accepted = λ h. clash refl (t.1 h); number = λ r e. let q : edge_refusal n l i ≡ r = cc in sym (ap (λ (x : Refusal). x.number) q) }
    go false t = record { holds = λ e. t.0 refl; accepted = λ h. refl; number = λ r e. no-refusal r e }

-- nothing is asked
pub judged-none : (n : ℕ) → Judged accepted n (Unit {0})
judged-none n = record { holds = λ e. tt; accepted = λ h. refl; number = λ r e. no-refusal r e }

-- two facts by one number
pub judged-both : (a b : Admission) {n : ℕ} {A B : Type 0} → Judged a n A → Judged b n B → Judged (or_else a b) n (A × B)
unfolding or_else
judged-both (Ok _) b j k = record { holds = λ e. (j.holds refl, k.holds e); accepted = λ h. k.accepted h.1; number = k.number }
judged-both (Err x) b j k = record { holds = λ e. no-refusal x (sym e); accepted = λ h. no-refusal x (sym (j.accepted h.0)); number = j.number }

-- a part in which nothing of the kind is looked for
pub judged-alone : (a : Admission) {n : ℕ} {fact : Type 0} → Judged a n fact → Judged (or_else a accepted) n fact
unfolding or_else
judged-alone (Ok _) j = j
judged-alone (Err x) j = j

-- the same fact in other words
pub judged-same : {a : Admission} {n : ℕ} {fact other : Type 0} → (fact → other) → (other → fact) → Judged a n fact → Judged a n other
judged-same to from j = record { holds = λ e. to (j.holds e); accepted = λ h. j.accepted (from h); number = j.number }

-- ---- and how several: accepted exactly where all are met, and else refused by the number of the first that is not
pub record Judges (rows : List Condition) (a : Admission) : Type 0 where
  pub met : a ≡ accepted → AllMet rows
  pub accepted : AllMet rows → a ≡ accepted
  pub refused : (r : Refusal) → a ≡ Err r → FirstFails rows r.number

pub judges-none : Judges [] accepted
unfolding AllMet
judges-none = record { met = λ e. tt; accepted = λ m. refl; refused = λ r e. no-refusal r e }

-- THE BRIDGE: one condition and then the rest, where what is said of the rest may rest on it
pub judges-row : (a b : Admission) {n : ℕ} {fact : Type 0} {rows : List Condition} → Judged a n fact → (fact → Judges rows b) → Judges ((n, fact) ∷ rows) (or_else a b)
unfolding AllMet FirstFails or_else
judges-row (Ok _) b j k =
    let h = j.holds refl in
    record { met = λ e. (h, (k h).met e); accepted = λ m. (k h).accepted m.1; refused = λ r e. inr (h, (k h).refused r e) }
judges-row (Err x) b j k = record {
  met = λ e. no-refusal x (sym e);
  accepted = λ m. no-refusal x (sym (j.accepted m.0));
  refused = λ r e. inl ((λ h. no-refusal x (sym (j.accepted h))), sym (j.number r e));
}
