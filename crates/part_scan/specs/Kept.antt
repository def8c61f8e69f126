-- C-20, placings in order: the winner has the greatest value (most hits, then weight), the earliest on a tie. The runner-up is the first of the others with most hits.
use Rattle.std.specs.Prelude.{◌≡◌, Bool, true, cond, ◌&&◌, ℕ, zero, suc, ◌+◌, ◌≤◌, ◌<◌, eqb, ltb}
use Rattle.values.specs.Values.{hits_of}
use Rattle.part_scan.specs.declared.kept.Offer.{Offer}
use Rattle.part_scan.specs.declared.kept.PartKept.{PartKept}
use Rattle.part_scan.specs.declared.kept.PartKept.TheVariants.{Nobody, One, Two}

-- the hits of an offer
abbrev pub hits_in : Offer → ℕ
hits_in c = hits_of c.value

-- behind a new winner: the old winner w, unless r has as many hits and stands earlier
unfoldable pub second_of : Offer → Offer → Offer
second_of w r = cond (eqb (hits_in w) (hits_in r) && ltb r.number w.number) r w

-- after a c that is no winner: r, unless c has more hits
unfoldable pub next_of : Offer → Offer → Offer
next_of r c = cond (ltb (hits_in r) (hits_in c)) c r

-- the second placing, and each further one
unfoldable pub offered_one : Offer → Offer → PartKept
offered_one w c = cond (ltb w.value c.value) (Two c w) (Two w c)

unfoldable pub offered_two : Offer → Offer → Offer → PartKept
unfolding second_of next_of
offered_two w r c = cond (ltb w.value c.value) (Two c (second_of w r)) (Two w (next_of r c))

-- what is kept after c
abbrev pub offered : PartKept → Offer → PartKept
offered Nobody c = One c
offered (One w) c = offered_one w c
offered (Two w r) c = offered_two w r c

-- ---- numbers in order: of the n numbers from a on, those inside are offered, each with its value
unfoldable pub walked : (ℕ → Bool) → (ℕ → ℕ) → PartKept → ℕ → ℕ → PartKept
walked inside value S a zero = S
walked inside value S a (suc n) = cond (inside (a + n)) (offered (walked inside value S a n) (record { value = value (a + n); number = a + n })) (walked inside value S a n)

-- ---- what is to be kept of the numbers below n
-- w is the winner: no number inside has a greater value, and of those with as great a value it is the first
pub record Wins (inside : ℕ → Bool) (value : ℕ → ℕ) (n : ℕ) (w : Offer) : Type 0 where
  pub under : w.number < n
  pub here : inside w.number ≡ true
  pub at : w.value ≡ value w.number
  pub most : (k : ℕ) → k < n → inside k ≡ true → value k ≤ w.value
  pub first : (k : ℕ) → k < n → inside k ≡ true → value k ≡ w.value → w.number ≤ k

-- r is the runner-up behind the number m: another number inside, no third has more hits, and of the others with as many it is the first
pub record RunsUp (inside : ℕ → Bool) (value : ℕ → ℕ) (n m : ℕ) (r : Offer) : Type 0 where
  pub under : r.number < n
  pub here : inside r.number ≡ true
  pub at : r.value ≡ value r.number
  pub other : r.number ≡ m → ⊥
  pub most : (k : ℕ) → k < n → inside k ≡ true → (k ≡ m → ⊥) → hits_of (value k) ≤ hits_in r
  pub first : (k : ℕ) → k < n → inside k ≡ true → (k ≡ m → ⊥) → hits_of (value k) ≡ hits_in r → r.number ≤ k

-- nobody where no number is inside; one where it is the only one; else the winner and the runner-up
abbrev pub Leads : (ℕ → Bool) → (ℕ → ℕ) → ℕ → PartKept → Type 0
Leads inside value n Nobody = (k : ℕ) → k < n → inside k ≡ true → ⊥
Leads inside value n (One w) = Wins inside value n w × ((k : ℕ) → k < n → inside k ≡ true → k ≡ w.number)
Leads inside value n (Two w r) = Wins inside value n w × RunsUp inside value n w.number r
