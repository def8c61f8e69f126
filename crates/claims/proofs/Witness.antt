-- THAT THERE ARE CASES. On a small board, of periods 4 and 5, one list and one placing that leads and agrees with the physical winner, and that is best by
-- likelihood, clears a soft margin and leads: so no claim of demand 3 is true for want of a placing that meets its premises. The same of the exact mode.
use Rattle.std.specs.Prelude.{◌≡◌, refl, Bool, true, false, not, ◌&&◌, ◌||◌, List, ◌≢◌, ℕ, zero, suc, ◌%◌, ◌≤◌, ◌<◌, eqb, ltb, get_or, length, replicate, ℤ, pos, negsuc, neg_ℤ}
use Rattle.std.proofs.Common.{sym, ap, arith, eqb-true, ltb-true}
use Rattle.std.specs.Int.Signed.{lt_z}
use Rattle.std.specs.Float.{fin}
use Rattle.std.specs.Float.Ieee.{add, sub, div, of_int, le, lt, eq, sum, round}
use Rattle.std.proofs.lemmas.Bool.{not-true, not-false}
use Rattle.laws.specs.Words.{fold, first_from, first, emod, origins, zero_f}
use Rattle.laws.specs.First.{first-none}
use Rattle.board.specs.declared.edge.Placing.{Placing}
use Rattle.board.specs.Transform.{matrices, mat, mapped, lookup_of_ends, joined, lookup_of}
use Rattle.board.specs.Hits.{look, predicted, hit, hits}
use Rattle.board.specs.Domain.{ListOk, Patterns, BoardOk}
use Rattle.likelihood.specs.Likelihood.{half_up, quantised, dequantised}
use Rattle.sums.specs.Sums.{Likelihoods, likelihoods, score}
use Rattle.margin.specs.Margin.{below_margin}
use Rattle.soft.specs.BestPlacing.{OwnBest}
use Rattle.soft.specs.SelectLaws.{score_at_key}
use Rattle.checks.specs.Checks.{far, lengths_differ, size_bad, first_bad_coordinate}
use Rattle.ranges.specs.Ranges.{in_range, first_bad_byte, first_bad_confidence}
use Rattle.admission.specs.Accepted.{list-ok, bytes_ok}
use Rattle.figures.specs.Figures.{rate_of, no_confidence, confidence_to}
use Rattle.scan.specs.Scan.{over_limit}
use Rattle.hard.proofs.SelectTheorems.{hits_at_key}
use Rattle.demand.specs.Demand.{OnBoard, Leads, AgreesPhysical}
use Rattle.demand.specs.DemandLaws.{sole-leads}
use Rattle.demand.specs.AgreesLaws.{most-agrees}
use Rattle.soft_core.specs.SoftDemand.{margin_of, FirstByLikelihood, SecondByLikelihood, BestByLikelihood}
use Rattle.soft_core.specs.SoftPlaces.{best-by-rows}
use Rattle.unit_terms.specs.Values.{unit_of}
use Rattle.exact.specs.Select.{units_to}
use Rattle.exact_core.specs.ExactCore.{total_units}
use Rattle.exact_demand.specs.ExactDemand.{ExactWins}
use Rattle.exact_demand.proofs.ExactSelections.{leads-wins}
use Rattle.claims.specs.Case.{board, transforms, list, place}
use Rattle.claims.proofs.ExactClaims.{winner-exists}

-- ---- a test that holds for every number below n
abbrev Always : (ℕ → Bool) → ℕ → Type 0
Always p n = first (λ k. not (p k)) n ≡ n

always : (p : ℕ → Bool) (n : ℕ) → Always p n → (k : ℕ) → k < n → p k ≡ true
always p n e k l = not-false (p k) (first-none (λ i. not (p i)) n (omega arith) k l)

-- ---- hits: all five at the placing, fewer at every other
fewer : ℕ → ℕ → Bool
fewer p k = (eqb p 1 && eqb k 116) || ltb (hits_at_key board list transforms p k) 5

place-hits : hits_at_key board list transforms 1 116 ≡ 5
unfolding hits hit look predicted lookup_of joined mapped lookup_of_ends mat matrices emod fold
place-hits = refl

fewer-0 : Always (fewer 0) 180
unfolding fewer first first_from hits hit look predicted lookup_of joined mapped lookup_of_ends mat matrices emod fold
fewer-0 = refl

fewer-1 : Always (fewer 1) 180
unfolding fewer first first_from hits hit look predicted lookup_of joined mapped lookup_of_ends mat matrices emod fold
fewer-1 = refl

-- the other placings, by list position and key
others-fewer : (p k : ℕ) → p < 2 → k < 180 → ((p ≡ 1) × (k ≡ 116) → ⊥) → hits_at_key board list transforms p k < 5
unfolding fewer
others-fewer zero k h l n = ltb-true _ _ (always (fewer 0) 180 fewer-0 k l)
others-fewer (suc zero) k h l n = go (eqb k 116) refl (always (fewer 1) 180 fewer-1 k l)
  where
    go : (b : Bool) → eqb k 116 ≡ b → (b || ltb (hits_at_key board list transforms 1 k) 5) ≡ true → hits_at_key board list transforms 1 k < 5
    go true e t = absurd (n (refl, eqb-true k 116 e))
    go false e t = ltb-true _ _ t
others-fewer (suc (suc p)) k h l n = absurd (omega arith)

-- ---- the list and the board are in the domain
list-good : ListOk list
unfolding lengths_differ size_bad first_bad_coordinate first_bad_byte far first_bad_confidence in_range first first_from le
list-good = list-ok 1 list (record { lengths = refl; sizes = refl; coordinates = refl; orientations = refl; bits = refl; confidences = refl })

few-patterns : (ps : List ℕ) → 3 < length ps → length ps ≤ 500 → length ps % 3 ≢ 0 → ltb (first_bad_byte 7 ps) (length ps) ≡ false → Patterns ps
few-patterns ps a b c d = record { some = a; few = b; free = c; small = λ i l. let m = bytes_ok 7 ps d i l in omega arith }

board-good : BoardOk board
unfolding first_bad_byte first first_from
board-good = record {
  h = few-patterns board.h (omega arith) (omega arith) (λ z. omega arith) refl;
  v = few-patterns board.v (omega arith) (omega arith) (λ z. omega arith) refl;
}

on-board : OnBoard board transforms place
on-board = record { in_list = omega arith; row = omega arith; col = omega arith }

-- ONE PLACING LEADS: it is within an error limit of 0, and beats the hits of every other by more than its misses, which are none
pub leads : Leads board list transforms zero_f place
unfolding over_limit rate_of lt div of_int
leads = sole-leads board board-good transforms list zero_f place on-board (record {
  listed = omega arith;
  key = omega arith;
  allowed = rw place-hits refl;
  ahead = λ q j h l n. let o = others-fewer q j h l n in omega (arith, place-hits);
})

-- ---- the physical list: here the same edges
some-confidence : no_confidence list ≡ false
unfolding no_confidence confidence_to fold eq add sum round
some-confidence = refl

-- AND IT AGREES WITH THE WINNER OF THE PHYSICAL LIST, for it has more hits there than every other
pub agrees : AgreesPhysical board list transforms place
agrees = most-agrees board list transforms board-good list-good (omega arith) (omega arith) some-confidence place on-board (λ Q o n. let l = leads.ahead Q o n in omega arith)

-- EXACT: both lists have units, and whoever leads has the winner's transform and origin
pub some-units : 0 < total_units list
unfolding units_to fold unit_of quantised half_up
some-units = omega arith

pub exact-agrees : ExactWins board list transforms place
exact-agrees =
    let w = winner-exists board list transforms board-good list-good (omega arith) in
    let s = leads-wins board list transforms zero_f place w.0 leads w.1 in
    record { winner = w.0; wins = w.1; square = (ap (λ (i : ℕ). get_or transforms i 0) (sym s.0), sym s.1, sym s.2) }

-- ---- soft: a hit adds nothing, a miss takes away 1
abbrev pub odds : Likelihoods
odds = likelihoods (replicate 5 zero_f) (replicate 5 (fin true 1 (pos 0)))

-- the second by likelihood: transform 0 at row 0, column 1
abbrev pub second : Placing
second = record { listed = 0; row = 0; col = 1 }

-- the sum of a placing, by list position and key
abbrev S : ℕ → ℕ → ℤ
S p k = score_at_key board list odds transforms p k

sum-place : S 1 116 ≡ pos 0
unfolding score hit look predicted lookup_of joined mapped lookup_of_ends mat matrices emod fold quantised half_up
sum-place = refl

sum-second : S 0 1 ≡ negsuc 16777215
unfolding score hit look predicted lookup_of joined mapped lookup_of_ends mat matrices emod fold quantised half_up
sum-second = refl

-- ---- whole sums: none is above the placing's, and each of transform 0 is at most the second's
smaller-0 : Always (λ i. lt_z (S 0 i) (pos 0)) 180
unfolding first first_from score hit look predicted lookup_of joined mapped lookup_of_ends mat matrices emod fold quantised half_up
smaller-0 = refl

not-above-1 : Always (λ i. not (lt_z (pos 0) (S 1 i))) 180
unfolding first first_from score hit look predicted lookup_of joined mapped lookup_of_ends mat matrices emod fold quantised half_up
not-above-1 = refl

smaller-1 : Always (λ i. lt_z (S 1 i) (pos 0)) 116
unfolding first first_from score hit look predicted lookup_of joined mapped lookup_of_ends mat matrices emod fold quantised half_up
smaller-1 = refl

not-above-second : Always (λ i. not (lt_z (negsuc 16777215) (S 0 i))) 180
unfolding first first_from score hit look predicted lookup_of joined mapped lookup_of_ends mat matrices emod fold quantised half_up
not-above-second = refl

smaller-second : Always (λ i. lt_z (S 0 i) (negsuc 16777215)) 1
unfolding first first_from score hit look predicted lookup_of joined mapped lookup_of_ends mat matrices emod fold quantised half_up
smaller-second = refl

-- ---- totals: the same as floats
total-0 : Always (λ i. lt (dequantised (S 0 i)) (dequantised (pos 0))) 180
unfolding first first_from score hit look predicted lookup_of joined mapped lookup_of_ends mat matrices emod fold quantised half_up dequantised round lt
total-0 = refl

total-not-0 : Always (λ i. not (lt (dequantised (pos 0)) (dequantised (S 0 i)))) 180
unfolding first first_from score hit look predicted lookup_of joined mapped lookup_of_ends mat matrices emod fold quantised half_up dequantised round lt
total-not-0 = refl

total-not-1 : Always (λ i. not (lt (dequantised (pos 0)) (dequantised (S 1 i)))) 180
unfolding first first_from score hit look predicted lookup_of joined mapped lookup_of_ends mat matrices emod fold quantised half_up dequantised round lt
total-not-1 = refl

total-second-0 : Always (λ i. not (lt (dequantised (negsuc 16777215)) (dequantised (S 0 i)))) 180
unfolding first first_from score hit look predicted lookup_of joined mapped lookup_of_ends mat matrices emod fold quantised half_up dequantised round lt
total-second-0 = refl

total-second-1 : Always (λ i. eqb i 116 || not (lt (dequantised (negsuc 16777215)) (dequantised (S 1 i)))) 180
unfolding first first_from score hit look predicted lookup_of joined mapped lookup_of_ends mat matrices emod fold quantised half_up dequantised round lt
total-second-1 = refl

-- ---- first and second place
place-own : OwnBest (origins 4 5) (S 1) 116
place-own = record {
  key = omega arith;
  largest = λ i l. rw sum-place (not-true _ (always (λ k. not (lt_z (pos 0) (S 1 k))) 180 not-above-1 i l));
  first = λ i l. rw sum-place (always (λ k. lt_z (S 1 k) (pos 0)) 116 smaller-1 i l);
}

second-own : OwnBest (origins 4 5) (S 0) 1
second-own = record {
  key = omega arith;
  largest = λ i l. rw sum-second (not-true _ (always (λ k. not (lt_z (negsuc 16777215) (S 0 k))) 180 not-above-second i l));
  first = λ i l. rw sum-second (always (λ k. lt_z (S 0 k) (negsuc 16777215)) 1 smaller-second i l);
}

no-greater : (r i : ℕ) → r < 2 → i < 180 → lt (dequantised (S 1 116)) (dequantised (S r i)) ≡ false
no-greater zero i h l = rw sum-place (not-true _ (always (λ k. not (lt (dequantised (pos 0)) (dequantised (S 0 k)))) 180 total-not-0 i l))
no-greater (suc zero) i h l = rw sum-place (not-true _ (always (λ k. not (lt (dequantised (pos 0)) (dequantised (S 1 k)))) 180 total-not-1 i l))
no-greater (suc (suc r)) i h l = absurd (omega arith)

earlier-smaller : (r i : ℕ) → r < 1 → i < 180 → lt (dequantised (S r i)) (dequantised (S 1 116)) ≡ true
earlier-smaller zero i h l = rw sum-place (always (λ k. lt (dequantised (S 0 k)) (dequantised (pos 0))) 180 total-0 i l)
earlier-smaller (suc r) i h l = absurd (omega arith)

no_third : (r i : ℕ) → r < 2 → i < 180 → ((r ≡ 1) × (i ≡ 116) → ⊥) → lt (dequantised (S 0 1)) (dequantised (S r i)) ≡ false
no_third zero i h l n = rw sum-second (not-true _ (always (λ k. not (lt (dequantised (negsuc 16777215)) (dequantised (S 0 k)))) 180 total-second-0 i l))
no_third (suc zero) i h l n = rw sum-second (go (eqb i 116) refl (always (λ k. eqb k 116 || not (lt (dequantised (negsuc 16777215)) (dequantised (S 1 k)))) 180 total-second-1 i l))
  where
    go : (b : Bool) → eqb i 116 ≡ b → (b || not (lt (dequantised (negsuc 16777215)) (dequantised (S 1 i)))) ≡ true → lt (dequantised (negsuc 16777215)) (dequantised (S 1 i)) ≡ false
    go true e t = absurd (n (refl, eqb-true i 116 e))
    go false e t = not-true _ t
no_third (suc (suc r)) i h l n = absurd (omega arith)

-- IT IS BEST BY LIKELIHOOD
pub best : BestByLikelihood board list odds transforms place second
best = record {
  on-board = on-board;
  second_on = record { in_list = omega arith; row = omega arith; col = omega arith };
  first = record { listed = omega arith; own = place-own; greatest = no-greater; earliest = earlier-smaller };
  second = record {
    listed = omega arith;
    key = omega arith;
    other = λ e. omega (arith, e.0);
    greatest = no_third;
    earliest = λ r i h l n. absurd (omega arith);
    elsewhere = λ n. second-own;
    inside = λ e. absurd (omega (arith, e));
  };
}

-- and so by rows and columns
pub first-and-second : FirstByLikelihood board list odds transforms place × SecondByLikelihood board list odds transforms place second
first-and-second = best-by-rows board list odds transforms board-good place second best

-- IT CLEARS A SOFT MARGIN OF 1/8: (0 - (-1)) / 5 is not below it. On the logical list, here the same edges, it leads (`leads`)
pub clears : below_margin (margin_of board list odds transforms place second) (fin false 1 (neg_ℤ (pos 3))) ≡ false
unfolding score hit look predicted lookup_of joined mapped lookup_of_ends mat matrices emod fold quantised half_up dequantised round lt sub div of_int sum
clears = refl

-- What was computed, by the checker over the definitions: the hits and the likelihood sum of each of the 2 * 180 placings, edge by edge, the rate, the total
-- confidence and the margin; that list and board are in the domain. What is cited: that a lead by keys is a lead by rows and columns (`sole-leads`), and that a
-- placing with more hits than every other agrees with the physical winner, whatever the weights (`most-agrees`), so that no table and no weight is computed.
