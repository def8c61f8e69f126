-- THE DOMAIN of an exact call: hard decode's conditions, with room of u32 and of u64. Accepted exactly when all are met, and else refused by the number of the first that is not: hard decode's laws,
-- since of room they know the lengths alone.
use Rattle.std.specs.Prelude.{◌≡◌, List, ℕ, length, replicate, Err}
use Rattle.std.proofs.Math.Path.{subst}
use Rattle.std.proofs.lemmas.List.{length-replicate}
use Rattle.laws.specs.Words.{zero_f}
use Rattle.refusals.specs.declared.Refusal.{Refusal}
use Rattle.refusals.specs.Admission.{Admission, accepted}
use Rattle.room.specs.Room.{tables_for}
use Rattle.admission.specs.Calls.{HardCall, HardRoom}
use Rattle.admission.specs.Refusals.{hard_admission}
use Rattle.admission.specs.Conditions.{Condition, AllMet, FirstFails}
use Rattle.admission.specs.Domain.{Between, PoleLength, Lent, early, hard_early}
use Rattle.admission.proofs.DomainLaws.{hard-domain, hard-first}

-- the room that an exact call is lent
pub record ExactRoom : Type 0 where
  pub counts : List ℕ
  pub units : List ℕ

-- what the checks say of the call: hard decode's, by the lengths of the room
abbrev pub exact_checked : HardCall → ExactRoom → Admission
exact_checked call room = hard_admission call (length room.counts) (length room.units)

-- the conditions with m places of u32 room and n of u64 room: "9L+1,503 u32" and as many u64, "Error limit: f32 from 0 to 1"
unfoldable pub exact_early_by : HardCall → ℕ → ℕ → List Condition
exact_early_by call m n =
    early (λ P. P call.logical × P call.physical) 1 call.transforms PoleLength call.board (Lent tables_for (length call.board.h) m × Lent tables_for (length call.board.h) n) (Unit {0}) (Unit {0})
    (Between 0 1 call.error_limit)

-- an exact call with its room
abbrev pub exact_early : HardCall → ExactRoom → List Condition
exact_early call room = exact_early_by call (length room.counts) (length room.units)

module _ (call : HardCall) (room : ExactRoom) where
  -- f32 room as long as the u64 room, for hard decode's laws
  abbrev as_long : HardRoom
  as_long = record { counts = room.counts; weights = replicate (length room.units) zero_f }

  -- with n places of u64 room: accepted exactly when all conditions are met
  abbrev Judged : ℕ → Type 0
  Judged n =
      (hard_admission call (length room.counts) n ≡ accepted → AllMet (exact_early_by call (length room.counts) n))
      × (AllMet (exact_early_by call (length room.counts) n) → hard_admission call (length room.counts) n ≡ accepted)

  -- EXACT: accepted exactly when all conditions are met
  pub exact-domain : (exact_checked call room ≡ accepted → AllMet (exact_early call room)) × (AllMet (exact_early call room) → exact_checked call room ≡ accepted)
  unfolding hard_early exact_early_by
  exact-domain = subst Judged (length-replicate (length room.units) zero_f) (hard-domain call as_long)

  -- and else refused by the number of the first that is not
  pub exact-first : (r : Refusal) → exact_checked call room ≡ Err r → FirstFails (exact_early call room) r.number
  unfolding hard_early exact_early_by
  exact-first =
      subst (λ (n : ℕ). (r : Refusal) → hard_admission call (length room.counts) n ≡ Err r → FirstFails (exact_early_by call (length room.counts) n) r.number) (length-replicate (length room.units) zero_f)
      (hard-first call as_long)
