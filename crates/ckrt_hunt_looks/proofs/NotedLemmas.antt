-- Seeds that are looked at, one after another.
use Rattle.std.proofs.Common.{◌≡◌, ℕ, suc, ◌+◌, ◌-◌, ◌≤◌, subst, sym, arith}
use Rattle.ckrt_hunt_schedules.specs.Tallies.{Hunted}
use Rattle.ckrt_hunt_looks.specs.Looks.{AreLookedAt, IsHuntOf, IsLookedAt, LookHunted, Looking, SeedFills}

-- one seed more
pub looked_on : {L T : Type 0} (k : Looking L T) (h : Hunted) (first seed : ℕ) (old before new : T) → first ≤ seed → AreLookedAt k h first (seed - first) old before → IsLookedAt k h seed before new → AreLookedAt k h first (seed + 1 - first) old new
looked_on k h first seed old before new l i a =
    let more : seed + 1 - first ≡ suc (seed - first) = omega arith in
    let same : seed ≡ first + (seed - first) = omega arith in
    rw more (record {
      before = before;
      was_so = i;
      looked_at = subst (λ (n : ℕ). IsLookedAt k h n before new) same a;
    })

-- A HUNT THAT IS AS IT WAS

pub ready_for : {L T : Type 0} (k : Looking L T) (room : ℕ) (h : Hunted) (it : LookHunted L) → IsHuntOf k room h it → IsHuntOf k it.room it.hunt it
ready_for k room h it is = subst (λ n. IsHuntOf k n it.hunt it) (sym is.room) (subst (λ (p : Hunted). IsHuntOf k room p it) (sym is.hunt) is)

-- of what it was before
pub same_again : {L T : Type 0} (k : Looking L T) (room : ℕ) (h : Hunted) (it new : LookHunted L) → IsHuntOf k room h it → IsHuntOf k it.room it.hunt new → IsHuntOf k room h new
same_again k room h it new is again = subst (λ n. IsHuntOf k n h new) is.room (subst (λ (p : Hunted). IsHuntOf k it.room p new) is.hunt again)

pub same_fills : {L T : Type 0} (k : Looking L T) (room : ℕ) (h : Hunted) (it : LookHunted L) (seed : ℕ) → IsHuntOf k room h it → SeedFills k it.room it.hunt seed → SeedFills k room h seed
same_fills k room h it seed is fills = subst (λ n. SeedFills k n h seed) is.room (subst (λ (p : Hunted). SeedFills k it.room p seed) is.hunt fills)
