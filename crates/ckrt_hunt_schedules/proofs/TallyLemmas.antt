-- Rows of a tally, and seeds one after another.
use Rattle.std.proofs.Common.{◌≡◌, ◌≢◌, ◌∙◌, ℕ, suc, ◌+◌, ◌-◌, ◌≤◌, Some, List, ap, subst, arith, below_more, slice_get}
use Rattle.ckrt_hunt_schedules.specs.declared.group.Group.{Group}
use Rattle.ckrt_hunt_schedules.specs.declared.kind.Kind.{Kind}
use Rattle.ckrt_hunt_schedules.specs.declared.row.Row.{Row}
use Rattle.ckrt_hunt_schedules.specs.declared.runs.Finished.{Finished}
use Rattle.ckrt_hunt_schedules.specs.declared.runs.Told.{Told}
use Rattle.ckrt_hunt_schedules.specs.declared.tally.Tally.{Tally}
use Rattle.ckrt_hunt_schedules.specs.Tallies.{AreNoted, HasNone, Hunted, IsNoted, IsNotedIn, SeedEndsWith, group_of, with_group}
use Rattle.ckrt_hunt_schedules.specs.Kinds.{kind_of}

-- one row more has another outcome
pub none_on : (told : Told) (rows : List Row) (k : ℕ) (r : Row) → slice_get rows k ≡ Some r → r.told ≢ told → HasNone told rows k → HasNone told rows (k + 1)
none_on told rows k r e n h =
    below_more (λ (j : ℕ). (s : Row) → slice_get rows j ≡ Some s → s.told ≢ told) k h
    (λ s g t. let same : r ≡ s = cc in n (ap (λ (x : Row). x.told) same ∙ t))

-- a run of this kind was noted
pub noted_as : (seed : ℕ) (run : Finished) (k : Kind) (g : Group) (old new : Tally) → k ≡ kind_of run.told.outcome → IsNotedIn seed run (group_of k old) g → new ≡ with_group k g old → IsNoted seed run old new
noted_as seed run k g old new e n is = record {
  group = g;
  noted = subst (λ (j : Kind). IsNotedIn seed run (group_of j old) g) e n;
  is = is ∙ ap (λ (j : Kind). with_group j g old) e;
}

-- one seed more
pub noted_on : (h : Hunted) (first seed : ℕ) (run : Finished) (old before tally : Tally) → first ≤ seed → AreNoted h first (seed - first) old before → SeedEndsWith h seed run → IsNoted seed run before tally → AreNoted h first (seed + 1 - first) old tally
noted_on h first seed run old before tally l i c n =
    let more : seed + 1 - first ≡ suc (seed - first) = omega arith in
    let same : seed ≡ first + (seed - first) = omega arith in
    rw more (record {
      before = before;
      was_so = i;
      run = run;
      ends = subst (λ (k : ℕ). SeedEndsWith h k run) same c;
      noted = subst (λ (k : ℕ). IsNoted k run before tally) same n;
    })
