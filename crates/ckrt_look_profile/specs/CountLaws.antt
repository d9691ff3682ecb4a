-- Each step counts once.
use Rattle.std.specs.Prelude.{◌≡◌, ◌<◌, ℕ, ◌+◌, ◌^◌, List, [], ◌∷◌}
use Rattle.std.specs.List.{sum_by}
use Rattle.ckrt_look_profile.specs.declared.counts.Note.{Note}
use Rattle.ckrt_look_profile.specs.declared.counts.Note.TheVariants as note
use Rattle.ckrt_look_profile.specs.Counts.{Counts, behind_all, nothing}

-- how many steps were made
abbrev pub steps_in : List Note → ℕ
steps_in [] = 0
steps_in (note.Met t p ∷ ns) = steps_in ns
steps_in (note.Step s ∷ ns) = 1 + steps_in ns
steps_in (note.Wait t a ∷ ns) = steps_in ns
steps_in (note.Looked ∷ ns) = steps_in ns

-- so many steps: by stack, and by thread
pub record CountsSteps (c : Counts) (n : ℕ) : Type 0 where
  pub by_stack : sum_by (λ r. r.steps) c.stacks.rows + c.stacks.unkept ≡ n
  pub by_thread : sum_by (λ f. f.steps) c.stacks.frames ≡ n

-- EACH STEP COUNTS ONCE, on its stack and for its thread, so the sums of what is counted are the steps
abbrev pub EachStepCountsOnce : Type 0
EachStepCountsOnce =
    (ns : List Note) → steps_in ns < 2 ^ 64
    → CountsSteps (behind_all ns nothing) (steps_in ns)
