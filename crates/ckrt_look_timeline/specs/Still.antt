-- What a quiet step leaves as it is.
use Rattle.std.specs.Prelude.{◌≡◌, ℕ, Option, Some, None}
use Rattle.ckrt_thread.specs.State as threads
use Rattle.ckrt_thread.specs.declared.records.Thread.{Thread}
use Rattle.ckrt_thread.specs.declared.records.Thread.TheVariants as thread

-- what an id stands for, whatever registers it has: nothing, a thread that has ended with a value, or one that hasn't
abbrev pub standing : Option Thread → Option (Option ℕ)
standing None = None
standing (Some (thread.Ended v)) = Some (Some v)
standing (Some (thread.Live l)) = Some None

-- the same threads are there, on the same harts, and wait as they did
pub record IsStill (old new : threads.State) : Type 0 where
  pub waits : new.waits ≡ old.waits
  pub harts : new.harts ≡ old.harts
  pub stand : (t : ℕ) → standing (threads.thread_of new t) ≡ standing (threads.thread_of old t)
