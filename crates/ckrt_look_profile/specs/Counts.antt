-- All that is counted, note by note: a thread that is met, a step of a thread, a thread that waits, and the end of a look at all who wait.
use Rattle.std.specs.Prelude.{ℕ, nat_lt, if◌then◌else◌, List, [], ◌∷◌}
use Rattle.ckrt_look_profile.specs.declared.counts.Note.{Note}
use Rattle.ckrt_look_profile.specs.declared.counts.Note.TheVariants as note
use Rattle.ckrt_look_profile.specs.declared.counts.Step.{Step}
use Rattle.ckrt_look_profile.specs.declared.stacks.Stacks as declared_stacks
use Rattle.ckrt_look_profile.specs.declared.stacks.TheConstants.{THREADS}
use Rattle.ckrt_look_profile.specs.declared.turn.Turn.TheVariants as turn
use Rattle.ckrt_look_profile.specs.declared.waits.Waits as declared_waits
use Rattle.ckrt_look_profile.specs.Stacks.{Stacks, met, no_stacks, stepped}
use Rattle.ckrt_look_profile.specs.Waits.{Waits, looked, no_waits, passed, waited}

abbrev pub stacks_in : declared_stacks.Stacks → Stacks
stacks_in s = record { rows = s.rows.items; unkept = s.unkept; frames = s.frames }

abbrev pub waits_in : declared_waits.Waits → Waits
waits_in w = record { rows = w.rows.items; unkept = w.unkept; since = w.since }

pub record Counts : Type 0 where
  pub stacks : Stacks
  pub waits : Waits

-- threads are 1 to 64; any other number counts as 0
abbrev pub number_of : (t : ℕ) → ℕ
number_of t = if nat_lt t THREADS then t else 0

-- behind a step of the thread with this number
abbrev pub behind_step : (t : ℕ) → Step → Counts → Counts
behind_step t s c = record {
  stacks = stepped 1 t s.pc s.turn c.stacks;
  waits = passed 1 c.waits;
}

abbrev pub behind : Note → Counts → Counts
behind (note.Met t p) c = record c { stacks = met (number_of t) p c.stacks }
behind (note.Step s) c = behind_step (number_of s.thread) s c
behind (note.Wait t a) c = record c { waits = waited t a c.waits }
behind note.Looked c = record c { waits = looked c.waits }

-- these notes in order
abbrev pub behind_all : List Note → Counts → Counts
behind_all [] c = c
behind_all (n ∷ ns) c = behind_all ns (behind n c)

-- steps of a thread at these addresses, from each of which it goes on in the same function
abbrev pub onward : (t : ℕ) → (pcs : List ℕ) → List Note
onward t [] = []
onward t (p ∷ ps) =
    note.Step (record { thread = t; pc = p; turn = turn.Onward }) ∷ onward t ps

-- nothing was done yet
abbrev pub nothing : Counts
nothing = record { stacks = no_stacks; waits = no_waits }
