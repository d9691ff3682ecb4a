-- Where a motion stops. gdb wants a watch told before the step that meets it where it goes on, and after that step where it goes
-- back (gdb's manual, Remote Protocol, "Stop Reply Packets"; the sides are those of its RISC-V target).
use Rattle.std.specs.Prelude.{◌≡◌, ◌⊎◌, ◌==◌, ℕ, Bool, true, false, Option, Some, None, List, [], ◌∷◌, ◌++◌}
use Rattle.std.specs.List.{AllByRecursion}
use Rattle.ckrt_events.specs.declared.event.Event.{Event}
use Rattle.ckrt_machine.specs.Steps.{State}
use Rattle.ckrt_gdb_history.specs.declared.position.Position.{Position}
use Rattle.ckrt_gdb_history.specs.declared.stop.Stops.{Stops}
use Rattle.ckrt_gdb_history.specs.declared.stop.Watch.{Watch}
use Rattle.ckrt_gdb_history.specs.Positions.{History, IsGreatest, IsLeast, NoneBefore, NoneBehind, next_position, previous_position}
use Rattle.ckrt_gdb_history.specs.Stops.{HasMet, IsStop, Runner, runner_at}
use Rattle.ckrt_gdb_playback.specs.declared.going.Way.{Way}
use Rattle.ckrt_gdb_playback.specs.declared.going.Way.TheVariants.{On, StepOn, Back, StepBack}
use Rattle.ckrt_gdb_playback.specs.declared.motion.Found.{Found}
use Rattle.ckrt_gdb_playback.specs.declared.motion.Found.TheVariants.{Met, Halted, Stepped, Nothing}
use Rattle.ckrt_gdb_playback.specs.declared.limits.Bounds.{Bounds}
use Rattle.ckrt_gdb_playback.specs.Limits.{IsEndBack, IsEndOn}

-- the step that led to a position met a watch
abbrev pub MeetsWatch : Stops → History → Position → Type 0
MeetsWatch stops h p = HasMet stops.watches.items p h.events h.start

-- it met this watch
abbrev pub IsMetUnder : Position → List Event → State → Watch → Type 0
IsMetUnder p events start w = HasMet (w ∷ []) p events start

-- the first of these watches that it met is this one
pub record IsFirstMet (watch : Watch) (watches : List Watch) (p : Position) (events : List Event) (start : State)
    : Type 0 where
  pub earlier : List Watch
  pub later : List Watch
  pub split : watches ≡ earlier ++ watch ∷ later
  pub met : IsMetUnder p events start watch
  pub first : AllByRecursion (λ w. IsMetUnder p events start w → ⊥) earlier

-- and this one is the first that it met
abbrev pub HasMetFirst : Watch → Stops → History → Position → Type 0
HasMetFirst watch stops h p =
    MeetsWatch stops h p × IsFirstMet watch stops.watches.items p h.events h.start

-- the same history at another position
abbrev pub at : Position → History → History
at p h = record h { position = p }

-- a stop here, or before the step that led here, where that met a watch
abbrev pub HasHalted : Stops → (h z : History) → Found → Type 0
HasHalted stops h z (Met watch) =
    HasMetFirst watch stops h h.position × (z ≡ at (previous_position h.position h.events h.start) h)
HasHalted stops h z Halted = (MeetsWatch stops h h.position → ⊥) × (z ≡ h)
HasHalted stops h z _ = ⊥

-- ON: the least position behind this one, and up to `last`, with a reason to stop; before the step that led there, where that met a
-- watch
abbrev pub WentOn : Stops → (last : Position) → (h z : History) → Found → Type 0
WentOn stops last h z (Met watch) =
    (q : Position) × IsLeast (IsStop stops h) h.position last q h × HasMetFirst watch stops h q
    × (z ≡ at (previous_position q h.events h.start) h)
WentOn stops last h z Halted =
    (z ≡ at z.position h) × IsLeast (IsStop stops h) h.position last z.position h
    × (MeetsWatch stops h z.position → ⊥)
WentOn stops last h z Stepped = ⊥
WentOn stops last h z Nothing = (z ≡ at last h) × NoneBehind (IsStop stops h) h.position last h

-- BACK: here, where the step that led here met a watch; else the greatest position before this one, and from `first` on, with a
-- reason to stop
abbrev pub WentBack : Stops → (first : Position) → (h z : History) → Found → Type 0
WentBack stops first h z (Met watch) =
    ((z ≡ h) × HasMetFirst watch stops h h.position)
    ⊎ ((z ≡ at z.position h) × IsGreatest (IsStop stops h) first h.position z.position h
    × HasMetFirst watch stops h z.position)
WentBack stops first h z Halted =
    (z ≡ at z.position h) × (MeetsWatch stops h h.position → ⊥)
    × IsGreatest (IsStop stops h) first h.position z.position h
    × (MeetsWatch stops h z.position → ⊥)
WentBack stops first h z Stepped = ⊥
WentBack stops first h z Nothing =
    (z ≡ at first h) × (MeetsWatch stops h h.position → ⊥)
    × NoneBefore (IsStop stops h) first h.position h

-- STEPS OF A THREAD

-- whether the next step is a thread's
abbrev pub is_next_in : ℕ → Option Runner → Bool
is_next_in t None = false
is_next_in t (Some r) = r.0 == t

abbrev pub is_next : ℕ → History → Bool
is_next t h = is_next_in t (runner_at h.position h.events h.start)

-- the same stops, and before each step of a thread
abbrev pub and_steps_of : ℕ → Stops → Stops
and_steps_of t stops = record stops { thread = Some t }

-- on to before the thread's next step, if that isn't the next one already
abbrev pub WentToStep : ℕ → Stops → (last : Position) → (h z : History) → Found → Type 0
WentToStep t stops last h z found =
    ((is_next t h ≡ true) × (z ≡ h) × (found ≡ Halted))
    ⊎ ((is_next t h ≡ false) × WentOn (and_steps_of t stops) last h z found)

-- nothing stopped it before, and the thread's step is next
abbrev pub IsStepping : ℕ → History → Found → Type 0
IsStepping t h Halted = is_next t h ≡ true
IsStepping t h _ = ⊥

-- the thread's step led here; or a stop before it, where it met a watch
abbrev pub HasStepped : Stops → (h z : History) → Found → Type 0
HasStepped stops h z (Met watch) = HasHalted stops h z (Met watch)
HasStepped stops h z Stepped = HasHalted stops h z Halted
HasStepped stops h z _ = ⊥

-- and then after that step, or before it where it meets a watch
abbrev pub SteppedOn : ℕ → Stops → (last : Position) → (h z : History) → Found → Type 0
SteppedOn t stops last h z found =
    (before : History) × (halt : Found) × WentToStep t stops last h before halt
    × ((IsStepping t before halt
    × HasStepped stops (at (next_position before.position before.events before.start) before) z found)
    ⊎ ((IsStepping t before halt → ⊥) × (z ≡ before) × (found ≡ halt)))

-- MOTIONS, within bounds

abbrev pub Moved : Bounds → Way → Stops → (h z : History) → Found → Type 0
Moved bounds On stops h z found = (end : Position) × IsEndOn bounds h end × WentOn stops end h z found
Moved bounds (StepOn t) stops h z found =
    (end : Position) × IsEndOn bounds h end × SteppedOn t stops end h z found
Moved bounds Back stops h z found =
    (end : Position) × IsEndBack bounds h end × WentBack stops end h z found
Moved bounds (StepBack t) stops h z found =
    (end : Position) × IsEndBack bounds h end × WentBack (and_steps_of t stops) end h z found
