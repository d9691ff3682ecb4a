-- What a thread does at each step of runs and events. The steps of all runs are the axis of time: an event that is no run takes none of it.
use Rattle.std.specs.Prelude.{◌≡◌, ◌≤◌, ◌<◌, ℕ, zero, suc, ◌+◌, ◌-◌, List, [], ◌∷◌, ◌++◌, length, replicate, Option, Some, None}
use Rattle.ckrt_events.specs.declared.event.Event.{Event}
use Rattle.ckrt_events.specs.declared.event.Event.TheVariants.{Run, RunLong}
use Rattle.ckrt_machine.specs.Events.{Machine, step}
use Rattle.ckrt_machine.specs.declared.event.RunEnd.{RunEnd}
use Rattle.ckrt_machine.specs.Runs.{stop_of, with_byte}
use Rattle.ckrt_machine.specs.Steps.{State, Stepped, hart_step}
use Rattle.ckrt_look_calls.specs.Events.{state_behind}
use Rattle.ckrt_look_timeline.specs.declared.piece.Activity.{Activity}
use Rattle.ckrt_look_timeline.specs.declared.timeline.Timeline.{Timeline}
use Rattle.ckrt_look_timeline.specs.Activities.{activity_of}
use Rattle.ckrt_look_timeline.specs.Pieces.{AreMaximal, laid, pieces_at}

-- what more is done, unless the run has ended
abbrev pub unless_ended : Option RunEnd → List Activity → List Activity
unless_ended None more = more
unless_ended (Some how) more = []

-- what is done behind a step
abbrev pub behind_step : (State → List ℕ → List Activity) → ℕ → List ℕ → Stepped → List Activity
behind_step more h out e =
    unless_ended (stop_of h e.state.tables (with_byte e.put out)) (more e.state (with_byte e.put out))

-- by thread t, at n steps at most of the thread on hart h, where the bytes out were put before
abbrev pub in_run : (t n h : ℕ) → State → List ℕ → List Activity
in_run t zero h s out = []
in_run t (suc n) h s out =
    activity_of h t s.tables.threads ∷ behind_step (in_run t n h) h out (hart_step h s)

-- the same behind a step: unless that ended the run
abbrev pub in_rest : (t n h : ℕ) → State → List ℕ → List Activity
in_rest t n h s out = unless_ended (stop_of h s.tables out) (in_run t n h s out)

abbrev pub in_event : (t : ℕ) → Event → State → List Activity
in_event t (Run h n) s = in_run t n h s []
in_event t (RunLong h n) s = in_run t n h s []
in_event t e s = []

abbrev pub in_events : (t : ℕ) → List Event → State → List Activity
in_events t [] s = []
in_events t (e ∷ es) s = in_event t e s ++ in_events t es (step e s).state

-- how many steps an event makes: at each of them each thread does something, also the first
abbrev pub steps_in : Event → State → ℕ
steps_in e s = length (in_event 1 e s)

-- behind how many steps each of the events begins, the first behind x
abbrev pub begins_of : (x : ℕ) → List Event → State → List ℕ
begins_of x [] s = []
begins_of x (e ∷ es) s = x ∷ begins_of (x + steps_in e s) es (step e s).state

-- numbers that are no greater than this
abbrev pub AreUpTo : (most : ℕ) → List ℕ → Type 0
AreUpTo most [] = Unit {0}
AreUpTo most (x ∷ xs) = (x ≤ most) × AreUpTo most xs

-- A TIMELINE: thread i + 1 is at index i

abbrev pub THREADS : ℕ
THREADS = 64

-- what a thread did at each step
abbrev pub track_in : Timeline → (i : ℕ) → List Activity
track_in z i = laid (pieces_at z.tracks.items i)

-- it has pieces of each thread, which fill the same steps
pub record IsWhole (z : Timeline) : Type 0 where
  pub threads : length z.tracks.items ≡ THREADS
  pub maximal : (i : ℕ) → i < THREADS → AreMaximal (pieces_at z.tracks.items i)
  pub even : (i : ℕ) → i < THREADS → length (track_in z i) ≡ z.steps

-- it has what each thread did behind that
pub record GoesOn (more : (i : ℕ) → List Activity) (old new : Timeline) : Type 0 where
  pub whole : IsWhole new
  pub tracks : (i : ℕ) → i < THREADS → track_in new i ≡ track_in old i ++ more i

-- some steps of a run were made, at most so many, and at each of them each thread did what it does at the first
pub record GoesAlike (limit made h : ℕ) (old new : Machine) : Type 0 where
  pub some : 1 ≤ made
  pub within : made ≤ limit
  pub state : state_behind (limit - made) h new.state new.output ≡ state_behind limit h old.state old.output
  pub alike : (t : ℕ) → in_rest t limit h old.state old.output
      ≡ replicate made (activity_of h t old.state.tables.threads) ++ in_rest t (limit - made) h new.state new.output
