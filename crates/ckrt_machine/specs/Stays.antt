-- What events leave as it is: a thread that is ready, a thread on its hart, and the clock.
use Rattle.std.specs.Prelude.{◌≡◌, ◌+◌, ◌==◌, ℕ, Bool, true, false, slice_get}
use Rattle.std.specs.Option.{option_flatten}
use Rattle.ckrt_thread.specs.State as threads
use Rattle.ckrt_events.specs.declared.event.Event.{Event}
use Rattle.ckrt_events.specs.declared.event.Event.TheVariants.{Place, Run, Tick, RunLong}
use Rattle.ckrt_machine.specs.Events.{step}
use Rattle.ckrt_machine.specs.Steps.{State}

-- the event puts this thread onto a hart
abbrev pub is_placing : ℕ → Event → Bool
is_placing t (Place h u) = t == u
is_placing t _ = false

-- a ready thread is ready after each event but one that puts it onto a hart
abbrev pub StayReady : Type 0
StayReady =
    (t : ℕ) (e : Event) (s : State) → threads.is_ready s.tables.threads t ≡ true
    → is_placing t e ≡ false → threads.is_ready (step e s).state.tables.threads t ≡ true

-- a thread that hasn't ended, and doesn't wait, is on this hart and on no other
pub record IsOnHart (t g : ℕ) (s : threads.State) : Type 0 where
  pub live : threads.is_live s t ≡ true
  pub waits : threads.is_waiting s t ≡ false
  pub harts : (h : ℕ) → threads.holds t (option_flatten (slice_get s.harts h)) ≡ (g == h)

-- the event puts a thread onto this hart, or runs the one that is there
abbrev pub is_of_hart : ℕ → Event → Bool
is_of_hart g (Place h u) = g == h
is_of_hart g (Run h n) = g == h
is_of_hart g (RunLong h n) = g == h
is_of_hart g _ = false

-- a thread on a hart is there after each event but one of that hart, or one that puts it onto another
abbrev pub StayOnHart : Type 0
StayOnHart =
    (t g : ℕ) (e : Event) (s : State) → IsOnHart t g s.tables.threads → is_of_hart g e ≡ false
    → is_placing t e ≡ false → IsOnHart t g (step e s).state.tables.threads

-- the ticks of an event
abbrev pub ticks_of : Event → ℕ
ticks_of (Tick k) = k
ticks_of _ = 0

-- the clock goes on by ticks alone
abbrev pub ClockGoesByTicks : Type 0
ClockGoesByTicks =
    (e : Event) (s : State) → (step e s).state.tables.clock ≡ s.tables.clock + ticks_of e
