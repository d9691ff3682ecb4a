-- What meets the premises of the promise that the machine meets its tables.
use Rattle.std.specs.Prelude.{◌≡◌, ◌≢◌, ◌&&◌, ℕ, Bool, true, false, Some, None, List, [], take}
use Rattle.std.specs.List.{list_any}
use Rattle.ckrt_thread.specs.State.{first_waiter, is_joined, is_waiting}
use Rattle.ckrt_thread.specs.declared.records.Object.TheVariants.{Mutex, RwLock}
use Rattle.ckrt_thread.specs.declared.records.Wait.{Wait}
use Rattle.ckrt_calls.specs.WellFormed.{IsWellFormed}
use Rattle.ckrt_calls.specs.declared.table.Tables.{Tables}
use Rattle.ckrt_events.specs.declared.event.Event.{Event}
use Rattle.ckrt_events.specs.declared.event.Event.TheVariants.{Place, Run, Input, Eof, Tick, RunLong}
use Rattle.ckrt_machine.specs.Events.{AllAccepted, IsAccepted, fold, output_of, step}
use Rattle.ckrt_machine.specs.Plans.{planned}
use Rattle.ckrt_machine.specs.Refusals.{refusal_of}
use Rattle.ckrt_machine.specs.Steps.{State, hart_of}
use Rattle.ckrt_machine.specs.declared.event.Refusal.{Refusal}

-- KINDS OF EVENTS

abbrev pub is_place : Event → Bool
is_place (Place h t) = true
is_place _ = false

abbrev pub is_run : Event → Bool
is_run (Run h n) = true
is_run _ = false

abbrev pub is_input : Event → Bool
is_input (Input bytes) = true
is_input _ = false

abbrev pub is_eof : Event → Bool
is_eof Eof = true
is_eof _ = false

abbrev pub is_tick : Event → Bool
is_tick (Tick k) = true
is_tick _ = false

abbrev pub is_long_run : Event → Bool
is_long_run (RunLong h n) = true
is_long_run _ = false

-- an event of each kind is among them
pub record HasEachKind (es : List Event) : Type 0 where
  pub place : list_any is_place es ≡ true
  pub run : list_any is_run es ≡ true
  pub input : list_any is_input es ≡ true
  pub eof : list_any is_eof es ≡ true
  pub tick : list_any is_tick es ≡ true
  pub long_run : list_any is_long_run es ≡ true

-- EVENTS, ONE AFTER ANOTHER

-- an event was accepted, led from one state to the other, and put bytes where `put` says so
pub record WasAccepted (e : Event) (s z : State) (put : Bool) : Type 0 where
  pub accepted : IsAccepted e s
  pub state : z ≡ (step e s).state
  pub output : put ≡ true → (step e s).output ≢ []

-- these did
pub record WereAccepted (es : List Event) (s z : State) (put : Bool) : Type 0 where
  pub accepted : AllAccepted es s
  pub state : z ≡ (fold es s).state
  pub output : put ≡ true → output_of es s ≢ []

-- WHAT THE LAWS SPEAK OF

-- A thread waits for a mutex, another for a read-write lock, a third is joined, a fourth is on a hart, and a fifth is planned for it.
pub record HasAllWaits (s : Tables) : Type 0 where
  pub mutex : ℕ
  pub locker : Wait
  pub locks : first_waiter (Mutex mutex) s.threads ≡ Some locker
  pub waiting : is_waiting s.threads locker.thread ≡ true
  pub lock : ℕ
  pub writer : Wait
  pub writes : first_waiter (RwLock lock) s.threads ≡ Some writer
  pub target : ℕ
  pub joined : is_joined target s.threads ≡ true
  pub hart : ℕ
  pub running : ℕ
  pub on : hart_of s hart ≡ Some running
  pub next : ℕ
  pub plan : planned hart s ≡ Some next

-- one event is accepted, and another refused
pub record MayGoOn (more other : Event) (s : State) (refusal : Refusal) : Type 0 where
  pub goes_on : IsAccepted more s
  pub refused : refusal_of 0 other s ≡ Some refusal

-- A start and events for which all premises hold at once. They put a byte and are of each kind; in the state that they lead to threads wait for
-- each kind of lock, one event more is accepted, and one is refused.
pub record MachineWitness (s : State) (es : List Event) : Type 0 where
  pub well_formed : IsWellFormed s.tables
  pub accepted : AllAccepted es s
  pub put : output_of es s ≢ []
  pub kinds : HasEachKind es
  pub waits : HasAllWaits (fold es s).state.tables
  pub more : Event
  pub other : Event
  pub refusal : Refusal
  pub on : MayGoOn more other (fold es s).state refusal
