-- Each event that is accepted keeps the tables well-formed, and so does each list of them.
use Rattle.std.proofs.Common.{◌≡◌, ℕ, ◌+◌, ◌^◌, ◌<◌, ◌≤◌, nat_le, nat_lt, not, cond, List, [], ◌∷◌, length, Bool, true, false, is_none, Option, Some, None, arith, refl}
use Rattle.std.proofs.lemmas.Bool.Decides.{nat_tests}
use Rattle.ckrt_thread.specs.State as threads
use Rattle.ckrt_thread.specs.Granting.{has_admissible_waiter}
use Rattle.ckrt_thread.proofs.Changes as changes
use Rattle.ckrt_mutex.specs.Mutex.{mutex_at}
use Rattle.ckrt_mutex.specs.Rows.{mutex_rule}
use Rattle.ckrt_rwlock.specs.RwLock.{lock_at}
use Rattle.ckrt_rwlock.specs.Rows.{rwlock_rule}
use Rattle.ckrt_barrier.proofs.WellFormed as barriers
use Rattle.ckrt_rwlock.proofs.WellFormed as locks
use Rattle.ckrt_calls.specs.declared.table.Tables.{Tables}
use Rattle.ckrt_calls.specs.WellFormed.{IsWellFormed}
use Rattle.ckrt_calls.proofs.Beginnings.{well_formed_fresh, well_formed_keys_off}
use Rattle.ckrt_calls.proofs.MutexRows.{wait_rule, condition_rule}
use Rattle.ckrt_calls.proofs.Readers.{well_formed_input, well_formed_closed}
use Rattle.ckrt_calls.proofs.Ticks.{well_formed_ticked}
use Rattle.ckrt_events.specs.declared.event.Event.{Event}
use Rattle.ckrt_events.specs.declared.event.Event.TheVariants.{Place, Run, Input, Eof, Tick, RunLong}
use Rattle.ckrt_machine.specs.declared.event.Refusal.{Refusal}
use Rattle.ckrt_machine.specs.declared.event.Refusal.TheVariants.{Ended, NoSuchHart, NoSuchThread, NotReady, InputClosed, InputFull, ClockEnd}
use Rattle.ckrt_machine.specs.Steps.{State}
use Rattle.ckrt_machine.specs.Runs.{is_running}
use Rattle.ckrt_machine.specs.Refusals.{running_refusal, refusal_in, refusal_of}
use Rattle.ckrt_machine.specs.Events.{fresh, with_keys_off, step, fold, reached, AllAccepted}
use Rattle.ckrt_machine.proofs.KeptSteps.{running_is, well_formed_run}
use Rattle.ckrt_machine.proofs.WellFormedImplies.{no_admissible_waiter}

-- WHAT IS SO WHERE AN EVENT IS ACCEPTED

-- no reason applies: neither the first nor one behind it
past : (b : Bool) (r : Refusal) (o : Option Refusal) → cond b (Some r) o ≡ None → (b ≡ false) × (o ≡ None)
past true r o e = absurd (cc)
past false r o e = (refl, e)

runs : (e : Event) (s : Tables) → refusal_in 0 e s ≡ None → (is_running s.status ≡ true) × (running_refusal 0 e s ≡ None)
runs e s a =
    elim (is_running s.status) as (λ b. cond b (running_refusal 0 e s) (Some Ended) ≡ None → (b ≡ true) × (running_refusal 0 e s ≡ None)) [
      | true ↦ λ x. (refl, x)
      | false ↦ λ x. absurd (cc)
    ] a

may_place : (h t : ℕ) (s : Tables) → running_refusal 0 (Place h t) s ≡ None → (h < s.threads.hart_count) × (threads.is_ready s.threads t ≡ true)
may_place h t s a =
    let hart = past (nat_le s.threads.hart_count h) NoSuchHart _ a in
    let thread = past (is_none (threads.thread_of s.threads t)) NoSuchThread _ hart.1 in
    let ready = past (not (threads.is_ready s.threads t)) NotReady None thread.1 in
    (let e = hart.0 in grind (arith, nat_tests), let e = ready.0 in grind (arith, nat_tests))

has_room : (n : ℕ) (s : Tables) → cond s.closed (Some InputClosed) (cond (nat_lt 4096 (length s.input + n)) (Some InputFull) None) ≡ None → length s.input + n ≤ 4096
has_room n s a =
    let open_input = past s.closed InputClosed _ a in
    let room = past (nat_lt 4096 (length s.input + n)) InputFull None open_input.1 in
    (let e = room.0 in grind (arith, nat_tests))

has_time : (k : ℕ) (s : Tables) → running_refusal 0 (Tick k) s ≡ None → s.clock + k < 2 ^ 63
has_time k s a =
    let time = past (nat_le (2 ^ 63) (s.clock + k)) ClockEnd None a in
    (let e = time.0 in grind (arith, nat_tests))

-- THE EVENTS

kept_place : (h t : ℕ) (s : Tables) → h < s.threads.hart_count → threads.is_ready s.threads t ≡ true → IsWellFormed s → IsWellFormed (record s { threads = threads.placed_on h t s.threads })
kept_place h t s l r w =
    let mutexes = wait_rule s.mutexes in
    let conditions = condition_rule in
    record {
      threads = changes.well_formed_placed s.threads h t w.threads l r;
      mutexes = mutexes.same_waits s.threads (threads.placed_on h t s.threads) refl w.mutexes;
      conditions = conditions.same_waits s.threads (threads.placed_on h t s.threads) refl w.conditions;
      barriers = barriers.well_formed_same s.threads (threads.placed_on h t s.threads) s.barriers refl w.barriers;
      rwlocks = locks.well_formed_same s.threads (threads.placed_on h t s.threads) s.rwlocks refl w.rwlocks;
      running = w.running;
      deadlines = w.deadlines;
      readers = w.readers;
      clock = w.clock;
      input = w.input;
      fault = w.fault;
      fault_pc = w.fault_pc;
    }

kept_event : (e : Event) (s : State) → is_running s.tables.status ≡ true → running_refusal 0 e s.tables ≡ None → IsWellFormed s.tables → IsWellFormed (step e s).state.tables
kept_event (Place h t) s r a w = (let m = may_place h t s.tables a in kept_place h t s.tables m.0 m.1 w)
kept_event (Run h n) s r a w = well_formed_run n h s [] (running_is s.tables.status r) w
kept_event (RunLong h n) s r a w = well_formed_run n h s [] (running_is s.tables.status r) w
kept_event (Input bytes) s r a w = well_formed_input bytes.items s.tables (has_room (length bytes.items) s.tables a) w
kept_event Eof s r a w = well_formed_closed s.tables w
kept_event (Tick k) s r a w = well_formed_ticked k s.tables (has_time k s.tables a) w

pub well_formed_step : (e : Event) (s : State) → refusal_of 0 e s ≡ None → IsWellFormed s.tables → IsWellFormed (step e s).state.tables
well_formed_step e s a w = (let b = runs e s.tables a in kept_event e s b.0 b.1 w)

-- EVERY LIST OF EVENTS, FROM ANY START

pub well_formed_fold : (es : List Event) (s : State) → IsWellFormed s.tables → AllAccepted es s → IsWellFormed (fold es s).state.tables
well_formed_fold [] s w a = w
well_formed_fold (e ∷ es) s w a = well_formed_fold es (step e s).state (well_formed_step e s a.0.accepted w) a.1

pub no_mutex_waiter_after : (es : List Event) (s : State) (a : ℕ) → IsWellFormed s.tables → AllAccepted es s
    → has_admissible_waiter (mutex_rule a) (mutex_at a (fold es s).state.tables.mutexes, (fold es s).state.tables.threads) ≡ false
no_mutex_waiter_after es s a w x = no_admissible_waiter (fold es s).state.tables a (well_formed_fold es s w x)

pub no_lock_waiter_after : (es : List Event) (s : State) (a : ℕ) → IsWellFormed s.tables → AllAccepted es s
    → has_admissible_waiter (rwlock_rule a) (lock_at a (fold es s).state.tables.rwlocks, (fold es s).state.tables.threads) ≡ false
no_lock_waiter_after es s a w x = (let after = well_formed_fold es s w x in after.rwlocks.no_first_waiter_is_admissible a)

-- EVERY PROGRAM'S START

pub starts : (pages harts : ℕ) (image : List ℕ) → harts ≤ 8 → IsWellFormed (fresh pages harts image).tables
starts pages harts image l = well_formed_fresh pages harts l

pub starts_keys_off : (pages harts : ℕ) (image : List ℕ) → harts ≤ 8 → IsWellFormed (with_keys_off (fresh pages harts image)).tables
starts_keys_off pages harts image l = well_formed_keys_off pages harts l

-- EVERY LIST OF EVENTS, FROM A START WHERE KEYS ARE ON

pub well_formed_reached : (pages harts : ℕ) (image : List ℕ) (es : List Event) → harts ≤ 8 → AllAccepted es (fresh pages harts image) → IsWellFormed (reached pages harts image es).tables
well_formed_reached pages harts image es l a = well_formed_fold es (fresh pages harts image) (well_formed_fresh pages harts l) a

pub no_mutex_waiter : (pages harts : ℕ) (image : List ℕ) (es : List Event) (a : ℕ) → harts ≤ 8 → AllAccepted es (fresh pages harts image)
    → has_admissible_waiter (mutex_rule a) (mutex_at a (reached pages harts image es).tables.mutexes, (reached pages harts image es).tables.threads) ≡ false
no_mutex_waiter pages harts image es a l x = no_mutex_waiter_after es (fresh pages harts image) a (well_formed_fresh pages harts l) x

pub no_lock_waiter : (pages harts : ℕ) (image : List ℕ) (es : List Event) (a : ℕ) → harts ≤ 8 → AllAccepted es (fresh pages harts image)
    → has_admissible_waiter (rwlock_rule a) (lock_at a (reached pages harts image es).tables.rwlocks, (reached pages harts image es).tables.threads) ≡ false
no_lock_waiter pages harts image es a l x = no_lock_waiter_after es (fresh pages harts image) a (well_formed_fresh pages harts l) x
