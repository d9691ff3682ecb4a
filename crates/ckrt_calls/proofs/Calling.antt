-- What a call counts on, and what has to hold after it for the tables to keep their rules.
use Rattle.std.proofs.Common.{◌≡◌, ◌<◌, ◌≤◌, ℕ, nat_lt, nat_le, Bool, true, false, List, refl, arith}
use Rattle.std.proofs.lemmas.Bool.Decides.{nat_tests}
use Rattle.ckrt_thread.specs.State as threads
use Rattle.ckrt_thread.specs.declared.records.Wait.{Wait}
use Rattle.ckrt_thread.specs.State.{is_any_live}
use Rattle.ckrt_thread.proofs.Known.{live_range}
use Rattle.ckrt_objects.specs.declared.address_map.Entry.{Entry}
use Rattle.ckrt_mutex.specs.declared.records.Mutex.{Mutex}
use Rattle.ckrt_mutex.specs.WellFormed.{IsWellFormedWith}
use Rattle.ckrt_cond.specs.WellFormed as conditions
use Rattle.ckrt_barrier.specs.declared.barrier.Barrier.{Barrier}
use Rattle.ckrt_barrier.specs.WellFormed as barrier
use Rattle.ckrt_rwlock.specs.declared.records.RwLock.{RwLock}
use Rattle.ckrt_rwlock.specs.WellFormed as rwlock
use Rattle.ckrt_calls.specs.declared.table.Tables.{Tables}
use Rattle.ckrt_calls.specs.WellFormed.{IsWellFormed, lies_ahead, lacks_input}
use Rattle.ckrt_calls.specs.Calling.{MayCall}
use Rattle.ckrt_calls.proofs.ThreadRows.{IsWaitRule, AllWaits, all_rule, any_live_one}
use Rattle.ckrt_calls.proofs.Queues.{SameQueues, barriers_same, locks_same}

abbrev pub AnyLive : threads.State → Type 0
AnyLive z = is_any_live z ≡ true

-- where the thread that calls lives, some thread does
pub caller_lives : (t : ℕ) (z : threads.State) → threads.is_live z t ≡ true → is_any_live z ≡ true
caller_lives t z l = any_live_one t z.threads l

pub some_live : (t : ℕ) (s : Tables) → MayCall t s → is_any_live s.threads ≡ true
some_live t s m = (let h = m.well_formed in h.running m.running)

-- THE RULES OF WAITS

-- the tests that each wait passes while the program runs
abbrev pub ahead : Tables → Wait → Bool
ahead s = lies_ahead s.clock

abbrev pub lacks : Tables → Wait → Bool
lacks s = lacks_input s.input s.closed

pub all_ahead : (t : ℕ) (s : Tables) → MayCall t s → AllWaits (ahead s) s.threads
all_ahead t s m = (let h = m.well_formed in h.deadlines m.running)

pub all_lack : (t : ℕ) (s : Tables) → MayCall t s → AllWaits (lacks s) s.threads
all_lack t s m = (let h = m.well_formed in h.readers)

pub ahead_rule : (s : Tables) → IsWaitRule (AllWaits (ahead s))
ahead_rule s = all_rule (ahead s) (λ t id. refl)

pub lacks_rule : (s : Tables) → IsWaitRule (AllWaits (lacks s))
lacks_rule s = all_rule (lacks s) (λ t id. refl)

-- what holds of the threads z, the mutexes ms, the barriers bs and the read-write locks ls after a call
pub record AreAfter (s : Tables) (z : threads.State) (ms : List (Entry Mutex)) (bs : List (Entry Barrier)) (ls : List (Entry RwLock)) : Type 0 where
  pub threads : threads.IsWellFormed z
  pub mutexes : IsWellFormedWith z ms
  pub conditions : conditions.IsWellFormed z
  pub barriers : barrier.IsWellFormedWith z bs
  pub rwlocks : rwlock.IsWellFormedWith z ls
  pub live : is_any_live z ≡ true
  pub deadlines : AllWaits (ahead s) z
  pub readers : AllWaits (lacks s) z

-- the tables of objects change, and some thread has not ended
pub all_changed : (t : ℕ) (s : Tables) (z : threads.State) (ms : List (Entry Mutex)) (bs : List (Entry Barrier)) (ls : List (Entry RwLock)) → MayCall t s → AreAfter s z ms bs ls → IsWellFormed (record s { threads = z; mutexes = ms; barriers = bs; rwlocks = ls })
all_changed t s z ms bs ls m a = (let h = m.well_formed in let runs = m.running in record {
  threads = a.threads;
  mutexes = a.mutexes;
  conditions = a.conditions;
  barriers = a.barriers;
  rwlocks = a.rwlocks;
  running = λ _. a.live;
  deadlines = λ _. a.deadlines;
  readers = a.readers;
  clock = h.clock;
  input = h.input;
  fault = λ u pc c f. absurd (cc);
  fault_pc = λ u pc c f. absurd (cc);
})

-- what holds of the threads z and the mutexes ms after a call that is at no other object
pub record IsAfter (s : Tables) (z : threads.State) (ms : List (Entry Mutex)) : Type 0 where
  pub threads : threads.IsWellFormed z
  pub mutexes : IsWellFormedWith z ms
  pub conditions : conditions.IsWellFormed z
  pub others : SameQueues s.threads z
  pub live : is_any_live z ≡ true
  pub deadlines : AllWaits (ahead s) z
  pub readers : AllWaits (lacks s) z

pub changed : (t : ℕ) (s : Tables) (z : threads.State) (ms : List (Entry Mutex)) → MayCall t s → IsAfter s z ms → IsWellFormed (record s { threads = z; mutexes = ms })
changed t s z ms m a = all_changed t s z ms s.barriers s.rwlocks m (record {
  threads = a.threads;
  mutexes = a.mutexes;
  conditions = a.conditions;
  barriers = barriers_same s.threads z s.barriers a.others m.well_formed.barriers;
  rwlocks = locks_same s.threads z s.rwlocks a.others m.well_formed.rwlocks;
  live = a.live;
  deadlines = a.deadlines;
  readers = a.readers;
})

-- who calls has a number, and does not wait
pub range : (t : ℕ) (s : Tables) → MayCall t s → (0 < t) × (t ≤ 64)
range t s m = live_range s.threads t m.well_formed.threads m.live

pub later : (moment clock : ℕ) → nat_le moment clock ≡ false → nat_lt clock moment ≡ true
later moment clock e = grind (arith, nat_tests)
