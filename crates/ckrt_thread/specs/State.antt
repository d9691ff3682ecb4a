-- What contracts see of `Threads`: the state, when it is well-formed, and the small changes that the calls are made of.
use Rattle.std.specs.Prelude.{◌≡◌, ℕ, ◌+◌, ◌≤◌, ◌==◌, Bool, true, false, if◌then◌else◌, List, [], ◌∷◌, ◌++◌, length, map, Option, Some, None, is_some, is_none, slice_get, slice_set, replicate, drop, not, ◌&&◌, ◌%◌}
use Rattle.std.specs.List.{find, list_any, list_all, position}
use Rattle.std.specs.Option.{option_flatten}
use Rattle.ckrt_registers.specs.Registers.{Registers}
use Rattle.ckrt_registers.specs.Registers.{put}
use Rattle.ckrt_thread.specs.declared.records.Thread.{Thread}
use Rattle.ckrt_thread.specs.declared.records.Thread.TheVariants as thread
use Rattle.ckrt_thread.specs.declared.records.Live.{Live}
use Rattle.ckrt_thread.specs.declared.records.Wait.{Wait}
use Rattle.ckrt_thread.specs.declared.records.Waiter.{Waiter}
use Rattle.ckrt_thread.specs.declared.records.Reason.{Reason}
use Rattle.ckrt_thread.specs.declared.records.Reason.TheVariants as reason
use Rattle.ckrt_thread.specs.declared.records.Object.{Object}
use Rattle.ckrt_thread.specs.declared.records.Object.TheVariants as object
use Rattle.ckrt_thread.specs.Abi.{RA, SP, A0, PROGRAM_START, RETURN_GATE}
use Rattle.ckrt_thread.specs.Cancellation.{at_the_start, is_consistent, are_proper_handlers, is_unwinding}
use Rattle.ckrt_thread.specs.Keys.{KeyTable, no_keys, are_proper_keys, no_data, is_proper_data, HasValuesOf}
use Rattle.ckrt_thread.specs.Waits.{is_for, is_of, without, is_deadline_of, has_proper_deadline, joins_another, is_to_unwind, is_unwind_of}

-- The threads by id, with nothing at 0; the waits in order of the start of waiting; the thread on each of 8 harts,
-- and how many of these there are; and the keys of the program.
pub record State : Type 0 where
  pub threads : List (Option Thread)
  pub waits : List Wait
  pub harts : List (Option ℕ)
  pub hart_count : ℕ
  pub keys : KeyTable

-- QUESTIONS

abbrev pub thread_of : State → ℕ → Option Thread
thread_of s t = option_flatten (slice_get s.threads t)

abbrev pub is_live_thread : Option Thread → Bool
is_live_thread None = false
is_live_thread (Some (thread.Ended v)) = false
is_live_thread (Some (thread.Live l)) = true

-- there is such a thread, and it has not ended
abbrev pub is_live : State → ℕ → Bool
is_live s t = is_live_thread (thread_of s t)

abbrev pub is_any_live : State → Bool
is_any_live s = list_any is_live_thread s.threads

-- it has the mark initial: the program began with it
abbrev pub is_initial : Option Thread → Bool
is_initial None = false
is_initial (Some (thread.Ended v)) = false
is_initial (Some (thread.Live l)) = l.initial

abbrev pub is_detached : Option Thread → Bool
is_detached None = false
is_detached (Some (thread.Ended v)) = false
is_detached (Some (thread.Live l)) = l.detached

-- it has not ended and is not detached
abbrev pub is_joinable : Option Thread → Bool
is_joinable o = is_live_thread o && not (is_detached o)

abbrev pub regs_of : Option Thread → Option Registers
regs_of None = None
regs_of (Some (thread.Ended v)) = None
regs_of (Some (thread.Live l)) = Some l.regs

abbrev pub is_waiting : State → ℕ → Bool
is_waiting s t = list_any (is_of t) s.waits

abbrev pub holds : ℕ → Option ℕ → Bool
holds t None = false
holds t (Some u) = t == u

abbrev pub is_on_hart : State → ℕ → Bool
is_on_hart s t = list_any (holds t) s.harts

-- it has not ended, does not wait, and is on no hart
abbrev pub is_ready : State → ℕ → Bool
is_ready s t = is_live s t && not (is_waiting s t) && not (is_on_hart s t)

-- the part of the list of waits that waits for the object begins with this
abbrev pub first_waiter : Object → State → Option Wait
first_waiter o s = find (is_for o) s.waits

-- a thread waits for the end of this one
abbrev pub is_joined : ℕ → State → Bool
is_joined t s = is_some (first_waiter (object.End t) s)

-- the least id that no thread has, less 1
abbrev pub free_place : State → Option ℕ
free_place s = position is_none (drop 1 s.threads)

-- WELL-FORMED STATES

-- how many elements pass the test
abbrev pub count_of : {X : Type 0} → (X → Bool) → List X → ℕ
count_of p [] = 0
count_of p (x ∷ xs) = (if p x then 1 else 0) + count_of p xs

-- at how many places a thread waits or is on a hart
abbrev pub places : State → ℕ → ℕ
places s t = count_of (is_of t) s.waits + count_of (holds t) s.harts

-- how many wait for the end of a thread
abbrev pub joiners : State → ℕ → ℕ
joiners s t = count_of (is_for (object.End t)) s.waits

-- the pc is a multiple of 4
abbrev pub is_aligned : Registers → Bool
is_aligned r = r.pc % 4 == 0

-- The pc and each handler's routine are multiples of 4, there are at most 16 handlers, a thread that unwinds is disabled and
-- deferred, and what the thread has under keys is proper.
abbrev pub is_proper_live : Live → Bool
is_proper_live l =
    is_aligned l.regs
    && are_proper_handlers l.handlers.items
    && is_consistent l.cancellation
    && is_proper_data (is_some l.cancellation.unwinding) l.specific

abbrev pub is_proper_slot : Option Thread → Bool
is_proper_slot None = true
is_proper_slot (Some (thread.Ended v)) = true
is_proper_slot (Some (thread.Live l)) = is_proper_live l

-- how often a thread waits to retake a mutex, and to unwind then
abbrev pub unwind_waits : State → ℕ → ℕ
unwind_waits s t = count_of (is_unwind_of t) s.waits

pub record IsWellFormed (s : State) : Type 0 where
  -- there is a slot for each id of 1 to 64, and nothing is at 0
  pub size : length s.threads ≡ 65
  pub zero : thread_of s 0 ≡ None
  pub harts : length s.harts ≡ 8
  pub hart_count : s.hart_count ≤ 8
  -- harts from hart_count on are idle
  pub idle : (h : ℕ) → s.hart_count ≤ h → option_flatten (slice_get s.harts h) ≡ None
  -- each pc and each handler's routine is a multiple of 4, a thread that unwinds is disabled and deferred, and who is in a round of
  -- destructors, of at most 4, unwinds (who has ended is in none, and has no value)
  pub proper : (t : ℕ) → is_proper_slot (thread_of s t) ≡ true
  -- at most one thread has the mark initial
  pub one_initial : (t q : ℕ) → is_initial (thread_of s t) ≡ true
      → is_initial (thread_of s q) ≡ true → t ≡ q
  -- a thread that waits or is on a hart has not ended, and does so at one place
  pub placed : (t : ℕ) → places s t ≤ (if is_live s t then 1 else 0)
  -- a joined thread has not ended and is not detached, and one thread joins it
  pub joined_target : (t : ℕ) → joiners s t ≤ (if is_joinable (thread_of s t) then 1 else 0)
  -- nobody joins itself
  pub joined_by_another : list_all joins_another s.waits ≡ true
  -- timed waits for a mutex and for a condition may have a deadline, sleeps have one, and no other wait has
  pub deadlines : list_all has_proper_deadline s.waits ≡ true
  -- who waits to retake a mutex, and to unwind then, unwinds
  pub unwinding_waits : (t : ℕ) → unwind_waits s t ≤ (if is_unwinding (thread_of s t) then 1 else 0)
  -- each destructor is a multiple of 4, and there is no key where keys are off
  pub proper_keys : are_proper_keys s.keys ≡ true
  -- threads have values only under keys that there are
  pub values : (t : ℕ) → HasValuesOf s.keys (thread_of s t)

-- SMALL CHANGES

-- the thread that a program begins with
abbrev pub first_of_program : ℕ → Thread
first_of_program stack = thread.Live (record {
  regs =
      record {
        pc = PROGRAM_START;
        x = slice_set (slice_set (replicate 32 0) RA RETURN_GATE) SP stack;
      };
  initial = true;
  detached = false;
  cancellation = at_the_start;
  handlers = record { items = [] };
  specific = no_data;
})

-- a program begins with thread 1, ready, idle harts, and no key
abbrev pub fresh : ℕ → ℕ → State
fresh stack harts = record {
  threads = slice_set (replicate 65 None) 1 (Some (first_of_program stack));
  waits = [];
  harts = replicate 8 None;
  hart_count = harts;
  keys = no_keys;
}

-- one register of a thread that has not ended
abbrev pub with_word : ℕ → ℕ → Live → Live
with_word k v l = record l { regs = record l.regs { x = put l.regs k v } }

abbrev pub with_regs : Registers → Live → Live
with_regs r l = record l { regs = r }

abbrev pub change_live : (Live → Live) → Option Thread → Option Thread
change_live f None = None
change_live f (Some (thread.Ended v)) = Some (thread.Ended v)
change_live f (Some (thread.Live l)) = Some (thread.Live (f l))

abbrev pub change_thread : (Live → Live) → ℕ → List (Option Thread) → List (Option Thread)
change_thread f t ts = slice_set ts t (change_live f (option_flatten (slice_get ts t)))

abbrev pub with_thread_regs : ℕ → Registers → State → State
with_thread_regs t r s = record s { threads = change_thread (with_regs r) t s.threads }

abbrev pub set_word : ℕ → ℕ → ℕ → State → State
set_word t k v s = record s { threads = change_thread (with_word k v) t s.threads }

-- the id stands for this from now on
abbrev pub with_slot : ℕ → Option Thread → State → State
with_slot t slot s = record s { threads = slice_set s.threads t slot }

-- what a hart has after the thread is off it
abbrev pub off : ℕ → Option ℕ → Option ℕ
off t h = if holds t h then None else h

-- the thread is on no hart
abbrev pub off_hart : ℕ → State → State
off_hart t s = record s { harts = map (off t) s.harts }

-- the thread goes onto the hart, and the thread that was there goes off
abbrev pub placed_on : ℕ → ℕ → State → State
placed_on h t s = record s { harts = slice_set s.harts h (Some t) }

-- who may wait for the end of a thread: another, where the thread may be joined and is not
abbrev pub may_join : ℕ → Reason → State → Bool
may_join t (reason.Join q) s = not (q == t) && is_joinable (thread_of s q) && not (is_joined q s)
may_join t _ s = true

-- who waits to unwind once it has a mutex unwinds
abbrev pub may_unwind : ℕ → Reason → State → Bool
may_unwind t r s = if is_to_unwind r then is_unwinding (thread_of s t) else true

-- whether the thread may wait for this reason with this deadline
abbrev pub may_wait : ℕ → Reason → Option ℕ → State → Bool
may_wait t r d s = is_deadline_of r d && may_join t r s && may_unwind t r s

-- the thread waits from now on, after all others, and is off its hart
abbrev pub blocked : ℕ → Reason → Option ℕ → State → State
blocked t r d s = record {
  threads = s.threads;
  waits = s.waits ++ (record { thread = t; reason = r; deadline = d }) ∷ [];
  harts = map (off t) s.harts;
  hart_count = s.hart_count;
  keys = s.keys;
}

-- the thread's wait is taken away
abbrev pub unwaited : ℕ → State → State
unwaited t s = record s { waits = without t s.waits }

-- who waits, and why
abbrev pub of_wait : Wait → ℕ × Reason
of_wait w = (w.thread, w.reason)

abbrev pub of_waiter : Waiter → ℕ × Reason
of_waiter w = (w.thread, w.reason)

-- the wait that has waited longest for an object is taken away, if there is one
abbrev pub unwaited_first : Option Wait → State → State
unwaited_first None s = s
unwaited_first (Some w) s = unwaited w.thread s

abbrev pub first_unwaited : Object → State → State
first_unwaited o s = unwaited_first (first_waiter o s) s

-- the thread's wait ends, and it gets this result
abbrev pub woken : ℕ → ℕ → State → State
woken t v s = record {
  threads = change_thread (with_word A0 v) t s.threads;
  waits = without t s.waits;
  harts = s.harts;
  hart_count = s.hart_count;
  keys = s.keys;
}

-- these waits end one after another, each with this result
abbrev pub all_woken : ℕ → List Wait → State → State
all_woken v [] s = s
all_woken v (w ∷ ws) s = all_woken v ws (woken w.thread v s)
