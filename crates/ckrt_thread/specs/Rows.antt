-- The calls that begin, join, detach and end threads, by the pages of POSIX.1-2017 with this project's choices. What is
-- wrong is tested from left to right as a row says it, and changes nothing.
use Rattle.std.specs.Prelude.{ℕ, ◌+◌, ◌%◌, ◌==◌, nat_lt, Bool, true, false, if◌then◌else◌, not, ◌||◌, Option, Some, None, [], replicate, slice_set}
use Rattle.ckrt_thread.specs.Abi.{RA, SP, A0, A1, RETURN_GATE}
use Rattle.ckrt_thread.specs.Errors.{ESRCH, EAGAIN, EINVAL, EDEADLK}
use Rattle.ckrt_thread.specs.declared.records.Thread.{Thread}
use Rattle.ckrt_thread.specs.declared.records.Thread.TheVariants as thread
use Rattle.ckrt_thread.specs.declared.records.Live.{Live}
use Rattle.ckrt_thread.specs.declared.records.Wait.{Wait}
use Rattle.ckrt_thread.specs.declared.records.Reason.TheVariants as reason
use Rattle.ckrt_thread.specs.declared.records.Object.TheVariants as object
use Rattle.ckrt_thread.specs.declared.records.CallResult.{CallResult}
use Rattle.ckrt_thread.specs.declared.records.CallResult.TheVariants.{Done, Blocked}
use Rattle.ckrt_thread.specs.Cancellation.{at_the_start}
use Rattle.ckrt_thread.specs.Keys.{no_data}
use Rattle.ckrt_thread.specs.State.{State, thread_of, is_detached, is_joined, free_place, first_waiter, set_word, with_slot, change_thread, off_hart, blocked, woken}

-- what a call answers and leaves
pub record After : Type 0 where
  pub result : CallResult
  pub threads : State

-- the answer alone
abbrev pub unchanged : CallResult → State → After
unchanged r s = record { result = r; threads = s }

-- POSIX.1-2017, pthread_create. A start that is no multiple of 4, or detached neither 0 nor 1: EINVAL. No free id:
-- EAGAIN. Else 0, and x11 has the id of the new thread. This project's choices: the least free id, and the registers.

-- a new thread: it returns to the gate at which a thread ends, and has its argument and its stack
abbrev pub new_thread : ℕ → ℕ → ℕ → Bool → Thread
new_thread start arg sp detached = thread.Live (record {
  regs =
      record {
        pc = start;
        x = slice_set (slice_set (slice_set (replicate 32 0) RA RETURN_GATE) SP sp) A0 arg;
      };
  initial = false;
  detached = detached;
  cancellation = at_the_start;
  handlers = record { items = [] };
  specific = no_data;
})

abbrev pub create_at : Option ℕ → ℕ → ℕ → ℕ → ℕ → Bool → State → After
create_at None by start arg sp detached s = unchanged (Done EAGAIN) s
create_at (Some i) by start arg sp detached s = record {
  result = Done 0;
  threads = set_word by A1 (i + 1) (with_slot (i + 1) (Some (new_thread start arg sp detached)) s);
}

abbrev pub create_row : ℕ → ℕ → ℕ → ℕ → ℕ → State → After
create_row by start arg sp detached s =
    if not (start % 4 == 0) || nat_lt 1 detached then unchanged (Done EINVAL) s
    else create_at (free_place s) by start arg sp (detached == 1) s

-- POSIX.1-2017, pthread_join, with the errors that its rationale recommends. Oneself: EDEADLK. An id that no thread has:
-- ESRCH. A thread that is detached, or that another joins: EINVAL. A thread that has ended: 0, x11 has its value, and its
-- id is free. Else the caller waits for the end.
abbrev pub join_at : Option Thread → ℕ → ℕ → State → After
join_at None by id s = unchanged (Done ESRCH) s
join_at (Some (thread.Ended v)) by id s =
    record { result = Done 0; threads = set_word by A1 v (with_slot id None s) }
join_at (Some (thread.Live l)) by id s =
    if l.detached || is_joined id s then unchanged (Done EINVAL) s
    else (record { result = Blocked; threads = blocked by (reason.Join id) None s })

abbrev pub join_row : ℕ → ℕ → State → After
join_row by id s = if id == by then unchanged (Done EDEADLK) s else join_at (thread_of s id) by id s

-- POSIX.1-2017, pthread_detach, with the errors that its rationale recommends. An id that no thread has: ESRCH. A thread
-- that is detached, or that another joins (this project's choice): EINVAL. A thread that has ended: 0, and its id is free.
-- Else 0, and its id is free as soon as it ends.
abbrev pub detached : Live → Live
detached l = record l { detached = true }

abbrev pub detach_at : Option Thread → ℕ → State → After
detach_at None id s = unchanged (Done ESRCH) s
detach_at (Some (thread.Ended v)) id s = record { result = Done 0; threads = with_slot id None s }
detach_at (Some (thread.Live l)) id s =
    if l.detached || is_joined id s then unchanged (Done EINVAL) s
    else (record { result = Done 0; threads = record s { threads = change_thread detached id s.threads } })

abbrev pub detach_row : ℕ → State → After
detach_row id s = detach_at (thread_of s id) id s

-- POSIX.1-2017, pthread_exit. A thread that ends is off its hart. A thread that joins it gets 0, and the value in x11, and the id is
-- free; else the id of a detached thread is free; else the value stays for the thread that joins it.
abbrev pub end_with : Option Wait → ℕ → ℕ → State → State
end_with None t v s = if is_detached (thread_of s t) then with_slot t None s else with_slot t (Some (thread.Ended v)) s
end_with (Some w) t v s = with_slot t None (set_word w.thread A1 v (woken w.thread 0 s))

abbrev pub finished : ℕ → ℕ → State → State
finished t v s = end_with (first_waiter (object.End t) s) t v (off_hart t s)
