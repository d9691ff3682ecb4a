-- Worked listings and lines, written down from the format: what the definitions must give.
use Rattle.std.specs.Prelude.{◌≡◌, ℕ, true, false, List, [], ◌∷◌, codes, Option, Some, None, replicate, slice_set}
use Rattle.ckrt_rv32i.specs.declared.execution.Cause.TheVariants as cause
use Rattle.ckrt_thread.specs.Cancellation.{acted_on, at_the_start}
use Rattle.ckrt_thread.specs.Keys.{keys_off, no_keys, no_data}
use Rattle.ckrt_thread.specs.Contents.{ThreadRow}
use Rattle.ckrt_thread.specs.State as threads
use Rattle.ckrt_thread.specs.declared.records.Live.{Live}
use Rattle.ckrt_thread.specs.declared.records.Reason.TheVariants as reason
use Rattle.ckrt_thread.specs.declared.records.RetakeResult.TheVariants as retake
use Rattle.ckrt_thread.specs.declared.records.Thread.{Thread}
use Rattle.ckrt_thread.specs.declared.records.Thread.TheVariants as thread
use Rattle.ckrt_thread.specs.declared.records.Wait.{Wait}
use Rattle.ckrt_mutex.specs.declared.records.Kind.TheVariants as kind
use Rattle.ckrt_calls.specs.declared.table.Status.TheVariants as status
use Rattle.ckrt_machine.specs.Steps.{State}
use Rattle.ckrt_inspect.specs.Listing.{barrier_line, hart_line, keys_lines, listing_by, mutex_line, rwlock_line, value_line, status_line, thread_lines, wait_line}
use Rattle.ckrt_inspect.specs.Code.{code_line, word_line}

-- TWO LISTINGS

-- a thread that can be joined and cancelled, at a pc, with these registers
abbrev pub plain : ℕ → List ℕ → Thread
plain pc x =
    thread.Live (record {
      regs = record { pc = pc; x = x };
      initial = false;
      detached = false;
      cancellation = at_the_start;
      handlers = record { items = [] };
      specific = no_data;
    })

-- one hart, idle, and these threads and waits
abbrev pub off_harts : List (Option Thread) → List Wait → threads.State
off_harts slots waits =
    record {
      threads = slots;
      waits = waits;
      harts = replicate 8 None;
      hart_count = 1;
      keys = no_keys;
    }

-- a program that runs, with no object and no input
abbrev pub running : List ℕ → threads.State → State
running memory s =
    record {
      bytes = memory;
      tables = record { threads = s; mutexes = []; barriers = []; rwlocks = []; clock = 0; input = []; closed = false; status = status.Running };
    }

abbrev pub waits_for_input : Wait
waits_for_input = record { thread = 1; reason = reason.Input; deadline = None }

abbrev pub waits_for_2 : Wait
waits_for_2 = record { thread = 1; reason = reason.Join 2; deadline = None }

-- thread 1 waits for input after its second instruction
abbrev pub reading : List ℕ → List ℕ → State
reading memory x =
    running memory
    (off_harts (slice_set (replicate 65 None) 1 (Some (plain 0x1008 x))) (waits_for_input ∷ []))

-- thread 1 waits for the end of thread 2
abbrev pub joining : List ℕ → List ℕ → List ℕ → State
joining memory x y =
    running memory (off_harts (slice_set (slice_set (replicate 65 None) 1 (Some (plain 0x1020 x))) 2
    (Some (plain 0x1028 y))) (waits_for_2 ∷ []))

pub record WorkedListings : Type 0 where
  pub input : (memory x : List ℕ) → listing_by false 2 (reading memory x) ≡ codes "events 2\nclock 0\nstatus running\nhart 0 idle\nthread 1 joinable blocked pc 00001008 enabled deferred none handlers 0\nwait 1 input\n"
  pub join : (memory x y : List ℕ) → listing_by false 2 (joining memory x y) ≡ codes "events 2\nclock 0\nstatus running\nhart 0 idle\nthread 1 joinable blocked pc 00001020 enabled deferred none handlers 0\nthread 2 joinable ready pc 00001028 enabled deferred none handlers 0\nwait 1 join 2\n"

-- LINES

-- a thread of a program in which nobody waits
abbrev pub alone : ThreadRow → List ℕ
alone r = thread_lines false [] (off_harts [] []) r

-- detached, asynchronous, with a request
abbrev pub requested : Live
requested = record {
  regs = record { pc = 0xabcdef00; x = [] };
  initial = false;
  detached = true;
  cancellation = record at_the_start { is_asynchronous = true; is_requested = true };
  handlers = record { items = record { routine = 0x2000; argument = 7 } ∷ [] };
  specific = no_data;
}

-- cancelled
abbrev pub unwinding : Live
unwinding =
    record {
      regs = record { pc = 0x1000; x = [] };
      initial = false;
      detached = false;
      cancellation = acted_on at_the_start;
      handlers = record { items = [] };
      specific = no_data;
    }

pub record WorkedLines : Type 0 where
  pub exited : status_line (status.Exited 7) ≡ codes "status exit 7\n"
  pub faulted : status_line (status.Faulted 3 0x1f0c cause.LoadRange) ≡ codes "status fault 3 00001f0c LoadRange\n"
  pub on_hart : hart_line 7 (Some 64) ≡ codes "hart 7 64\n"
  pub ended : alone (record { id = 5; thread = thread.Ended 4294967295 }) ≡ codes "thread 5 ended 4294967295\n"
  pub detached : alone (record { id = 64; thread = thread.Live requested }) ≡ codes "thread 64 detached ready pc abcdef00 enabled asynchronous pending handlers 1\n"
  pub cancelled : alone (record { id = 2; thread = thread.Live unwinding }) ≡ codes "thread 2 joinable ready pc 00001000 disabled deferred none handlers 0 unwinding 4294967295\n"
  pub join : wait_line (record { thread = 9; reason = reason.Join 10; deadline = None }) ≡ codes "wait 9 join 10\n"
  pub mutex : wait_line (record { thread = 1; reason = reason.Lock 0x2400; deadline = Some 99 }) ≡ codes "wait 1 mutex 00002400 until 99\n"
  pub retaken : wait_line (record { thread = 1; reason = reason.Retake 0x2400 retake.Done; deadline = None }) ≡ codes "wait 1 retake 00002400 0\n"
  pub retaken_late : wait_line (record { thread = 1; reason = reason.Retake 0x2400 retake.TimedOut; deadline = None }) ≡ codes "wait 1 retake 00002400 110\n"
  pub retaken_to_unwind : wait_line (record { thread = 1; reason = reason.Retake 0x2400 retake.Unwind; deadline = None }) ≡ codes "wait 1 retake 00002400 unwind\n"
  pub condition : wait_line (record { thread = 1; reason = reason.Condition 0x2404 0x2400; deadline = None }) ≡ codes "wait 1 cond 00002404 00002400\n"
  pub barrier_wait : wait_line (record { thread = 1; reason = reason.Barrier 0x3000; deadline = None }) ≡ codes "wait 1 barrier 00003000\n"
  pub read : wait_line (record { thread = 1; reason = reason.Read 0x3000; deadline = None }) ≡ codes "wait 1 read 00003000\n"
  pub write : wait_line (record { thread = 1; reason = reason.Write 0x3000; deadline = None }) ≡ codes "wait 1 write 00003000\n"
  pub input : wait_line (record { thread = 1; reason = reason.Input; deadline = None }) ≡ codes "wait 1 input\n"
  pub sleep : wait_line (record { thread = 1; reason = reason.Sleep; deadline = Some 9223372036854775807 }) ≡ codes "wait 1 sleep until 9223372036854775807\n"
  pub free_mutex : mutex_line (record { address = 0x2400; value = record { kind = kind.ErrorCheck; owner = None; count = 0 } }) ≡ codes "mutex 00002400 errorcheck 0 0\n"
  pub owned_mutex : mutex_line (record { address = 0x2400; value = record { kind = kind.Recursive; owner = Some 12; count = 65535 } }) ≡ codes "mutex 00002400 recursive 12 65535\n"
  pub normal_mutex : mutex_line (record { address = 0xffffffff; value = record { kind = kind.Normal; owner = Some 1; count = 1 } }) ≡ codes "mutex ffffffff normal 1 1\n"
  pub barrier : barrier_line (record { address = 0x3000; value = record { count = 64 } }) ≡ codes "barrier 00003000 64\n"
  pub written : rwlock_line (record { address = 0x3010; value = record { writer = Some 4; readers = replicate 65 0 } }) ≡ codes "rwlock 00003010 writer 4\n"
  pub shared : rwlock_line (record { address = 0x3010; value = record { writer = None; readers = slice_set (slice_set (replicate 65 0) 2 1) 64 65535 } }) ≡ codes "rwlock 00003010 readers 2:1 64:65535\n"
  pub keys_off : keys_lines keys_off ≡ codes "keys off\n"
  pub keys : keys_lines (record no_keys { destructors = slice_set (slice_set (replicate 32 None) 0 (Some 0x1028)) 31 (Some 0) }) ≡ codes "key 0 00001028\nkey 31 00000000\n"
  pub value : value_line 2 (record { key = 31; word = 4294967295 }) ≡ codes "value 2 31 4294967295\n"

-- INSTRUCTIONS

pub record WorkedInstructions : Type 0 where
  pub load : word_line 0x1000 0x04100513 ≡ codes "  00001000 04100513 addi x10, x0, 65\n"
  pub back : word_line 0x1ffc 0xffdff06f ≡ codes "  00001ffc ffdff06f jal x0, -4\n"
  pub call : word_line 0x1008 0x00000073 ≡ codes "  00001008 00000073 ecall\n"
  pub illegal : word_line 0x100c 0x00000000 ≡ codes "  0000100c 00000000 illegal\n"
  pub in_memory : code_line (0x13 ∷ 0x05 ∷ 0x10 ∷ 0x04 ∷ []) 0x1000 ≡ codes "  00001000 04100513 addi x10, x0, 65\n"
  pub behind_memory : code_line (0x13 ∷ 0x05 ∷ 0x10 ∷ 0x04 ∷ []) 0x1004 ≡ []
  pub below_memory : code_line (0x13 ∷ 0x05 ∷ 0x10 ∷ 0x04 ∷ []) 0xffc ≡ []
