-- Which tables can be saved: those of a well-formed program, whose numbers fit the types that the code has for them; in
-- version 1 those of a program whose keys are off.
use Rattle.std.specs.Prelude.{◌≡◌, ◌^◌, ◌==◌, ℕ, nat_lt, nat_le, Bool, true, ◌&&◌, not, Option, Some, None, List, length, slice_index}
use Rattle.std.specs.List.{list_all}
use Rattle.ckrt_registers.specs.Registers.{Registers}
use Rattle.ckrt_thread.specs.declared.records.Handler.{Handler}
use Rattle.ckrt_thread.specs.declared.records.Thread.{Thread}
use Rattle.ckrt_thread.specs.declared.records.Thread.TheVariants as thread
use Rattle.ckrt_thread.specs.declared.records.Wait.{Wait}
use Rattle.ckrt_thread.specs.declared.records.Reason.{Reason}
use Rattle.ckrt_thread.specs.declared.records.Reason.TheVariants as reason
use Rattle.ckrt_thread.specs.declared.keys.SpecificData.{SpecificData}
use Rattle.ckrt_thread.specs.Keys.{KeyTable, data_of}
use Rattle.ckrt_thread.specs.State.{State}
use Rattle.ckrt_objects.specs.declared.address_map.Entry.{Entry}
use Rattle.ckrt_mutex.specs.declared.records.Mutex.{Mutex}
use Rattle.ckrt_barrier.specs.declared.barrier.Barrier.{Barrier}
use Rattle.ckrt_rwlock.specs.declared.records.RwLock.{RwLock}
use Rattle.ckrt_calls.specs.declared.table.Status.{Status}
use Rattle.ckrt_calls.specs.declared.table.Status.TheVariants as status
use Rattle.ckrt_calls.specs.declared.table.Tables.{Tables}
use Rattle.ckrt_calls.specs.WellFormed.{IsWellFormed}
use Rattle.ckrt_tables.specs.Encoding.{encoding_of, IsHeld}

-- NUMBERS OF ONE, TWO, FOUR AND EIGHT BYTES

abbrev pub is_byte : ℕ → Bool
is_byte n = nat_lt n 256

abbrev pub is_half : ℕ → Bool
is_half n = nat_lt n (256 ^ 2)

abbrev pub is_word : ℕ → Bool
is_word n = nat_lt n (256 ^ 4)

abbrev pub is_long : ℕ → Bool
is_long n = nat_lt n (256 ^ 8)

-- a number that may be absent
abbrev pub if_there : (ℕ → Bool) → Option ℕ → Bool
if_there p None = true
if_there p (Some n) = p n

-- RECORDS

-- x0 is 0
abbrev pub fit_registers : Registers → Bool
fit_registers r =
    is_word r.pc && (length r.x == 32 && (slice_index r.x 0 == 0 && list_all is_word r.x))

abbrev pub fits_handler : Handler → Bool
fits_handler h = is_word h.routine && is_word h.argument

-- a word for each of 32 keys
abbrev pub fits_data : SpecificData → Bool
fits_data d =
    is_byte d.round && (is_byte d.next_key && (length d.values == 32 && list_all is_word d.values))

abbrev pub fit_keys : KeyTable → Bool
fit_keys keys = length keys.destructors == 32 && list_all (if_there is_word) keys.destructors

abbrev pub fits_thread : Thread → Bool
fits_thread (thread.Ended v) = is_word v
fits_thread (thread.Live l) =
    fit_registers l.regs
    && (if_there is_word l.cancellation.unwinding
    && (nat_le (length l.handlers.items) 16 && (list_all fits_handler l.handlers.items && fits_data l.specific)))

abbrev pub fits_slot : Option Thread → Bool
fits_slot None = true
fits_slot (Some t) = fits_thread t

abbrev pub fits_reason : Reason → Bool
fits_reason (reason.Join id) = is_byte id
fits_reason (reason.Lock a) = is_word a
fits_reason (reason.Retake a r) = is_word a
fits_reason (reason.Condition c a) = is_word c && is_word a
fits_reason (reason.Barrier a) = is_word a
fits_reason (reason.Read a) = is_word a
fits_reason (reason.Write a) = is_word a
fits_reason reason.Input = true
fits_reason reason.Sleep = true

abbrev pub fits_wait : Wait → Bool
fits_wait w = is_byte w.thread && (fits_reason w.reason && if_there is_long w.deadline)

-- an owner that is there is no 0: 0 stands for none
abbrev pub is_id : ℕ → Bool
is_id n = nat_lt 0 n && is_byte n

abbrev pub fits_mutex : Entry Mutex → Bool
fits_mutex e = is_word e.address && (if_there is_id e.value.owner && is_half e.value.count)

abbrev pub fits_barrier : Entry Barrier → Bool
fits_barrier e = is_word e.address && is_word e.value.count

abbrev pub fits_rwlock : Entry RwLock → Bool
fits_rwlock e =
    is_word e.address
    && (if_there is_id e.value.writer
    && (length e.value.readers == 65 && (slice_index e.value.readers 0 == 0 && list_all is_half e.value.readers)))

abbrev pub fits_status : Status → Bool
fits_status status.Running = true
fits_status (status.Exited code) = is_word code
fits_status (status.Faulted t pc c) = is_byte t && is_word pc

-- WHAT VERSION 1 CAN SAY

-- no value, and no round of destructors
abbrev pub is_without_data : SpecificData → Bool
is_without_data d = d.round == 0 && (d.next_key == 0 && list_all (λ v. v == 0) d.values)

abbrev pub is_slot_without_data : Option Thread → Bool
is_slot_without_data o = is_without_data (data_of o)

-- keys are off, and no thread has anything under one
abbrev pub is_without_keys : State → Bool
is_without_keys s = not s.keys.is_on && list_all is_slot_without_data s.threads

-- TABLES

-- the numbers fit their types
pub record Fit (s : Tables) : Type 0 where
  pub clock : is_long s.clock ≡ true
  pub status : fits_status s.status ≡ true
  pub harts : list_all (if_there is_id) s.threads.harts ≡ true
  pub threads : list_all fits_slot s.threads.threads ≡ true
  pub waits : list_all fits_wait s.threads.waits ≡ true
  pub keys : fit_keys s.threads.keys ≡ true
  pub mutexes : list_all fits_mutex s.mutexes ≡ true
  pub barriers : list_all fits_barrier s.barriers ≡ true
  pub rwlocks : list_all fits_rwlock s.rwlocks ≡ true
  pub input : list_all is_byte s.input ≡ true

-- well-formed tables with that many harts, and the output that the program holds, in a version
pub record CanBeSaved (version harts : ℕ) (s : Tables) (held : List ℕ) : Type 0 where
  -- the rules of tables hold
  pub well_formed : IsWellFormed s
  -- each number is one that its field can have
  pub fit : Fit s
  -- version 1 has no keys
  pub said : version ≡ 1 → is_without_keys s.threads ≡ true
  -- there are that many harts
  pub hart_count : s.threads.hart_count ≡ harts
  -- it is no more output than a program holds
  pub is_held : IsHeld held
  -- and made of bytes
  pub held_bytes : list_all is_byte held ≡ true

-- no two states that can be saved have one encoding
abbrev pub AreDistinct : ℕ → ℕ → Type 0
AreDistinct version harts =
    (s t : Tables) (held out : List ℕ) → CanBeSaved version harts s held
    → CanBeSaved version harts t out
    → encoding_of version s held ≡ encoding_of version t out → (s ≡ t) × (held ≡ out)
