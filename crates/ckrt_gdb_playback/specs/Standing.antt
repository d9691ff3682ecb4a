-- What is told of a thread: for what it waits, and of whom, or on which hart it is.
use Rattle.std.specs.Prelude.{ℕ, suc, if◌then◌else◌, List, [], ◌∷◌, ◌++◌, codes, decimal, Option, Some, None}
use Rattle.std.specs.List.{find}
use Rattle.ckrt_thread.specs.declared.records.Reason.{Reason}
use Rattle.ckrt_thread.specs.declared.records.Reason.TheVariants as reason
use Rattle.ckrt_thread.specs.declared.records.Wait.{Wait}
use Rattle.ckrt_thread.specs.State as threads
use Rattle.ckrt_thread.specs.Waits.{is_of}
use Rattle.ckrt_objects.specs.declared.address_map.Entry.{Entry}
use Rattle.ckrt_objects.specs.AddressMap.{lookup}
use Rattle.ckrt_mutex.specs.declared.records.Mutex.{Mutex}
use Rattle.ckrt_calls.specs.declared.table.Tables.{Tables}
use Rattle.ckrt_gdb_forms.specs.Numbers.{number_text}

-- an address, as a debugger reads it
abbrev pub address_text : ℕ → List ℕ
address_text a = codes "0x" ++ number_text a

-- ` of thread N`, where somebody owns it
abbrev pub owner_text : Option ℕ → List ℕ
owner_text None = []
owner_text (Some t) = codes " of thread " ++ decimal t

abbrev pub owner_in : Option Mutex → Option ℕ
owner_in None = None
owner_in (Some m) = m.owner

abbrev pub owner_of : ℕ → List (Entry Mutex) → Option ℕ
owner_of a ms = owner_in (lookup a ms)

-- a mutex, and who has it
abbrev pub mutex_text : ℕ → List (Entry Mutex) → List ℕ
mutex_text a ms = address_text a ++ owner_text (owner_of a ms)

-- what a thread waits for
abbrev pub reason_text : Reason → List (Entry Mutex) → List ℕ
reason_text reason.Input ms = codes "waits for input"
reason_text reason.Sleep ms = codes "sleeps"
reason_text (reason.Join t) ms = codes "joins thread " ++ decimal t
reason_text (reason.Lock m) ms = codes "waits for mutex " ++ mutex_text m ms
reason_text (reason.Retake m r) ms = codes "waits again for mutex " ++ mutex_text m ms
reason_text (reason.Condition c m) ms = codes "waits at condition " ++ address_text c
reason_text (reason.Barrier b) ms = codes "waits at barrier " ++ address_text b
reason_text (reason.Read l) ms = codes "waits to read " ++ address_text l
reason_text (reason.Write l) ms = codes "waits to write " ++ address_text l

-- `, until N` where there is a deadline
abbrev pub until_text : Option ℕ → List ℕ
until_text None = []
until_text (Some moment) = codes ", until " ++ decimal moment

abbrev pub wait_text : Wait → List (Entry Mutex) → List ℕ
wait_text w ms = reason_text w.reason ms ++ until_text w.deadline

-- the hart that a thread is on, among harts of which the first has this number
abbrev pub hart_from : ℕ → ℕ → List (Option ℕ) → Option ℕ
hart_from h t [] = None
hart_from h t (on ∷ more) = if threads.holds t on then Some h else hart_from (suc h) t more

-- who doesn't wait is on a hart, or ready
abbrev pub hart_text : Option ℕ → List ℕ
hart_text None = codes "ready"
hart_text (Some h) = codes "on hart " ++ decimal h

abbrev pub standing_by : Option Wait → ℕ → Tables → List ℕ
standing_by (Some w) t s = wait_text w s.mutexes
standing_by None t s = hart_text (hart_from 0 t s.threads.harts)

-- what is told of a thread
abbrev pub standing_text : ℕ → Tables → List ℕ
standing_text t s = standing_by (find (is_of t) s.threads.waits) t s
