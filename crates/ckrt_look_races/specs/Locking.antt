-- What steps tell of locks: which are taken and given up, how and where, and which are made.
use Rattle.std.specs.Prelude.{ℕ, ◌-◌, Bool, if◌then◌else◌, List, [], ◌∷◌, Option, Some, None}
use Rattle.ckrt_registers.specs.Registers.{Registers, get}
use Rattle.ckrt_thread.specs.State as threads
use Rattle.ckrt_calls.specs.declared.table.Tables.{Tables}
use Rattle.ckrt_look_clocks.specs.declared.lock.LockName.{LockName}
use Rattle.ckrt_look_clocks.specs.declared.lock.Locking.TheVariants as locking
use Rattle.ckrt_look_clocks.specs.declared.lock.Taking.{Taking}
use Rattle.ckrt_look_clocks.specs.declared.operation.Operation.{Operation}
use Rattle.ckrt_look_clocks.specs.declared.operation.Operation.TheVariants.{Lock}
use Rattle.ckrt_look_clocks.specs.declared.operation.Place.{Place}
use Rattle.ckrt_look_races.specs.Holders.{thread_holder}
use Rattle.ckrt_look_races.specs.Kit.{unless_of_kit}

-- a thread that has a lock is behind its call, and x1 is where its function returns to
abbrev pub taking_by : LockName → (reads : Bool) → Place → Option Registers → Taking
taking_by l reads p None =
    record { lock = l; reads = reads; pc = 0; caller = 0; place = p }
taking_by l reads p (Some g) =
    record { lock = l; reads = reads; pc = g.pc - 4; caller = get g 1 - 4; place = p }

-- how a thread took one to read or not, by the tables behind the step
abbrev pub taking_of : (t : ℕ) → LockName → (reads : Bool) → Place → Tables → Taking
taking_of t l reads p after =
    taking_by l reads p (threads.regs_of (threads.thread_of after.threads t))

-- it took it, for which it would have waited as long as need be, or not
abbrev pub takes : (t : ℕ) → (waits : Bool) → Taking → Operation
takes t w k = Lock (locking.Take t w k) k.place

abbrev pub gives_up : Place → (t : ℕ) → LockName → Operation
gives_up p t l = Lock (locking.GiveUp t l) p

-- unless it holds it still
abbrev pub gives_up_unless : (still : Bool) → Place → (t : ℕ) → LockName → List Operation
gives_up_unless still p t l = if still then [] else gives_up p t l ∷ []

-- a lock is made or destroyed, unless it is one of a kit
abbrev pub made_anew : Place → (address : ℕ) → LockName → List Operation
made_anew p a l = unless_of_kit a (Lock (locking.Renew l) p ∷ [])

-- a thread begins
abbrev pub begins : Place → (t : ℕ) → Operation
begins p t = Lock (locking.Begin (thread_holder t)) p
