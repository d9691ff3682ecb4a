-- What a step that is no call loads or stores, or gives anew. Fetches are no accesses.
use Rattle.std.specs.Prelude.{ℕ, ◌+◌, ◌-◌, ◌/◌, ◌%◌, ◌==◌, ◌&&◌, Bool, true, false, if◌then◌else◌, List, [], ◌∷◌, Option, Some, None}
use Rattle.ckrt_registers.specs.Registers.{Registers, get}
use Rattle.ckrt_rv32i.specs.Effect.{following, load_size}
use Rattle.ckrt_rv32i.specs.Memory.{byte_count, is_valid, loaded}
use Rattle.ckrt_rv32i.specs.Words.{word_add_signed}
use Rattle.ckrt_rv32i.specs.declared.instruction.Instr.{Instr}
use Rattle.ckrt_rv32i.specs.declared.instruction.Instr.TheVariants as instr
use Rattle.ckrt_rv32i.specs.declared.instruction.AluOp.{AluOp}
use Rattle.ckrt_rv32i.specs.declared.instruction.AluOp.TheVariants as alu
use Rattle.ckrt_rv32i.specs.declared.memory_bus.Size.{Size}
use Rattle.ckrt_rv32i.specs.declared.memory_bus.Size.TheVariants as size
use Rattle.ckrt_thread.specs.State as threads
use Rattle.ckrt_machine.specs.Steps.{State}
use Rattle.ckrt_look_clocks.specs.declared.operation.Access.{Access}
use Rattle.ckrt_look_clocks.specs.declared.operation.Block.{Block}
use Rattle.ckrt_look_clocks.specs.declared.operation.Place.{Place}
use Rattle.ckrt_look_clocks.specs.declared.operation.Operation.{Operation}
use Rattle.ckrt_look_clocks.specs.declared.operation.Operation.TheVariants as operation
use Rattle.ckrt_look_recording.specs.Accesses.{fetched, may_access}
use Rattle.ckrt_look_races.specs.declared.accesses.Order.{Order}
use Rattle.ckrt_look_races.specs.declared.accesses.Order.TheVariants as order
use Rattle.ckrt_look_races.specs.declared.accesses.Stepping.{Stepping}
use Rattle.ckrt_look_races.specs.declared.holders.Lock.TheVariants as lock
use Rattle.ckrt_look_races.specs.Holders.{acquired, handed_on, released, thread_holder}
use Rattle.ckrt_look_races.specs.Kit.{is_in_kit}

-- ATOMIC OPERATIONS stand beside a fence, as the RISC-V psABI maps those of C11 (unprivileged manual, table A.6): a load that acquires
-- is followed by FENCE R,RW, and a store that releases follows FENCE RW,W. A relaxed one has a fence that orders less, FENCE R,R or
-- FENCE W,W (this project's choice)

abbrev pub FENCE_R_RW : ℕ
FENCE_R_RW = 0x0230000F

abbrev pub FENCE_RW_W : ℕ
FENCE_RW_W = 0x0310000F

abbrev pub FENCE_R_R : ℕ
FENCE_R_R = 0x0220000F

abbrev pub FENCE_W_W : ℕ
FENCE_W_W = 0x0110000F

-- the word stands at an address
abbrev pub is_word_at : List ℕ → (address word : ℕ) → Bool
is_word_at bytes a w = is_valid bytes a size.Word && loaded bytes a size.Word == w

abbrev pub order_by : (orders is_relaxed : Bool) → Order
order_by true r = order.Orders
order_by false true = order.Relaxed
order_by false false = order.Plain

-- the load of a step
abbrev pub load_order : List ℕ → Stepping → Order
load_order bytes s = order_by (is_word_at bytes (following s.regs) FENCE_R_RW)
    (is_word_at bytes (following s.regs) FENCE_R_R)

-- its store
abbrev pub store_order : List ℕ → Stepping → Order
store_order bytes s = order_by (is_word_at bytes (s.regs.pc - 4) FENCE_RW_W)
    (is_word_at bytes (s.regs.pc - 4) FENCE_W_W)

abbrev pub access_of : Stepping → (is_store is_atomic : Bool) → (address : ℕ) → Size → Access
access_of s is_store is_atomic a z = record {
  thread = thread_holder s.thread;
  is_store = is_store;
  is_atomic = is_atomic;
  pc = s.regs.pc;
  address = a;
  size = byte_count z;
  place = s.place;
}

-- a plain access is told unless its thread is in a kit
abbrev pub told : Stepping → Operation → List Operation
told s o = if s.is_in_kit then [] else o ∷ []

-- a load; before one that acquires what was given up to the word is taken, so that all that is before it; what a relaxed one meets its
-- thread's next fence takes (C11, 7.17.3 and 7.17.4)
abbrev pub load_operations : Stepping → Order → (address : ℕ) → Size → List Operation
load_operations s order.Plain a z = told s (operation.Access (access_of s false false a z))
load_operations s order.Relaxed a z =
    handed_on (lock.Word a) (lock.Loaded s.thread) s.place
    ∷ operation.Access (access_of s false true a z) ∷ []
load_operations s order.Orders a z =
    acquired s.thread (lock.Word a) s.place ∷ operation.Access (access_of s false true a z) ∷ []

-- the place behind a step, from which on the step itself is among what a thread has done
abbrev pub place_behind : Place → Place
place_behind p = record { event = p.event; step = p.step + 1 }

-- a store; behind one that releases all is given up that its thread has done, this store too; behind a relaxed one, what its thread's
-- last fence gave up
abbrev pub store_operations : Stepping → Order → (address : ℕ) → Size → List Operation
store_operations s order.Plain a z = told s (operation.Access (access_of s true false a z))
store_operations s order.Relaxed a z =
    operation.Access (access_of s true true a z)
    ∷ handed_on (lock.Fenced s.thread) (lock.Word a) (place_behind s.place) ∷ []
store_operations s order.Orders a z =
    operation.Access (access_of s true true a z)
    ∷ released s.thread (lock.Word a) (place_behind s.place) ∷ []

abbrev pub load_at : List ℕ → Stepping → (address : ℕ) → Size → List Operation
load_at bytes s a z =
    if may_access bytes a z then load_operations s (load_order bytes s) a z else []

abbrev pub store_at : List ℕ → Stepping → (address : ℕ) → Size → List Operation
store_at bytes s a z =
    if may_access bytes a z then store_operations s (store_order bytes s) a z else []

-- A FENCE of a thread (C11, 7.17.4) has R and W before and behind (unprivileged manual, 2.7): it takes what relaxed loads have met, and
-- gives up what its thread has done, for relaxed stores to hand on
abbrev pub is_thread_fence : (sets : ℕ) → Bool
is_thread_fence sets = sets / 16 % 4 == 3 && sets % 4 == 3

abbrev pub fence_operations : Stepping → List Operation
fence_operations s =
    acquired s.thread (lock.Loaded s.thread) s.place
    ∷ released s.thread (lock.Fenced s.thread) s.place ∷ []

abbrev pub fence_by : Stepping → (sets : ℕ) → List Operation
fence_by s sets = if is_thread_fence sets then fence_operations s else []

-- MEMORY THAT IS GIVEN ANEW, as a block of the heap, is told by SLT with rd x0, an instruction that does nothing, and which the manual
-- leaves to custom use (RV32I, HINT Instructions): so many bytes as rs2 says from the address in rs1 on, as whole words
abbrev pub is_renewal : AluOp → (rd : ℕ) → Bool
is_renewal alu.Slt rd = rd == 0
is_renewal _ rd = false

abbrev pub block_of : Stepping → (address bytes : ℕ) → Block
block_of s a n = record {
  thread = thread_holder s.thread;
  first = a / 4;
  count = n / 4;
  place = s.place;
}

abbrev pub renewal : Stepping → (address bytes : ℕ) → List Operation
renewal s a n = operation.Renew (block_of s a n) ∷ []

abbrev pub renewal_by : Stepping → AluOp → (rd rs1 rs2 : ℕ) → List Operation
renewal_by s op rd rs1 rs2 =
    if is_renewal op rd then renewal s (get s.regs rs1) (get s.regs rs2) else []

abbrev pub of_instruction : List ℕ → Stepping → Option Instr → List Operation
of_instruction bytes s (Some (instr.Load k rd rs1 offset)) =
    load_at bytes s (word_add_signed (get s.regs rs1) offset) (load_size k)
of_instruction bytes s (Some (instr.Store z rs1 rs2 offset)) =
    store_at bytes s (word_add_signed (get s.regs rs1) offset) z
of_instruction bytes s (Some (instr.Fence rd rs1 sets)) = fence_by s sets
of_instruction bytes s (Some (instr.Alu op rd rs1 rs2)) = renewal_by s op rd rs1 rs2
of_instruction bytes s _ = []

abbrev pub of_registers : (t : ℕ) → (is_in_kit : Bool) → Place → List ℕ → Option Registers → List Operation
of_registers t k p bytes None = []
of_registers t k p bytes (Some r) =
    of_instruction bytes (record { thread = t; is_in_kit = k; place = p; regs = r })
    (fetched bytes r.pc)

-- what the next step of the thread on a hart accesses, if that is an instruction
abbrev pub accesses : Place → Option ℕ → State → List Operation
accesses p None s = []
accesses p (Some t) s =
    of_registers t (is_in_kit t s.tables) p s.bytes
    (threads.regs_of (threads.thread_of s.tables.threads t))
