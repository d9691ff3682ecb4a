-- Where a walk through a history stops (this project's choice).
use Rattle.std.specs.Prelude.{◌≡◌, ◌⊎◌, ℕ, zero, suc, ◌+◌, ◌-◌, ◌==◌, ◌&&◌, ◌||◌, nat_le, nat_lt, Bool, true, false, not, IsTrue, if◌then◌else◌, Option, Some, None, List, [], ◌∷◌, ◌++◌, drop}
use Rattle.std.specs.List.{list_any}
use Rattle.std.specs.Option.{option_map}
use Rattle.ckrt_registers.specs.Registers.{Registers, get}
use Rattle.ckrt_rv32i.specs.Effect.{load_size}
use Rattle.ckrt_rv32i.specs.Memory.{is_valid, byte_at, byte_count}
use Rattle.ckrt_rv32i.specs.Words.{word_add_signed}
use Rattle.ckrt_rv32i.specs.declared.instruction.Instr.{Instr}
use Rattle.ckrt_rv32i.specs.declared.instruction.Instr.TheVariants as instr
use Rattle.ckrt_rv32i.specs.declared.memory_bus.Size.{Size}
use Rattle.ckrt_rv32i.specs.declared.memory_bus.Size.TheVariants as size
use Rattle.ckrt_memory.specs.Reasons.{Meets}
use Rattle.ckrt_thread.specs.Cancellation.{is_immediate}
use Rattle.ckrt_thread.specs.State.{regs_of, thread_of}
use Rattle.ckrt_thread.specs.declared.records.Thread.{Thread}
use Rattle.ckrt_thread.specs.declared.records.Thread.TheVariants as thread
use Rattle.ckrt_events.specs.declared.event.Event.{Event}
use Rattle.ckrt_machine.specs.Steps.{State, hart_of}
use Rattle.ckrt_look_recording.specs.Accesses.{fetched, may_access}
use Rattle.ckrt_gdb_history.specs.declared.position.Position.{Position}
use Rattle.ckrt_gdb_history.specs.declared.stop.Breakpoint.{Breakpoint}
use Rattle.ckrt_gdb_history.specs.declared.stop.Watch.{Watch}
use Rattle.ckrt_gdb_history.specs.declared.stop.WatchKind.{WatchKind}
use Rattle.ckrt_gdb_history.specs.declared.stop.WatchKind.TheVariants.{Changes, Loads, Accesses}
use Rattle.ckrt_gdb_history.specs.declared.stop.Stops.{Stops}
use Rattle.ckrt_gdb_history.specs.Positions.{History, previous_position, run_in, state_at}

-- WHOSE STEP IS NEXT

-- a thread, and the address of its instruction
abbrev pub Runner : Type 0
Runner = ℕ × ℕ

-- the thread with its pc, if it hasn't ended
abbrev pub runner_of : Option ℕ → State → Option Runner
runner_of None s = None
runner_of (Some t) s =
    option_map (λ (r : Registers). (t, r.pc)) (regs_of (thread_of s.tables.threads t))

-- who is on the run's hart
abbrev pub runner_in : Option (ℕ × ℕ) → State → Option Runner
runner_in None s = None
runner_in (Some run) s = runner_of (hart_of s.tables run.0) s

abbrev pub first_runner : List Event → State → Option Runner
first_runner [] s = None
first_runner (e ∷ es) s = runner_in (run_in e) s

-- whose step is next, where the next event is a run
abbrev pub runner_at : Position → List Event → State → Option Runner
runner_at p es s = first_runner (drop p.events es) (state_at p es s).state

-- BREAKPOINTS

-- none is any
abbrev pub is_for : Option ℕ → ℕ → Bool
is_for None t = true
is_for (Some u) t = u == t

abbrev pub is_hit : Runner → Breakpoint → Bool
is_hit r b = b.address == r.1 && is_for b.thread r.0

-- the next step is at one of them
abbrev pub is_any_hit : Option Runner → List Breakpoint → Bool
is_any_hit None bs = false
is_any_hit (Some r) bs = list_any (is_hit r) bs

-- STEPS OF A THREAD

-- none is for nobody's
abbrev pub is_of : Option ℕ → Runner → Bool
is_of None r = false
is_of (Some t) r = t == r.0

-- the next step is of the thread whose steps are looked for
abbrev pub is_next_of : Option ℕ → Option Runner → Bool
is_next_of o None = false
is_next_of o (Some r) = is_of o r

-- the next step is at a breakpoint, or of the thread whose steps are looked for
abbrev pub is_wanted : Stops → Option Runner → Bool
is_wanted stops None = false
is_wanted stops (Some r) = is_any_hit (Some r) stops.breakpoints.items || is_of stops.thread r

-- WATCHES of changes

-- the byte at an address, where there is one
abbrev pub bytes_at : ℕ → List ℕ → List ℕ
bytes_at a bytes = if is_valid bytes a size.Byte then byte_at bytes a ∷ [] else []

-- the bytes at n addresses from a on
abbrev pub bytes_from : ℕ → ℕ → List ℕ → List ℕ
bytes_from zero a bytes = []
bytes_from (suc n) a bytes = bytes_at a bytes ++ bytes_from n (suc a) bytes

-- how many addresses a watch has
abbrev pub width : Watch → ℕ
width w = (w.last + 1) - w.first

-- the bytes under a watch of changes
abbrev pub bytes_for : WatchKind → Watch → List ℕ → List ℕ
bytes_for Changes w bytes = bytes_from (width w) w.first bytes
bytes_for Loads w bytes = []
bytes_for Accesses w bytes = []

abbrev pub bytes_in : List ℕ → Watch → List ℕ
bytes_in bytes w = bytes_for w.kind w bytes

-- the bytes under all watches of changes
abbrev pub watched : List Watch → List ℕ → List ℕ
watched [] bytes = []
watched (w ∷ ws) bytes = bytes_in bytes w ++ watched ws bytes

-- how many addresses all watches have
abbrev pub widths : List Watch → ℕ
widths [] = 0
widths (w ∷ ws) = width w + widths ws

-- those at a position
abbrev pub watched_at : List Watch → Position → List Event → State → List ℕ
watched_at ws p es s = watched ws (state_at p es s).state.bytes

-- the step that led here changed a byte under a watch of changes
abbrev pub HasChanged : List Watch → Position → List Event → State → Type 0
HasChanged ws p es s =
    watched_at ws (previous_position p es s) es s ≡ watched_at ws p es s → ⊥

-- WATCHES of loads, and of loads and stores

-- a watch of the kind stops for loads, or for stores, whatever they change
abbrev pub sees : (is_store : Bool) → WatchKind → Bool
sees is_store Changes = false
sees is_store Loads = not is_store
sees is_store Accesses = true

-- a load, or a store, of so many bytes from an address on has one under the watch, and the watch stops for it
abbrev pub is_under : (is_store : Bool) → (address : ℕ) → Size → Watch → Bool
is_under is_store a z w =
    sees is_store w.kind && (nat_le a w.last && nat_lt w.first (a + byte_count z))

-- it is made, and one of the watches stops for it
abbrev pub is_seen : (is_store : Bool) → (address : ℕ) → Size → List Watch → List ℕ → Bool
is_seen is_store a z ws bytes = list_any (is_under is_store a z) ws && may_access bytes a z

-- one of them stops for what an instruction loads or stores
abbrev pub is_seen_by : Option Instr → List Watch → Meets
is_seen_by None ws r bytes = false
is_seen_by (Some (instr.Load k rd rs1 offset)) ws r bytes =
    is_seen false (word_add_signed (get r rs1) offset) (load_size k) ws bytes
is_seen_by (Some (instr.Store z rs1 rs2 offset)) ws r bytes =
    is_seen true (word_add_signed (get r rs1) offset) z ws bytes
is_seen_by (Some _) ws r bytes = false

-- one of them stops for what the instruction at the pc loads or stores
abbrev pub accesses : List Watch → Meets
accesses ws r bytes = is_seen_by (fetched bytes r.pc) ws r bytes

-- the same of the next step of a thread, unless it acts on a request by that
abbrev pub accesses_of : List Watch → Option Thread → List ℕ → Bool
accesses_of ws None bytes = false
accesses_of ws (Some (thread.Ended v)) bytes = false
accesses_of ws (Some (thread.Live l)) bytes =
    not (is_immediate l.cancellation) && accesses ws l.regs bytes

abbrev pub accesses_for : List Watch → Option ℕ → State → Bool
accesses_for ws None s = false
accesses_for ws (Some t) s = accesses_of ws (thread_of s.tables.threads t) s.bytes

-- of who is on the run's hart
abbrev pub accesses_in : List Watch → Option (ℕ × ℕ) → State → Bool
accesses_in ws None s = false
accesses_in ws (Some run) s = accesses_for ws (hart_of s.tables run.0) s

abbrev pub first_accesses : List Watch → List Event → State → Bool
first_accesses ws [] s = false
first_accesses ws (e ∷ es) s = accesses_in ws (run_in e) s

-- of whose step is next
abbrev pub accesses_at : List Watch → Position → List Event → State → Bool
accesses_at ws p es s = first_accesses ws (drop p.events es) (state_at p es s).state

-- the first position: no step led there
abbrev pub is_first : Position → Bool
is_first p = p.events == 0 && p.steps == 0

-- one of the watches stops for what the step that led here loaded or stored
abbrev pub has_accessed : List Watch → Position → List Event → State → Bool
has_accessed ws p es s =
    not (is_first p) && accesses_at ws (previous_position p es s) es s

-- STOPS

-- the step that led here met a watch
abbrev pub HasMet : List Watch → Position → List Event → State → Type 0
HasMet ws p es s = HasChanged ws p es s ⊎ IsTrue (has_accessed ws p es s)

-- the next step is at a breakpoint or of the thread whose steps are looked for, or an event's end is looked for and here it is
abbrev pub is_halt : Stops → Position → List Event → State → Bool
is_halt stops p es s = is_wanted stops (runner_at p es s) || (stops.event_ends && p.steps == 0)

-- there is a reason to stop
abbrev pub IsStop : Stops → History → Position → Type 0
IsStop stops h p =
    IsTrue (is_halt stops p h.events h.start) ⊎ HasMet stops.watches.items p h.events h.start

-- there is none, wherever somebody stands
abbrev pub AreNone : Stops → Type 0
AreNone stops = (h : History) (p : Position) → IsStop stops h p → ⊥
