-- How a search passes positions without a reason to stop (this project's choice).
use Rattle.std.specs.Prelude.{◌≡◌, ◌≢◌, ◌<◌, ◌-◌, ◌==◌, ◌||◌, ℕ, zero, suc, nat_le, Bool, true, false, not, if◌then◌else◌, Option, Some, None, is_none, List, [], ◌∷◌, ◌++◌, drop, slice_get}
use Rattle.std.specs.List.{list_all, list_any}
use Rattle.ckrt_memory.specs.Reasons.{Meets}
use Rattle.ckrt_events.specs.declared.event.Event.{Event}
use Rattle.ckrt_machine.specs.Steps.{State}
use Rattle.ckrt_machine.specs.RunsTo.{meets_on}
use Rattle.ckrt_look_recording.specs.Quiet.{IsCalm}
use Rattle.ckrt_gdb_history.specs.declared.position.Position.{Position}
use Rattle.ckrt_gdb_history.specs.declared.reason.SeenByte.{SeenByte}
use Rattle.ckrt_gdb_history.specs.declared.stop.Breakpoint.{Breakpoint}
use Rattle.ckrt_gdb_history.specs.declared.stop.Stops.{Stops}
use Rattle.ckrt_gdb_history.specs.declared.stop.Watch.{Watch}
use Rattle.ckrt_gdb_history.specs.declared.stop.WatchKind.{WatchKind}
use Rattle.ckrt_gdb_history.specs.declared.stop.WatchKind.TheVariants.{Changes, Loads, Accesses}
use Rattle.ckrt_gdb_history.specs.Positions.{History, run_in, state_at}
use Rattle.ckrt_gdb_history.specs.Stops.{accesses, accesses_at, is_next_of, runner_at, width}

-- BYTES THAT WERE SEEN

-- the byte at an address, where there is one
abbrev pub byte_if : ℕ → List ℕ → Option ℕ
byte_if a bytes = if nat_le 4096 a then slice_get bytes (a - 4096) else None

-- what is seen at an address
abbrev pub seen_byte : ℕ → List ℕ → SeenByte
seen_byte a bytes = record { address = a; byte = byte_if a bytes }

-- what is seen at n addresses from a on
abbrev pub seen_from : ℕ → ℕ → List ℕ → List SeenByte
seen_from zero a bytes = []
seen_from (suc n) a bytes = seen_byte a bytes ∷ seen_from n (suc a) bytes

-- what is seen under a watch of changes
abbrev pub seen_for : WatchKind → Watch → List ℕ → List SeenByte
seen_for Changes w bytes = seen_from (width w) w.first bytes
seen_for Loads w bytes = []
seen_for Accesses w bytes = []

abbrev pub seen_in : List ℕ → Watch → List SeenByte
seen_in bytes w = seen_for w.kind w bytes

-- what is seen under all of these
abbrev pub seen_under : List Watch → List ℕ → List SeenByte
seen_under [] bytes = []
seen_under (w ∷ ws) bytes = seen_in bytes w ++ seen_under ws bytes

-- that at a position
abbrev pub seen_at : List Watch → Position → List Event → State → List SeenByte
seen_at ws p es s = seen_under ws (state_at p es s).state.bytes

-- two bytes are the same, or there is neither
abbrev pub is_same : Option ℕ → Option ℕ → Bool
is_same None o = is_none o
is_same (Some b) None = false
is_same (Some b) (Some c) = b == c

-- it is there as it was
abbrev pub is_there : List ℕ → SeenByte → Bool
is_there bytes b = is_same (byte_if b.address bytes) b.byte

abbrev pub are_there : List ℕ → List SeenByte → Bool
are_there bytes seen = list_all (is_there bytes) seen

-- WHERE THERE MAY BE A REASON

-- one of the breakpoints has this address
abbrev pub is_at : ℕ → List Breakpoint → Bool
is_at pc bs = list_any (λ (b : Breakpoint). b.address == pc) bs

-- before an instruction there may be a reason to stop, whoever makes it: it is at the address of a breakpoint, or a byte isn't
-- as it was seen
abbrev pub may_stop : List Breakpoint → List SeenByte → Meets
may_stop bs seen r bytes = is_at r.pc bs || not (are_there bytes seen)

-- a reason, or a watch stops for what the instruction loads or stores
abbrev pub or_access : List Watch → Meets → Meets
or_access ws meets r bytes = meets r bytes || accesses ws r bytes

-- a reason is met with the registers of the thread on the run's hart, and the bytes
abbrev pub meets_in : Meets → Option (ℕ × ℕ) → State → Bool
meets_in meets None s = true
meets_in meets (Some run) s = meets_on meets run.0 s

abbrev pub first_meets : Meets → List Event → State → Bool
first_meets meets [] s = true
first_meets meets (e ∷ es) s = meets_in meets (run_in e) s

-- a reason is met at a position of a run
abbrev pub meets_at : Meets → Position → List Event → State → Bool
meets_at meets p es s = first_meets meets (drop p.events es) (state_at p es s).state

-- no such reason is met at a position of a run, and the next step isn't the thread's
pub record IsPassed (meets : Meets) (thread : Option ℕ) (p : Position) (es : List Event) (s : State) : Type 0 where
  pub others : is_next_of thread (runner_at p es s) ≡ false
  pub unmet : meets_at meets p es s ≡ false

-- another thread than this one is on the run's hart, and acts on no request
abbrev pub IsOtherIn : (thread other : ℕ) → Option (ℕ × ℕ) → State → Type 0
IsOtherIn thread other None s = ⊥
IsOtherIn thread other (Some run) s = (other ≢ thread) × IsCalm run.0 other s

-- a position inside a run, where there is no reason that a search looks for: neither is the next step the wanted thread's, nor does
-- a watch stop for what it loads or stores
pub record MayPass (stops : Stops) (seen : List SeenByte) (h : History) (p : Position) : Type 0 where
  pub inside : 0 < p.steps
  pub others : is_next_of stops.thread (runner_at p h.events h.start) ≡ false
  pub unmet : meets_at (may_stop stops.breakpoints.items seen) p h.events h.start ≡ false
  pub unseen : accesses_at stops.watches.items p h.events h.start ≡ false
