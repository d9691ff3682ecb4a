-- Where no watch stops for what the next step loads or stores.
use Rattle.std.proofs.Common.{◌≡◌, ℕ, ◌<◌, ◌==◌, ◌&&◌, not, Bool, true, false, List, [], ◌∷◌, Option, Some, None, drop, refl, sym, ap, ◌∙◌, arith}
use Rattle.std.specs.Prelude.{nat_le, nat_lt, ◌+◌}
use Rattle.std.specs.List.{list_any}
use Rattle.std.proofs.lemmas.Bool.{and_left, and_right, or_from, or_parts, true≢false}
use Rattle.std.proofs.lemmas.Bool.Decides.{nat_tests}
use Rattle.ckrt_registers.specs.Registers.{Registers}
use Rattle.ckrt_rv32i.specs.Memory.{byte_count}
use Rattle.ckrt_rv32i.specs.declared.instruction.Instr.{Instr}
use Rattle.ckrt_rv32i.specs.declared.instruction.Instr.TheVariants as instr
use Rattle.ckrt_rv32i.specs.declared.memory_bus.Size.{Size}
use Rattle.ckrt_thread.specs.Cancellation.{is_immediate}
use Rattle.ckrt_thread.specs.State.{regs_of, thread_of}
use Rattle.ckrt_thread.specs.declared.records.Thread.{Thread}
use Rattle.ckrt_thread.specs.declared.records.Thread.TheVariants as thread
use Rattle.ckrt_events.specs.declared.event.Event.{Event}
use Rattle.ckrt_memory.specs.Reasons.{Meets}
use Rattle.ckrt_machine.specs.Steps.{State, hart_of}
use Rattle.ckrt_machine.specs.RunsTo.{meets_for, meets_with}
use Rattle.ckrt_look_recording.specs.Accesses.{fetched, may_access}
use Rattle.ckrt_gdb_history.specs.declared.position.Position.{Position}
use Rattle.ckrt_gdb_history.specs.declared.stop.Watch.{Watch}
use Rattle.ckrt_gdb_history.specs.declared.stop.WatchKind.{WatchKind}
use Rattle.ckrt_gdb_history.specs.declared.stop.WatchKind.TheVariants.{Changes, Loads, Accesses}
use Rattle.ckrt_gdb_history.specs.Positions.{previous_position, run_in, state_at}
use Rattle.ckrt_gdb_history.specs.Search.{first_meets, meets_at, meets_in, or_access}
use Rattle.ckrt_gdb_history.specs.Stops.{accesses, accesses_at, accesses_for, accesses_in, accesses_of, first_accesses, has_accessed, is_first, is_seen, is_seen_by, is_under, sees}

-- NO WATCH OF LOADS

unseen_kind : (b : Bool) (k : WatchKind) → sees false k ≡ false → sees b k ≡ false
unseen_kind b Changes none = refl
unseen_kind b Loads none = absurd (true≢false none)
unseen_kind b Accesses none = absurd (true≢false none)

abbrev pub sees_loads : Watch → Bool
sees_loads w = sees false w.kind

not_under : (b : Bool) (a : ℕ) (z : Size) (ws : List Watch) → list_any sees_loads ws ≡ false → list_any (is_under b a z) ws ≡ false
not_under b a z [] none = refl
not_under b a z (w ∷ ws) none =
    let both = or_parts (sees_loads w) (list_any sees_loads ws) none in
    or_from (is_under b a z w) (list_any (is_under b a z) ws)
    (and_left (sees b w.kind) (nat_le a w.last && nat_lt w.first (a + byte_count z)) (unseen_kind b w.kind both.0)) (not_under b a z ws both.1)

module _ (ws : List Watch) (none : list_any sees_loads ws ≡ false) where
  not_seen : (b : Bool) (a : ℕ) (z : Size) (bytes : List ℕ) → is_seen b a z ws bytes ≡ false
  not_seen b a z bytes = and_left (list_any (is_under b a z) ws) (may_access bytes a z) (not_under b a z ws none)

  not_by : (i : Option Instr) (r : Registers) (bytes : List ℕ) → is_seen_by i ws r bytes ≡ false
  not_by None r bytes = refl
  not_by (Some (instr.Load k rd rs1 offset)) r bytes = not_seen false _ _ bytes
  not_by (Some (instr.Store z rs1 rs2 offset)) r bytes = not_seen true _ _ bytes
  not_by (Some (instr.Lui rd i)) r bytes = refl
  not_by (Some (instr.Auipc rd i)) r bytes = refl
  not_by (Some (instr.Jal rd offset)) r bytes = refl
  not_by (Some (instr.Jalr rd rs1 offset)) r bytes = refl
  not_by (Some (instr.Branch c rs1 rs2 offset)) r bytes = refl
  not_by (Some (instr.AluImm op rd rs1 i)) r bytes = refl
  not_by (Some (instr.Shift op rd rs1 amount)) r bytes = refl
  not_by (Some (instr.Alu op rd rs1 rs2)) r bytes = refl
  not_by (Some (instr.Fence rd rs1 i)) r bytes = refl
  not_by (Some instr.Ecall) r bytes = refl
  not_by (Some instr.Ebreak) r bytes = refl

  not_of : (o : Option Thread) (bytes : List ℕ) → accesses_of ws o bytes ≡ false
  not_of None bytes = refl
  not_of (Some (thread.Ended v)) bytes = refl
  not_of (Some (thread.Live l)) bytes = and_right (not (is_immediate l.cancellation)) (accesses ws l.regs bytes) (not_by (fetched bytes l.regs.pc) l.regs bytes)

  not_for : (o : Option ℕ) (s : State) → accesses_for ws o s ≡ false
  not_for None s = refl
  not_for (Some t) s = not_of (thread_of s.tables.threads t) s.bytes

  not_in : (o : Option (ℕ × ℕ)) (s : State) → accesses_in ws o s ≡ false
  not_in None s = refl
  not_in (Some run) s = not_for (hart_of s.tables run.0) s

  not_first : (es : List Event) (s : State) → first_accesses ws es s ≡ false
  not_first [] s = refl
  not_first (e ∷ es) s = not_in (run_in e) s

  pub never_accesses : (p : Position) (es : List Event) (s : State) → accesses_at ws p es s ≡ false
  never_accesses p es s = not_first (drop p.events es) (state_at p es s).state

  pub never_accessed : (p : Position) (es : List Event) (s : State) → has_accessed ws p es s ≡ false
  never_accessed p es s =
      and_right (not (is_first p)) (accesses_at ws (previous_position p es s) es s) (never_accesses (previous_position p es s) es s)

-- NEITHER A REASON NOR A WATCH

module _ (ws : List Watch) (meets : Meets) where
  neither_of : (o : Option Thread) (bytes : List ℕ) → meets_with (or_access ws meets) (regs_of o) bytes ≡ false → (meets_with meets (regs_of o) bytes ≡ false) × (accesses_of ws o bytes ≡ false)
  neither_of None bytes unmet = absurd (true≢false unmet)
  neither_of (Some (thread.Ended v)) bytes unmet = absurd (true≢false unmet)
  neither_of (Some (thread.Live l)) bytes unmet =
      let both = or_parts (meets l.regs bytes) (accesses ws l.regs bytes) unmet in
      (both.0, and_right (not (is_immediate l.cancellation)) (accesses ws l.regs bytes) both.1)

  neither_for : (o : Option ℕ) (s : State) → meets_for (or_access ws meets) o s ≡ false → (meets_for meets o s ≡ false) × (accesses_for ws o s ≡ false)
  neither_for None s unmet = absurd (true≢false unmet)
  neither_for (Some t) s unmet = neither_of (thread_of s.tables.threads t) s.bytes unmet

  neither_in : (o : Option (ℕ × ℕ)) (s : State) → meets_in (or_access ws meets) o s ≡ false → (meets_in meets o s ≡ false) × (accesses_in ws o s ≡ false)
  neither_in None s unmet = absurd (true≢false unmet)
  neither_in (Some run) s unmet = neither_for (hart_of s.tables run.0) s unmet

  neither_first : (es : List Event) (s : State) → first_meets (or_access ws meets) es s ≡ false → (first_meets meets es s ≡ false) × (first_accesses ws es s ≡ false)
  neither_first [] s unmet = absurd (true≢false unmet)
  neither_first (e ∷ es) s unmet = neither_in (run_in e) s unmet

  pub neither_at : (p : Position) (es : List Event) (s : State) → meets_at (or_access ws meets) p es s ≡ false → (meets_at meets p es s ≡ false) × (accesses_at ws p es s ≡ false)
  neither_at p es s unmet = neither_first (drop p.events es) (state_at p es s).state unmet

-- THE FIRST POSITION

pub is_no_first : (p : Position) → (p.steps ≡ 0 → p.events ≡ 0 → ⊥) → is_first p ≡ false
is_no_first p never = by (p.events == 0) (p.steps == 0) refl refl
  where
    by : (a b : Bool) → (p.events == 0) ≡ a → (p.steps == 0) ≡ b → (a && b) ≡ false
    by false b e f = refl
    by true false e f = refl
    by true true e f = absurd (never (grind (arith, nat_tests, f)) (grind (arith, nat_tests, e)))

-- behind a step a watch stops for what that accesses
pub accessed_by : (ws : List Watch) (p : Position) (es : List Event) (s : State) → (p.steps ≡ 0 → p.events ≡ 0 → ⊥) → has_accessed ws p es s ≡ accesses_at ws (previous_position p es s) es s
accessed_by ws p es s never = ap (λ b. not b && accesses_at ws (previous_position p es s) es s) (is_no_first p never)
