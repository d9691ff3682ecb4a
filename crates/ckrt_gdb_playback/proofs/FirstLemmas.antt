-- Which watch is told: the first that a step met.
use Rattle.std.proofs.Common.{◌≡◌, ◌≤◌, ◌-◌, ℕ, List, [], ◌∷◌, ◌++◌, length, get_or, take, drop, ap, refl, subst, arith}
use Rattle.std.proofs.lemmas.List.{take_all}
use Rattle.ckrt_events.specs.declared.event.Event.{Event}
use Rattle.ckrt_machine.specs.Steps.{State}
use Rattle.ckrt_gdb_history.specs.declared.position.Position.{Position}
use Rattle.ckrt_gdb_history.specs.declared.stop.Watch.{Watch}
use Rattle.ckrt_gdb_playback.specs.Motions.{IsFirstMet, IsMetUnder}
use Rattle.std.proofs.Common.{◌⊎◌, inl, inr, Bool, true, false, ◌&&◌, ◌||◌, not, Option, Some, None, sym, ◌∙◌}
use Rattle.std.specs.List.{list_any}
use Rattle.std.proofs.lemmas.Bool.{and_parts, false≢true}
use Rattle.std.proofs.lemmas.List.{append-nil}
use Rattle.ckrt_registers.specs.Registers.{Registers, get}
use Rattle.ckrt_rv32i.specs.declared.instruction.Instr.{Instr}
use Rattle.ckrt_rv32i.specs.declared.instruction.Instr.TheVariants as instr
use Rattle.ckrt_rv32i.specs.declared.memory_bus.Size.{Size}
use Rattle.ckrt_thread.specs.Cancellation.{is_immediate}
use Rattle.ckrt_thread.specs.State.{thread_of}
use Rattle.ckrt_thread.specs.declared.records.Thread.{Thread}
use Rattle.ckrt_thread.specs.declared.records.Thread.TheVariants as thread
use Rattle.ckrt_machine.specs.Steps.{hart_of}
use Rattle.ckrt_gdb_history.specs.Positions.{previous_position, run_in, state_at}
use Rattle.ckrt_gdb_history.specs.Stops.{HasMet, accesses, accesses_at, accesses_for, accesses_in, accesses_of, bytes_in, first_accesses, has_accessed, is_first, is_seen, is_seen_by, is_under, watched, widths}

-- it is the first of all
pub first_here : (w : Watch) (ws : List Watch) (p : Position) (es : List Event) (s : State) → IsMetUnder p es s w → IsFirstMet w (w ∷ ws) p es s
first_here w ws p es s met = record {
  earlier = [];
  later = ws;
  split = refl;
  met = met;
  first = tt;
}

-- the first of all isn't met, and it is the first of the others
pub first_later : (watch w : Watch) (ws : List Watch) (p : Position) (es : List Event) (s : State) → (IsMetUnder p es s w → ⊥) → IsFirstMet watch ws p es s → IsFirstMet watch (w ∷ ws) p es s
first_later watch w ws p es s none f = record {
  earlier = w ∷ f.earlier;
  later = f.later;
  split = ap (λ (vs : List Watch). w ∷ vs) f.split;
  met = f.met;
  first = (none, f.first);
}

-- the same of any watches, of which there is one at least
pub first_among : (ws : List Watch) (d : Watch) (p : Position) (es : List Event) (s : State) → 1 ≤ length ws → IsMetUnder p es s (get_or ws 0 d) → IsFirstMet (get_or ws 0 d) ws p es s
first_among [] d p es s some met = absurd (omega (arith, some))
first_among (w ∷ ws) d p es s some met = first_here w ws p es s met

pub later_among : (watch : Watch) (ws : List Watch) (d : Watch) (p : Position) (es : List Event) (s : State) → 1 ≤ length ws → (IsMetUnder p es s (get_or ws 0 d) → ⊥) → IsFirstMet watch (take (length ws - 1) (drop 1 ws)) p es s → IsFirstMet watch ws p es s
later_among watch [] d p es s some none f = absurd (omega (arith, some))
later_among watch (w ∷ ws) d p es s some none f =
    let all : take (length (w ∷ ws) - 1) ws ≡ ws = take_all (length (w ∷ ws) - 1) ws (omega arith) in
    first_later watch w ws p es s none (subst (λ (vs : List Watch). IsFirstMet watch vs p es s) all f)

-- A STEP THAT MET WATCHES met the first of them, or one of the others

either : (x y m : Bool) → ((x || y) && m) ≡ true → (((x || false) && m) ≡ true) ⊎ ((y && m) ≡ true)
either true y m e = inl e
either false y m e = inr e

module _ (w : Watch) (ws : List Watch) where
  either_seen : (b : Bool) (a : ℕ) (z : Size) (bytes : List ℕ) → is_seen b a z (w ∷ ws) bytes ≡ true → (is_seen b a z (w ∷ []) bytes ≡ true) ⊎ (is_seen b a z ws bytes ≡ true)
  either_seen b a z bytes e = either (is_under b a z w) (list_any (is_under b a z) ws) _ e

  either_by : (i : Option Instr) (r : Registers) (bytes : List ℕ) → is_seen_by i (w ∷ ws) r bytes ≡ true → (is_seen_by i (w ∷ []) r bytes ≡ true) ⊎ (is_seen_by i ws r bytes ≡ true)
  either_by None r bytes e = inl e
  either_by (Some (instr.Load k rd rs1 offset)) r bytes e = either_seen false _ _ bytes e
  either_by (Some (instr.Store z rs1 rs2 offset)) r bytes e = either_seen true _ _ bytes e
  either_by (Some (instr.Lui rd i)) r bytes e = inl e
  either_by (Some (instr.Auipc rd i)) r bytes e = inl e
  either_by (Some (instr.Jal rd offset)) r bytes e = inl e
  either_by (Some (instr.Jalr rd rs1 offset)) r bytes e = inl e
  either_by (Some (instr.Branch c rs1 rs2 offset)) r bytes e = inl e
  either_by (Some (instr.AluImm op rd rs1 i)) r bytes e = inl e
  either_by (Some (instr.Shift op rd rs1 amount)) r bytes e = inl e
  either_by (Some (instr.Alu op rd rs1 rs2)) r bytes e = inl e
  either_by (Some (instr.Fence rd rs1 i)) r bytes e = inl e
  either_by (Some instr.Ecall) r bytes e = inl e
  either_by (Some instr.Ebreak) r bytes e = inl e

  -- the same behind a test
  behind : (b x y z : Bool) → (x ≡ true → (y ≡ true) ⊎ (z ≡ true)) → (b && x) ≡ true → ((b && y) ≡ true) ⊎ ((b && z) ≡ true)
  behind true x y z split e = split e
  behind false x y z split e = inl e

  either_of : (o : Option Thread) (bytes : List ℕ) → accesses_of (w ∷ ws) o bytes ≡ true → (accesses_of (w ∷ []) o bytes ≡ true) ⊎ (accesses_of ws o bytes ≡ true)
  either_of None bytes e = inl e
  either_of (Some (thread.Ended v)) bytes e = inl e
  either_of (Some (thread.Live l)) bytes e =
      behind (not (is_immediate l.cancellation)) (accesses (w ∷ ws) l.regs bytes) (accesses (w ∷ []) l.regs bytes) (accesses ws l.regs bytes)
      (either_by _ l.regs bytes) e

  either_for : (o : Option ℕ) (s : State) → accesses_for (w ∷ ws) o s ≡ true → (accesses_for (w ∷ []) o s ≡ true) ⊎ (accesses_for ws o s ≡ true)
  either_for None s e = inl e
  either_for (Some t) s e = either_of (thread_of s.tables.threads t) s.bytes e

  either_in : (o : Option (ℕ × ℕ)) (s : State) → accesses_in (w ∷ ws) o s ≡ true → (accesses_in (w ∷ []) o s ≡ true) ⊎ (accesses_in ws o s ≡ true)
  either_in None s e = inl e
  either_in (Some run) s e = either_for (hart_of s.tables run.0) s e

  either_first : (es : List Event) (s : State) → first_accesses (w ∷ ws) es s ≡ true → (first_accesses (w ∷ []) es s ≡ true) ⊎ (first_accesses ws es s ≡ true)
  either_first [] s e = inl e
  either_first (x ∷ xs) s e = either_in (run_in x) s e

  either_accessed : (p : Position) (es : List Event) (s : State) → has_accessed (w ∷ ws) p es s ≡ true → (has_accessed (w ∷ []) p es s ≡ true) ⊎ (has_accessed ws p es s ≡ true)
  either_accessed p es s e =
      let q = previous_position p es s in
      behind (not (is_first p)) (accesses_at (w ∷ ws) q es s) (accesses_at (w ∷ []) q es s) (accesses_at ws q es s)
      (either_first (drop q.events es) (state_at q es s).state) e

  met_later : (p : Position) (es : List Event) (s : State) → HasMet (w ∷ ws) p es s → (HasMet (w ∷ []) p es s → ⊥) → HasMet ws p es s
  met_later p es s (inr accessed) none = elim (either_accessed p es s accessed) [
    | inl here ↦ absurd (none (inr here))
    | inr later ↦ inr later
  ]
  met_later p es s (inl changed) none =
      let old = (state_at (previous_position p es s) es s).state.bytes in let new = (state_at p es s).state.bytes in
      inl (λ same. none (inl (λ one. changed (ap (λ l. l ++ watched ws old) (sym (append-nil (bytes_in old w)) ∙ one ∙ append-nil (bytes_in new w)) ∙ ap (λ l. bytes_in new w ++ l) same))))

pub rest_met : (ws : List Watch) (d : Watch) (p : Position) (es : List Event) (s : State) → 1 ≤ length ws → HasMet ws p es s → (IsMetUnder p es s (get_or ws 0 d) → ⊥) → HasMet (take (length ws - 1) (drop 1 ws)) p es s
rest_met [] d p es s some met none = absurd (omega (arith, some))
rest_met (w ∷ ws) d p es s some met none =
    let all : take (length (w ∷ ws) - 1) ws ≡ ws = take_all (length (w ∷ ws) - 1) ws (omega arith) in
    subst (λ (vs : List Watch). HasMet vs p es s) (sym all) (met_later w ws p es s met none)

pub rest_width : (ws : List Watch) → 1 ≤ length ws → widths ws ≤ 256 → widths (take (length ws - 1) (drop 1 ws)) ≤ 256
rest_width [] some few = absurd (omega (arith, some))
rest_width (w ∷ ws) some few =
    let all : take (length (w ∷ ws) - 1) ws ≡ ws = take_all (length (w ∷ ws) - 1) ws (omega arith) in
    subst (λ (vs : List Watch). widths vs ≤ 256) (sym all) (omega (arith, few))
