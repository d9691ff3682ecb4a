-- A memory that is a copy of another one but for marked pages.
use Rattle.std.proofs.Common.{◌≡◌, ◌<◌, ◌≤◌, ◌*◌, ◌+◌, true, false, ℕ, List, length, refl, sym, ◌∙◌, ap, subst, arith}
use Rattle.ckrt_memory.specs.Marks.{COPY, Follows, IsAllDirty, IsCopyButMarked, Memory}
use Rattle.ckrt_memory.specs.Pages.{IsMemorySize, page_of}
use Rattle.ckrt_machine.specs.Events.{Machine, memory_in}
use Rattle.ckrt_calls.specs.declared.table.Tables.{Tables}
use Rattle.ckrt_hunt_schedules.specs.Tallies.{IsRoomFor}

-- one in which each page is marked is a copy of any
pub first_copy : (bytes : List ℕ) (m : Memory) → IsMemorySize (length m.bytes) → IsAllDirty m → IsCopyButMarked bytes m
first_copy bytes m whole all p some below clean = let most = whole.2 in absurd (dirty_or_clean (sym (all COPY p (omega arith) (omega (arith, below, most))) ∙ clean))
  where
    dirty_or_clean : true ≡ false → ⊥
    dirty_or_clean e = absurd (cc)

-- and what stores leave of a memory is a copy of what it was
pub still_copy : (bytes : List ℕ) (old new : Memory) → old.bytes ≡ bytes → Follows old new → IsCopyButMarked bytes new
still_copy bytes old new same follows p some below clean = (follows.kept COPY p (omega arith) some clean).1 ∙ ap (λ (l : List ℕ). page_of l p) same

-- so where a machine is again what it was before a run, what it ran to is the room for that
pub room_behind : (was ran new : Machine) (memory : Memory) (tables : Tables) → 1 ≤ was.state.tables.threads.hart_count → new.state.bytes ≡ was.state.bytes → new.state.tables ≡ was.state.tables
    → memory ≡ memory_in ran → tables ≡ ran.state.tables → Follows (memory_in was) (memory_in ran) → ran.state.tables.threads.hart_count ≡ was.state.tables.threads.hart_count → IsRoomFor new.state memory tables
room_behind was ran new memory tables some bytes again given given_tables follows harts = record {
  size = ap (λ (m : Memory). length m.bytes) given ∙ follows.size ∙ sym (ap length bytes);
  copy = subst (λ (l : List ℕ). IsCopyButMarked l memory) (sym bytes) (subst (λ (m : Memory). IsCopyButMarked was.state.bytes m) (sym given) (still_copy was.state.bytes (memory_in was) (memory_in ran) refl follows));
  harts = ap (λ (t : Tables). t.threads.hart_count) given_tables ∙ harts ∙ sym (ap (λ (t : Tables). t.threads.hart_count) again);
  some = subst (λ (t : Tables). 1 ≤ t.threads.hart_count) (sym again) some;
}
