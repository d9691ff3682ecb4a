-- Where gdb wants stops, and what becomes of them.
use Rattle.std.specs.Prelude.{◌≡◌, ℕ, ◌+◌, ◌-◌, ◌++◌, ◌==◌, ◌&&◌, ◌||◌, not, nat_le, nat_lt, min, Bool, true, false, if◌then◌else◌, Option, Some, None, List, [], ◌∷◌, length}
use Rattle.std.specs.List.{filter, list_any}
use Rattle.ckrt_gdb_history.specs.declared.stop.Breakpoint.{Breakpoint}
use Rattle.ckrt_gdb_history.specs.declared.stop.Watch.{Watch}
use Rattle.ckrt_gdb_history.specs.declared.stop.WatchKind.{WatchKind}
use Rattle.ckrt_gdb_history.specs.declared.stop.WatchKind.TheVariants as kind
use Rattle.ckrt_gdb_history.specs.declared.stop.Stops.{Stops}
use Rattle.ckrt_gdb_history.specs.Stops.{widths}
use Rattle.ckrt_gdb_forms.specs.declared.request.Mark.{Mark}
use Rattle.ckrt_gdb_forms.specs.declared.request.Mark.TheVariants.{Execution, Writes, Reads, Accesses}
use Rattle.ckrt_gdb_playback.specs.declared.marks.Marked.{Marked}
use Rattle.ckrt_gdb_playback.specs.declared.marks.Marked.TheVariants.{Done, Full}

-- BREAKPOINTS of any thread, at most 64, each once

abbrev pub is_nobody : Option ℕ → Bool
is_nobody None = true
is_nobody (Some t) = false

abbrev pub is_breakpoint : ℕ → Breakpoint → Bool
is_breakpoint a b = b.address == a && is_nobody b.thread

abbrev pub has_breakpoint : ℕ → List Breakpoint → Bool
has_breakpoint a bs = list_any (is_breakpoint a) bs

abbrev pub takes_breakpoint : ℕ → List Breakpoint → Bool
takes_breakpoint a bs = has_breakpoint a bs || nat_lt (length bs) 64

abbrev pub with_breakpoint : ℕ → List Breakpoint → List Breakpoint
with_breakpoint a bs =
    if has_breakpoint a bs || not (nat_lt (length bs) 64) then bs else bs ++ record { address = a; thread = None } ∷ []

abbrev pub without_breakpoint : ℕ → List Breakpoint → List Breakpoint
without_breakpoint a bs = filter (λ b. not (is_breakpoint a b)) bs

-- WATCHES of so many bytes, at least one; at most 16, each once, with at most 256 addresses in all

abbrev pub watch_of : WatchKind → (first size : ℕ) → Watch
watch_of k first size =
    record { kind = k; first = first; last = min (first + (size - 1)) 4294967295 }

abbrev pub is_kind : WatchKind → WatchKind → Bool
is_kind kind.Changes kind.Changes = true
is_kind kind.Loads kind.Loads = true
is_kind kind.Accesses kind.Accesses = true
is_kind _ _ = false

abbrev pub is_watch : Watch → Watch → Bool
is_watch w there = is_kind w.kind there.kind && (there.first == w.first && there.last == w.last)

abbrev pub has_watch : Watch → List Watch → Bool
has_watch w ws = list_any (is_watch w) ws

abbrev pub has_room : Watch → List Watch → Bool
has_room w ws = nat_lt (length ws) 16 && nat_le (widths (ws ++ w ∷ [])) 256

abbrev pub takes_watch : Watch → List Watch → Bool
takes_watch w ws = has_watch w ws || has_room w ws

abbrev pub with_watch : Watch → List Watch → List Watch
with_watch w ws = if has_watch w ws || not (has_room w ws) then ws else ws ++ w ∷ []

abbrev pub without_watch : Watch → List Watch → List Watch
without_watch w ws = filter (λ there. not (is_watch w there)) ws

-- WHAT BECOMES OF A MARK

abbrev pub by_room : Bool → Marked
by_room is_taken = if is_taken then Done else Full

abbrev pub inserted : Mark → Stops → Marked
inserted (Execution a) stops = by_room (takes_breakpoint a stops.breakpoints.items)
inserted (Writes first size) stops =
    by_room (takes_watch (watch_of kind.Changes first size) stops.watches.items)
inserted (Reads first size) stops =
    by_room (takes_watch (watch_of kind.Loads first size) stops.watches.items)
inserted (Accesses first size) stops =
    by_room (takes_watch (watch_of kind.Accesses first size) stops.watches.items)

-- the stops afterwards are the same but for the one
pub record AreStops (breakpoints : List Breakpoint) (watches : List Watch) (old new : Stops) : Type 0 where
  pub breakpoints_are : new.breakpoints.items ≡ breakpoints
  pub watches_are : new.watches.items ≡ watches
  pub thread : new.thread ≡ old.thread
  pub event_ends : new.event_ends ≡ old.event_ends

-- there are none
pub record IsWithoutStops (stops : Stops) : Type 0 where
  pub breakpoints_are : stops.breakpoints.items ≡ []
  pub watches_are : stops.watches.items ≡ []
  pub thread : stops.thread ≡ None
  pub event_ends : stops.event_ends ≡ false

abbrev pub HasWatch : Watch → (old new : Stops) → Type 0
HasWatch w old new = AreStops old.breakpoints.items (with_watch w old.watches.items) old new

abbrev pub HasInserted : Mark → (old new : Stops) → Type 0
HasInserted (Execution a) old new =
    AreStops (with_breakpoint a old.breakpoints.items) old.watches.items old new
HasInserted (Writes first size) old new = HasWatch (watch_of kind.Changes first size) old new
HasInserted (Reads first size) old new = HasWatch (watch_of kind.Loads first size) old new
HasInserted (Accesses first size) old new = HasWatch (watch_of kind.Accesses first size) old new

abbrev pub HasNoWatch : Watch → (old new : Stops) → Type 0
HasNoWatch w old new =
    AreStops old.breakpoints.items (without_watch w old.watches.items) old new

abbrev pub HasRemoved : Mark → (old new : Stops) → Type 0
HasRemoved (Execution a) old new =
    AreStops (without_breakpoint a old.breakpoints.items) old.watches.items old new
HasRemoved (Writes first size) old new = HasNoWatch (watch_of kind.Changes first size) old new
HasRemoved (Reads first size) old new = HasNoWatch (watch_of kind.Loads first size) old new
HasRemoved (Accesses first size) old new = HasNoWatch (watch_of kind.Accesses first size) old new
