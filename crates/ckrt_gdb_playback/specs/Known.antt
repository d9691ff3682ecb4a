-- The threads that gdb knows from the first stop on (this project's choice): up to the greatest number of one that is there at the beginning,
-- or that some recorded event places.
use Rattle.std.specs.Prelude.{ℕ, max, List, [], ◌∷◌}
use Rattle.ckrt_events.specs.declared.event.Event.{Event}
use Rattle.ckrt_events.specs.declared.event.Event.TheVariants.{Place}
use Rattle.ckrt_gdb_playback.specs.Look.{shown_ids}
use Rattle.ckrt_gdb_playback.specs.Recorded.{Run}

-- the greatest of these numbers, at least n
abbrev pub greatest : ℕ → List ℕ → ℕ
greatest n [] = n
greatest n (t ∷ ts) = greatest (max n t) ts

abbrev pub placed_in : Event → ℕ
placed_in (Place h t) = t
placed_in _ = 0

-- the greatest number of a thread that is placed, at least n
abbrev pub placed : ℕ → List Event → ℕ
placed n [] = n
placed n (e ∷ es) = placed (max n (placed_in e)) es

abbrev pub known_of : Run → ℕ
known_of r = placed (greatest 1 (shown_ids r.start.tables.threads)) r.events
