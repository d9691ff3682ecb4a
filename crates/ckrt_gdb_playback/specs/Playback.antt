-- A recorded run, replayed or not.
use Rattle.std.specs.Prelude.{◌≤◌, ◌-◌, ℕ}
use Rattle.ckrt_machine.specs.Steps.{State}
use Rattle.ckrt_gdb_history.specs.declared.position.Position.{Position}
use Rattle.ckrt_gdb_history.specs.Positions.{History, IsPosition, state_at}
use Rattle.ckrt_gdb_playback.specs.Recorded.{IsSound, run_of}
use Rattle.ckrt_gdb_playback.specs.declared.playback.Playback.{Playback}
use Rattle.ckrt_gdb_playback.specs.declared.playback.Playback.TheVariants.{Unplayed, Played}

-- its history: before it is replayed, it stands at the beginning
abbrev pub history_of : Playback → History
history_of (Unplayed run) = run_of run
history_of (Played history) = history

-- the state at the position
abbrev pub state_of : Playback → State
state_of f =
    (state_at (history_of f).position (history_of f).events (history_of f).start).state

-- it was replayed
abbrev pub IsPlayed : Playback → Type 0
IsPlayed (Unplayed run) = ⊥
IsPlayed (Played history) = Unit {0}

-- or it can be: each event is accepted at its turn, and they come through the stage
abbrev pub IsPlayable : Playback → Type 0
IsPlayable (Unplayed run) = IsSound run
IsPlayable (Played history) = Unit {0}

-- the position with so many events of all done, and so many steps of the next, in a history before which `first` events were done
abbrev pub position_of : (first events steps : ℕ) → Position
position_of first events steps = record { events = events - first; steps = steps }

-- there is such a position
abbrev pub HasPlace : (first events steps : ℕ) → History → Type 0
HasPlace first events steps h =
    (first ≤ events) × IsPosition (position_of first events steps) h.events h.start
