-- The stage of a run, of a machine that was saved there.
use Rattle.std.specs.Prelude.{◌≤◌, ℕ, Option, Some, None}
use Rattle.ckrt_gdb_playback.specs.Recorded.{Stage}
use Rattle.ckrt_gdb_playback.specs.declared.recorded.SavedStage.{SavedStage}

abbrev pub stage_of : Option SavedStage → Option Stage
stage_of None = None
stage_of (Some saved) = Some (record { events = saved.events; state = saved.machine.state })

-- it has no more events than there are
abbrev pub IsWithin : Option SavedStage → (count : ℕ) → Type 0
IsWithin None count = Unit {0}
IsWithin (Some saved) count = saved.events ≤ count
