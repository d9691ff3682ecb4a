-- What a request sets that neither looks nor moves: whose registers are told, who steps back, and where there is to be a stop.
use Rattle.std.specs.Prelude.{◌≡◌, ℕ, if◌then◌else◌, true, List, [], codes}
use Rattle.ckrt_thread.specs.State as threads
use Rattle.ckrt_gdb_history.specs.declared.stop.Stops.{Stops}
use Rattle.ckrt_gdb_forms.specs.declared.request.Choice.{Choice}
use Rattle.ckrt_gdb_forms.specs.declared.request.Choice.TheVariants.{All, Any, One}
use Rattle.ckrt_gdb_forms.specs.declared.request.Request.{Request}
use Rattle.ckrt_gdb_forms.specs.declared.request.Request.TheVariants.{Examine, Choose, Insert, Remove, Detach, Kill}
use Rattle.ckrt_gdb_playback.specs.declared.marks.Marked.{Marked}
use Rattle.ckrt_gdb_playback.specs.declared.marks.Marked.TheVariants.{Done, Full}
use Rattle.ckrt_gdb_playback.specs.declared.view.View.{View}
use Rattle.ckrt_gdb_playback.specs.Look.{done_text, failed_text, is_listed}
use Rattle.ckrt_gdb_playback.specs.Marks.{HasInserted, HasRemoved, inserted}

-- THE VIEW: of any thread, that of the last stop is examined; who isn't listed isn't

abbrev pub examined : Choice → View → threads.State → View
examined (One t) v s = if is_listed v.known t s then record v { examined = t } else v
examined Any v s = record v { examined = v.last.thread }
examined All v s = record v { examined = v.last.thread }

abbrev pub view_after : Request → View → threads.State → View
view_after (Examine choice) v s = examined choice v s
view_after (Choose choice) v s = record v { chosen = choice }
view_after _ v s = v

-- THE STOPS

abbrev pub HasSetStops : Request → (old new : Stops) → Type 0
HasSetStops (Insert mark) old new = HasInserted mark old new
HasSetStops (Remove mark) old new = HasRemoved mark old new
HasSetStops _ old new = new ≡ old

-- THE REPLY

abbrev pub examined_text : Choice → (known : ℕ) → threads.State → List ℕ
examined_text (One t) known s = done_text (is_listed known t s)
examined_text Any known s = done_text true
examined_text All known s = done_text true

abbrev pub marked_text : Marked → List ℕ
marked_text Done = codes "OK"
marked_text Full = failed_text 1

abbrev pub set_text : Request → Stops → (known : ℕ) → threads.State → List ℕ
set_text (Examine choice) stops known s = examined_text choice known s
set_text (Choose choice) stops known s = done_text true
set_text (Insert mark) stops known s = marked_text (inserted mark stops)
set_text (Remove mark) stops known s = codes "OK"
set_text Detach stops known s = codes "OK"
set_text Kill stops known s = codes "OK"
set_text _ stops known s = []
