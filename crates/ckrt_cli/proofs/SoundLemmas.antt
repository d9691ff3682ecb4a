-- When the run of what a disk has recorded in parts is sound.
use Rattle.std.proofs.Common.{◌≡◌, List, [], ◌∷◌, ◌++◌, length, Option, None, Some, refl, sym, ◌∙◌, subst}
use Rattle.ckrt_events.specs.declared.event.Event.{Event}
use Rattle.ckrt_machine.specs.Steps.{State}
use Rattle.ckrt_machine.specs.Events.{AllAccepted, fold, step}
use Rattle.ckrt_gdb_history.specs.Positions.{state_before}
use Rattle.ckrt_stored.proofs.ReplayLemmas.{accepted-append, accepted-back, accepted-front}
use Rattle.ckrt_look_recording.specs.Reading.{HasParts, LeadsOlder, whole_by}
use Rattle.ckrt_look_recording.specs.Recording.{HasRecording, Recorded}
use Rattle.ckrt_gdb_playback.specs.Recorded.{IsSound}
use Rattle.ckrt_cli.specs.Debugging.{run_through}

-- the state behind the first of two lists
behind_first : (xs ys : List Event) (s : State) → state_before (length xs) (xs ++ ys) s ≡ (fold xs s).state
behind_first [] ys s = refl
behind_first (x ∷ xs) ys s = behind_first xs ys (step x s).state

pub sound_recorded : (image : List _) (newer : Recorded) (older : Option Recorded) → HasParts image newer older → IsSound (run_through newer older) → HasRecording image (whole_by newer older)
sound_recorded image newer None parts sound = parts.whole tt sound.accepted
sound_recorded image newer (Some older) parts sound =
    let state : (fold older.events older.start).state ≡ newer.start = sym (behind_first older.events newer.events older.start) ∙ sound.through in
    parts.whole (record { accepted = accepted-front older.events newer.events older.start sound.accepted; state = state; count = parts.as_long })
    (subst (λ (s : State). AllAccepted newer.events s) state (accepted-back older.events newer.events older.start sound.accepted))

pub leading_sound : (newer : Recorded) (older : Option Recorded) → LeadsOlder newer older → AllAccepted newer.events newer.start → IsSound (run_through newer older)
leading_sound newer None leads accepted = record { accepted = accepted; through = tt }
leading_sound newer (Some older) leads accepted = record {
  accepted = accepted-append older.events newer.events older.start leads.accepted (subst (λ (s : State). AllAccepted newer.events s) (sym leads.state) accepted);
  through = behind_first older.events newer.events older.start ∙ leads.state;
}
