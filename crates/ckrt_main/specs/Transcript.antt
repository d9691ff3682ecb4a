-- The transcript of a session: what the lines of its input get (this project's choice).
use Rattle.std.specs.Prelude.{ℕ, zero, suc, ◌+◌, ◌==◌, Bool, true, false, List, [], ◌∷◌, ◌++◌, length, Option, Some, None, Result, Ok, Err}
use Rattle.std.specs.Str.Lines.{lines}
use Rattle.ckrt_events.specs.declared.event.Event.{Event}
use Rattle.ckrt_events.specs.declared.event.Event.TheVariants.{Place, Run}
use Rattle.ckrt_events.specs.declared.command.Command.{Command}
use Rattle.ckrt_events.specs.declared.command.Command.TheVariants.{Submit, Auto, Commit, Checkpoint, Quit, Blank}
use Rattle.ckrt_events.specs.declared.command.LineFault.{LineFault}
use Rattle.ckrt_events.specs.Line.{command_of}
use Rattle.ckrt_machine.specs.Events as machine
use Rattle.ckrt_recovery.specs.declared.fault.CommitFault.{CommitFault}
use Rattle.ckrt_recovery.specs.declared.fault.CommitFault.TheVariants as fault
use Rattle.ckrt_recovery.specs.declared.fault.SubmitFault.{SubmitFault}
use Rattle.ckrt_recovery.specs.Calls.{checkpoint_refusal}
use Rattle.ckrt_recovery.specs.View.{View, refusal_of, after_event, committed, checkpointed, released_output, confirmed_to}
use Rattle.ckrt_main.specs.Replies.{Reply, Accepted, Acknowledged, NotAccepted, NotSaved, NotUnderstood, text_of, outputs}

-- Which of the commits and checkpoints that have work for the disk the device fails: none, or the one after that many others.
abbrev pub Fate : Type 0
Fate = Option ℕ

-- the replies, the events accepted, the session after them, what is left of the fate then, and whether there was a line quit
pub record Transcript : Type 0 where
  pub replies : List Reply
  pub events : List Event
  pub view : View
  pub fate : Fate
  pub quit : Bool

-- replies alone
abbrev pub written : List Reply → Fate → View → Transcript
written rs f v = record { replies = rs; events = []; view = v; fate = f; quit = false }

-- replies and events before a transcript
abbrev pub preceded_by : List Reply → List Event → Transcript → Transcript
preceded_by rs es t =
    record {
      replies = rs ++ t.replies;
      events = es ++ t.events;
      view = t.view;
      fate = t.fate;
      quit = t.quit;
    }

-- nothing more after quit
abbrev pub unless_quit : Bool → Fate → View → (Fate → View → Transcript) → Transcript
unless_quit true f v more = record { replies = []; events = []; view = v; fate = f; quit = true }
unless_quit false f v more = more f v

-- a transcript, and what follows in the session that it leaves
abbrev pub followed_by : Transcript → (Fate → View → Transcript) → Transcript
followed_by t more = preceded_by t.replies t.events (unless_quit t.quit t.fate t.view more)

-- EVENTS

abbrev pub submitted : Fate → View → Event → Option SubmitFault → Transcript
submitted f v e (Some why) = written (NotAccepted why ∷ []) f v
submitted f v e None = record {
  replies = Accepted (v.recovered.count + 1) (machine.step e v.recovered.state).answer ∷ [];
  events = e ∷ [];
  view = after_event v e;
  fate = f;
  quit = false;
}

-- one event
abbrev pub submit : Event → Fate → View → Transcript
submit e f v = submitted f v e (refusal_of v e)

-- an event, and what follows unless it is refused
abbrev pub unless_refused : Fate → View → Event → Option SubmitFault → (Fate → View → Transcript)
    → Transcript
unless_refused f v e (Some why) more = submitted f v e (Some why)
unless_refused f v e None more = followed_by (submitted f v e None) more

-- the planned thread, if there is one, goes onto the hart; then the hart runs
abbrev pub run_planned : Option ℕ → ℕ → ℕ → Fate → View → Transcript
run_planned None h n f v = submit (Run h n) f v
run_planned (Some t) h n f v =
    unless_refused f v (Place h t) (refusal_of v (Place h t)) (submit (Run h n))

-- COMMITS AND CHECKPOINTS

-- the committed output that isn't confirmed, written and then confirmed
abbrev pub output : Fate → View → Transcript
output f v =
    written (outputs v.recovered.confirmed (released_output v)) f (confirmed_to v v.released)

-- all of that many events are acknowledged, and the output that this releases is written
abbrev pub acknowledged : ℕ → Fate → View → Transcript
acknowledged n f v = followed_by (written (Acknowledged n ∷ []) f v) output

-- why nothing was acknowledged
abbrev pub refused_commit : CommitFault → Fate → View → Transcript
refused_commit why f v = written (NotSaved why ∷ []) f v

-- a commit or checkpoint that has work for the disk: the device fails it, or it makes this of the session
abbrev pub by_fate : Fate → (before after : View) → Transcript
by_fate None before after = acknowledged before.recovered.count None after
by_fate (Some zero) before after =
    refused_commit fault.Device (Some zero) (record before { failed = true })
by_fate (Some (suc n)) before after = acknowledged before.recovered.count (Some n) after

-- with nothing pending a commit has no work
abbrev pub commit_by : (has_failed is_idle : Bool) → Fate → View → Transcript
commit_by true is_idle f v = refused_commit fault.Failed f v
commit_by false true f v = acknowledged v.recovered.count f (committed v)
commit_by false false f v = by_fate f v (committed v)

abbrev pub commit : Fate → View → Transcript
commit f v = commit_by v.failed (length v.pending == 0) f v

-- a checkpoint that isn't refused has work
abbrev pub saved : Option CommitFault → Fate → View → Transcript
saved (Some why) f v = refused_commit why f v
saved None f v = by_fate f v (checkpointed v)

abbrev pub checkpoint : Fate → View → Transcript
checkpoint f v = saved (checkpoint_refusal v) f v

-- LINES

abbrev pub refused_line : LineFault → Fate → View → Transcript
refused_line why f v = written (NotUnderstood why ∷ []) f v

-- what a line gets
abbrev pub respond : Result Command LineFault → Fate → View → Transcript
respond (Ok (Submit e)) f v = submit e f v
respond (Ok (Auto h n)) f v = run_planned (machine.planned h v.recovered.state.tables) h n f v
respond (Ok Commit) f v = commit f v
respond (Ok Checkpoint) f v = checkpoint f v
respond (Ok Quit) f v = record { replies = []; events = []; view = v; fate = f; quit = true }
respond (Ok Blank) f v = written [] f v
respond (Err why) f v = refused_line why f v

-- what the lines get, up to a line quit
abbrev pub respond_all : List (List ℕ) → Fate → View → Transcript
respond_all [] f v = written [] f v
respond_all (line ∷ more) f v = followed_by (respond (command_of line) f v) (respond_all more)

-- The released output first, and then what the lines of these bytes get; a line feed ends a line, and one carriage return before it is dropped.
abbrev pub transcript : Fate → View → List ℕ → Transcript
transcript f v bytes = followed_by (output f v) (respond_all (lines bytes))

-- WHERE NO DEVICE FAILS

-- all text that is written for these bytes
abbrev pub reply : View → List ℕ → List ℕ
reply v bytes = text_of (transcript None v bytes).replies

-- the events that the lines of these bytes get accepted
abbrev pub accepted_events : View → List ℕ → List Event
accepted_events v bytes = (transcript None v bytes).events

-- the session after these bytes
abbrev pub view_after : View → List ℕ → View
view_after v bytes = (transcript None v bytes).view
