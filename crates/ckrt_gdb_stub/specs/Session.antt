-- A session with a debugger, between two packets.
use Rattle.std.specs.Prelude.{◌≡◌, ℕ, min, Bool, true, false, List, length, Option, Some, None, is_some}
use Rattle.ckrt_gdb_history.specs.declared.position.Position.{Position}
use Rattle.ckrt_gdb_history.specs.Positions.{History, at_event}
use Rattle.ckrt_gdb_history.specs.Forks.{forked, with_event}
use Rattle.ckrt_gdb_history.specs.Extended.{Extended}
use Rattle.ckrt_gdb_history.specs.declared.forking.AppendFault.{AppendFault}
use Rattle.ckrt_events.specs.declared.event.Event.{Event}
use Rattle.ckrt_gdb_forms.specs.declared.request.Request.{Request}
use Rattle.ckrt_gdb_playback.specs.declared.going.Way.{Way}
use Rattle.ckrt_gdb_playback.specs.declared.limits.Bounds.{Bounds}
use Rattle.ckrt_gdb_playback.specs.declared.motion.Found.{Found}
use Rattle.ckrt_gdb_stub.specs.declared.stub.Stub.{Stub}
use Rattle.ckrt_gdb_playback.specs.Extending.{going_on, view_behind}
use Rattle.ckrt_gdb_playback.specs.Known.{known_of}
use Rattle.ckrt_gdb_playback.specs.Limits.{unbounded}
use Rattle.ckrt_gdb_playback.specs.Look.{fitting}
use Rattle.ckrt_gdb_playback.specs.Marks.{IsWithoutStops}
use Rattle.ckrt_gdb_playback.specs.Motions.{Moved, at}
use Rattle.ckrt_gdb_playback.specs.Playback.{HasPlace, IsPlayable, IsPlayed, history_of, position_of, state_of}
use Rattle.ckrt_gdb_playback.specs.Recorded.{IsSound, Run, run_of}
use Rattle.ckrt_gdb_playback.specs.declared.playback.Playback.{Playback}
use Rattle.ckrt_gdb_playback.specs.declared.playback.Playback.TheVariants.{Unplayed}
use Rattle.ckrt_gdb_playback.specs.Requests.{last_text, look_of, way_of}
use Rattle.ckrt_gdb_playback.specs.Settings.{HasSetStops, set_text, view_after}
use Rattle.ckrt_gdb_playback.specs.Told.{ender_or, first_view, next_or, shown, standing_in, told}

-- it is of the same run, at any position
abbrev pub IsOfRun : (old new : Stub) → Type 0
IsOfRun old new = history_of new.playback ≡ at (history_of new.playback).position (history_of old.playback)

-- HOW IT BEGINS

-- a session is to begin with so many events done, and there is no such position
abbrev pub IsOutside : Option ℕ → (first : ℕ) → History → Type 0
IsOutside None first h = ⊥
IsOutside (Some k) first h = HasPlace first k 0 h → ⊥

-- the run, which isn't replayed; or, once it is, where so many events of all are done and no step of the next
abbrev pub IsBegun : Option ℕ → (first : ℕ) → Run → Playback → Type 0
IsBegun None first r p = p ≡ Unplayed r
IsBegun (Some k) first r p =
    IsSound r × IsPlayed p × (history_of p ≡ at (position_of first k 0) (run_of r))

-- whom it shows, of a run that it shows at z: thread 1, or whose step is next where it went there
abbrev pub shown_at : Option ℕ → Run → (z : History) → ℕ
shown_at None r z = shown 1 r.start.tables.threads
shown_at (Some k) r z = next_or (shown 1 r.start.tables.threads) z

-- A session of a run that begins with its first event, or once so many events of all are done; before the run there were `first`.
pub record BeginsAt (begin : Option ℕ) (first : ℕ) (r : Run) (s : Stub) : Type 0 where
  pub begun : IsBegun begin first r s.playback
  pub view : s.desk.view ≡ first_view (known_of r) (shown_at begin r (history_of s.playback))
  pub stops : IsWithoutStops s.desk.stops
  pub bounds : s.desk.bounds ≡ unbounded
  pub first_is : s.desk.first ≡ first
  pub recorded : s.desk.recorded ≡ length r.events

-- THE ANSWER TO A REQUEST

-- from old to new the run was replayed, if it wasn't yet
abbrev pub IsReplayed : (old new : Stub) → Type 0
IsReplayed old new = IsPlayable old.playback × IsPlayed new.playback

-- nothing has changed but what bounds a motion
pub record HasBounds (bounds : Bounds) (old new : Stub) : Type 0 where
  pub history : history_of new.playback ≡ history_of old.playback
  pub view : new.desk.view ≡ old.desk.view
  pub stops : new.desk.stops ≡ old.desk.stops
  pub bounds_are : new.desk.bounds ≡ bounds
  pub first : new.desk.first ≡ old.desk.first
  pub recorded : new.desk.recorded ≡ old.desk.recorded

-- nothing has changed
abbrev pub IsSame : (old new : Stub) → Type 0
IsSame old new = HasBounds old.desk.bounds old new

-- a session goes a way, and notes the stop that it tells; nothing else changes
pub record HasMoved (way : Way) (old new : Stub) : Type 0 where
  pub replayed : IsReplayed old new
  pub found : Found
  pub moved : Moved old.desk.bounds way old.desk.stops (history_of old.playback) (history_of new.playback) found
  pub last : new.desk.view.last ≡ told old.desk.bounds way found old.desk.view.last.thread (history_of old.playback) (history_of new.playback)
  pub examined : new.desk.view.examined ≡ new.desk.view.last.thread
  pub chosen : new.desk.view.chosen ≡ old.desk.view.chosen
  pub known : new.desk.view.known ≡ old.desk.view.known
  pub stops : new.desk.stops ≡ old.desk.stops
  pub bounds : new.desk.bounds ≡ old.desk.bounds
  pub first : new.desk.first ≡ old.desk.first
  pub recorded : new.desk.recorded ≡ old.desk.recorded

-- a session has gone to a position, and shows whose step is next; nothing else changes
pub record HasGone (p : Position) (old new : Stub) : Type 0 where
  pub replayed : IsReplayed old new
  pub history : history_of new.playback ≡ at p (history_of old.playback)
  pub view : new.desk.view
      ≡ standing_in old.desk.view (next_or old.desk.view.last.thread (history_of new.playback))
  pub stops : new.desk.stops ≡ old.desk.stops
  pub bounds : new.desk.bounds ≡ old.desk.bounds
  pub first : new.desk.first ≡ old.desk.first
  pub recorded : new.desk.recorded ≡ old.desk.recorded

-- a session has gone behind the last event, and shows who ended the program; nothing else changes
pub record HasGoneToEnd (old new : Stub) : Type 0 where
  pub replayed : IsReplayed old new
  pub history : history_of new.playback
      ≡ at (at_event (length (history_of old.playback).events)) (history_of old.playback)
  pub view : new.desk.view
      ≡ standing_in old.desk.view (ender_or old.desk.view.last.thread (history_of new.playback))
  pub stops : new.desk.stops ≡ old.desk.stops
  pub bounds : new.desk.bounds ≡ old.desk.bounds
  pub first : new.desk.first ≡ old.desk.first
  pub recorded : new.desk.recorded ≡ old.desk.recorded

-- it has gone where so many events of all are done, and so many steps of the next, or there is no such position
abbrev pub Reaches : (events steps : ℕ) → (old : Stub) → (is_there : Bool) → (new : Stub) → Type 0
Reaches events steps old true new =
    HasPlace old.desk.first events steps (history_of old.playback)
    × HasGone (position_of old.desk.first events steps) old new
Reaches events steps old false new =
    (HasPlace old.desk.first events steps (history_of old.playback) → ⊥)
    × IsReplayed old new × IsSame old new

-- motions end from now on at the position with so many events of all done, and so many steps of the next; or there is none
abbrev pub Names : (events steps : ℕ) → (old : Stub) → (there : Option Position) → (new : Stub) → Type 0
Names events steps old (Some p) new =
    HasPlace old.desk.first events steps (history_of old.playback)
    × (p ≡ position_of old.desk.first events steps)
    × IsReplayed old new × HasBounds (record old.desk.bounds { until = Some p }) old new
Names events steps old None new =
    (HasPlace old.desk.first events steps (history_of old.playback) → ⊥)
    × IsReplayed old new × IsSame old new

-- the history ends where it stands from now on, and a run that is cut isn't recorded; nothing else changes
pub record HasForked (old new : Stub) : Type 0 where
  pub replayed : IsReplayed old new
  pub history : history_of new.playback ≡ forked (history_of old.playback)
  pub view : new.desk.view ≡ old.desk.view
  pub stops : new.desk.stops ≡ old.desk.stops
  pub bounds : new.desk.bounds ≡ old.desk.bounds
  pub first : new.desk.first ≡ old.desk.first
  pub recorded : new.desk.recorded
      ≡ min old.desk.recorded (history_of old.playback).position.events

-- one more event was made behind the last, and it shows who was there; nothing else changes
pub record HasMade (e : Event) (old new : Stub) : Type 0 where
  pub replayed : IsReplayed old new
  pub history : history_of new.playback ≡ with_event e (history_of old.playback)
  pub view : new.desk.view
      ≡ standing_in old.desk.view (next_or old.desk.view.last.thread (history_of new.playback))
  pub stops : new.desk.stops ≡ old.desk.stops
  pub bounds : new.desk.bounds ≡ old.desk.bounds
  pub first : new.desk.first ≡ old.desk.first
  pub recorded : new.desk.recorded ≡ old.desk.recorded

-- or it wasn't, and nothing changes
abbrev pub Makes : Event → Option AppendFault → (old new : Stub) → Type 0
Makes e None old new = HasMade e old new
Makes e (Some fault) old new = IsReplayed old new × IsSame old new

-- its history with so many events more at most
abbrev pub gone_on : (most : ℕ) → Stub → Extended
gone_on most s = going_on most s.desk.first (history_of s.playback)

-- by turns so many events at most were made behind the last, and it shows whose step is next then; nothing else changes
pub record HasGoneOn (most : ℕ) (old new : Stub) : Type 0 where
  pub replayed : IsReplayed old new
  pub history : history_of new.playback ≡ (gone_on most old).history
  pub view : new.desk.view ≡ view_behind (gone_on most old).end old.desk.view (history_of new.playback)
  pub stops : new.desk.stops ≡ old.desk.stops
  pub bounds : new.desk.bounds ≡ old.desk.bounds
  pub first : new.desk.first ≡ old.desk.first
  pub recorded : new.desk.recorded ≡ old.desk.recorded

-- a request that neither looks nor moves has set what it sets, and nothing else
pub record HasSet (request : Request) (old new : Stub) : Type 0 where
  pub playback : new.playback ≡ old.playback
  pub view : new.desk.view ≡ view_after request old.desk.view (state_of old.playback).tables.threads
  pub stops : HasSetStops request old.desk.stops new.desk.stops
  pub bounds : new.desk.bounds ≡ old.desk.bounds
  pub first : new.desk.first ≡ old.desk.first
  pub recorded : new.desk.recorded ≡ old.desk.recorded

-- what a session shows for a request, and the way that it goes for one
abbrev pub look_in : Request → Stub → Option (List ℕ)
look_in request s = look_of request s.desk.view (state_of s.playback)

abbrev pub way_in : Request → Stub → Option Way
way_in request s = way_of request s.desk.view (state_of s.playback).tables.threads

abbrev pub set_text_in : Request → Stub → List ℕ
set_text_in request s = set_text request s.desk.stops s.desk.view.known (state_of s.playback).tables.threads

-- a look, or else a motion, or else a setting, with the payload of its reply
abbrev pub AnswersBy : Option (List ℕ) → Option Way → Request → (old new : Stub) → (payload : List ℕ)
    → Type 0
AnswersBy (Some text) way request old new payload = IsSame old new × (payload ≡ fitting text)
AnswersBy None (Some way) request old new payload =
    HasMoved way old new × (payload ≡ fitting (last_text new.desk.view))
AnswersBy None None request old new payload =
    HasSet request old new × (payload ≡ fitting (set_text_in request old))

-- from old to new a request is answered with this payload
abbrev pub Answers : Request → (old new : Stub) → (payload : List ℕ) → Type 0
Answers request old new payload =
    AnswersBy (look_in request old) (way_in request old) request old new payload

-- a request is for a motion
abbrev pub IsMotion : Request → Stub → Type 0
IsMotion request s = (look_in request s ≡ None) × (is_some (way_in request s) ≡ true)
