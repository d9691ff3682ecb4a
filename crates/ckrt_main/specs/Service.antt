-- What a service reads and writes, and what it makes of a session (this project's choice).
use Rattle.std.specs.Prelude.{◌≡◌, ◌≤◌, ◌↔◌, ℕ, ◌==◌, ◌&&◌, not, Bool, true, false, List, [], ◌∷◌, ◌++◌, length, Option, None, ◌⊎◌}
use Rattle.std.specs.List.{AllByRecursion}
use Rattle.std.specs.Str.Lines.{lines}
use Rattle.std.specs.Io.KnownBytes.{Appends, Consumes, IsAtEnd}
use Rattle.ckrt_disk.specs.declared.disk.Disk.{Ghosts}
use Rattle.ckrt_events.specs.declared.event.Event.{Event}
use Rattle.ckrt_main.specs.declared.fault.ServeFault.{ServeFault}
use Rattle.ckrt_main.specs.declared.fault.ServeFault.TheVariants.{Read, Write, OutOfMemory, Format}
use Rattle.ckrt_recovery.specs.declared.session.Session.{Session}
use Rattle.ckrt_stored.specs.Programs.{Program}
use Rattle.ckrt_recovery.specs.Between.{RecoversBetween}
use Rattle.ckrt_disk.specs.Lists.{IsBeginningOf}
use Rattle.ckrt_recovery.specs.Accepts.{Accepts}
use Rattle.ckrt_main.specs.Outputs.{AreOutput}
use Rattle.ckrt_main.specs.Pieces.{Tells, Responds, Interrupted}
use Rattle.ckrt_main.specs.Replies.{Reply, line_of, text_of, oks_of, acks_of, shown_up_to}
use Rattle.ckrt_recovery.specs.Represents.{Represents, acknowledged_of}
use Rattle.ckrt_recovery.specs.View.{View, view_of}
use Rattle.ckrt_main.specs.Transcript.{Fate, Transcript, transcript, reply, accepted_events, unless_quit, respond_all}

-- WHERE NO DEVICE FAILS

-- a whole service: what was read, from r to s, ends the input or has a line quit, and what was written, from a to b, is the reply
pub record Served (a b r s : Option (List ℕ)) (v : View) : Type 0 where
  pub read : List ℕ
  pub consumed : Consumes r s read
  pub written : Appends a b (reply v read)
  pub ended : IsAtEnd s ⊎ ((transcript None v read).quit ≡ true)

-- from a to b some of these replies were written whole, from the first on, and perhaps a part of the next
pub record Shows (a b : Option (List ℕ)) (all : List Reply) : Type 0 where
  -- the whole ones
  pub replies : List Reply
  -- the next, if the writer broke it off
  pub broken : List Reply
  pub one : length broken ≤ 1
  -- what was written of it
  pub part : List ℕ
  pub written : Appends a b (text_of replies ++ part)
  pub begun : IsBeginningOf part (text_of broken)
  pub among : IsBeginningOf (replies ++ broken) all

-- a service in memory, whatever it answered: what was written is a beginning of what the bytes read get
pub record ServedPart (a b r s : Option (List ℕ)) (v : View) : Type 0 where
  pub read : List ℕ
  pub consumed : Consumes r s read
  pub shows : Shows a b (transcript None v read).replies

-- a fault before anything is read or written
abbrev pub IsStartFault : ServeFault → Type 0
IsStartFault Read = ⊥
IsStartFault Write = ⊥
IsStartFault OutOfMemory = Unit {0}
IsStartFault Format = Unit {0}

-- WHATEVER FAILS

-- A service, whatever it answered and whatever failed: what was written is a beginning of the transcript of the bytes read, of a fate that is
-- none exactly where the session hasn't failed, and no more was acknowledged, confirmed or accepted than the session says then.
pub record Processes {D : Type 0} {g : Ghosts D} (a b r s : Option (List ℕ)) (old new : Session D g)
    : Type 0 where
  -- what was read, from r to s
  pub read : List ℕ
  pub consumed : Consumes r s read
  -- which commit or checkpoint the device failed
  pub fate : Fate
  pub fated : (fate ≡ None) ↔ (new.failed ≡ false)
  -- what was written, from a to b
  pub shows : Shows a b (transcript fate (view_of old) read).replies
  -- each line ack, even of a reply that was broken off, has a number that is acknowledged
  pub acks : AllByRecursion (λ k. k ≤ new.acknowledged) (acks_of (shows.replies ++ shows.broken))
  -- what is confirmed is in lines of output that were written whole
  pub confirmed : new.progress.confirmed ≤ shown_up_to old.progress.confirmed shows.replies
  -- the accepted events are a beginning of the transcript's, and of those that the lines get where no device fails
  pub accepted : List Event
  -- each accepted event has its line ok, of which the last may be broken off
  pub answered : oks_of (shows.replies ++ shows.broken) ≡ length accepted
  pub some : IsBeginningOf accepted (transcript fate (view_of old) read).events
  pub part : IsBeginningOf accepted (accepted_events (view_of old) read)
  pub accepts : Accepts accepted old new
  -- each line of output is the plain fold's
  pub outs : g.is_honest new.disk → (p : Program) (events : List Event) → Represents p events old
      → AreOutput p (events ++ accepted) new (shows.replies ++ shows.broken)
  -- every image that a stop left since the start
  pub since_start : g.is_honest new.disk → (p : Program) (events : List Event)
      → Represents p events old
      → (image : List ℕ) → g.left_since new.disk (g.moment old.disk) image
      → RecoversBetween p (acknowledged_of events old) (events ++ accepted) new.progress.confirmed
      image

-- a service that came to its end: what was read ends the input or has a line quit, and the transcript is all that was written, accepted and left
pub record Completes {D : Type 0} {g : Ghosts D} (a b r s : Option (List ℕ)) (old new : Session D g)
    : Type 0 where
  pub read : List ℕ
  pub consumed : Consumes r s read
  pub fate : Fate
  pub fated : (fate ≡ None) ↔ (new.failed ≡ false)
  pub ended : IsAtEnd s ⊎ ((transcript fate (view_of old) read).quit ≡ true)
  pub written : Appends a b (text_of (transcript fate (view_of old) read).replies)
  pub view : view_of new ≡ (transcript fate (view_of old) read).view
  pub accepts : Accepts (transcript fate (view_of old) read).events old new

-- PIECES OF A SERVICE

-- from a to b the lines of these replies were written whole, and of the broken one a part
abbrev pub Writes : Option (List ℕ) → Option (List ℕ) → List Reply → List Reply → Type 0
Writes a b = Tells line_of a b

-- LINES

-- no byte is a line feed
abbrev pub is_open : List ℕ → Bool
is_open [] = true
is_open (b ∷ bs) = not (b == 10) && is_open bs

-- what is left of a transcript: nothing after quit, and else what the lines get that begin with `line`
abbrev pub rest_of : {D : Type 0} {g : Ghosts D} → Bool → Session D g → List ℕ → List ℕ → Fate
    → Transcript
rest_of quit s line more f = unless_quit quit f (view_of s) (respond_all (lines (line ++ more)))

-- what these bytes get after a line's first bytes, and then others
abbrev pub lines_behind : {D : Type 0} {g : Ghosts D} → Session D g → (line bytes : List ℕ) → List ℕ
    → Fate → Transcript
lines_behind s line bytes more f = respond_all (lines (line ++ (bytes ++ more))) f (view_of s)

-- bytes of input, after a line's first bytes, whatever bytes follow
abbrev pub Processed : {D : Type 0} {g : Ghosts D} → Option (List ℕ) → Option (List ℕ)
    → (line bytes : List ℕ) → Session D g → Session D g → List ℕ → Bool → Type 0
Processed a b line bytes old new rest quit =
    Responds (lines_behind old line bytes) (rest_of quit new rest) (Writes a b) old new

-- and where a fault of the writer ended the service
abbrev pub ProcessedPart : {D : Type 0} {g : Ghosts D} → Option (List ℕ) → Option (List ℕ)
    → (line bytes : List ℕ) → Session D g → Session D g → Type 0
ProcessedPart a b line bytes old new =
    Interrupted (lines_behind old line bytes) (Writes a b) old new

-- all bytes so far
pub record ProcessedSoFar {D : Type 0} {g : Ghosts D} (a b r s : Option (List ℕ))
    (old new : Session D g) (rest : List ℕ) (quit : Bool) : Type 0 where
  pub read : List ℕ
  pub consumed : Consumes r s read
  pub responds : Responds (λ more f. transcript f (view_of old) (read ++ more))
      (rest_of quit new rest) (Writes a b) old new
