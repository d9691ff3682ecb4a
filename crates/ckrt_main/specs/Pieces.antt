-- What commands over a session are told, and what they make of it, piece by piece (this project's choice).
use Rattle.std.specs.Prelude.{◌≡◌, ◌≤◌, ℕ, zero, Bool, true, List, [], ◌++◌, length, drop, take, Option, Some, is_none}
use Rattle.std.specs.List.{AllByRecursion}
use Rattle.std.specs.Io.KnownBytes.{Appends}
use Rattle.ckrt_disk.specs.declared.disk.Disk.{Ghosts}
use Rattle.ckrt_events.specs.declared.event.Event.{Event}
use Rattle.ckrt_stored.specs.Programs.{Program, output_after}
use Rattle.ckrt_recovery.specs.declared.session.Session.{Session}
use Rattle.ckrt_disk.specs.Lists.{IsBeginningOf}
use Rattle.ckrt_recovery.specs.Represents.{Represents}
use Rattle.ckrt_recovery.specs.View.{View, view_of}
use Rattle.ckrt_recovery.specs.Accepts.{Accepts}
use Rattle.ckrt_main.specs.Outputs.{AreOutput}
use Rattle.ckrt_main.specs.Replies.{Reply, told_of, shown_in, oks_of, acks_of, shown_up_to}
use Rattle.ckrt_main.specs.Transcript.{Fate, Transcript, preceded_by}

-- WHAT A LISTENER IS TOLD

-- From a to b a listener was told these replies whole, and of the broken ones a part: `text` is what it is told of each.
pub record Tells (text : Reply → List ℕ) (a b : Option (List ℕ)) (replies broken : List Reply)
    : Type 0 where
  pub part : List ℕ
  pub written : Appends a b (told_of text replies ++ part)
  pub begun : IsBeginningOf part (told_of text broken)

-- from a to b it was told some of all these replies whole, from the first on, and perhaps a part of the next
pub record TellsPart (text : Reply → List ℕ) (a b : Option (List ℕ)) (all : List Reply)
    : Type 0 where
  pub replies : List Reply
  pub broken : List Reply
  pub one : length broken ≤ 1
  pub tells : Tells text a b replies broken
  pub among : IsBeginningOf (replies ++ broken) all

-- PIECES

-- from old to new: the replies that were told whole, and of others a part
pub record Piece {D : Type 0} {g : Ghosts D} (told : (replies broken : List Reply) → Type 0)
    (old new : Session D g) (broken : List Reply) : Type 0 where
  pub replies : List Reply
  pub accepted : List Event
  pub tells : told replies broken
  pub acks : AllByRecursion (λ k. k ≤ new.acknowledged) (acks_of (replies ++ broken))
  pub confirmed : new.progress.confirmed ≤ shown_up_to old.progress.confirmed replies
  pub answered : oks_of (replies ++ broken) ≡ length accepted
  pub accepts : Accepts accepted old new
  pub outs : g.is_honest new.disk → (p : Program) (events : List Event) → Represents p events old
      → AreOutput p (events ++ accepted) new (replies ++ broken)
  -- the fate before it, by that after it
  pub before : Fate → Fate
  pub kept : (f : Fate) → is_none (before f) ≡ is_none f
  pub idle : old.failed ≡ true → (f : Fate) → before f ≡ f

-- what may be left of a fate: once a session has failed, that of the commit or checkpoint that failed
abbrev pub Suits : {D : Type 0} {g : Ghosts D} → Fate → Session D g → Type 0
Suits f s = s.failed ≡ true → f ≡ Some zero

-- The session represents these events, and of their output the bytes from an offset up to the confirmed one were taken.
pub record HasTaken {D : Type 0} {g : Ghosts D} (p : Program) (events : List Event) (from : ℕ)
    (bytes : List ℕ) (s : Session D g) : Type 0 where
  pub represents : Represents p events s
  pub start : from ≤ s.progress.confirmed
  pub taken : bytes ≡ drop from (take s.progress.confirmed (output_after p events))

-- a piece that was whole: the transcripts, of any fate, are it and then others
pub record Responds {D : Type 0} {g : Ghosts D} {I : Type 0} (all rest : I → Fate → Transcript)
    (told : (replies broken : List Reply) → Type 0) (old new : Session D g) : Type 0 where
  pub piece : Piece told old new []
  pub goes_on : (i : I) (f : Fate) → Suits f new
      → all i (piece.before f) ≡ preceded_by piece.replies piece.accepted (rest i f)
  -- the output that its replies show is what was confirmed meanwhile
  pub taken : g.is_honest new.disk → (p : Program) (events : List Event) (from : ℕ) (bytes : List ℕ)
      → HasTaken p events from bytes old
      → HasTaken p (events ++ piece.accepted) from (bytes ++ shown_in piece.replies) new

-- a piece that a fault of the listener ended: the transcripts, of any fate, begin with it
pub record Interrupted {D : Type 0} {g : Ghosts D} {I : Type 0} (all : I → Fate → Transcript)
    (told : (replies broken : List Reply) → Type 0) (old new : Session D g) : Type 0 where
  pub broken : List Reply
  pub one : length broken ≤ 1
  pub piece : Piece told old new broken
  pub among : (i : I) (f : Fate) → Suits f new
      → IsBeginningOf (piece.replies ++ broken) (all i (piece.before f)).replies
  pub some : (i : I) (f : Fate) → Suits f new
      → IsBeginningOf piece.accepted (all i (piece.before f)).events

-- a transcript's end in this session
abbrev pub ends : {D : Type 0} {g : Ghosts D} → Bool → Session D g → Fate → Transcript
ends quit s f = record { replies = []; events = []; view = view_of s; fate = f; quit = quit }

-- what a command gets
abbrev pub Answers : {D : Type 0} {g : Ghosts D} → (Fate → View → Transcript) → Bool
    → (List Reply → List Reply → Type 0) → Session D g → Session D g → Type 0
Answers t quit told old new = Responds (λ (_ : Unit {0}) f. t f (view_of old)) (λ _ f. ends quit new f) told old new

-- and where the listener broke it off
abbrev pub BreaksOff : {D : Type 0} {g : Ghosts D} → (Fate → View → Transcript)
    → (List Reply → List Reply → Type 0) → Session D g → Session D g → Type 0
BreaksOff t told old new = Interrupted (λ (_ : Unit {0}) f. t f (view_of old)) told old new
