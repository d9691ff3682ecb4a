-- A session with gdb over a line (this project's choice). The frames, and what arrives with a byte, are those of `ckrt_gdb_forms`.
use Rattle.std.specs.Prelude.{◌≡◌, ◌⊎◌, ℕ, zero, suc, Bool, true, false, if◌then◌else◌, List, [], ◌∷◌, ◌++◌, length, take, drop, codes, Option, Some, None, is_some}
use Rattle.std.specs.Io.KnownBytes.{Appends, Consumes, IsAtEnd, Keeps}
use Rattle.ckrt_disk.specs.Writing.{AppendsPart}
use Rattle.ckrt_gdb_forms.specs.Framing.{Line as Heard, arrival_of, frame_of, line_after}
use Rattle.ckrt_gdb_forms.specs.Numbers.{hex_text}
use Rattle.ckrt_gdb_forms.specs.Requests.{request_of}
use Rattle.ckrt_gdb_forms.specs.declared.frame.Arrival.{Arrival}
use Rattle.ckrt_gdb_forms.specs.declared.frame.Arrival.TheVariants as arrival
use Rattle.ckrt_gdb_forms.specs.declared.frame.Stage.TheVariants.{Outside}
use Rattle.ckrt_gdb_forms.specs.declared.request.Request.{Request}
use Rattle.ckrt_gdb_forms.specs.declared.request.Request.TheVariants.{Detach, Kill, Monitor, WithoutAcknowledgements}
use Rattle.ckrt_gdb_stub.specs.declared.fault.DebugFault.{DebugFault}
use Rattle.ckrt_gdb_stub.specs.declared.fault.DebugFault.TheVariants as fault
use Rattle.ckrt_gdb_stub.specs.declared.line.Line.{Line}
use Rattle.ckrt_gdb_stub.specs.declared.serve.TheConstants.{LIMIT_NOTE}
use Rattle.ckrt_gdb_stub.specs.declared.stub.Stub.{Stub}
use Rattle.ckrt_gdb_playback.specs.declared.going.Way.{Way}
use Rattle.ckrt_gdb_playback.specs.declared.view.View.{View}
use Rattle.ckrt_gdb_playback.specs.Look.{fitting}
use Rattle.ckrt_gdb_playback.specs.Told.{is_interrupted}
use Rattle.ckrt_gdb_stub.specs.Monitor.{Obeys}
use Rattle.ckrt_gdb_playback.specs.Playback.{IsPlayable}
use Rattle.ckrt_gdb_stub.specs.Session.{Answers, way_in}

-- A session and its line: what was heard of the frame under way, the frame that was sent last, and whether packets are acknowledged.
pub record Talk : Type 0 where
  pub stub : Stub
  pub heard : Heard
  pub sent : List ℕ
  pub acknowledges : Bool

abbrev pub talk_of : Stub → Line → Talk
talk_of stub line =
    record {
      stub = stub;
      heard = line.receiver;
      sent = line.frame.items;
      acknowledges = line.is_acknowledged;
    }

-- a session whose line is new
abbrev pub begun : Stub → Talk
begun stub =
    record {
      stub = stub;
      heard = record { stage = Outside; payload = [] };
      sent = [];
      acknowledges = true;
    }

-- WHAT A BYTE GETS AT ONCE

-- whether a packet came over whole, as long as gdb wants to know
abbrev pub sign_text : ℕ → (acknowledges : Bool) → List ℕ
sign_text sign acknowledges = if acknowledges then sign ∷ [] else []

-- of a whole packet `+`, of a broken one `-`, and what was sent last where gdb wants it once more
abbrev pub sign_of : Option Arrival → (sent : List ℕ) → (acknowledges : Bool) → List ℕ
sign_of (Some arrival.Packet) sent acknowledges = sign_text 43 acknowledges
sign_of (Some arrival.Broken) sent acknowledges = sign_text 45 acknowledges
sign_of (Some arrival.Refused) sent acknowledges = sent
sign_of _ sent acknowledges = []

abbrev pub sign_by : ℕ → Talk → List ℕ
sign_by b t = sign_of (arrival_of b t.heard) t.sent t.acknowledges

-- the same of a line alone
abbrev pub sign_in : ℕ → Line → List ℕ
sign_in b l = sign_of (arrival_of b l.receiver) l.frame.items l.is_acknowledged

-- WHAT IT ASKS

abbrev pub asked_of : Option Arrival → (payload : List ℕ) → Option Request
asked_of (Some arrival.Packet) payload = Some (request_of payload)
asked_of _ payload = None

abbrev pub asked_by : ℕ → Heard → Option Request
asked_by b heard = asked_of (arrival_of b heard) (line_after b heard).payload

-- THE REPLY TO A REQUEST

-- the text that gdb's user commands
abbrev pub monitored : Request → Option (List ℕ)
monitored (Monitor text) = Some text.items
monitored _ = None

-- a text for gdb's console, 2,000 bytes a packet
abbrev pub console_text : List ℕ → List ℕ
console_text bytes = fitting (codes "O" ++ hex_text bytes)

-- in so many packets at most
abbrev pub console_in : ℕ → List ℕ → List ℕ
console_in zero bytes = []
console_in (suc n) [] = []
console_in (suc n) (b ∷ bytes) =
    frame_of (console_text (take 2000 (b ∷ bytes))) ++ console_in n (drop 2000 (b ∷ bytes))

abbrev pub console_frames : List ℕ → List ℕ
console_frames bytes = console_in (length bytes) bytes

-- the frames from old to new, of which the last is `sent`: what a command tells, and `OK`
abbrev pub RepliesToUser : (text : List ℕ) → (old new : Stub) → (frames sent : List ℕ) → Type 0
RepliesToUser text old new frames sent =
    (console : List ℕ) × Obeys text old new console × (sent ≡ frame_of (codes "OK"))
    × (frames ≡ console_frames console ++ sent)

-- what gdb's user is told before a reply: that a motion ended at the limit of steps
abbrev pub note_by : Option Way → View → List ℕ
note_by None v = []
note_by (Some way) v = if is_interrupted v.last then LIMIT_NOTE.now else []

abbrev pub note_of : Request → (old new : Stub) → List ℕ
note_of request old new = note_by (way_in request old) new.desk.view

-- or this, and the one reply
abbrev pub RepliesToGdb : Request → (old new : Stub) → (frames sent : List ℕ) → Type 0
RepliesToGdb request old new frames sent =
    (payload : List ℕ) × Answers request old new payload × (sent ≡ frame_of payload)
    × (frames ≡ console_frames (note_of request old new) ++ sent)

abbrev pub RepliesBy : Option (List ℕ) → Request → (old new : Stub) → (frames sent : List ℕ) → Type 0
RepliesBy (Some text) request old new frames sent = RepliesToUser text old new frames sent
RepliesBy None request old new frames sent = RepliesToGdb request old new frames sent

abbrev pub Replies : Request → (old new : Stub) → (frames sent : List ℕ) → Type 0
Replies request old new frames sent = RepliesBy (monitored request) request old new frames sent

-- gdb leaves with it
abbrev pub leaves : Request → Bool
leaves Detach = true
leaves Kill = true
leaves _ = false

-- whether packets are acknowledged behind it
abbrev pub acknowledges_behind : Request → Bool → Bool
acknowledges_behind WithoutAcknowledgements acknowledges = false
acknowledges_behind _ acknowledges = acknowledges

-- A BYTE

-- what it asks is answered, with these frames; `left` where gdb leaves with it
pub record Responds (request : Request) (old new : Talk) (frames : List ℕ) (left : Bool) : Type 0 where
  pub replies : Replies request old.stub new.stub frames new.sent
  pub heard : new.heard ≡ old.heard
  pub acknowledges : new.acknowledges ≡ acknowledges_behind request old.acknowledges
  pub left_is : left ≡ leaves request

abbrev pub RespondsTo : Option Request → (old new : Talk) → (frames : List ℕ) → (left : Bool) → Type 0
RespondsTo None old new frames left = (new ≡ old) × (frames ≡ []) × (left ≡ false)
RespondsTo (Some request) old new frames left = Responds request old new frames left

-- it is heard
abbrev pub hearing : ℕ → Talk → Talk
hearing b t = record t { heard = line_after b t.heard }

-- a byte gets its sign, and then the frames of what it asks
pub record Hears (b : ℕ) (old new : Talk) (out : List ℕ) (left : Bool) : Type 0 where
  pub frames : List ℕ
  pub responds : RespondsTo (asked_by b old.heard) (hearing b old) new frames left
  pub written : out ≡ sign_by b old ++ frames

-- BYTES

-- one behind the other, and gdb leaves with none of them
abbrev pub HearsAll : List ℕ → (old new : Talk) → (out : List ℕ) → Type 0
HearsAll [] old new out = (new ≡ old) × (out ≡ [])
HearsAll (b ∷ bytes) old new out =
    (mid : Talk) × (first : List ℕ) × (rest : List ℕ) × Hears b old mid first false
    × HearsAll bytes mid new rest × (out ≡ first ++ rest)

-- the bytes that were read, from r to s, and all that they got, from a to b
pub record HasHeard (r s a b : Option (List ℕ)) (old new : Talk) : Type 0 where
  pub read : List ℕ
  pub out : List ℕ
  pub hears : HearsAll read old new out
  pub consumed : Consumes r s read
  pub written : Appends a b out

-- A WHOLE SESSION: up to the end of the input, or up to the byte with which gdb leaves

-- such a byte was read, from r to s, and got this, from a to b
pub record Leaves (r s a b : Option (List ℕ)) (old : Talk) : Type 0 where
  pub byte : ℕ
  pub new : Talk
  pub out : List ℕ
  pub hears : Hears byte old new out true
  pub consumed : Consumes r s (byte ∷ [])
  pub written : Appends a b out

-- another byte was, and gdb stays
pub record Goes (r s a b : Option (List ℕ)) (old new : Talk) : Type 0 where
  pub byte : ℕ
  pub out : List ℕ
  pub hears : Hears byte old new out false
  pub consumed : Consumes r s (byte ∷ [])
  pub written : Appends a b out

-- the session goes on behind one byte more; or it is over: the input has ended, or gdb has left
abbrev pub Advances : Option Talk → (old : Talk) → (r s a b : Option (List ℕ)) → Type 0
Advances (Some new) old r s a b = Goes r s a b old new
Advances None old r s a b = (Consumes r s [] × IsAtEnd s × (a ≡ b)) ⊎ Leaves r s a b old

abbrev pub Serves : Stub → (r s a b : Option (List ℕ)) → Type 0
Serves stub r s a b =
    (t : Option (List ℕ)) × (c : Option (List ℕ)) × (now : Talk) × HasHeard r t a c (begun stub) now
    × Advances None now t s c b

-- ONE THAT BROKE OFF

-- what is a reply that leads to a session, and ends with the frame that is sent last
abbrev pub IsReply : Type 1
IsReply = (new : Stub) → (frames sent : List ℕ) → Type 0

-- a reply was written whole
abbrev pub Writes : IsReply → (new : Stub) → (sent : List ℕ) → (a b : Option (List ℕ)) → Type 0
Writes Is new sent a b = (frames : List ℕ) × Is new frames sent × Appends a b frames

-- it was broken off by the writer, or there was none
abbrev pub Breaks : DebugFault → IsReply → (old : Stub) → (a b : Option (List ℕ)) → Type 0
Breaks fault.Write Is old a b =
    (new : Stub) × (frames : List ℕ) × (sent : List ℕ) × Is new frames sent × AppendsPart a b frames
Breaks fault.Refused Is old a b =
    Appends a b [] × (IsPlayable old.playback → ⊥)
Breaks fault.OutOfMemory Is old a b = Appends a b []
Breaks _ Is old a b = ⊥

-- memory is taken for what gdb's user is told, and for nothing else
abbrev pub TakesMemory : DebugFault → Request → Type 0
TakesMemory e request = e ≡ fault.OutOfMemory → is_some (monitored request) ≡ true

abbrev pub BreaksRequest : DebugFault → Option Request → (old : Stub) → (a b : Option (List ℕ)) → Type 0
BreaksRequest e None old a b = ⊥
BreaksRequest e (Some request) old a b = Breaks e (Replies request old) old a b × TakesMemory e request

-- the sign of a byte was broken off by the writer
abbrev pub BreaksSign : DebugFault → ℕ → Talk → (a b : Option (List ℕ)) → Type 0
BreaksSign fault.Write byte t a b = AppendsPart a b (sign_by byte t)
BreaksSign _ byte t a b = ⊥

-- its sign was, or it got it whole, and then a part of what it asks
abbrev pub BreaksByte : DebugFault → ℕ → Talk → (a b : Option (List ℕ)) → Type 0
BreaksByte e byte t a b =
    BreaksSign e byte t a b
    ⊎ ((c : Option (List ℕ)) × Appends a c (sign_by byte t)
    × BreaksRequest e (asked_by byte t.heard) t.stub c b)

-- the reader failed behind some bytes, or one got only a part
abbrev pub BreaksAfter : DebugFault → Talk → (r s a b : Option (List ℕ)) → Type 0
BreaksAfter fault.Read t r s a b = Keeps r s × (a ≡ b)
BreaksAfter e t r s a b = (byte : ℕ) × Consumes r s (byte ∷ []) × BreaksByte e byte t a b

abbrev pub BreaksOff : DebugFault → Stub → (r s a b : Option (List ℕ)) → Type 0
BreaksOff e stub r s a b =
    (t : Option (List ℕ)) × (c : Option (List ℕ)) × (now : Talk) × HasHeard r t a c (begun stub) now
    × BreaksAfter e now t s c b
