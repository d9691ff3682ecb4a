-- What two sessions of one program answer alike: after a stop, as the unbroken run.
use Rattle.std.specs.Prelude.{◌≡◌, Bool, true, false, List, [], ◌∷◌}
use Rattle.std.specs.List.{AllByRecursion}
use Rattle.ckrt_machine.specs.declared.event.Refusal.{Refusal}
use Rattle.ckrt_machine.specs.declared.event.Refusal.TheVariants.{Ended, NoSuchHart, NoSuchThread, NotReady, HartIdle, InputClosed, InputFull, ClockEnd, OutputFull}
use Rattle.ckrt_recovery.specs.declared.fault.SubmitFault.{SubmitFault}
use Rattle.ckrt_recovery.specs.declared.fault.SubmitFault.TheVariants.{Failed, NeedsCheckpoint, Refused, BatchFull, JournalFull, CountersUsed}
use Rattle.ckrt_main.specs.Replies.{Reply, Accepted, Acknowledged, NotAccepted, NotSaved, NotUnderstood, Output}
use Rattle.ckrt_main.specs.Transcript.{Transcript}
use Rattle.ckrt_recovery.specs.View.{View}

-- the same state of the machine after as many events, whatever is pending, held or confirmed
pub record IsAlike (v w : View) : Type 0 where
  pub state : v.recovered.state ≡ w.recovered.state
  pub count : v.recovered.count ≡ w.recovered.count

-- a refusal that depends on what was confirmed
abbrev pub is_output_full : Refusal → Bool
is_output_full Ended = false
is_output_full NoSuchHart = false
is_output_full NoSuchThread = false
is_output_full NotReady = false
is_output_full HartIdle = false
is_output_full InputClosed = false
is_output_full InputFull = false
is_output_full ClockEnd = false
is_output_full OutputFull = true

-- or on the journal's version, the batch, the journal's room, the ends of the counts or the device
abbrev pub is_own : SubmitFault → Bool
is_own Failed = true
is_own NeedsCheckpoint = true
is_own (Refused why) = is_output_full why
is_own BatchFull = true
is_own JournalFull = true
is_own CountersUsed = true

-- a reply that doesn't follow from the machine's state and the count of events
abbrev pub is_local : Reply → Bool
is_local (Accepted k answer) = false
is_local (Acknowledged k) = false
is_local (NotAccepted why) = is_own why
is_local (NotSaved why) = true
is_local (NotUnderstood why) = false
is_local (Output offset bytes) = false

-- no reply is one of these
abbrev pub NoneIsLocal : List Reply → Type 0
NoneIsLocal replies = AllByRecursion (λ r. is_local r ≡ false) replies

-- the replies beside the lines of output
abbrev pub answers_of : List Reply → List Reply
answers_of [] = []
answers_of (Accepted k answer ∷ rs) = Accepted k answer ∷ answers_of rs
answers_of (Acknowledged k ∷ rs) = Acknowledged k ∷ answers_of rs
answers_of (NotAccepted why ∷ rs) = NotAccepted why ∷ answers_of rs
answers_of (NotSaved why ∷ rs) = NotSaved why ∷ answers_of rs
answers_of (NotUnderstood why ∷ rs) = NotUnderstood why ∷ answers_of rs
answers_of (Output offset bytes ∷ rs) = answers_of rs

-- two transcripts have the same answers and the same events, and end in sessions that are alike
pub record AnswerAlike (t u : Transcript) : Type 0 where
  pub answers : answers_of t.replies ≡ answers_of u.replies
  pub events : t.events ≡ u.events
  pub views : IsAlike t.view u.view
  pub quit : t.quit ≡ u.quit
