-- What a drive gives to its output: which bytes, at which offsets, and a sync after each write. What a kind of output says of its writes and
-- syncs holds of just these calls, in their order.
use Rattle.std.specs.Prelude.{◌≡◌, ◌+◌, ℕ, Bool, true, false, List, [], ◌∷◌, ◌++◌, length, take, drop, Result, Ok, Err}
use Rattle.std.specs.List.{concat}
use Rattle.ckrt_disk.specs.Synced.{FailsToWriteSynced, WritesSynced}
use Rattle.ckrt_disk.specs.declared.disk.Disk.{Ghosts}
use Rattle.ckrt_events.specs.declared.event.Event.{Event}
use Rattle.ckrt_stored.specs.Programs.{Program}
use Rattle.ckrt_recovery.specs.declared.session.Session.{Session}
use Rattle.ckrt_recovery.specs.Represents.{Represents}
use Rattle.ckrt_recovery.specs.View.{View, view_of, released_output}
use Rattle.ckrt_drive.specs.declared.fault.DriveFault.{DriveFault}
use Rattle.ckrt_drive.specs.declared.fault.DriveFault.TheVariants.{Device, Input, NoRecord, Output, OutputFull, GenerationsUsed, Refused}
use Rattle.ckrt_drive.specs.Output.{acknowledged_output}

-- whether the fault is that the output failed a call
abbrev pub output_failed : DriveFault → Bool
output_failed Device = false
output_failed Input = false
output_failed NoRecord = false
output_failed Output = true
output_failed OutputFull = false
output_failed GenerationsUsed = false
output_failed (Refused why) = false

-- whether the answer is that fault
abbrev pub is_output_fault : {X : Type 0} → Result X DriveFault → Bool
is_output_fault (Ok x) = false
is_output_fault (Err fault) = output_failed fault

-- PIECE BY PIECE

-- from a to b these pieces were put out, the first at an offset, and each where the one before it ended
abbrev pub PutsAllOut : {O : Type 0} → Ghosts O → (at : ℕ) → List (List ℕ) → (a b : O) → Type 0
PutsAllOut o at [] a b = b ≡ a
PutsAllOut {O} o at (piece ∷ more) a b =
    (mid : O) × WritesSynced o at piece a mid × PutsAllOut o (at + length piece) more mid b

-- the bytes from one offset up to another
abbrev pub between : (from to : ℕ) → List ℕ → List ℕ
between from to out = drop from (take to out)

-- after that it was given nothing more; or, where it failed a call, that was the write of the released bytes that aren't confirmed, or the
-- sync after it
abbrev pub EndsOrFails : {O : Type 0} → Ghosts O → View → (a b : O) → (failed : Bool) → Type 0
EndsOrFails o v a b false = b ≡ a
EndsOrFails o v a b true = FailsToWriteSynced o v.recovered.confirmed (released_output v) a b

-- From s to t a session took these events, and its output went from a to b, whether it failed a call or not: what was put out is the plain
-- fold's output of acknowledged events, from the offset that was confirmed in s up to the one that is confirmed in t.
pub record PutsOutput {D O : Type 0} {g : Ghosts D} (o : Ghosts O) (accepted : List Event)
    (s t : Session D g) (a b : O) (failed : Bool) : Type 0 where
  -- what was put out well, up to this state of the output
  pub pieces : List (List ℕ)
  pub last : O
  pub puts : PutsAllOut o s.progress.confirmed pieces a last
  -- these are as many bytes as are confirmed then, and were not before
  pub reach : s.progress.confirmed + length (concat pieces) ≡ t.progress.confirmed
  -- and the fold's
  pub are : g.is_honest t.disk → (p : Program) (events : List Event) → Represents p events s
      → concat pieces
      ≡ between s.progress.confirmed t.progress.confirmed
      (acknowledged_output p (events ++ accepted) t)
  pub rest : EndsOrFails o (view_of t) last b failed
