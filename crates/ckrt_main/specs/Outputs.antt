-- The lines of output among a session's replies (this project's choice).
use Rattle.std.specs.Prelude.{List}
use Rattle.std.specs.List.{AllByRecursion}
use Rattle.ckrt_disk.specs.declared.disk.Disk.{Ghosts}
use Rattle.ckrt_events.specs.declared.event.Event.{Event}
use Rattle.ckrt_stored.specs.Programs.{Program, output_after}
use Rattle.ckrt_recovery.specs.declared.session.Session.{Session}
use Rattle.ckrt_recovery.specs.Between.{StandsIn}
use Rattle.ckrt_recovery.specs.Represents.{acknowledged_of}
use Rattle.ckrt_main.specs.Replies.{Reply, outs_of}

-- each line of output is the plain fold's output of the acknowledged ones of these events, at its offset
abbrev pub AreOutput : {D : Type 0} {g : Ghosts D} → Program → List Event → Session D g → List Reply
    → Type 0
AreOutput p events s replies =
    AllByRecursion (StandsIn (output_after p (acknowledged_of events s))) (outs_of replies)
