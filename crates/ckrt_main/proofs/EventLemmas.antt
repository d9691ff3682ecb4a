-- What an event gets and puts.
use Rattle.std.proofs.Common.{◌≡◌, false, refl, Option, Some, None}
use Rattle.std.specs.Prelude.{is_none}
use Rattle.ckrt_events.specs.declared.event.Event.{Event}
use Rattle.ckrt_recovery.specs.declared.fault.SubmitFault.{SubmitFault}
use Rattle.ckrt_recovery.specs.View.{View}
use Rattle.ckrt_main.specs.Transcript.{Fate, Transcript, submitted, followed_by, unless_refused}

-- EVENTS ONE AFTER ANOTHER

-- a refused event is all
pub refused_alone : (f : Fate) (v : View) (e : Event) (o : Option SubmitFault) (more : Fate → View → Transcript) → is_none o ≡ false → unless_refused f v e o more ≡ submitted f v e o
refused_alone f v e None more h = cc
refused_alone f v e (Some why) more h = refl

-- an accepted event goes before what follows
pub accepted_before : (f : Fate) (v : View) (e : Event) (o : Option SubmitFault) (more : Fate → View → Transcript) → o ≡ None → unless_refused f v e o more ≡ followed_by (submitted f v e o) more
accepted_before f v e None more h = refl
accepted_before f v e (Some why) more h = cc
