-- A stretch of what a disk has recorded, and what is told of it.
use Rattle.std.proofs.Common.{◌≡◌, ◌≤◌, ℕ, ◌-◌, max, false, List, length, length-drop, take, drop, Option, Some, None, unwrap_or, Result, Ok, Err, refl, sym, ◌∙◌, ap, subst, arith}
use Rattle.std.proofs.lemmas.List.{take-append-drop, take_all}
use Rattle.std.specs.Prelude.{IfErr, OnOk}
use Rattle.std.specs.Io.KnownBytes.{Appends, Keeps}
use Rattle.ckrt_events.specs.declared.event.Event.{Event}
use Rattle.ckrt_machine.specs.Steps.{State}
use Rattle.ckrt_machine.specs.Events.{AllAccepted, fold}
use Rattle.ckrt_stored.specs.Recovery.{AgreesOnFault, Recovers}
use Rattle.ckrt_stored.proofs.ReplayLemmas.{accepted-append}
use Rattle.ckrt_stored.specs.declared.fault.RecoverFault.{RecoverFault}
use Rattle.ckrt_stored.specs.declared.fault.RecoverFault.TheVariants as recover
use Rattle.ckrt_look_recording.specs.Recording.{HasRecording, Recorded}
use Rattle.ckrt_look_recording.proofs.RecordedLemmas.{recorded_leads}
use Rattle.ckrt_look_recording.proofs.WayLemmas.{accepted_behind, accepted_first}
use Rattle.ckrt_inspect.specs.Inspect.{is_device, of_recovery}
use Rattle.ckrt_inspect.specs.declared.fault.InspectFault.{InspectFault}
use Rattle.ckrt_inspect.specs.declared.fault.InspectFault.TheVariants.{NotFormatted, Version, Damaged, Device, OutOfMemory, ShadowFull, Write, Range}
use Rattle.ckrt_look_calls.specs.declared.stretch.Stretch.{Stretch}
use Rattle.ckrt_look_calls.specs.Stretches.{Account, IsEventsFault, IsFaultOf, IsReachFault, IsReached, IsTellFault, IsWithin, RecordsTo, TellsRecording, TellsStretch, Writes, before_of, events_of, begin_in, begin_of, from_of, last_of, lately, state_of, to_of}
use Rattle.ckrt_look_calls.proofs.AppendLemmas.{appends_kept}

-- WHERE IT BEGINS

-- no earlier than the recording, and no later than it ends
pub begins_within : (s : Stretch) (first last : ℕ) → IsWithin s first last → (first ≤ begin_of s first last) × (begin_of s first last ≤ to_of s last)
begins_within s first last within = go s.last
  where
    go : (o : Option ℕ) → (first ≤ max (from_of s first) (lately o (to_of s last))) × (max (from_of s first) (lately o (to_of s last)) ≤ to_of s last)
    go None = (omega (arith, within.begins), omega (arith, within.ordered))
    go (Some n) = (omega (arith, within.begins), omega (arith, within.ordered))

-- THE STRETCH IS REACHED, from its bounds

pub reached : (s : Stretch) (r : Recorded) (from to : ℕ) (told : List Event) (z : State) → IsWithin s r.first (last_of r) → from ≡ begin_in s r → to ≡ to_of s (last_of r)
    → told ≡ take (to - from) (drop (from - r.first) r.events) → z ≡ (fold (take (from - r.first) r.events) r.start).state → AllAccepted (take (from - r.first) r.events) r.start → IsReached s r from told z
reached s r from to told z within is_from is_to is_told is_state accepted = record {
  within = within;
  first = is_from;
  events = is_told ∙ ap (λ n. take (n - from) (drop (from - r.first) r.events)) is_to ∙ ap (λ n. take (to_of s (last_of r) - n) (drop (n - r.first) r.events)) is_from;
  state = is_state ∙ ap (λ n. (fold (take (n - r.first) r.events) r.start).state) is_from;
  before = subst (λ n. AllAccepted (take (n - r.first) r.events) r.start) is_from accepted;
}

-- WHAT IS KNOWN WHERE ITS EVENTS WERE MADE

-- of a stretch without an end of its own all events are accepted, where those before it and its own are
all_made : (s : Stretch) (r : Recorded) → s.to ≡ None → IsWithin s r.first (last_of r) → AllAccepted (before_of s r) r.start → AllAccepted (events_of s r) (state_of s r) → AllAccepted r.events r.start
all_made s r none within before own =
    let from = begin_in s r in
    let n = from - r.first in
    let last : to_of s (last_of r) ≡ last_of r = ap (λ o. unwrap_or o (last_of r)) none in
    let few : length (drop n r.events) ≤ to_of s (last_of r) - from = omega (arith, length-drop n r.events, last, (begins_within s r.first (last_of r) within).0) in
    let behind : events_of s r ≡ drop n r.events = take_all (to_of s (last_of r) - from) (drop n r.events) few in
    subst (λ (l : List Event). AllAccepted l r.start) (take-append-drop n r.events)
    (accepted-append (take n r.events) (drop n r.events) r.start before (subst (λ (l : List Event). AllAccepted l (state_of s r)) behind own))

-- all events of what an image has recorded are
accepted_of_image : (image : List ℕ) (r : Recorded) → HasRecording image r → AllAccepted r.events r.start
accepted_of_image image r has = (recorded_leads image r has.whole has has.recovers).accepted

-- it's recorded where they are
recorded_to : (to : Option ℕ) (image : List ℕ) (r : Recorded) → RecordsTo to image (Ok r) → (to ≡ None → AllAccepted r.events r.start) → HasRecording image r
recorded_to (Some to) image r has all = has
recorded_to None image r has all = has.recorded (all refl)

-- the image is damaged where one isn't
damaged_to : (to : Option ℕ) (image : List ℕ) (r : Recorded) → RecordsTo to image (Ok r) → (AllAccepted r.events r.start → ⊥) → Recovers image (Err recover.Damaged)
damaged_to (Some to) image r has refused = absurd (refused (accepted_of_image image r has))
damaged_to None image r has refused = has.damaged refused

-- FAULTS

-- all its events are accepted where those of the recording are
accepted_in : (s : Stretch) (r : Recorded) → AllAccepted r.events r.start → AllAccepted (events_of s r) (state_of s r)
accepted_in s r all =
    let from = begin_in s r - r.first in
    accepted_first (to_of s (last_of r) - begin_in s r) (drop from r.events) (state_of s r) (accepted_behind from r.events r.start all)

-- a fault of going to the stretch is one of telling it
pub fault_of_reaching : (a : Account) (s : Stretch) (r : Recorded) (f : InspectFault) → IsReachFault s r f → IsTellFault a s r f
fault_of_reaching a s r Range fault = fault
fault_of_reaching a s r Damaged refused = refused
fault_of_reaching a s r NotFormatted fault = absurd fault
fault_of_reaching a s r Version fault = absurd fault
fault_of_reaching a s r Device fault = absurd fault
fault_of_reaching a s r OutOfMemory fault = absurd fault
fault_of_reaching a s r Write fault = absurd fault
fault_of_reaching a s r ShadowFull fault = absurd fault

-- one of its events is, too
fault_of_events : (a : Account) (s : Stretch) (r : Recorded) (k : ℕ) (es : List Event) (z : State) (f : InspectFault) → IsReached s r k es z → IsEventsFault (a.Fills k es z) es z f → IsTellFault a s r f
fault_of_events a s r k es z Damaged is refused =
    λ all. refused (subst (λ (y : State). AllAccepted es y) (sym is.state) (subst (λ (l : List Event). AllAccepted l (state_of s r)) (sym is.events) (accepted_in s r all)))
fault_of_events a s r k es z ShadowFull is fills =
    (is.within, subst (λ n. a.Fills n (events_of s r) (state_of s r)) is.first (subst (λ (l : List Event). a.Fills k l (state_of s r)) is.events (subst (λ (y : State). a.Fills k es y) is.state fills)))
fault_of_events a s r k es z OutOfMemory is fault = tt
fault_of_events a s r k es z Write is fault = tt
fault_of_events a s r k es z NotFormatted is fault = absurd fault
fault_of_events a s r k es z Version is fault = absurd fault
fault_of_events a s r k es z Device is fault = absurd fault
fault_of_events a s r k es z Range is fault = absurd fault

-- a fault of telling a recording is one of the image that has it
fault_of_telling : (a : Account) (s : Stretch) (image : List ℕ) (r : Recorded) (f : InspectFault) → RecordsTo s.to image (Ok r) → IsTellFault a s r f → IsFaultOf a s image f
fault_of_telling a s image r Range has fault = record { recorded = r; has = recorded_to s.to image r has fault.1; outside = fault.0 }
fault_of_telling a s image r Damaged has refused = damaged_to s.to image r has refused
fault_of_telling a s image r ShadowFull has fault = record { recorded = r; has = has; within = fault.0; fills = fault.1 }
fault_of_telling a s image r OutOfMemory has fault = tt
fault_of_telling a s image r Write has fault = tt
fault_of_telling a s image r NotFormatted has fault = absurd fault
fault_of_telling a s image r Version has fault = absurd fault
fault_of_telling a s image r Device has fault = absurd fault

-- a fault of the reading is one of the image
pub fault_of_reading : (a : Account) (s : Stretch) (to : Option ℕ) (image : List ℕ) (fault : RecoverFault) → AgreesOnFault fault (RecordsTo to image) → IsFaultOf a s image (of_recovery fault)
fault_of_reading a s (Some to) image recover.NotFormatted is = is
fault_of_reading a s (Some to) image recover.Version is = is
fault_of_reading a s (Some to) image recover.Damaged is = is
fault_of_reading a s (Some to) image recover.Device is = tt
fault_of_reading a s (Some to) image recover.OutOfMemory is = tt
fault_of_reading a s None image recover.NotFormatted is = is
fault_of_reading a s None image recover.Version is = is
fault_of_reading a s None image recover.Damaged is = is
fault_of_reading a s None image recover.Device is = tt
fault_of_reading a s None image recover.OutOfMemory is = tt

-- none but that of the reading is the disk's
pub reach_no_device : {X : Type 0} (s : Stretch) (r : Recorded) (result : Result X InspectFault) → IfErr result (IsReachFault s r) → is_device result ≡ false
reach_no_device s r (Ok x) fault = refl
reach_no_device s r (Err Range) fault = refl
reach_no_device s r (Err Damaged) fault = refl
reach_no_device s r (Err NotFormatted) fault = absurd fault
reach_no_device s r (Err Version) fault = absurd fault
reach_no_device s r (Err Device) fault = absurd fault
reach_no_device s r (Err OutOfMemory) fault = absurd fault
reach_no_device s r (Err Write) fault = absurd fault
reach_no_device s r (Err ShadowFull) fault = absurd fault

pub events_no_device : (Fills : Type 0) (es : List Event) (z : State) (result : Result (Unit {0}) InspectFault) → IfErr result (IsEventsFault Fills es z) → is_device result ≡ false
events_no_device Fills es z (Ok done) fault = refl
events_no_device Fills es z (Err Damaged) fault = refl
events_no_device Fills es z (Err OutOfMemory) fault = refl
events_no_device Fills es z (Err Write) fault = refl
events_no_device Fills es z (Err ShadowFull) fault = refl
events_no_device Fills es z (Err NotFormatted) fault = absurd fault
events_no_device Fills es z (Err Version) fault = absurd fault
events_no_device Fills es z (Err Device) fault = absurd fault
events_no_device Fills es z (Err Range) fault = absurd fault

-- WHAT IS TOLD

-- a text was written
pub writes_text : (IsText : List ℕ → Type 0) (text : List ℕ) (old new : Option (List ℕ)) (result : Result (Unit {0}) InspectFault) → IsText text → OnOk result (Appends old new text) → OnOk result (Writes IsText old new)
writes_text IsText text old new (Ok done) is written = record { text = text; is = is; written = written }
writes_text IsText text old new (Err f) is written = tt

-- behind it, the writer was flushed
pub writes_kept : (IsText : List ℕ → Type 0) (a b c : Option (List ℕ)) → Writes IsText a b → Keeps b c → Writes IsText a c
writes_kept IsText a b c writes kept = record { text = writes.text; is = writes.is; written = appends_kept a b c writes.text writes.written kept }

-- a stretch that was reached is told of the recording
pub told_of_recording : (a : Account) (s : Stretch) (old new : Option (List ℕ)) (r : Recorded) (k : ℕ) (es : List Event) (z : State) (result : Result (Unit {0}) InspectFault) → IsReached s r k es z
    → OnOk result (Writes (a.IsText k es z) old new) → OnOk result (AllAccepted es z) → IfErr result (IsEventsFault (a.Fills k es z) es z) → TellsRecording a s r old new result
told_of_recording a s old new r k es z (Ok done) is told accepted fault = record {
  within = is.within;
  before = is.before;
  accepted = subst (λ (y : State). AllAccepted (events_of s r) y) is.state (subst (λ (l : List Event). AllAccepted l z) is.events accepted);
  writes =
      subst (λ n. Writes (a.IsText n (events_of s r) (state_of s r)) old new) is.first
      (subst (λ (l : List Event). Writes (a.IsText k l (state_of s r)) old new) is.events (subst (λ (y : State). Writes (a.IsText k es y) old new) is.state told));
}
told_of_recording a s old new r k es z (Err f) is told accepted fault = fault_of_events a s r k es z f is fault

-- what was told of a stretch of a recording is told of the image that has it
pub told_of_image : (a : Account) (s : Stretch) (image : List ℕ) (old new : Option (List ℕ)) (r : Recorded) (result : Result (Unit {0}) InspectFault) → RecordsTo s.to image (Ok r) → TellsRecording a s r old new result → TellsStretch a s image old new result
told_of_image a s image old new r (Ok done) has told = record {
  recorded = r;
  has = recorded_to s.to image r has (λ none. all_made s r none told.within told.before told.accepted);
  within = told.within;
  writes = told.writes;
}
told_of_image a s image old new r (Err f) has fault = fault_of_telling a s image r f has fault
