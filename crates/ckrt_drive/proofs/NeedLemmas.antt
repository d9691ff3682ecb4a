-- What is planned is never refused for the version of the session's journal: where that has no long runs a checkpoint comes first.
use Rattle.std.proofs.Common.{◌≡◌, ◌+◌, ℕ, nat_lt, nat_le, Bool, true, false, if◌then◌else◌, Option, Some, None, Result, Ok, Err, length, refl, arith}
use Rattle.std.proofs.lemmas.Bool.Decides.{nat_tests}
use Rattle.std.specs.Prelude.{◌*◌, ◌-◌}
use Rattle.ckrt_events.specs.Bytes.{encoding_of, is_known_in}
use Rattle.ckrt_events.specs.declared.event.Event.{Event}
use Rattle.ckrt_events.specs.declared.event.Event.TheVariants.{Place, Run, Tick, Input, Eof, RunLong}
use Rattle.ckrt_stored.specs.Recovery.{are_counters_used, room_of}
use Rattle.ckrt_machine.specs.declared.event.Refusal.{Refusal}
use Rattle.ckrt_machine.specs.Events as machine
use Rattle.ckrt_recovery.specs.declared.fault.SubmitFault.{SubmitFault}
use Rattle.ckrt_recovery.specs.declared.fault.SubmitFault.TheVariants as submit
use Rattle.ckrt_recovery.specs.View.{View, first_refusal, output_end, refusal_of, refusal_when_known, refusal_when_running, shortage_of, version_of}
use Rattle.ckrt_drive.specs.declared.fault.DriveFault.{DriveFault}
use Rattle.ckrt_drive.specs.declared.fault.DriveFault.TheVariants.{Refused}
use Rattle.ckrt_drive.specs.declared.options.Options.{Options}
use Rattle.ckrt_schedule.specs.declared.next.Next.{Next}
use Rattle.ckrt_schedule.specs.declared.next.Next.TheVariants.{Submit, End}
use Rattle.ckrt_drive.specs.declared.step_done.StepDone.{StepDone}
use Rattle.ckrt_drive.specs.declared.step_done.StepDone.TheVariants.{Checkpointed, Committed, Released, Stopped}
use Rattle.ckrt_drive.specs.declared.supply.Supply.{Supply}
use Rattle.ckrt_schedule.specs.Schedules.{places_of}
use Rattle.ckrt_drive.specs.Plan.{is_checkpoint_due, is_commit_due, is_old, is_settled, is_shortage, make_room, next, offered, plan, plan_for, plan_next, plan_onward, schedule_of}
use Rattle.ckrt_drive.proofs.Choices.{either, neither}

-- A SESSION'S REFUSAL

-- it isn't that of a long run in a journal of version 1
abbrev IsOther : Option SubmitFault → Type 0
IsOther o = o ≡ Some submit.NeedsCheckpoint → ⊥

short : (a b c : Bool) → IsOther (if a then Some submit.BatchFull else if b then Some submit.JournalFull else if c then Some submit.CountersUsed else None)
short true b c = λ is. absurd (cc)
short false true c = λ is. absurd (cc)
short false false true = λ is. absurd (cc)
short false false false = λ is. absurd (cc)

first : (r : Option Refusal) (o : Option SubmitFault) → IsOther o → IsOther (first_refusal r o)
first (Some refusal) o h = λ is. absurd (cc)
first None o h = h

running : (b : Bool) (o : Option SubmitFault) → b ≡ true → IsOther o → IsOther (if b then o else Some submit.NeedsCheckpoint)
running true o known h = h
running false o known h = absurd (cc)

unless_failed : (b : Bool) (o : Option SubmitFault) → IsOther o → IsOther (if b then Some submit.Failed else o)
unless_failed true o h = λ is. absurd (cc)
unless_failed false o h = h

other : (v : View) (e : Event) → is_known_in (version_of v) e ≡ true → IsOther (refusal_of v e)
other v e known =
    let n = length (encoding_of e) in
    let none = short (nat_lt 4096 (length v.pending + n)) (nat_lt (room_of v.recovered.journal) (3 + length v.pending + n)) (are_counters_used v.recovered.count (output_end v.recovered)) in
    unless_failed v.failed (refusal_when_running v e) (running (is_known_in (version_of v) e) (refusal_when_known v e) known (first (machine.refusal_of (length v.recovered.held) e v.recovered.state) (shortage_of v n) none))

-- THE PLAN

-- journals of version 2 have every event
known : (version : ℕ) (e : Event) → nat_lt version 2 ≡ false → is_known_in version e ≡ true
known version (Place h t) new = refl
known version (Run h n) new = refl
known version (Input bytes) new = refl
known version Eof new = refl
known version (Tick k) new = refl
known version (RunLong h n) new = grind (arith, nat_tests, new)

-- it isn't refused so
abbrev pub IsWell : Result StepDone DriveFault → Type 0
IsWell planned = planned ≡ Err (Refused submit.NeedsCheckpoint) → ⊥

same_fault : (why : SubmitFault) (planned : Result StepDone DriveFault) → planned ≡ Err (Refused why) → planned ≡ Err (Refused submit.NeedsCheckpoint) → Some why ≡ Some submit.NeedsCheckpoint
same_fault why planned is need = cc

well_offered : (v : View) (e : Event) (o : Option SubmitFault) → IsOther o → IsWell (offered v e o)
well_offered v e None h = λ is. absurd (cc)
well_offered v e (Some why) h = either IsWell (is_shortage why) (Ok (make_room v)) (Err (Refused why)) (λ is. absurd (cc)) (λ is. h (same_fault why (Err (Refused why)) refl is))

well_for : (n : Next) (v : View) → is_old v ≡ false → IsWell (plan_for n v)
well_for (Submit e) v new = well_offered v e (refusal_of v e) (other v e (known (version_of v) e new))
well_for (End ending) v new = either IsWell (is_settled v) (Ok (Stopped ending)) (Ok Committed) (λ is. absurd (cc)) (λ is. absurd (cc))

well_next : (b : Bool) (o : Options) (w : Supply) (v : View) → is_commit_due o v ≡ b → IsWell (if b then Ok Committed else plan_next o w v)
well_next true o w v due = λ is. absurd (cc)
well_next false o w v due =
    let new = neither (is_old v) (nat_le (o.rounds * places_of v.recovered.state.tables) (v.recovered.count - v.acknowledged)) due in
    well_for (next (schedule_of o) w v.recovered.count v.recovered.state.tables) v new.0

pub no_need : (o : Options) (w : Supply) (v : View) → IsWell (plan o w v)
no_need o w v = either IsWell (nat_lt v.recovered.confirmed v.released) (Ok Released) (plan_onward o w v) (λ is. absurd (cc))
    (either IsWell (is_checkpoint_due v) (Ok Checkpointed) (if is_commit_due o v then Ok Committed else plan_next o w v) (λ is. absurd (cc)) (well_next (is_commit_due o v) o w v refl))
