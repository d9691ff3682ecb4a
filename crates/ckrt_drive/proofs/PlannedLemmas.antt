-- What is known of the next event, of the end, and of the session where one of them is planned.
use Rattle.std.proofs.Common.{◌≡◌, ℕ, ◌<◌, nat_lt, Bool, true, false, if◌then◌else◌, Option, Some, None, List, [], Result, Ok, Err, refl, ◌∙◌, ap, subst, arith}
use Rattle.std.specs.Prelude.{◌==◌, ◌&&◌, ◌||◌}
use Rattle.std.proofs.lemmas.List.{drop_all}
use Rattle.ckrt_disk.specs.declared.disk.Disk.{Ghosts}
use Rattle.ckrt_events.specs.Bytes.{encodings_of}
use Rattle.ckrt_events.specs.declared.event.Event.{Event}
use Rattle.ckrt_stored.specs.Programs.{Program}
use Rattle.ckrt_machine.specs.declared.event.Answer.{Answer}
use Rattle.ckrt_machine.specs.Runs.{is_running}
use Rattle.ckrt_calls.specs.declared.table.Tables.{Tables}
use Rattle.ckrt_recovery.specs.declared.fault.SubmitFault.{SubmitFault}
use Rattle.ckrt_recovery.specs.declared.session.Session.{Session}
use Rattle.ckrt_recovery.specs.Represents.{Represents}
use Rattle.ckrt_recovery.specs.View.{View, refusal_of, view_of}
use Rattle.ckrt_drive.specs.declared.options.Options.{Options}
use Rattle.ckrt_drive.specs.declared.fault.DriveFault.{DriveFault}
use Rattle.ckrt_drive.specs.declared.fault.DriveFault.TheVariants.{Refused}
use Rattle.ckrt_schedule.specs.declared.next.Next.{Next}
use Rattle.ckrt_schedule.specs.declared.next.Next.TheVariants.{Submit, End}
use Rattle.ckrt_schedule.specs.declared.next.ScheduleEnd.{ScheduleEnd}
use Rattle.ckrt_schedule.specs.declared.next.ScheduleEnd.TheVariants.{Ended, Enough}
use Rattle.ckrt_drive.specs.declared.step_done.StepDone.{StepDone}
use Rattle.ckrt_drive.specs.declared.step_done.StepDone.TheVariants.{Submitted, Committed, Checkpointed, Released, Stopped}
use Rattle.ckrt_drive.specs.declared.supply.Supply.{Supply}
use Rattle.ckrt_schedule.specs.declared.schedule.Schedule.{Schedule}
use Rattle.ckrt_schedule.specs.Schedules.{next_event}
use Rattle.ckrt_drive.specs.Plan.{is_checkpoint_due, is_commit_due, is_filled, is_old, is_settled, is_shortage, make_room, next, offered, plan, plan_for, plan_next, plan_onward, schedule_of}
use Rattle.ckrt_drive.proofs.Choices.{both_are, same_number, not_zero}

-- NEITHER A SAVE NOR A RELEASE

-- what is done is an event or an end
abbrev IsNext : StepDone → Type 0
IsNext (Submitted e answer) = Unit {0}
IsNext Committed = ⊥
IsNext Checkpointed = ⊥
IsNext Released = ⊥
IsNext (Stopped ending) = Unit {0}

unless : (b : Bool) (did save : StepDone) (planned : Result StepDone DriveFault) → IsNext did → (IsNext save → ⊥) → (if b then Ok save else planned) ≡ Ok did → (b ≡ false) × (planned ≡ Ok did)
unless true did save planned is never e = let same : did ≡ save = cc in absurd (never (subst IsNext same is))
unless false did save planned is never e = (refl, e)

-- then nothing is due before it
pub record IsPlannedNext (o : Options) (w : Supply) (v : View) (did : StepDone) : Type 0 where
  pub confirmed : nat_lt v.recovered.confirmed v.released ≡ false
  pub planned : plan_next o w v ≡ Ok did

planned_next : (o : Options) (w : Supply) (v : View) (did : StepDone) → IsNext did → plan o w v ≡ Ok did → IsPlannedNext o w v did
planned_next o w v did is e =
    let out = unless (nat_lt v.recovered.confirmed v.released) did Released (plan_onward o w v) is (λ no. no) e in
    let checkpoint = unless (is_checkpoint_due v) did Checkpointed (if is_commit_due o v then Ok Committed else plan_next o w v) is (λ no. no) out.1 in
    let commit = unless (is_commit_due o v) did Committed (plan_next o w v) is (λ no. no) checkpoint.1 in
    record { confirmed = out.0; planned = commit.1 }

-- AN EVENT

room_is_none : (b : Bool) (e : Event) (answer : Answer) → ◌≡◌ {A = Result StepDone DriveFault} (Ok (if b then Checkpointed else Committed)) (Ok (Submitted e answer)) → ⊥
room_is_none true e answer is = absurd (cc)
room_is_none false e answer is = absurd (cc)

refused_is_none : (b : Bool) (v : View) (why : SubmitFault) (e : Event) (answer : Answer) → (if b then Ok (make_room v) else Err (Refused why)) ≡ Ok (Submitted e answer) → ⊥
refused_is_none true v why e answer is = room_is_none (is_settled v) e answer is
refused_is_none false v why e answer is = absurd (cc)

offered_event : (v : View) (x e : Event) (answer : Answer) (o : Option SubmitFault) → offered v x o ≡ Ok (Submitted e answer) → x ≡ e
offered_event v x e answer None is = cc
offered_event v x e answer (Some why) is = absurd (refused_is_none (is_shortage why) v why e answer is)

stop_is_none : (b : Bool) (why : ScheduleEnd) (e : Event) (answer : Answer) → ◌≡◌ {A = Result StepDone DriveFault} (if b then Ok (Stopped why) else Ok Committed) (Ok (Submitted e answer)) → ⊥
stop_is_none true why e answer is = absurd (cc)
stop_is_none false why e answer is = absurd (cc)

event_for : (n : Next) (v : View) (e : Event) (answer : Answer) → plan_for n v ≡ Ok (Submitted e answer) → n ≡ Submit e
event_for (Submit x) v e answer is = ap Submit (offered_event v x e answer (refusal_of v x) is)
event_for (End why) v e answer is = absurd (stop_is_none (is_settled v) why e answer is)

-- some event is left, and it is the program's next
event_left : (b : Bool) (u : Schedule) (w : Supply) (n : ℕ) (s : Tables) (e : Event) → (is_running s.status && (w.left == 0)) ≡ b → (if b then End Enough else next_event u w.given n s) ≡ Submit e → ((is_running s.status && (w.left == 0)) ≡ false) × (next_event u w.given n s ≡ Submit e)
event_left true u w n s e both is = absurd (cc)
event_left false u w n s e both is = (both, is)

pub planned_event : (o : Options) (w : Supply) (v : View) (e : Event) (answer : Answer) → plan o w v ≡ Ok (Submitted e answer) → next_event (schedule_of o) w.given v.recovered.count v.recovered.state.tables ≡ Submit e
planned_event o w v e answer is =
    let s = v.recovered.state.tables in
    let u = schedule_of o in
    let planned = planned_next o w v (Submitted e answer) tt is in
    (event_left (is_running s.status && (w.left == 0)) u w v.recovered.count s e refl (event_for (next u w v.recovered.count s) v e answer planned.planned)).1

-- while the program runs; and it does where an event is next
left_by : (b c : Bool) (left : ℕ) → b ≡ true → (b && c) ≡ false → c ≡ false
left_by true c left run not_both = not_both
left_by false c left run not_both = absurd (cc)

runs_by : (b : Bool) (n : Next) (e : Event) → (if b then n else End Ended) ≡ Submit e → b ≡ true
runs_by true n e is = refl
runs_by false n e is = absurd (cc)

pub some_left : (o : Options) (w : Supply) (v : View) (e : Event) (answer : Answer) → plan o w v ≡ Ok (Submitted e answer) → 0 < w.left
some_left o w v e answer is =
    let s = v.recovered.state.tables in
    let u = schedule_of o in
    let planned = planned_next o w v (Submitted e answer) tt is in
    let h = event_left (is_running s.status && (w.left == 0)) u w v.recovered.count s e refl (event_for (next u w v.recovered.count s) v e answer planned.planned) in
    not_zero w.left (left_by (is_running s.status) (w.left == 0) w.left (runs_by (is_running s.status) _ e h.1) h.0)

-- AN END

room_no_end : (b : Bool) (ending : ScheduleEnd) → ◌≡◌ {A = Result StepDone DriveFault} (Ok (if b then Checkpointed else Committed)) (Ok (Stopped ending)) → ⊥
room_no_end true ending is = absurd (cc)
room_no_end false ending is = absurd (cc)

refused_no_end : (b : Bool) (v : View) (why : SubmitFault) (ending : ScheduleEnd) → (if b then Ok (make_room v) else Err (Refused why)) ≡ Ok (Stopped ending) → ⊥
refused_no_end true v why ending is = room_no_end (is_settled v) ending is
refused_no_end false v why ending is = absurd (cc)

offered_no_end : (v : View) (e : Event) (ending : ScheduleEnd) (o : Option SubmitFault) → offered v e o ≡ Ok (Stopped ending) → ⊥
offered_no_end v e ending None is = absurd (cc)
offered_no_end v e ending (Some why) is = refused_no_end (is_shortage why) v why ending is

end_by : (b : Bool) (why ending : ScheduleEnd) → ◌≡◌ {A = Result StepDone DriveFault} (if b then Ok (Stopped why) else Ok Committed) (Ok (Stopped ending)) → (b ≡ true) × (why ≡ ending)
end_by true why ending is = (refl, cc)
end_by false why ending is = absurd (cc)

end_for : (n : Next) (v : View) (ending : ScheduleEnd) → plan_for n v ≡ Ok (Stopped ending) → (is_settled v ≡ true) × (n ≡ End ending)
end_for (Submit e) v ending is = absurd (offered_no_end v e ending (refusal_of v e) is)
end_for (End why) v ending is = let h = end_by (is_settled v) why ending is in (h.0, ap End h.1)

-- an end is planned where it is next, and all is acknowledged and confirmed
pub record IsPlannedEnd (o : Options) (w : Supply) (v : View) (ending : ScheduleEnd) : Type 0 where
  pub confirmed : nat_lt v.recovered.confirmed v.released ≡ false
  pub settled : v.acknowledged ≡ v.recovered.count
  pub planned : next (schedule_of o) w v.recovered.count v.recovered.state.tables ≡ End ending

pub planned_end : (o : Options) (w : Supply) (v : View) (ending : ScheduleEnd) → plan o w v ≡ Ok (Stopped ending) → IsPlannedEnd o w v ending
planned_end o w v ending is =
    let planned = planned_next o w v (Stopped ending) tt is in
    let h = end_for (next (schedule_of o) w v.recovered.count v.recovered.state.tables) v ending planned.planned in
    record { confirmed = planned.confirmed; settled = same_number v.acknowledged v.recovered.count h.0; planned = h.1 }

-- A CHECKPOINT

-- it is planned only where nothing is pending
abbrev IsSettledFor : View → Result StepDone DriveFault → Type 0
IsSettledFor v planned = planned ≡ Ok Checkpointed → is_settled v ≡ true

settled_room : (b : Bool) → ◌≡◌ {A = Result StepDone DriveFault} (Ok (if b then Checkpointed else Committed)) (Ok Checkpointed) → b ≡ true
settled_room true is = refl
settled_room false is = absurd (cc)

settled_refused : (b : Bool) (v : View) (why : SubmitFault) → IsSettledFor v (if b then Ok (make_room v) else Err (Refused why))
settled_refused true v why is = settled_room (is_settled v) is
settled_refused false v why is = absurd (cc)

settled_offered : (v : View) (e : Event) (o : Option SubmitFault) → IsSettledFor v (offered v e o)
settled_offered v e None is = absurd (cc)
settled_offered v e (Some why) is = settled_refused (is_shortage why) v why is

settled_end : (b : Bool) (v : View) (ending : ScheduleEnd) → IsSettledFor v (if b then Ok (Stopped ending) else Ok Committed)
settled_end true v ending is = absurd (cc)
settled_end false v ending is = absurd (cc)

settled_for : (n : Next) (v : View) → IsSettledFor v (plan_for n v)
settled_for (Submit e) v is = settled_offered v e (refusal_of v e) is
settled_for (End ending) v is = settled_end (is_settled v) v ending is

settled_commit : (b : Bool) (o : Options) (w : Supply) (v : View) → IsSettledFor v (if b then Ok Committed else plan_next o w v)
settled_commit true o w v is = absurd (cc)
settled_commit false o w v is = settled_for (next (schedule_of o) w v.recovered.count v.recovered.state.tables) v is

settled_checkpoint : (b : Bool) (o : Options) (w : Supply) (v : View) → is_checkpoint_due v ≡ b → IsSettledFor v (if b then Ok Checkpointed else if is_commit_due o v then Ok Committed else plan_next o w v)
settled_checkpoint true o w v due is = (both_are (is_settled v) (is_old v || is_filled v) due).0
settled_checkpoint false o w v due is = settled_commit (is_commit_due o v) o w v is

settled_release : (b : Bool) (o : Options) (w : Supply) (v : View) → IsSettledFor v (if b then Ok Released else plan_onward o w v)
settled_release true o w v is = absurd (cc)
settled_release false o w v is = settled_checkpoint (is_checkpoint_due v) o w v refl is

pub all_acknowledged : (o : Options) (w : Supply) (v : View) → plan o w v ≡ Ok Checkpointed → v.acknowledged ≡ v.recovered.count
all_acknowledged o w v is = same_number v.acknowledged v.recovered.count (settled_release (nat_lt v.recovered.confirmed v.released) o w v is)

pub nothing_pending : {D : Type 0} {g : Ghosts D} (o : Options) (w : Supply) (s : Session D g) (p : Program) (events : List Event) → Represents p events s → plan o w (view_of s) ≡ Ok Checkpointed → s.pending.items ≡ []
nothing_pending o w s p events reps is =
    let all = all_acknowledged o w (view_of s) is ∙ reps.count in
    reps.pending ∙ ap encodings_of (drop_all s.acknowledged events (omega (arith, all)))
