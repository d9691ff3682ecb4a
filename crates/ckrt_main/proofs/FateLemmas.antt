-- The events that lines get accepted where a device fails are a beginning of those where none does.
use Rattle.std.proofs.Common.{◌≡◌, ◌⊎◌, ⊎_elim, inl, inr, ℕ, zero, suc, nat_eq, if◌then◌else◌, Bool, true, false, Option, Some, None, List, [], ◌∷◌, ◌++◌, length, Ok, Err, Result, refl, sym, ◌∙◌, ap, subst}
use Rattle.std.specs.Prelude.{◌==◌, ◌^◌, ◌-◌}
use Rattle.std.specs.Str.Lines.{lines}
use Rattle.ckrt_events.specs.declared.event.Event.{Event}
use Rattle.ckrt_events.specs.declared.event.Event.TheVariants.{Place, Run}
use Rattle.ckrt_events.specs.declared.command.Command.{Command}
use Rattle.ckrt_events.specs.declared.command.Command.TheVariants.{Submit, Auto, Commit, Checkpoint, Quit, Blank}
use Rattle.ckrt_events.specs.declared.command.LineFault.{LineFault}
use Rattle.ckrt_events.specs.Line.{command_of}
use Rattle.ckrt_machine.specs.Events.{planned}
use Rattle.ckrt_recovery.specs.declared.fault.CommitFault.{CommitFault}
use Rattle.ckrt_recovery.specs.declared.fault.CommitFault.TheVariants.{Failed, GenerationsUsed}
use Rattle.ckrt_recovery.specs.declared.fault.SubmitFault.{SubmitFault}
use Rattle.ckrt_recovery.specs.declared.fault.SubmitFault.TheVariants as submit_fault
use Rattle.ckrt_recovery.specs.Calls.{checkpoint_refusal}
use Rattle.ckrt_disk.specs.Lists.{IsBeginningOf}
use Rattle.ckrt_recovery.specs.View.{View, refusal_of, refusal_when_running, committed, checkpointed}
use Rattle.ckrt_main.specs.Transcript.{Fate, Transcript, unless_quit, followed_by, submitted, submit, unless_refused, run_planned, output, commit_by, by_fate, saved, respond, respond_all, transcript}
use Rattle.ckrt_disk.proofs.ListLemmas.{begins_behind, begins_itself, nothing_begins}

-- AFTER A FAILURE

-- no event is accepted, and the session has failed
record HasFailed (t : Transcript) : Type 0 where
  none : t.events ≡ []
  failed : t.view.failed ≡ true

first_reason : (b : Bool) (o : Option SubmitFault) → b ≡ true → (if b then Some submit_fault.Failed else o) ≡ Some submit_fault.Failed
first_reason true o h = refl
first_reason false o h = cc

failed_reason : (v : View) (e : Event) → v.failed ≡ true → refusal_of v e ≡ Some submit_fault.Failed
failed_reason v e was = first_reason v.failed (refusal_when_running v e) was

failed_submit : (e : Event) (f : Fate) (v : View) → v.failed ≡ true → HasFailed (submit e f v)
failed_submit e f v was = subst (λ o. HasFailed (submitted f v e o)) (sym (failed_reason v e was)) (record { none = refl; failed = was })

failed_planned : (o : Option ℕ) (h n : ℕ) (f : Fate) (v : View) → v.failed ≡ true → HasFailed (run_planned o h n f v)
failed_planned None h n f v was = failed_submit (Run h n) f v was
failed_planned (Some t) h n f v was = subst (λ o. HasFailed (unless_refused f v (Place h t) o (submit (Run h n)))) (sym (failed_reason v (Place h t) was)) (record { none = refl; failed = was })

failed_commit_by : (b i : Bool) (f : Fate) (v : View) → b ≡ true → v.failed ≡ true → HasFailed (commit_by b i f v)
failed_commit_by true i f v is was = record { none = refl; failed = was }
failed_commit_by false i f v is was = cc

failed_checkpoint_by : (b c : Bool) (f : Fate) (v : View) → b ≡ true → v.failed ≡ true → HasFailed (saved (if b then Some Failed else if c then Some GenerationsUsed else None) f v)
failed_checkpoint_by true c f v is was = record { none = refl; failed = was }
failed_checkpoint_by false c f v is was = cc

failed_respond : (command : Result Command LineFault) (f : Fate) (v : View) → v.failed ≡ true → HasFailed (respond command f v)
failed_respond (Ok (Submit e)) f v was = failed_submit e f v was
failed_respond (Ok (Auto h n)) f v was = failed_planned (planned h v.recovered.state.tables) h n f v was
failed_respond (Ok Commit) f v was = failed_commit_by v.failed (length v.pending == 0) f v was was
failed_respond (Ok Checkpoint) f v was = failed_checkpoint_by v.failed (nat_eq v.recovered.generation (2 ^ 64 - 1)) f v was was
failed_respond (Ok Quit) f v was = record { none = refl; failed = was }
failed_respond (Ok Blank) f v was = record { none = refl; failed = was }
failed_respond (Err why) f v was = record { none = refl; failed = was }

failed_unless : (q : Bool) (f : Fate) (v : View) (more : Fate → View → Transcript) → v.failed ≡ true → HasFailed (more f v) → HasFailed (unless_quit q f v more)
failed_unless true f v more was h = record { none = refl; failed = was }
failed_unless false f v more was h = h

failed_followed : (t : Transcript) (more : Fate → View → Transcript) → HasFailed t → ((f : Fate) (v : View) → v.failed ≡ true → HasFailed (more f v)) → HasFailed (followed_by t more)
failed_followed t more h k =
    let next = failed_unless t.quit t.fate t.view more h.failed (k t.fate t.view h.failed) in
    record { none = ap (λ (l : List Event). l ++ (unless_quit t.quit t.fate t.view more).events) h.none ∙ next.none; failed = next.failed }

failed_all : (ls : List (List ℕ)) (f : Fate) (v : View) → v.failed ≡ true → HasFailed (respond_all ls f v)
failed_all [] f v was = record { none = refl; failed = was }
failed_all (line ∷ more) f v was = failed_followed (respond (command_of line) f v) (respond_all more) (failed_respond (command_of line) f v was) (λ g w fails. failed_all more g w fails)

-- BEFORE IT

-- a transcript of a fate, and that of none
record Agrees (t u : Transcript) : Type 0 where
  events : t.events ≡ u.events
  view : t.view ≡ u.view
  quit : t.quit ≡ u.quit
  fate : u.fate ≡ None

agrees_submitted : (f : Fate) (v : View) (e : Event) (o : Option SubmitFault) → Agrees (submitted f v e o) (submitted None v e o)
agrees_submitted f v e (Some why) = record { events = refl; view = refl; quit = refl; fate = refl }
agrees_submitted f v e None = record { events = refl; view = refl; quit = refl; fate = refl }

agrees_unless_refused : (f : Fate) (v : View) (e next : Event) (o : Option SubmitFault) → Agrees (unless_refused f v e o (submit next)) (unless_refused None v e o (submit next))
agrees_unless_refused f v e next (Some why) = agrees_submitted f v e (Some why)
agrees_unless_refused f v e next None =
    let w : View = (submitted f v e None).view in
    let h = agrees_submitted f w next (refusal_of w next) in
    record { events = ap (λ (l : List Event). e ∷ l) h.events; view = h.view; quit = h.quit; fate = h.fate }

agrees_planned : (o : Option ℕ) (h n : ℕ) (f : Fate) (v : View) → Agrees (run_planned o h n f v) (run_planned o h n None v)
agrees_planned None h n f v = agrees_submitted f v (Run h n) (refusal_of v (Run h n))
agrees_planned (Some t) h n f v = agrees_unless_refused f v (Place h t) (Run h n) (refusal_of v (Place h t))

either_by_fate : (f : Fate) (v after : View) → Agrees (by_fate f v after) (by_fate None v after) ⊎ HasFailed (by_fate f v after)
either_by_fate None v after = inl (record { events = refl; view = refl; quit = refl; fate = refl })
either_by_fate (Some zero) v after = inr (record { none = refl; failed = refl })
either_by_fate (Some (suc n)) v after = inl (record { events = refl; view = refl; quit = refl; fate = refl })

either_commit : (b i : Bool) (f : Fate) (v : View) → Agrees (commit_by b i f v) (commit_by b i None v) ⊎ HasFailed (commit_by b i f v)
either_commit true i f v = inl (record { events = refl; view = refl; quit = refl; fate = refl })
either_commit false true f v = inl (record { events = refl; view = refl; quit = refl; fate = refl })
either_commit false false f v = either_by_fate f v (committed v)

either_saved : (o : Option CommitFault) (f : Fate) (v : View) → Agrees (saved o f v) (saved o None v) ⊎ HasFailed (saved o f v)
either_saved (Some why) f v = inl (record { events = refl; view = refl; quit = refl; fate = refl })
either_saved None f v = either_by_fate f v (checkpointed v)

either_respond : (command : Result Command LineFault) (f : Fate) (v : View) → Agrees (respond command f v) (respond command None v) ⊎ HasFailed (respond command f v)
either_respond (Ok (Submit e)) f v = inl (agrees_submitted f v e (refusal_of v e))
either_respond (Ok (Auto h n)) f v = inl (agrees_planned (planned h v.recovered.state.tables) h n f v)
either_respond (Ok Commit) f v = either_commit v.failed (length v.pending == 0) f v
either_respond (Ok Checkpoint) f v = either_saved (checkpoint_refusal v) f v
either_respond (Ok Quit) f v = inl (record { events = refl; view = refl; quit = refl; fate = refl })
either_respond (Ok Blank) f v = inl (record { events = refl; view = refl; quit = refl; fate = refl })
either_respond (Err why) f v = inl (record { events = refl; view = refl; quit = refl; fate = refl })

few_either : (t u : Transcript) → Agrees t u ⊎ HasFailed t → IsBeginningOf t.events u.events
few_either t u either = ⊎_elim
    (λ (h : _). subst (λ (l : List Event). IsBeginningOf t.events l) h.events (begins_itself t.events))
    (λ (h : _). subst (λ (l : List Event). IsBeginningOf l u.events) (sym h.none) (nothing_begins u.events))
    either

-- one command
pub events_of_respond : (command : Result Command LineFault) (f : Fate) (v : View) → IsBeginningOf (respond command f v).events (respond command None v).events
events_of_respond command f v = few_either (respond command f v) (respond command None v) (either_respond command f v)

-- LINES

few_unless : (q : Bool) (f : Fate) (v : View) (more : Fate → View → Transcript) → IsBeginningOf (more f v).events (more None v).events → IsBeginningOf (unless_quit q f v more).events (unless_quit q None v more).events
few_unless true f v more h = ([], refl)
few_unless false f v more h = h

few_agreed : (t u : Transcript) (more : Fate → View → Transcript) → ((f : Fate) (v : View) → IsBeginningOf (more f v).events (more None v).events) → Agrees t u → IsBeginningOf (followed_by t more).events (followed_by u more).events
few_agreed t u more k h =
    let rest : List Event = (unless_quit t.quit None t.view more).events in
    let there : (followed_by u more).events ≡ t.events ++ (unless_quit t.quit None t.view more).events = rw (h.events, h.view, h.quit, h.fate) refl in
    subst (λ (l : List Event). IsBeginningOf (followed_by t more).events l) (sym there)
    (begins_behind t.events (unless_quit t.quit t.fate t.view more).events rest (few_unless t.quit t.fate t.view more (k t.fate t.view)))

few_followed : (t u : Transcript) (more : Fate → View → Transcript) → ((f : Fate) (v : View) → v.failed ≡ true → HasFailed (more f v)) → ((f : Fate) (v : View) → IsBeginningOf (more f v).events (more None v).events)
    → Agrees t u ⊎ HasFailed t → IsBeginningOf (followed_by t more).events (followed_by u more).events
few_followed t u more fails k either = ⊎_elim (λ (h : _). few_agreed t u more k h)
    (λ (h : _). subst (λ (l : List Event). IsBeginningOf l (followed_by u more).events) (sym (failed_followed t more h fails).none) (nothing_begins (followed_by u more).events)) either

few_all : (ls : List (List ℕ)) (f : Fate) (v : View) → IsBeginningOf (respond_all ls f v).events (respond_all ls None v).events
few_all [] f v = ([], refl)
few_all (line ∷ more) f v = few_followed (respond (command_of line) f v) (respond (command_of line) None v) (respond_all more) (λ g w fails. failed_all more g w fails) (λ g w. few_all more g w) (either_respond (command_of line) f v)

pub events_of_fate : (f : Fate) (v : View) (bytes : List ℕ) → IsBeginningOf (transcript f v bytes).events (transcript None v bytes).events
events_of_fate f v bytes = few_all (lines bytes) f (output None v).view
