-- A session goes on from the plain fold of the events that it accepts.
use Rattle.std.proofs.Common.{◌≡◌, ℕ, zero, suc, ◌+◌, Bool, true, false, List, [], ◌∷◌, ◌++◌, length, length-append, refl, sym, ◌∙◌, ap, arith, Option, Some, None, Result, Ok, Err}
use Rattle.std.specs.Prelude.{◌==◌}
use Rattle.std.specs.Str.Lines.{lines}
use Rattle.ckrt_events.specs.declared.event.Event.{Event}
use Rattle.ckrt_events.specs.declared.event.Event.TheVariants.{Place, Run}
use Rattle.ckrt_events.specs.declared.command.Command.{Command}
use Rattle.ckrt_events.specs.declared.command.Command.TheVariants.{Submit, Auto, Commit, Checkpoint, Quit, Blank}
use Rattle.ckrt_events.specs.declared.command.LineFault.{LineFault}
use Rattle.ckrt_events.specs.Line.{command_of}
use Rattle.ckrt_machine.specs.Steps.{State}
use Rattle.ckrt_machine.specs.Events.{fold, step, planned}
use Rattle.ckrt_recovery.specs.declared.fault.CommitFault.{CommitFault}
use Rattle.ckrt_recovery.specs.declared.fault.SubmitFault.{SubmitFault}
use Rattle.ckrt_recovery.specs.Calls.{checkpoint_refusal}
use Rattle.ckrt_recovery.specs.View.{View, refusal_of, checkpointed, committed, confirmed_to}
use Rattle.ckrt_main.specs.Replies.{Reply, Acknowledged}
use Rattle.ckrt_main.specs.Transcript.{Fate, Transcript, written, preceded_by, unless_quit, followed_by, submitted, submit, unless_refused, run_planned, output, acknowledged, by_fate, commit_by, saved, respond, respond_all, transcript}

-- the events of a transcript lead from the session before it to the session after it
record Leads (v : View) (t : Transcript) : Type 0 where
  state : t.view.recovered.state ≡ (fold t.events v.recovered.state).state
  count : t.view.recovered.count ≡ v.recovered.count + length t.events

fold_append : (xs ys : List Event) (s : State) → (fold (xs ++ ys) s).state ≡ (fold ys (fold xs s).state).state
fold_append [] ys s = refl
fold_append (x ∷ xs) ys s = fold_append xs ys (step x s).state

leads_written : (rs : List Reply) (f : Fate) (v w : View) → w.recovered.state ≡ v.recovered.state → w.recovered.count ≡ v.recovered.count → Leads v (written rs f w)
leads_written rs f v w p q = record { state = p; count = omega (arith, q) }

leads_unless : (q : Bool) (f : Fate) (v : View) (more : Fate → View → Transcript) → Leads v (more f v) → Leads v (unless_quit q f v more)
leads_unless true f v more h = record { state = refl; count = omega arith }
leads_unless false f v more h = h

leads_preceded : (v : View) (t u : Transcript) → Leads v t → Leads t.view u → Leads v (preceded_by t.replies t.events u)
leads_preceded v t u p q = record {
  state = q.state ∙ (ap (λ (s : State). (fold u.events s).state) p.state ∙ sym (fold_append t.events u.events v.recovered.state));
  count = omega (arith, p.count, q.count, length-append t.events u.events);
}

leads_followed : (v : View) (t : Transcript) (more : Fate → View → Transcript) → Leads v t → ((f : Fate) (w : View) → Leads w (more f w)) → Leads v (followed_by t more)
leads_followed v t more p q = leads_preceded v t (unless_quit t.quit t.fate t.view more) p (leads_unless t.quit t.fate t.view more (q t.fate t.view))

leads_submitted : (f : Fate) (v : View) (e : Event) (o : Option SubmitFault) → Leads v (submitted f v e o)
leads_submitted f v e (Some why) = record { state = refl; count = omega arith }
leads_submitted f v e None = record { state = refl; count = omega arith }

leads_submit : (e : Event) (f : Fate) (v : View) → Leads v (submit e f v)
leads_submit e f v = leads_submitted f v e (refusal_of v e)

leads_unless_refused : (f : Fate) (v : View) (e : Event) (o : Option SubmitFault) (more : Fate → View → Transcript) → ((f : Fate) (w : View) → Leads w (more f w)) → Leads v (unless_refused f v e o more)
leads_unless_refused f v e (Some why) more h = leads_submitted f v e (Some why)
leads_unless_refused f v e None more h = leads_followed v (submitted f v e None) more (leads_submitted f v e None) h

leads_planned : (o : Option ℕ) (h n : ℕ) (f : Fate) (v : View) → Leads v (run_planned o h n f v)
leads_planned None h n f v = leads_submit (Run h n) f v
leads_planned (Some t) h n f v = leads_unless_refused f v (Place h t) (refusal_of v (Place h t)) (submit (Run h n)) (λ u w. leads_submit (Run h n) u w)

leads_output : (f : Fate) (v : View) → Leads v (output f v)
leads_output f v = leads_written (output f v).replies f v (confirmed_to v v.released) refl refl

leads_acknowledged : (n : ℕ) (f : Fate) (v w : View) → w.recovered.state ≡ v.recovered.state → w.recovered.count ≡ v.recovered.count → Leads v (acknowledged n f w)
leads_acknowledged n f v w p q = leads_followed v (written (Acknowledged n ∷ []) f w) output (leads_written (Acknowledged n ∷ []) f v w p q) (λ u x. leads_output u x)

leads_by_fate : (f : Fate) (v w : View) → w.recovered.state ≡ v.recovered.state → w.recovered.count ≡ v.recovered.count → Leads v (by_fate f v w)
leads_by_fate None v w p q = leads_acknowledged v.recovered.count None v w p q
leads_by_fate (Some zero) v w p q = record { state = refl; count = omega arith }
leads_by_fate (Some (suc n)) v w p q = leads_acknowledged v.recovered.count (Some n) v w p q

leads_commit_by : (b i : Bool) (f : Fate) (v : View) → Leads v (commit_by b i f v)
leads_commit_by true i f v = record { state = refl; count = omega arith }
leads_commit_by false true f v = leads_acknowledged v.recovered.count f v (committed v) refl refl
leads_commit_by false false f v = leads_by_fate f v (committed v) refl refl

leads_saved : (o : Option CommitFault) (f : Fate) (v : View) → Leads v (saved o f v)
leads_saved (Some why) f v = record { state = refl; count = omega arith }
leads_saved None f v = leads_by_fate f v (checkpointed v) refl refl

leads_respond : (command : Result Command LineFault) (f : Fate) (v : View) → Leads v (respond command f v)
leads_respond (Ok (Submit e)) f v = leads_submit e f v
leads_respond (Ok (Auto h n)) f v = leads_planned (planned h v.recovered.state.tables) h n f v
leads_respond (Ok Commit) f v = leads_commit_by v.failed (length v.pending == 0) f v
leads_respond (Ok Checkpoint) f v = leads_saved (checkpoint_refusal v) f v
leads_respond (Ok Quit) f v = record { state = refl; count = omega arith }
leads_respond (Ok Blank) f v = record { state = refl; count = omega arith }
leads_respond (Err why) f v = record { state = refl; count = omega arith }

leads_all : (ls : List (List ℕ)) (f : Fate) (v : View) → Leads v (respond_all ls f v)
leads_all [] f v = leads_written [] f v v refl refl
leads_all (line ∷ more) f v = leads_followed v (respond (command_of line) f v) (respond_all more) (leads_respond (command_of line) f v) (λ u w. leads_all more u w)

leads_transcript : (f : Fate) (v : View) (bytes : List ℕ) → Leads v (transcript f v bytes)
leads_transcript f v bytes = leads_followed v (output f v) (respond_all (lines bytes)) (leads_output f v) (λ u w. leads_all (lines bytes) u w)

pub state_folds : (f : Fate) (v : View) (bytes : List ℕ) → (transcript f v bytes).view.recovered.state ≡ (fold (transcript f v bytes).events v.recovered.state).state
state_folds f v bytes = (leads_transcript f v bytes).state

pub count_grows : (f : Fate) (v : View) (bytes : List ℕ) → (transcript f v bytes).view.recovered.count ≡ v.recovered.count + length (transcript f v bytes).events
count_grows f v bytes = (leads_transcript f v bytes).count
