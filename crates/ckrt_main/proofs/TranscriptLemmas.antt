-- Transcripts of commands, one after another.
use Rattle.std.proofs.Common.{◌≡◌, ℕ, zero, suc, Bool, true, false, List, [], ◌∷◌, ◌++◌, refl, sym, ◌∙◌, ap, append-nil, append_assoc, length, Option, Some, None, Ok}
use Rattle.std.specs.Prelude.{◌==◌}
use Rattle.ckrt_events.specs.declared.command.Command.{Command}
use Rattle.ckrt_events.specs.declared.command.Command.TheVariants.{Submit, Auto, Commit, Checkpoint, Quit, Blank}
use Rattle.ckrt_events.specs.declared.event.Event.{Event}
use Rattle.ckrt_events.specs.declared.event.Event.TheVariants.{Place, Run}
use Rattle.ckrt_machine.specs.Events.{planned}
use Rattle.ckrt_recovery.specs.declared.fault.CommitFault.{CommitFault}
use Rattle.ckrt_recovery.specs.declared.fault.SubmitFault.{SubmitFault}
use Rattle.ckrt_recovery.specs.Calls.{checkpoint_refusal}
use Rattle.ckrt_recovery.specs.View.{View}
use Rattle.ckrt_recovery.specs.View as view
use Rattle.ckrt_main.specs.Replies.{Reply}
use Rattle.ckrt_main.specs.Transcript.{Fate, Transcript, written, preceded_by, unless_quit, submitted, submit, followed_by, unless_refused, run_planned, by_fate, commit_by, saved, respond}
use Rattle.ckrt_main.specs.Commands.{respond_to}

-- EVENTS ONE AFTER ANOTHER

submitted_goes_on : (f : Fate) (v : View) (e : Event) (o : Option SubmitFault) → (submitted f v e o).quit ≡ false
submitted_goes_on f v e None = refl
submitted_goes_on f v e (Some why) = refl

unless_refused_goes_on : (f : Fate) (v : View) (e : Event) (o : Option SubmitFault) (more : Fate → View → Transcript) → ((k : Fate) (w : View) → (more k w).quit ≡ false) → (unless_refused f v e o more).quit ≡ false
unless_refused_goes_on f v e None more h = h f (submitted f v e None).view
unless_refused_goes_on f v e (Some why) more h = refl

planned_goes_on : (o : Option ℕ) (h n : ℕ) (f : Fate) (v : View) → (run_planned o h n f v).quit ≡ false
planned_goes_on None h n f v = submitted_goes_on f v (Run h n) (view.refusal_of v (Run h n))
planned_goes_on (Some t) h n f v = unless_refused_goes_on f v (Place h t) (view.refusal_of v (Place h t)) (submit (Run h n)) (λ k w. submitted_goes_on k w (Run h n) (view.refusal_of w (Run h n)))

-- commits and checkpoints don't quit
by_fate_goes_on : (f : Fate) (v w : View) → (by_fate f v w).quit ≡ false
by_fate_goes_on None v w = refl
by_fate_goes_on (Some zero) v w = refl
by_fate_goes_on (Some (suc n)) v w = refl

commit_goes_on : (has_failed is_idle : Bool) (f : Fate) (v : View) → (commit_by has_failed is_idle f v).quit ≡ false
commit_goes_on true is_idle f v = refl
commit_goes_on false true f v = refl
commit_goes_on false false f v = by_fate_goes_on f v (view.committed v)

saved_goes_on : (o : Option CommitFault) (f : Fate) (v : View) → (saved o f v).quit ≡ false
saved_goes_on None f v = by_fate_goes_on f v (view.checkpointed v)
saved_goes_on (Some why) f v = refl

-- COMMANDS ONE AFTER ANOTHER

-- whether a command is a quit depends on the command alone
pub quits_alike : (command : Command) (f k : Fate) (v w : View) → (respond (Ok command) f v).quit ≡ (respond (Ok command) k w).quit
quits_alike (Submit e) f k v w = submitted_goes_on f v e (view.refusal_of v e) ∙ sym (submitted_goes_on k w e (view.refusal_of w e))
quits_alike (Auto h n) f k v w = planned_goes_on (planned h v.recovered.state.tables) h n f v ∙ sym (planned_goes_on (planned h w.recovered.state.tables) h n k w)
quits_alike Commit f k v w = commit_goes_on v.failed (length v.pending == 0) f v ∙ sym (commit_goes_on w.failed (length w.pending == 0) k w)
quits_alike Checkpoint f k v w = saved_goes_on (checkpoint_refusal v) f v ∙ sym (saved_goes_on (checkpoint_refusal w) k w)
quits_alike Quit f k v w = refl
quits_alike Blank f k v w = refl

-- nothing behind it
by_quit : (q : Bool) (rs : List Reply) (es : List Event) (f : Fate) (v : View) → preceded_by rs es (unless_quit q f v (written [])) ≡ record { replies = rs; events = es; view = v; fate = f; quit = q }
by_quit true rs es f v = ap (λ (l : List Reply). record { replies = l; events = es ++ []; view = v; fate = f; quit = true }) (append-nil rs) ∙ ap (λ (l : List Event). record { replies = rs; events = l; view = v; fate = f; quit = true }) (append-nil es)
by_quit false rs es f v = ap (λ (l : List Reply). record { replies = l; events = es ++ []; view = v; fate = f; quit = false }) (append-nil rs) ∙ ap (λ (l : List Event). record { replies = rs; events = l; view = v; fate = f; quit = false }) (append-nil es)

followed_by_nothing : (t : Transcript) → followed_by t (written []) ≡ t
followed_by_nothing t = by_quit t.quit t.replies t.events t.fate t.view

-- what precedes twice
preceded_twice : (a b : List Reply) (xs ys : List Event) (t : Transcript) → preceded_by a xs (preceded_by b ys t) ≡ preceded_by (a ++ b) (xs ++ ys) t
preceded_twice a b xs ys t =
    ap (λ (l : List Reply). record { replies = l; events = xs ++ (ys ++ t.events); view = t.view; fate = t.fate; quit = t.quit }) (sym (append_assoc a b t.replies))
    ∙ ap (λ (l : List Event). record { replies = (a ++ b) ++ t.replies; events = l; view = t.view; fate = t.fate; quit = t.quit }) (sym (append_assoc xs ys t.events))

behind_quit : (q : Bool) (rs : List Reply) (es : List Event) (f : Fate) (v : View) (some all more : Fate → View → Transcript) → ((k : Fate) (w : View) → all k w ≡ followed_by (some k w) more)
    → preceded_by rs es (unless_quit q f v all) ≡ followed_by (preceded_by rs es (unless_quit q f v some)) more
behind_quit true rs es f v some all more h =
    ap (λ (l : List Reply). record { replies = l; events = es ++ []; view = v; fate = f; quit = true }) (sym (append-nil (rs ++ [])))
    ∙ ap (λ (l : List Event). record { replies = (rs ++ []) ++ []; events = l; view = v; fate = f; quit = true }) (sym (append-nil (es ++ [])))
behind_quit false rs es f v some all more h = ap (preceded_by rs es) (h f v) ∙ preceded_twice rs (some f v).replies es (some f v).events (unless_quit (some f v).quit (some f v).fate (some f v).view more)

-- the last command gets what it gets behind the others
pub respond_to-push : (commands : List Command) (last : Command) (f : Fate) (v : View) → respond_to (commands ++ last ∷ []) f v ≡ followed_by (respond_to commands f v) (respond (Ok last))
respond_to-push [] last f v = followed_by_nothing (respond (Ok last) f v)
respond_to-push (command ∷ more) last f v =
    let t = respond (Ok command) f v in
    behind_quit t.quit t.replies t.events t.fate t.view (respond_to more) (respond_to (more ++ last ∷ [])) (respond (Ok last)) (λ k w. respond_to-push more last k w)

quit_stays : (q : Bool) (rs : List Reply) (es : List Event) (f : Fate) (v : View) (some all : Fate → View → Transcript) → ((some f v).quit ≡ true → all f v ≡ some f v) → (preceded_by rs es (unless_quit q f v some)).quit ≡ true
    → preceded_by rs es (unless_quit q f v all) ≡ preceded_by rs es (unless_quit q f v some)
quit_stays true rs es f v some all h is = refl
quit_stays false rs es f v some all h is = ap (preceded_by rs es) (h is)

-- behind a quit there is nothing
pub respond_to-quit : (commands more : List Command) (f : Fate) (v : View) → (respond_to commands f v).quit ≡ true → respond_to (commands ++ more) f v ≡ respond_to commands f v
respond_to-quit [] more f v is = let no : false ≡ true = is in absurd (cc)
respond_to-quit (command ∷ commands) more f v is =
    let t = respond (Ok command) f v in
    quit_stays t.quit t.replies t.events t.fate t.view (respond_to commands) (respond_to (commands ++ more)) (λ q. respond_to-quit commands more t.fate t.view q) is

followed_quit : (t : Transcript) (more : Fate → View → Transcript) → t.quit ≡ false → (followed_by t more).quit ≡ (more t.fate t.view).quit
followed_quit t more e = ap (λ (q : Bool). (preceded_by t.replies t.events (unless_quit q t.fate t.view more)).quit) e

-- whether the last command is a quit
pub respond_to-push_quit : (commands : List Command) (last : Command) (f k : Fate) (v w : View) → (respond_to commands f v).quit ≡ false → (respond_to (commands ++ last ∷ []) f v).quit ≡ (respond (Ok last) k w).quit
respond_to-push_quit commands last f k v w is =
    ap (λ (t : Transcript). t.quit) (respond_to-push commands last f v) ∙ (followed_quit (respond_to commands f v) (respond (Ok last)) is ∙ quits_alike last (respond_to commands f v).fate k (respond_to commands f v).view w)

-- NO RELEASED OUTPUT IS LEFT

-- all released output is confirmed
abbrev pub IsAllConfirmed : View → Type 0
IsAllConfirmed v = v.recovered.confirmed ≡ v.released

confirmed_submitted : (f : Fate) (v : View) (e : Event) (o : Option SubmitFault) → IsAllConfirmed v → IsAllConfirmed (submitted f v e o).view
confirmed_submitted f v e None was = was
confirmed_submitted f v e (Some why) was = was

confirmed_unless_refused : (f : Fate) (v : View) (e next : Event) (o : Option SubmitFault) → IsAllConfirmed v → IsAllConfirmed (unless_refused f v e o (submit next)).view
confirmed_unless_refused f v e next None was = let w = (submitted f v e None).view in confirmed_submitted f w next (view.refusal_of w next) was
confirmed_unless_refused f v e next (Some why) was = was

confirmed_planned : (o : Option ℕ) (h n : ℕ) (f : Fate) (v : View) → IsAllConfirmed v → IsAllConfirmed (run_planned o h n f v).view
confirmed_planned None h n f v was = confirmed_submitted f v (Run h n) (view.refusal_of v (Run h n)) was
confirmed_planned (Some t) h n f v was = confirmed_unless_refused f v (Place h t) (Run h n) (view.refusal_of v (Place h t)) was

-- an acknowledgement confirms all that it releases
confirmed_by_fate : (f : Fate) (v w : View) → IsAllConfirmed v → IsAllConfirmed (by_fate f v w).view
confirmed_by_fate None v w was = refl
confirmed_by_fate (Some zero) v w was = was
confirmed_by_fate (Some (suc n)) v w was = refl

confirmed_commit : (has_failed is_idle : Bool) (f : Fate) (v : View) → IsAllConfirmed v → IsAllConfirmed (commit_by has_failed is_idle f v).view
confirmed_commit true is_idle f v was = was
confirmed_commit false true f v was = refl
confirmed_commit false false f v was = confirmed_by_fate f v (view.committed v) was

confirmed_saved : (o : Option CommitFault) (f : Fate) (v : View) → IsAllConfirmed v → IsAllConfirmed (saved o f v).view
confirmed_saved None f v was = confirmed_by_fate f v (view.checkpointed v) was
confirmed_saved (Some why) f v was = was

pub confirmed_respond : (command : Command) (f : Fate) (v : View) → IsAllConfirmed v → IsAllConfirmed (respond (Ok command) f v).view
confirmed_respond (Submit e) f v was = confirmed_submitted f v e (view.refusal_of v e) was
confirmed_respond (Auto h n) f v was = confirmed_planned (planned h v.recovered.state.tables) h n f v was
confirmed_respond Commit f v was = confirmed_commit v.failed (length v.pending == 0) f v was
confirmed_respond Checkpoint f v was = confirmed_saved (checkpoint_refusal v) f v was
confirmed_respond Quit f v was = was
confirmed_respond Blank f v was = was
