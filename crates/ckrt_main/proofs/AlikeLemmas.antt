-- Sessions with the same state and count answer the same lines alike.
use Rattle.std.proofs.Common.{◌≡◌, ◌⊎◌, ⊎_elim, inl, inr, ℕ, zero, suc, if◌then◌else◌, Bool, true, false, Option, Some, None, List, [], ◌∷◌, ◌++◌, length, take, drop, ◌+◌, ◌/◌, Ok, Err, Result, refl, sym, ◌∙◌, ap, subst}
use Rattle.std.specs.Prelude.{◌==◌, ◌-◌, nat_lt, nat_le, is_none, ⊤}
use Rattle.std.specs.List.{AllByRecursion}
use Rattle.std.specs.Str.Lines.{lines}
use Rattle.ckrt_calls.specs.declared.table.Tables.{Tables}
use Rattle.ckrt_thread.specs.State as threads
use Rattle.ckrt_events.specs.Bytes.{encoding_of, is_known_in}
use Rattle.ckrt_events.specs.declared.event.Event.{Event}
use Rattle.ckrt_events.specs.declared.event.Event.TheVariants.{Place, Run, Input, Eof, Tick, RunLong}
use Rattle.ckrt_events.specs.declared.command.Command.{Command}
use Rattle.ckrt_events.specs.declared.command.Command.TheVariants.{Submit, Auto, Commit, Checkpoint, Quit, Blank}
use Rattle.ckrt_events.specs.declared.command.LineFault.{LineFault}
use Rattle.ckrt_events.specs.Line.{command_of}
use Rattle.ckrt_machine.specs.declared.event.Refusal.{Refusal}
use Rattle.ckrt_machine.specs.declared.event.Refusal.TheVariants.{NoSuchHart, HartIdle, OutputFull, Ended}
use Rattle.ckrt_machine.specs.Events as machine
use Rattle.ckrt_machine.specs.Refusals.{run_refusal, running_refusal, refusal_in}
use Rattle.ckrt_machine.specs.Runs.{is_running}
use Rattle.ckrt_machine.specs.Steps.{hart_of}
use Rattle.ckrt_recovery.specs.declared.fault.CommitFault.{CommitFault}
use Rattle.ckrt_recovery.specs.declared.fault.SubmitFault.{SubmitFault}
use Rattle.ckrt_recovery.specs.declared.fault.SubmitFault.TheVariants as submit_fault
use Rattle.ckrt_recovery.specs.Calls.{checkpoint_refusal}
use Rattle.ckrt_main.specs.Replies.{Reply, Accepted, Acknowledged, NotAccepted, NotSaved, NotUnderstood, Output, outputs, outputs_by}
use Rattle.ckrt_stored.specs.Recovery.{room_of, are_counters_used}
use Rattle.ckrt_recovery.specs.View.{View, output_end, refusal_of, refusal_when_known, refusal_when_running, version_of, first_refusal, shortage_of, after_event, committed, checkpointed, released_output}
use Rattle.ckrt_main.specs.Transcript.{Fate, Transcript, preceded_by, unless_quit, followed_by, written, submitted, submit, unless_refused, run_planned, output, acknowledged, commit_by, by_fate, saved, respond, respond_all, transcript}
use Rattle.ckrt_main.specs.Alike.{IsAlike, is_output_full, is_own, is_local, NoneIsLocal, answers_of, AnswerAlike}
use Rattle.ckrt_main.proofs.ReplyLemmas.{all_front}

all_back : {A : Type 0} (P : A → Type 0) (xs ys : List A) → AllByRecursion P (xs ++ ys) → AllByRecursion P ys
all_back P [] ys h = h
all_back P (x ∷ xs) ys h = all_back P xs ys h.1

answers-append : (xs ys : List Reply) → answers_of (xs ++ ys) ≡ answers_of xs ++ answers_of ys
answers-append [] ys = refl
answers-append (Accepted k a ∷ xs) ys = ap (λ (l : List Reply). Accepted k a ∷ l) (answers-append xs ys)
answers-append (Acknowledged k ∷ xs) ys = ap (λ (l : List Reply). Acknowledged k ∷ l) (answers-append xs ys)
answers-append (NotAccepted why ∷ xs) ys = ap (λ (l : List Reply). NotAccepted why ∷ l) (answers-append xs ys)
answers-append (NotSaved why ∷ xs) ys = ap (λ (l : List Reply). NotSaved why ∷ l) (answers-append xs ys)
answers-append (NotUnderstood why ∷ xs) ys = ap (λ (l : List Reply). NotUnderstood why ∷ l) (answers-append xs ys)
answers-append (Output offset bytes ∷ xs) ys = answers-append xs ys

-- ONE TRANSCRIPT AFTER ANOTHER

-- where none of their replies is local they are alike
abbrev Alike : Transcript → Transcript → Type 0
Alike t u = NoneIsLocal t.replies → NoneIsLocal u.replies → AnswerAlike t u

alike_unless : (q : Bool) (f g : Fate) (v w : View) (more : Fate → View → Transcript) → IsAlike v w → Alike (more f v) (more g w) → Alike (unless_quit q f v more) (unless_quit q g w more)
alike_unless true f g v w more same h p q = record { answers = refl; events = refl; views = same; quit = refl }
alike_unless false f g v w more same h p q = h p q

alike_joined : (t u x y : Transcript) → AnswerAlike t u → AnswerAlike x y → AnswerAlike (preceded_by t.replies t.events x) (preceded_by u.replies u.events y)
alike_joined t u x y h k = record {
  answers = answers-append t.replies x.replies ∙ (ap (λ (l : List Reply). l ++ answers_of x.replies) h.answers ∙ (ap (λ (l : List Reply). answers_of u.replies ++ l) k.answers ∙ sym (answers-append u.replies y.replies)));
  events = ap (λ (l : List Event). l ++ x.events) h.events ∙ ap (λ (l : List Event). u.events ++ l) k.events;
  views = k.views;
  quit = k.quit;
}

alike_followed : (t u : Transcript) (more : Fate → View → Transcript) → Alike t u → ((f g : Fate) (v w : View) → IsAlike v w → Alike (more f v) (more g w)) → Alike (followed_by t more) (followed_by u more)
alike_followed t u more h k p q =
    let x : Transcript = unless_quit t.quit t.fate t.view more in
    let y : Transcript = unless_quit u.quit u.fate u.view more in
    let first = h (all_front (λ r. is_local r ≡ false) t.replies x.replies p) (all_front (λ r. is_local r ≡ false) u.replies y.replies q) in
    let same : y ≡ unless_quit t.quit u.fate u.view more = ap (λ b. unless_quit b u.fate u.view more) (sym first.quit) in
    let rest : NoneIsLocal (unless_quit t.quit u.fate u.view more).replies = subst (λ (z : Transcript). NoneIsLocal z.replies) same (all_back (λ r. is_local r ≡ false) u.replies y.replies q) in
    let second = alike_unless t.quit t.fate u.fate t.view u.view more first.views (k t.fate u.fate t.view u.view first.views) (all_back (λ r. is_local r ≡ false) t.replies x.replies p) rest in
    alike_joined t u x y first (subst (λ (z : Transcript). AnswerAlike x z) (sym same) second)

-- EVENTS

-- two reasons are one, or one of them depends on what is held
abbrev SameReason : Option Refusal → Option Refusal → Type 0
SameReason o p = (o ≡ p) ⊎ ((o ≡ Some OutputFull) ⊎ (p ≡ Some OutputFull))

held_reason : (b c : Bool) → SameReason (if b then Some OutputFull else None) (if c then Some OutputFull else None)
held_reason true c = inr (inl refl)
held_reason false true = inr (inr refl)
held_reason false false = inl refl

run_reason : (a b : Bool) (o p : Option Refusal) → SameReason o p → SameReason (if a then Some NoSuchHart else if b then Some HartIdle else o) (if a then Some NoSuchHart else if b then Some HartIdle else p)
run_reason true b o p h = inl refl
run_reason false true o p h = inl refl
run_reason false false o p h = h

run_held_reason : (n m h : ℕ) (s : Tables) → SameReason (run_refusal n h s) (run_refusal m h s)
run_held_reason n m h s = run_reason (nat_le s.threads.hart_count h) (is_none (hart_of s h)) (if nat_lt 16384 (n + 1024) then Some OutputFull else None) (if nat_lt 16384 (m + 1024) then Some OutputFull else None) (held_reason (nat_lt 16384 (n + 1024)) (nat_lt 16384 (m + 1024)))

running_reason : (n m : ℕ) (e : Event) (s : Tables) → SameReason (running_refusal n e s) (running_refusal m e s)
running_reason n m (Place h t) s = inl refl
running_reason n m (Run h k) s = run_held_reason n m h s
running_reason n m (Input bytes) s = inl refl
running_reason n m Eof s = inl refl
running_reason n m (Tick k) s = inl refl
running_reason n m (RunLong h k) s = run_held_reason n m h s

in_reason : (b : Bool) (o p : Option Refusal) → SameReason o p → SameReason (if b then o else Some Ended) (if b then p else Some Ended)
in_reason true o p h = h
in_reason false o p h = inl refl

same_reason : (n m : ℕ) (e : Event) (s : Tables) → SameReason (refusal_in n e s) (refusal_in m e s)
same_reason n m e s = in_reason (is_running s.status) (running_refusal n e s) (running_refusal m e s) (running_reason n m e s)

-- a session's reason that isn't its own is the machine's
abbrev IsShared : Option SubmitFault → Type 0
IsShared None = ⊤
IsShared (Some why) = is_own why ≡ false

shared_reason : (o : Option Refusal) (x : Option SubmitFault) → IsShared (first_refusal o x) → ((why : SubmitFault) → x ≡ Some why → is_own why ≡ true) → (first_refusal o x ≡ first_refusal o None) × ((o ≡ Some OutputFull) → ⊥)
shared_reason (Some why) x h k = (refl, λ is. let same : why ≡ OutputFull = cc in let no : true ≡ false = subst (λ r. is_output_full r ≡ false) same h in absurd (cc))
shared_reason None None h k = (refl, λ is. absurd (cc))
shared_reason None (Some why) h k = let no : true ≡ false = sym (k why refl) ∙ h in absurd (cc)

short_own : (a b c : Bool) (why : SubmitFault) → (if a then Some submit_fault.BatchFull else if b then Some submit_fault.JournalFull else if c then Some submit_fault.CountersUsed else None) ≡ Some why → is_own why ≡ true
short_own true b c why is = let same : submit_fault.BatchFull ≡ why = cc in subst (λ w. is_own w ≡ true) same refl
short_own false true c why is = let same : submit_fault.JournalFull ≡ why = cc in subst (λ w. is_own w ≡ true) same refl
short_own false false true why is = let same : submit_fault.CountersUsed ≡ why = cc in subst (λ w. is_own w ≡ true) same refl
short_own false false false why is = absurd (cc)

unfailed_reason : (b : Bool) (o : Option SubmitFault) → IsShared (if b then Some submit_fault.Failed else o) → ((if b then Some submit_fault.Failed else o) ≡ o) × IsShared o
unfailed_reason true o h = let no : true ≡ false = h in absurd (cc)
unfailed_reason false o h = (refl, h)

known_reason : (b : Bool) (o : Option SubmitFault) → IsShared (if b then o else Some submit_fault.NeedsCheckpoint) → ((if b then o else Some submit_fault.NeedsCheckpoint) ≡ o) × IsShared o
known_reason true o h = (refl, h)
known_reason false o h = let no : true ≡ false = h in absurd (cc)

-- why a session refuses an event, where the reason is shared: the machine's reason alone
session_reason : (v : View) (e : Event) → IsShared (refusal_of v e) → (refusal_of v e ≡ first_refusal (machine.refusal_of (length v.recovered.held) e v.recovered.state) None) × ((machine.refusal_of (length v.recovered.held) e v.recovered.state ≡ Some OutputFull) → ⊥)
session_reason v e h =
    let u = unfailed_reason v.failed (refusal_when_running v e) h in
    let n = known_reason (is_known_in (version_of v) e) (refusal_when_known v e) u.1 in
    let k = shared_reason (machine.refusal_of (length v.recovered.held) e v.recovered.state) (shortage_of v (length (encoding_of e))) n.1 (λ why is. short_own (nat_lt 4096 (length v.pending + length (encoding_of e))) (nat_lt (room_of v.recovered.journal) (3 + length v.pending + length (encoding_of e))) (are_counters_used v.recovered.count (output_end v.recovered)) why is) in
    (u.0 ∙ n.0 ∙ k.0, k.1)

one_reason : (o p : Option Refusal) → SameReason o p → ((o ≡ Some OutputFull) → ⊥) → ((p ≡ Some OutputFull) → ⊥) → o ≡ p
one_reason o p h a b = ⊎_elim (λ (same : _). same) (λ (own : _). ⊎_elim (λ (is : _). absurd (a is)) (λ (is : _). absurd (b is)) own) h

same_refusal : (v w : View) (e : Event) → IsAlike v w → IsShared (refusal_of v e) → IsShared (refusal_of w e) → refusal_of v e ≡ refusal_of w e
same_refusal v w e same p q =
    let x = session_reason v e p in
    let y = session_reason w e q in
    let m : machine.refusal_of (length w.recovered.held) e v.recovered.state ≡ machine.refusal_of (length w.recovered.held) e w.recovered.state = ap (machine.refusal_of (length w.recovered.held) e) same.state in
    let one : machine.refusal_of (length v.recovered.held) e v.recovered.state ≡ machine.refusal_of (length w.recovered.held) e v.recovered.state =
    one_reason _ _ (same_reason (length v.recovered.held) (length w.recovered.held) e v.recovered.state.tables) x.1 (λ is. y.1 (sym m ∙ is)) in
    x.0 ∙ (ap (λ o. first_refusal o None) (one ∙ m) ∙ sym y.0)

shared_of : (f : Fate) (v : View) (e : Event) (o : Option SubmitFault) → NoneIsLocal (submitted f v e o).replies → IsShared o
shared_of f v e None h = tt
shared_of f v e (Some why) h = h.0

alike_after : (v w : View) (e : Event) → IsAlike v w → IsAlike (after_event v e) (after_event w e)
alike_after v w e same = record { state = ap (λ s. (machine.step e s).state) same.state; count = ap (λ n. n + 1) same.count }

alike_submitted : (f g : Fate) (v w : View) (e : Event) (o : Option SubmitFault) → IsAlike v w → AnswerAlike (submitted f v e o) (submitted g w e o)
alike_submitted f g v w e (Some why) same = record { answers = refl; events = refl; views = same; quit = refl }
alike_submitted f g v w e None same = record {
  answers = ap (λ n. Accepted (n + 1) (machine.step e v.recovered.state).answer ∷ []) same.count ∙ ap (λ s. Accepted (w.recovered.count + 1) (machine.step e s).answer ∷ []) same.state;
  events = refl;
  views = alike_after v w e same;
  quit = refl;
}

alike_submit : (e : Event) (f g : Fate) (v w : View) → IsAlike v w → Alike (submit e f v) (submit e g w)
alike_submit e f g v w same p q =
    let one = same_refusal v w e same (shared_of f v e (refusal_of v e) p) (shared_of g w e (refusal_of w e) q) in
    subst (λ o. AnswerAlike (submit e f v) (submitted g w e o)) one (alike_submitted f g v w e (refusal_of v e) same)

shared_more : (f : Fate) (v : View) (e : Event) (o : Option SubmitFault) (more : Fate → View → Transcript) → NoneIsLocal (unless_refused f v e o more).replies → IsShared o
shared_more f v e None more h = tt
shared_more f v e (Some why) more h = h.0

alike_refused : (o : Option SubmitFault) (e : Event) (more : Fate → View → Transcript) (f g : Fate) (v w : View) → IsAlike v w → ((f g : Fate) (v w : View) → IsAlike v w → Alike (more f v) (more g w)) → Alike (unless_refused f v e o more) (unless_refused g w e o more)
alike_refused (Some why) e more f g v w same k p q = alike_submitted f g v w e (Some why) same
alike_refused None e more f g v w same k p q = alike_followed (submitted f v e None) (submitted g w e None) more (λ _ _. alike_submitted f g v w e None same) k p q

alike_unless_refused : (e : Event) (more : Fate → View → Transcript) (f g : Fate) (v w : View) → IsAlike v w → ((f g : Fate) (v w : View) → IsAlike v w → Alike (more f v) (more g w)) → Alike (unless_refused f v e (refusal_of v e) more) (unless_refused g w e (refusal_of w e) more)
alike_unless_refused e more f g v w same k p q =
    let one = same_refusal v w e same (shared_more f v e (refusal_of v e) more p) (shared_more g w e (refusal_of w e) more q) in
    subst (λ o. AnswerAlike (unless_refused f v e (refusal_of v e) more) (unless_refused g w e o more)) one
    (alike_refused (refusal_of v e) e more f g v w same k p (subst (λ o. NoneIsLocal (unless_refused g w e o more).replies) (sym one) q))

alike_planned : (o : Option ℕ) (h n : ℕ) (f g : Fate) (v w : View) → IsAlike v w → Alike (run_planned o h n f v) (run_planned o h n g w)
alike_planned None h n f g v w same = alike_submit (Run h n) f g v w same
alike_planned (Some t) h n f g v w same = alike_unless_refused (Place h t) (submit (Run h n)) f g v w same (λ f2 g2 v2 w2 also. alike_submit (Run h n) f2 g2 v2 w2 also)

-- COMMITS, CHECKPOINTS AND LINES

no_answers_by : (n offset : ℕ) (bytes : List ℕ) → answers_of (outputs_by n offset bytes) ≡ []
no_answers_by zero offset bytes = refl
no_answers_by (suc n) offset bytes = no_answers_by n (offset + length (take 64 bytes)) (drop 64 bytes)

no_answers : (offset : ℕ) (bytes : List ℕ) → answers_of (outputs offset bytes) ≡ []
no_answers offset bytes = no_answers_by ((length bytes + 63) / 64) offset bytes

alike_output : (f g : Fate) (v w : View) → IsAlike v w → Alike (output f v) (output g w)
alike_output f g v w same p q = record {
  answers = no_answers v.recovered.confirmed (released_output v) ∙ sym (no_answers w.recovered.confirmed (released_output w));
  events = refl;
  views = record { state = same.state; count = same.count };
  quit = refl;
}

alike_acknowledged : (n m : ℕ) (f g : Fate) (v w : View) → n ≡ m → IsAlike v w → Alike (acknowledged n f v) (acknowledged m g w)
alike_acknowledged n m f g v w number same = alike_followed (written (Acknowledged n ∷ []) f v) (written (Acknowledged m ∷ []) g w) output
    (λ _ _. record { answers = ap (λ k. Acknowledged k ∷ []) number; events = refl; views = same; quit = refl })
    (λ f2 g2 v2 w2 also. alike_output f2 g2 v2 w2 also)

not_local : (f : Fate) (v w : View) → NoneIsLocal (by_fate f v w).replies → (g : Fate) × (by_fate f v w ≡ acknowledged v.recovered.count g w)
not_local None v w h = (None, refl)
not_local (Some zero) v w h = (let no : true ≡ false = h.0 in absurd (cc))
not_local (Some (suc n)) v w h = (Some n, refl)

alike_by_fate : (f g : Fate) (v w x y : View) → IsAlike v w → IsAlike x y → Alike (by_fate f v x) (by_fate g w y)
alike_by_fate f g v w x y same after p q =
    let a = not_local f v x p in
    let b = not_local g w y q in
    subst (λ (t : Transcript). AnswerAlike t (by_fate g w y)) (sym a.1)
    (subst (λ (u : Transcript). AnswerAlike (acknowledged v.recovered.count a.0 x) u) (sym b.1)
    (alike_acknowledged v.recovered.count w.recovered.count a.0 b.0 x y same.count after (subst (λ (t : Transcript). NoneIsLocal t.replies) a.1 p) (subst (λ (t : Transcript). NoneIsLocal t.replies) b.1 q)))

-- a commit that isn't refused acknowledges all events
commit_made : (b i : Bool) (f : Fate) (v : View) → NoneIsLocal (commit_by b i f v).replies → (g : Fate) × (commit_by b i f v ≡ acknowledged v.recovered.count g (committed v))
commit_made true i f v h = (let no : true ≡ false = h.0 in absurd (cc))
commit_made false true f v h = (f, refl)
commit_made false false f v h = not_local f v (committed v) h

saved_made : (o : Option CommitFault) (f : Fate) (v : View) → NoneIsLocal (saved o f v).replies → (g : Fate) × (saved o f v ≡ acknowledged v.recovered.count g (checkpointed v))
saved_made (Some why) f v h = (let no : true ≡ false = h.0 in absurd (cc))
saved_made None f v h = not_local f v (checkpointed v) h

alike_made : (t u : Transcript) (v w x y : View) → IsAlike v w → IsAlike x y → ((g : Fate) × (t ≡ acknowledged v.recovered.count g x)) → ((g : Fate) × (u ≡ acknowledged w.recovered.count g y)) → Alike t u
alike_made t u v w x y same after a b p q =
    subst (λ (z : Transcript). AnswerAlike z u) (sym a.1)
    (subst (λ (z : Transcript). AnswerAlike (acknowledged v.recovered.count a.0 x) z) (sym b.1)
    (alike_acknowledged v.recovered.count w.recovered.count a.0 b.0 x y same.count after (subst (λ (z : Transcript). NoneIsLocal z.replies) a.1 p) (subst (λ (z : Transcript). NoneIsLocal z.replies) b.1 q)))

alike_respond : (command : Result Command LineFault) (f g : Fate) (v w : View) → IsAlike v w → Alike (respond command f v) (respond command g w)
alike_respond (Ok (Submit e)) f g v w same = alike_submit e f g v w same
alike_respond (Ok (Auto h n)) f g v w same = subst (λ s. Alike (run_planned (machine.planned h v.recovered.state.tables) h n f v) (run_planned (machine.planned h s.tables) h n g w)) same.state (alike_planned (machine.planned h v.recovered.state.tables) h n f g v w same)
alike_respond (Ok Commit) f g v w same = λ p q. alike_made (respond (Ok Commit) f v) (respond (Ok Commit) g w) v w (committed v) (committed w) same (record { state = same.state; count = same.count })
    (commit_made v.failed (length v.pending == 0) f v p) (commit_made w.failed (length w.pending == 0) g w q) p q
alike_respond (Ok Checkpoint) f g v w same = λ p q. alike_made (respond (Ok Checkpoint) f v) (respond (Ok Checkpoint) g w) v w (checkpointed v) (checkpointed w) same (record { state = same.state; count = same.count })
    (saved_made (checkpoint_refusal v) f v p) (saved_made (checkpoint_refusal w) g w q) p q
alike_respond (Ok Quit) f g v w same = λ p q. record { answers = refl; events = refl; views = same; quit = refl }
alike_respond (Ok Blank) f g v w same = λ p q. record { answers = refl; events = refl; views = same; quit = refl }
alike_respond (Err why) f g v w same = λ p q. record { answers = refl; events = refl; views = same; quit = refl }

alike_all : (ls : List (List ℕ)) (f g : Fate) (v w : View) → IsAlike v w → Alike (respond_all ls f v) (respond_all ls g w)
alike_all [] f g v w same = λ p q. record { answers = refl; events = refl; views = same; quit = refl }
alike_all (line ∷ more) f g v w same = alike_followed (respond (command_of line) f v) (respond (command_of line) g w) (respond_all more) (alike_respond (command_of line) f g v w same) (λ f2 g2 v2 w2 also. alike_all more f2 g2 v2 w2 also)

pub transcripts_alike : (f g : Fate) (v w : View) (bytes : List ℕ) → IsAlike v w → NoneIsLocal (transcript f v bytes).replies → NoneIsLocal (transcript g w bytes).replies → AnswerAlike (transcript f v bytes) (transcript g w bytes)
transcripts_alike f g v w bytes same = alike_followed (output f v) (output g w) (respond_all (lines bytes)) (alike_output f g v w same) (λ f2 g2 v2 w2 also. alike_all (lines bytes) f2 g2 v2 w2 also)
