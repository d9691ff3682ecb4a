-- What the calls of a session get told, piece by piece.
use Rattle.std.proofs.Common.{◌≡◌, ℕ, suc, zero, ◌+◌, ◌≤◌, ◌-◌, if◌then◌else◌, Bool, true, false, Option, Some, None, List, [], ◌∷◌, ◌++◌, length, take, drop, Ok, Err, Result, refl, sym, ◌∙◌, ap, subst, arith, append-nil, length-take-le, ⊎_elim, ◌⊎◌}
use Rattle.std.specs.Prelude.{◌==◌, IfErr, IfOk, IsOk, OnErr, OnOk, MatchOption, is_none}
use Rattle.std.specs.List.{AllByRecursion}
use Rattle.std.proofs.lemmas.Bool.{eqb-true}
use Rattle.std.proofs.lemmas.List.{nil_from_length, take-append-drop}
use Rattle.ckrt_disk.specs.declared.disk.Disk.{Ghosts}
use Rattle.ckrt_events.specs.declared.event.Event.{Event}
use Rattle.ckrt_machine.specs.Events as machine
use Rattle.ckrt_stored.specs.Programs.{Program, output_after}
use Rattle.ckrt_recovery.specs.declared.fault.CommitFault.{CommitFault}
use Rattle.ckrt_recovery.specs.declared.fault.CommitFault.TheVariants.{Failed, Device, GenerationsUsed}
use Rattle.ckrt_recovery.specs.declared.fault.SubmitFault.{SubmitFault}
use Rattle.ckrt_recovery.specs.declared.fault.SubmitFault.TheVariants as submit_fault
use Rattle.ckrt_recovery.specs.declared.session.Session.{Session}
use Rattle.ckrt_recovery.specs.Calls.{Commits, Checkpoints, checkpoint_refusal}
use Rattle.ckrt_recovery.specs.Between.{StandsIn}
use Rattle.ckrt_main.specs.Replies.{Reply, Accepted, Acknowledged, NotAccepted, NotSaved, outputs, oks_of, acks_of, outs_of, shown_in, shown_up_to}
use Rattle.ckrt_recovery.specs.Represents.{Represents, acknowledged_of}
use Rattle.ckrt_recovery.specs.View.{View, view_of, refusal_of, refusal_when_running, after_event, committed, checkpointed, released_output, confirmed_to}
use Rattle.ckrt_main.specs.Transcript.{Fate, Transcript, preceded_by, followed_by, submitted, submit, unless_refused, output, commit_by, commit, saved, checkpoint, by_fate, refused_commit}
use Rattle.ckrt_main.specs.Pieces.{Tells, TellsPart, Answers, BreaksOff, HasTaken, Responds, Interrupted, Suits, ends}
use Rattle.ckrt_recovery.specs.Accepts.{Accepts}
use Rattle.ckrt_main.specs.Outputs.{AreOutput}
use Rattle.ckrt_recovery.proofs.AcceptLemmas.{accepts_kept, accepts_more, accepts_still, refused_failed}
use Rattle.ckrt_main.proofs.EventLemmas.{accepted_before, refused_alone}
use Rattle.ckrt_main.proofs.PieceLemmas.{answers_then, broken_then, broken_followed, interrupted_as, interrupted_then, responds_as, responds_then}
use Rattle.ckrt_main.proofs.ReplyLemmas.{no_acks, no_oks, oks-outputs, fewer_outs, acks-outputs, shown-outputs, shown_behind, shown_in-outputs, shows_none, stands-outputs}
use Rattle.ckrt_disk.proofs.ListLemmas.{nothing_begins}
use Rattle.ckrt_main.proofs.TakenLemmas.{taken_still, taken_output}

-- what is said of an answer that is known
at_ok : (r : Result ℕ CommitFault) (P : Type 0) (x : ℕ) → r ≡ Ok x → OnOk r P → P
at_ok r P x e h = subst (λ q. OnOk q P) e h

at_err : (r : Result ℕ CommitFault) (P : Type 0) (x : CommitFault) → r ≡ Err x → OnErr r P → P
at_err r P x e h = subst (λ q. OnErr q P) e h

fault_at : (r : Result ℕ CommitFault) (P : CommitFault → Type 0) (x : CommitFault) → r ≡ Err x → IfErr r P → P x
fault_at r P x e h = subst (λ q. IfErr q P) e h

pub number_at : (r : Result ℕ CommitFault) (P : ℕ → Type 0) (x : ℕ) → r ≡ Ok x → IfOk r P → P x
number_at r P x e h = subst (λ q. IfOk q P) e h

taken_not_refused : (r : Result ℕ CommitFault) (n : ℕ) (fault : CommitFault) → r ≡ Ok n → r ≡ Err fault → ⊥
taken_not_refused r n fault is refused = absurd (cc)

same_fault : (r : Result ℕ CommitFault) (x y : CommitFault) → r ≡ Err x → r ≡ Err y → x ≡ y
same_fault r x y e h = cc

-- a checkpoint that was made wasn't refused
accepted_refusal : (o : Option CommitFault) (r : Result ℕ CommitFault) (n : ℕ) → r ≡ Ok n → MatchOption o (IfErr r (λ e. e ≡ Device)) (λ f. r ≡ Err f) → o ≡ None
accepted_refusal None r n is refused = refl
accepted_refusal (Some f) r n is refused = absurd (taken_not_refused r n f is refused)

-- a session that takes an event hasn't failed
runs_by : (b : Bool) (o : Option SubmitFault) → (if b then Some submit_fault.Failed else o) ≡ None → b ≡ false
runs_by true o h = cc
runs_by false o h = refl

is_none-true : (o : Option SubmitFault) → is_none o ≡ true → o ≡ None
is_none-true None h = refl
is_none-true (Some fault) h = cc

-- the fate before a commit or checkpoint that the device didn't fail, by whether it was without work
abbrev earlier : Bool → Fate → Fate
earlier true f = f
earlier false None = None
earlier false (Some n) = Some (suc n)

earlier_kept : (b : Bool) (f : Fate) → is_none (earlier b f) ≡ is_none f
earlier_kept true f = refl
earlier_kept false None = refl
earlier_kept false (Some n) = refl

took : (e : Event) (f : Fate) (v w : View) → w ≡ after_event v e → submitted f v e None ≡ preceded_by (Accepted (v.recovered.count + 1) (machine.step e v.recovered.state).answer ∷ []) (e ∷ []) (record { replies = []; events = []; view = w; fate = f; quit = false })
took e f v w is = rw is refl

worked : (f : Fate) (v after w : View) → w ≡ after → by_fate (earlier false f) v after ≡ preceded_by (Acknowledged v.recovered.count ∷ []) [] (output f w)
worked None v after w is = rw is refl
worked (Some n) v after w is = rw is refl

committed_by : (has_failed b : Bool) (f : Fate) (v w : View) → has_failed ≡ false → w ≡ committed v → commit_by has_failed b (earlier b f) v ≡ preceded_by (Acknowledged v.recovered.count ∷ []) [] (output f w)
committed_by true b f v w runs is = cc
committed_by false true f v w runs is = rw is refl
committed_by false false f v w runs is = worked f v (committed v) w is

marked : (v w : View) → v.failed ≡ true → w ≡ record v { failed = true } → w ≡ v
marked v w was is = is ∙ ap (λ b. record v { failed = b }) (sym was)

refused_by : (has_failed b : Bool) (f : Fate) (v w : View) → has_failed ≡ true → w ≡ v → commit_by has_failed b f v ≡ preceded_by (NotSaved Failed ∷ []) [] (record { replies = []; events = []; view = w; fate = f; quit = false })
refused_by true b f v w was is = rw is refl
refused_by false b f v w was is = cc

device_by : (f : Fate) (v after w : View) → f ≡ Some zero → w ≡ record v { failed = true } → by_fate f v after ≡ preceded_by (NotSaved Device ∷ []) [] (record { replies = []; events = []; view = w; fate = f; quit = false })
device_by f v after w zeroth is = rw (zeroth, is) refl

torn_by : (has_failed b : Bool) (f : Fate) (v w : View) → has_failed ≡ false → b ≡ false → f ≡ Some zero → w ≡ record v { failed = true }
    → commit_by has_failed b f v ≡ preceded_by (NotSaved Device ∷ []) [] (record { replies = []; events = []; view = w; fate = f; quit = false })
torn_by true b f v w runs some zeroth is = cc
torn_by false true f v w runs some zeroth is = cc
torn_by false false f v w runs some zeroth is = device_by f v (committed v) w zeroth is

ok_not_err : (r : Result ℕ CommitFault) (why : CommitFault) → r ≡ Err why → IsOk r → ⊥
ok_not_err r why is ok = let no : true ≡ false = sym (subst (λ q. IsOk q) is ok) in absurd (cc)

output_is : (f : Fate) (v w : View) → w ≡ confirmed_to v v.released → output f v ≡ preceded_by (outputs v.recovered.confirmed (released_output v)) [] (record { replies = []; events = []; view = w; fate = f; quit = false })
output_is f v w is = rw (is, append-nil (outputs v.recovered.confirmed (released_output v))) refl

module _ {D : Type 0} {g : Ghosts D} where
  -- ONE REPLY

  -- a command whose reply begins with this line, and what follows it
  pub record Says (t : Fate → View → Transcript) (rest : Fate → Transcript) (r : Reply) (old new : Session D g) : Type 0 where
    pub accepted : List Event
    pub accepts : Accepts accepted old new
    pub acks : AllByRecursion (λ k. k ≤ new.acknowledged) (acks_of (r ∷ []))
    pub outs : outs_of (r ∷ []) ≡ []
    pub answered : oks_of (r ∷ []) ≡ length accepted
    pub still : new.progress.confirmed ≤ old.progress.confirmed
    pub shown : shown_up_to old.progress.confirmed (r ∷ []) ≡ old.progress.confirmed
    pub before : Fate → Fate
    pub kept : (f : Fate) → is_none (before f) ≡ is_none f
    pub idle : old.failed ≡ true → (f : Fate) → before f ≡ f
    pub goes_on : (f : Fate) → Suits f new → t (before f) (view_of old) ≡ preceded_by (r ∷ []) accepted (rest f)

  no_outs : (p : Program) (events : List Event) (s : Session D g) (r : Reply) → outs_of (r ∷ []) ≡ [] → AreOutput p events s (r ∷ [])
  no_outs p events s r none = subst (AllByRecursion (StandsIn (output_after p (acknowledged_of events s)))) (sym none) tt

  -- such a reply shows no output, and none is confirmed meanwhile
  still_taken : (t : Fate → View → Transcript) (rest : Fate → Transcript) (r : Reply) (old new : Session D g) (says : Says t rest r old new) → g.is_honest new.disk → (p : Program) (events : List Event) (from : ℕ) (bytes : List ℕ) → HasTaken p events from bytes old
      → HasTaken p (events ++ says.accepted) from (bytes ++ shown_in (r ∷ [])) new
  still_taken t rest r old new says honest p events from bytes has =
      let still = says.still in
      let grows = says.accepts.confirmed in
      let same : new.progress.confirmed ≡ old.progress.confirmed = omega (arith, still, grows) in
      subst (λ (l : List ℕ). HasTaken p (events ++ says.accepted) from l new) (sym (append-nil bytes) ∙ ap (λ (l : List ℕ). bytes ++ l) (sym (shows_none r says.outs)))
      (taken_still p events says.accepted from bytes old new has same (says.accepts.represents honest p events has.represents))

  -- the line was told
  pub said : {text : Reply → List ℕ} (t : Fate → View → Transcript) (rest : Fate → Transcript) (r : Reply) (a b : Option (List ℕ)) (old new : Session D g) → Says t rest r old new → Tells text a b (r ∷ []) []
      → Responds (λ (_ : Unit {0}) f. t f (view_of old)) (λ _ f. rest f) (Tells text a b) old new
  said t rest r a b old new says told = record {
    piece = record {
      replies = r ∷ [];
      accepted = says.accepted;
      tells = told;
      acks = says.acks;
      confirmed = (let still = says.still in let shown = says.shown in omega (arith, still, shown));
      accepts = says.accepts;
      answered = says.answered;
      outs = λ honest p events reps. no_outs p (events ++ says.accepted) new r says.outs;
      before = says.before;
      kept = says.kept;
      idle = says.idle;
    };
    goes_on = λ i f suits. says.goes_on f suits;
    taken = λ honest p events from bytes has. still_taken t rest r old new says honest p events from bytes has;
  }

  -- the writer broke it off
  pub half_said : {text : Reply → List ℕ} (t : Fate → View → Transcript) (rest : Fate → Transcript) (r : Reply) (a b : Option (List ℕ)) (old new : Session D g) → Says t rest r old new → Tells text a b [] (r ∷ []) → BreaksOff t (Tells text a b) old new
  half_said t rest r a b old new says told = record {
    broken = r ∷ [];
    one = omega arith;
    piece = record {
      replies = [];
      accepted = says.accepted;
      tells = told;
      acks = says.acks;
      confirmed = says.still;
      accepts = says.accepts;
      answered = says.answered;
      outs = λ honest p events reps. no_outs p (events ++ says.accepted) new r says.outs;
      before = says.before;
      kept = says.kept;
      idle = says.idle;
    };
    among = λ i f suits. ((rest f).replies, ap (λ (x : Transcript). x.replies) (says.goes_on f suits));
    some = λ i f suits. ((rest f).events, ap (λ (x : Transcript). x.events) (says.goes_on f suits));
  }

  -- the session stays as it is
  pub says_still : (t : Fate → View → Transcript) (r : Reply) (s : Session D g) → AllByRecursion (λ k. k ≤ s.acknowledged) (acks_of (r ∷ [])) → outs_of (r ∷ []) ≡ [] → oks_of (r ∷ []) ≡ 0 → shown_up_to s.progress.confirmed (r ∷ []) ≡ s.progress.confirmed
      → ((f : Fate) → t f (view_of s) ≡ preceded_by (r ∷ []) [] (ends false s f)) → Says t (ends false s) r s s
  says_still t r s acks outs none shown same = record {
    accepted = [];
    accepts = accepts_kept s s refl refl;
    acks = acks;
    outs = outs;
    answered = none;
    still = omega arith;
    shown = shown;
    before = λ f. f;
    kept = λ f. refl;
    idle = λ was f. refl;
    goes_on = λ f suits. same f;
  }

  -- EVENTS

  pub says_refused : (e : Event) (why : SubmitFault) (old new : Session D g) → new ≡ old → refusal_of (view_of old) e ≡ Some why → Says (submit e) (ends false new) (NotAccepted why) old new
  says_refused e why old new same refused = subst (λ (s : Session D g). Says (submit e) (ends false s) (NotAccepted why) old s) (sym same)
      (says_still (submit e) (NotAccepted why) old tt refl refl refl (λ f. ap (λ o. submitted f (view_of old) e o) refused))

  accepts_taken : (e : Event) (old new : Session D g) → refusal_of (view_of old) e ≡ None → view_of new ≡ after_event (view_of old) e → new.disk ≡ old.disk
      → ((p : Program) (events : List Event) → Represents p events old → Represents p (events ++ e ∷ []) new) → Accepts (e ∷ []) old new
  accepts_taken e old new none view disk represents =
      let confirmed : new.progress.confirmed ≡ old.progress.confirmed = ap (λ (v : View). v.recovered.confirmed) view in
      let runs : old.failed ≡ false = runs_by old.failed (refusal_when_running (view_of old) e) none in
      accepts_still (e ∷ []) old new disk (ap (λ (v : View). v.failed) view) (ap (λ (v : View). v.acknowledged) view) (omega (arith, confirmed)) (λ was. let no : true ≡ false = sym was ∙ runs in absurd (cc)) represents

  pub says_taken : (e : Event) (old new : Session D g) → refusal_of (view_of old) e ≡ None → view_of new ≡ after_event (view_of old) e → new.disk ≡ old.disk
      → ((p : Program) (events : List Event) → Represents p events old → Represents p (events ++ e ∷ []) new) → Says (submit e) (ends false new) (Accepted (old.progress.count + 1) (machine.step e old.progress.machine.state).answer) old new
  says_taken e old new none view disk represents = record {
    accepted = e ∷ [];
    accepts = accepts_taken e old new none view disk represents;
    acks = tt;
    outs = refl;
    answered = refl;
    still = (let confirmed : new.progress.confirmed ≡ old.progress.confirmed = ap (λ (v : View). v.recovered.confirmed) view in omega (arith, confirmed));
    shown = refl;
    before = λ f. f;
    kept = λ f. refl;
    idle = λ was f. refl;
    goes_on = λ f suits. ap (λ o. submitted f (view_of old) e o) none ∙ took e f (view_of old) (view_of new) view;
  }

  -- an event, and what follows unless it is refused
  pub accepted_then : {text : Reply → List ℕ} (e : Event) (more : Fate → View → Transcript) (quit : Bool) (a b c : Option (List ℕ)) (s m u : Session D g) → is_none (refusal_of (view_of s) e) ≡ true → Answers (submit e) false (Tells text a b) s m → Answers more quit (Tells text b c) m u
      → Answers (λ f v. unless_refused f v e (refusal_of v e) more) quit (Tells text a c) s u
  accepted_then e more quit a b c s m u accepted first second =
      let is = is_none-true (refusal_of (view_of s) e) accepted in
      responds_as (λ (i : Unit {0}). i) (λ _ f. unless_refused f (view_of s) e (refusal_of (view_of s) e) more) (λ _ f. ends quit u f) (λ _ f. followed_by (submit e f (view_of s)) more) (λ _ f. ends quit u f) a c s u
      (λ _ f. accepted_before f (view_of s) e (refusal_of (view_of s) e) more is) (λ _ f. refl) (answers_then (submit e) more quit a b c s m u first second)

  pub accepted_broken : {text : Reply → List ℕ} (e : Event) (more : Fate → View → Transcript) (a b c : Option (List ℕ)) (s m u : Session D g) → is_none (refusal_of (view_of s) e) ≡ true → Answers (submit e) false (Tells text a b) s m → BreaksOff more (Tells text b c) m u
      → BreaksOff (λ f v. unless_refused f v e (refusal_of v e) more) (Tells text a c) s u
  accepted_broken e more a b c s m u accepted first second =
      let is = is_none-true (refusal_of (view_of s) e) accepted in
      interrupted_as (λ (i : Unit {0}). i) (λ _ f. unless_refused f (view_of s) e (refusal_of (view_of s) e) more) (λ _ f. followed_by (submit e f (view_of s)) more) a c s u
      (λ _ f. accepted_before f (view_of s) e (refusal_of (view_of s) e) more is) (broken_then (submit e) more a b c s m u first second)

  pub refused_then : {text : Reply → List ℕ} (e : Event) (more : Fate → View → Transcript) (a b : Option (List ℕ)) (s m : Session D g) → is_none (refusal_of (view_of s) e) ≡ false → Answers (submit e) false (Tells text a b) s m
      → Answers (λ f v. unless_refused f v e (refusal_of v e) more) false (Tells text a b) s m
  refused_then e more a b s m refused first =
      responds_as (λ (i : Unit {0}). i) (λ _ f. unless_refused f (view_of s) e (refusal_of (view_of s) e) more) (λ _ f. ends false m f) (λ _ f. submit e f (view_of s)) (λ _ f. ends false m f) a b s m
      (λ _ f. refused_alone f (view_of s) e (refusal_of (view_of s) e) more refused) (λ _ f. refl) first

  broken_at : {text : Reply → List ℕ} (o : Option SubmitFault) (e : Event) (more : Fate → View → Transcript) (a b : Option (List ℕ)) (s m : Session D g) → Interrupted (λ (_ : Unit {0}) f. submitted f (view_of s) e o) (Tells text a b) s m → Interrupted (λ (_ : Unit {0}) f. unless_refused f (view_of s) e o more) (Tells text a b) s m
  broken_at None e more a b s m first = broken_followed (λ f v. submitted f v e None) (λ (_ : Unit {0}). more) a b s m first
  broken_at (Some why) e more a b s m first = first

  pub broken_before : {text : Reply → List ℕ} (e : Event) (more : Fate → View → Transcript) (a b : Option (List ℕ)) (s m : Session D g) → BreaksOff (submit e) (Tells text a b) s m → BreaksOff (λ f v. unless_refused f v e (refusal_of v e) more) (Tells text a b) s m
  broken_before e more a b s m first = broken_at (refusal_of (view_of s) e) e more a b s m first

  -- COMMITS AND CHECKPOINTS

  -- all is acknowledged, and then the output is written
  says_acknowledged : (t : Fate → View → Transcript) (b : Bool) (old new : Session D g) → old.failed ≡ false → Accepts [] old new → new.acknowledged ≡ old.progress.count → new.progress.confirmed ≡ old.progress.confirmed
      → ((f : Fate) → t (earlier b f) (view_of old) ≡ preceded_by (Acknowledged old.progress.count ∷ []) [] (output f (view_of new))) → Says t (λ f. output f (view_of new)) (Acknowledged old.progress.count) old new
  says_acknowledged t b old new runs accepts all same goes_on = record {
    accepted = [];
    accepts = accepts;
    acks = (omega (arith, all), tt);
    outs = refl;
    answered = refl;
    still = omega (arith, same);
    shown = refl;
    before = earlier b;
    kept = earlier_kept b;
    idle = λ was f. let no : true ≡ false = sym was ∙ runs in absurd (cc);
    goes_on = λ f suits. goes_on f;
  }

  not_failed : (b : Bool) (s : Session D g) → s.failed ≡ b → (s.failed ≡ true → ⊥) → s.failed ≡ false
  not_failed true s is never = absurd (never is)
  not_failed false s is never = is

  pub says_committed : (old new : Session D g) (r : Result ℕ CommitFault) (n : ℕ) → r ≡ Ok n → Commits old r new → Accepts [] old new → Says commit (λ f. output f (view_of new)) (Acknowledged old.progress.count) old new
  says_committed old new r n is commits accepts =
      let view = at_ok r _ n is commits.ok in
      let runs = not_failed old.failed old refl (λ had. taken_not_refused r n Failed is (commits.refused.1 had)) in
      says_acknowledged commit (length old.pending.items == 0) old new runs accepts (ap (λ (v : View). v.acknowledged) view) (ap (λ (v : View). v.recovered.confirmed) view)
      (λ f. committed_by old.failed (length old.pending.items == 0) f (view_of old) (view_of new) runs view)

  pub says_saved : (old new : Session D g) (r : Result ℕ CommitFault) (n : ℕ) → r ≡ Ok n → Checkpoints old r new → Accepts [] old new → Says checkpoint (λ f. output f (view_of new)) (Acknowledged old.progress.count) old new
  says_saved old new r n is k accepts =
      let view = at_ok r _ n is k.ok in
      let runs = not_failed old.failed old refl (λ had. taken_not_refused r n Failed is (refused_failed old new r k had)) in
      let none = accepted_refusal (checkpoint_refusal (view_of old)) r n is k.refused in
      says_acknowledged checkpoint false old new runs accepts (ap (λ (v : View). v.acknowledged) view) (ap (λ (v : View). v.recovered.confirmed) view)
      (λ f. ap (λ o. saved o (earlier false f) (view_of old)) none ∙ worked f (view_of old) (checkpointed (view_of old)) (view_of new) view)

  -- a line that refuses, where the fate before is the fate after
  says_unacknowledged : (t : Fate → View → Transcript) (why : CommitFault) (old new : Session D g) → Accepts [] old new → new.progress.confirmed ≡ old.progress.confirmed
      → ((f : Fate) → Suits f new → t f (view_of old) ≡ preceded_by (NotSaved why ∷ []) [] (ends false new f)) → Says t (ends false new) (NotSaved why) old new
  says_unacknowledged t why old new accepts same goes_on = record {
    accepted = [];
    accepts = accepts;
    acks = tt;
    outs = refl;
    answered = refl;
    still = omega (arith, same);
    shown = refl;
    before = λ f. f;
    kept = λ f. refl;
    idle = λ was f. refl;
    goes_on = goes_on;
  }

  not_idle : (b : Bool) (old : Session D g) → (length old.pending.items == 0) ≡ b → (old.pending.items ≡ [] → ⊥) → (length old.pending.items == 0) ≡ false
  not_idle true old is never = absurd (never (nil_from_length old.pending.items (eqb-true (length old.pending.items) 0 is)))
  not_idle false old is never = is

  uncommitted : (why : CommitFault) (old new : Session D g) (r : Result ℕ CommitFault) → r ≡ Err why → (why ≡ Failed) ⊎ (why ≡ Device) → Commits old r new → Accepts [] old new → Says commit (ends false new) (NotSaved why) old new
  uncommitted Failed old new r is errors commits accepts =
      let view = at_err r _ Failed is commits.err in
      let was = commits.refused.0 is in
      says_unacknowledged commit Failed old new accepts (ap (λ (v : View). v.recovered.confirmed) view)
      (λ f suits. refused_by old.failed (length old.pending.items == 0) f (view_of old) (view_of new) was (marked (view_of old) (view_of new) was view))
  uncommitted Device old new r is errors commits accepts =
      let view = at_err r _ Device is commits.err in
      let fails : new.failed ≡ true = ap (λ (v : View). v.failed) view in
      let runs = not_failed old.failed old refl (λ had. let no = same_fault r Device Failed is (commits.refused.1 had) in absurd (cc)) in
      let some = not_idle (length old.pending.items == 0) old refl (λ none. ok_not_err r Device is (commits.none_pending runs none)) in
      says_unacknowledged commit Device old new accepts (ap (λ (v : View). v.recovered.confirmed) view)
      (λ f suits. torn_by old.failed (length old.pending.items == 0) f (view_of old) (view_of new) runs some (suits fails) view)
  uncommitted GenerationsUsed old new r is errors commits accepts = absurd (⊎_elim (λ (e : GenerationsUsed ≡ Failed). absurd (cc)) (λ (e : GenerationsUsed ≡ Device). absurd (cc)) errors)

  pub says_uncommitted : (old new : Session D g) (r : Result ℕ CommitFault) (why : CommitFault) → r ≡ Err why → Commits old r new → Accepts [] old new → Says commit (ends false new) (NotSaved why) old new
  says_uncommitted old new r why is commits accepts = uncommitted why old new r is (fault_at r _ why is commits.errors) commits accepts

  unsaved : (o : Option CommitFault) (why : CommitFault) (old new : Session D g) (r : Result ℕ CommitFault) → checkpoint_refusal (view_of old) ≡ o → r ≡ Err why → Checkpoints old r new
      → MatchOption o (IfErr r (λ e. e ≡ Device)) (λ f. r ≡ Err f) → MatchOption o (Unit {0}) (λ _. new ≡ old) → Accepts [] old new → Says checkpoint (ends false new) (NotSaved why) old new
  unsaved None why old new r at is k refused unchanged accepts =
      let device = fault_at r _ why is refused in
      let view = k.err (is ∙ ap (λ x. Err x) device) in
      let fails : new.failed ≡ true = ap (λ (v : View). v.failed) view in
      subst (λ w. Says checkpoint (ends false new) (NotSaved w) old new) (sym device)
      (says_unacknowledged checkpoint Device old new accepts (ap (λ (v : View). v.recovered.confirmed) view)
      (λ f suits. ap (λ o. saved o f (view_of old)) at ∙ device_by f (view_of old) (checkpointed (view_of old)) (view_of new) (suits fails) view))
  unsaved (Some x) why old new r at is k refused unchanged accepts =
      let same = same_fault r why x is refused in
      subst (λ (s : Session D g). Says checkpoint (ends false s) (NotSaved why) old s) (sym unchanged)
      (says_still checkpoint (NotSaved why) old tt refl refl refl (λ f. ap (λ o. saved o f (view_of old)) at ∙ ap (λ w. refused_commit w f (view_of old)) (sym same)))

  pub says_unsaved : (old new : Session D g) (r : Result ℕ CommitFault) (why : CommitFault) → r ≡ Err why → Checkpoints old r new → Accepts [] old new → Says checkpoint (ends false new) (NotSaved why) old new
  says_unsaved old new r why is k accepts = unsaved (checkpoint_refusal (view_of old)) why old new r refl is k k.refused k.unchanged accepts

  -- an ack, and the output behind it
  pub acknowledged_then : {text : Reply → List ℕ} (t : Fate → View → Transcript) (r : Reply) (a b c : Option (List ℕ)) (s m u : Session D g) → Says t (λ f. output f (view_of m)) r s m → Tells text a b (r ∷ []) [] → Answers output false (Tells text b c) m u → Answers t false (Tells text a c) s u
  acknowledged_then {text} t r a b c s m u says told second = acknowledged_by (said t (λ f. output f (view_of m)) r a b s m says told) second
    where
      acknowledged_by : Responds (λ (_ : Unit {0}) f. t f (view_of s)) (λ _ f. output f (view_of m)) (Tells text a b) s m → Answers output false (Tells text b c) m u → Answers t false (Tells text a c) s u
      acknowledged_by first last = responds_then (λ (i : Unit {0}). i) (λ _ f. t f (view_of s)) (λ _ f. t f (view_of s)) (λ _ f. output f (view_of m)) (λ _ f. ends false u f) a b c s m u (λ _ f. refl) first last

  pub acknowledged_broken : {text : Reply → List ℕ} (t : Fate → View → Transcript) (r : Reply) (a b c : Option (List ℕ)) (s m u : Session D g) → Says t (λ f. output f (view_of m)) r s m → Tells text a b (r ∷ []) [] → BreaksOff output (Tells text b c) m u → BreaksOff t (Tells text a c) s u
  acknowledged_broken t r a b c s m u says told second = interrupted_then (λ (i : Unit {0}). i) (λ _ f. t f (view_of s)) (λ _ f. t f (view_of s)) (λ _ f. output f (view_of m)) a b c s m u (λ _ f. refl)
      (said t (λ f. output f (view_of m)) r a b s m says told) second

  -- OUTPUT

  -- the released output of a session, by lines, is the plain fold's
  lines_stand : (p : Program) (events : List Event) (old new : Session D g) → new.acknowledged ≡ old.acknowledged → Represents p events old
      → released_output (view_of old) ≡ drop old.progress.confirmed (output_after p (acknowledged_of events old)) → AreOutput p (events ++ []) new (outputs old.progress.confirmed (released_output (view_of old)))
  lines_stand p events old new same reps is =
      let out : List ℕ = output_after p (acknowledged_of events old) in
      let n : ℕ = old.progress.confirmed in
      let within : old.progress.confirmed ≤ length (output_after p (acknowledged_of events old)) = omega (arith, reps.released, old.released_from) in
      let bytes = released_output (view_of old) in
      let here : output_after p (acknowledged_of events old) ≡ take old.progress.confirmed (output_after p (acknowledged_of events old)) ++ (released_output (view_of old) ++ []) =
      sym (take-append-drop n out) ∙ ap (λ (l : List ℕ). take n out ++ l) (sym is ∙ sym (append-nil bytes)) in
      let all : acknowledged_of (events ++ []) new ≡ acknowledged_of events old = ap (λ (l : List Event). take new.acknowledged l) (append-nil events) ∙ ap (λ k. take k events) same in
      subst (λ (l : List Event). AllByRecursion (StandsIn (output_after p l)) (outs_of (outputs old.progress.confirmed (released_output (view_of old))))) (sym all)
      (stands-outputs n bytes out (take n out) [] (length-take-le n out within) here)

  pub answers_output : {text : Reply → List ℕ} (a b : Option (List ℕ)) (old mid new : Session D g) → view_of mid ≡ view_of old → mid.disk ≡ old.disk → Accepts [] mid new → view_of new ≡ confirmed_to (view_of mid) old.released
      → old.progress.confirmed + length (released_output (view_of old)) ≡ old.released
      → ((p : Program) (events : List Event) → Represents p events old → released_output (view_of old) ≡ drop old.progress.confirmed (output_after p (acknowledged_of events old)))
      → ((p : Program) (events : List Event) → Represents p events mid → Represents p events new)
      → Tells text a b (outputs old.progress.confirmed (released_output (view_of old))) [] → Answers output false (Tells text a b) old new
  answers_output a b old mid new kept disk accepts view size out represents told =
      let n : ℕ = old.progress.confirmed in
      let bytes = released_output (view_of old) in
      let all = view ∙ ap (λ (v : View). confirmed_to v old.released) kept in
      let rs : List Reply = outputs old.progress.confirmed (released_output (view_of old)) in
      record {
        piece = record {
          replies = outputs old.progress.confirmed (released_output (view_of old));
          accepted = [];
          tells = told;
          answered = ap oks_of (append-nil rs) ∙ oks-outputs n bytes;
          acks = subst (AllByRecursion (λ k. k ≤ new.acknowledged)) (sym (ap acks_of (append-nil rs) ∙ acks-outputs n bytes)) tt;
          confirmed = (let c : new.progress.confirmed ≡ old.released = ap (λ (v : View). v.recovered.confirmed) all in let shown = shown-outputs n bytes in omega (arith, c, size, shown));
          accepts = accepts_more [] [] old mid new (accepts_kept old mid kept disk) accepts;
          outs = λ honest p events reps. subst (AreOutput p (events ++ []) new) (sym (append-nil rs)) (lines_stand p events old new (ap (λ (v : View). v.acknowledged) all) reps (out p events reps));
          before = λ f. f;
          kept = λ f. refl;
          idle = λ was f. refl;
        };
        goes_on = λ i f suits. output_is f (view_of old) (view_of new) all;
        taken = λ honest p events from taken has. subst (λ (l : List ℕ). HasTaken p (events ++ []) from (taken ++ l) new) (sym (shown_in-outputs n bytes)) (taken_output p events from taken bytes old mid new kept disk view represents out has);
      }

  pub broken_output : {text : Reply → List ℕ} (a b : Option (List ℕ)) (old new : Session D g) → view_of new ≡ view_of old → new.disk ≡ old.disk
      → ((p : Program) (events : List Event) → Represents p events old → released_output (view_of old) ≡ drop old.progress.confirmed (output_after p (acknowledged_of events old)))
      → TellsPart text a b (outputs old.progress.confirmed (released_output (view_of old))) → BreaksOff output (Tells text a b) old new
  broken_output a b old new kept disk out s =
      let n : ℕ = old.progress.confirmed in
      let bytes = released_output (view_of old) in
      record {
        broken = s.broken;
        one = s.one;
        piece = record {
          replies = s.replies;
          accepted = [];
          tells = s.tells;
          answered = no_oks (s.replies ++ s.broken) (outputs n bytes) s.among (oks-outputs n bytes);
          acks = subst (AllByRecursion (λ k. k ≤ new.acknowledged)) (sym (no_acks (s.replies ++ s.broken) (outputs n bytes) s.among (acks-outputs n bytes))) tt;
          confirmed = (let c : new.progress.confirmed ≡ old.progress.confirmed = ap (λ (v : View). v.recovered.confirmed) kept in let behind = shown_behind n bytes s.replies s.broken s.among in omega (arith, c, behind));
          accepts = accepts_kept old new kept disk;
          outs = λ honest p events reps. fewer_outs (StandsIn (output_after p (acknowledged_of (events ++ []) new))) (s.replies ++ s.broken) (outputs n bytes) s.among (lines_stand p events old new (ap (λ (v : View). v.acknowledged) kept) reps (out p events reps));
          before = λ f. f;
          kept = λ f. refl;
          idle = λ was f. refl;
        };
        among = λ i f suits. s.among;
        some = λ i f suits. nothing_begins [];
      }
