-- Parts of a life, one after another.
use Rattle.std.proofs.Common.{◌≡◌, ◌⊎◌, inl, inr, ⊎_elim, ℕ, zero, ◌<◌, Bool, true, false, List, [], ◌++◌, Some, None, Ok, refl, sym, ◌∙◌, ap, subst, arith, append_assoc, append-nil}
use Rattle.std.specs.Prelude.{is_none}
use Rattle.ckrt_disk.specs.Disk.{HasFailed}
use Rattle.ckrt_disk.specs.declared.disk.Disk.{Ghosts}
use Rattle.ckrt_events.specs.declared.command.Command.{Command}
use Rattle.ckrt_events.specs.declared.event.Event.{Event}
use Rattle.ckrt_recovery.specs.declared.session.Session.{Session}
use Rattle.ckrt_disk.specs.Lists.{IsBeginningOf}
use Rattle.ckrt_recovery.specs.View.{View, view_of}
use Rattle.ckrt_main.specs.Pieces.{Tells, Answers, HasTaken, ends}
use Rattle.ckrt_main.specs.Replies.{Reply, output_in, shown_in}
use Rattle.ckrt_main.specs.Transcript.{Fate, Transcript, preceded_by, unless_quit, followed_by, output, respond}
use Rattle.ckrt_disk.proofs.ListLemmas.{begins_behind, begins_more, nothing_begins}
use Rattle.ckrt_main.proofs.TakenLemmas.{no_more, taken_still}
use Rattle.ckrt_main.proofs.TellLemmas.{told_whole}
use Rattle.ckrt_main.specs.LifePieces.{IsConfirmed, IsWhole, Does}
use Rattle.ckrt_main.proofs.TranscriptLemmas.{IsAllConfirmed, confirmed_respond, quits_alike}

-- a transcript goes on where it doesn't quit
pub goes_on_with : (t : Transcript) (more : Fate → View → Transcript) → t.quit ≡ false → followed_by t more ≡ preceded_by t.replies t.events (more t.fate t.view)
goes_on_with t more e = ap (λ (q : Bool). preceded_by t.replies t.events (unless_quit q t.fate t.view more)) e

-- what follows where no device failed
follows : (t : Transcript) (more : Fate → View → Transcript) (xs : List Event) (v : View) → IsWhole t xs v → more t.fate t.view ≡ more None v
follows t more xs v is = ap (λ (f : Fate). more f t.view) is.fate ∙ ap (λ (w : View). more None w) (sym is.view)

joined_events : (t : Transcript) (more : Fate → View → Transcript) (xs : List Event) (v : View) → t.quit ≡ false → IsWhole t xs v → (followed_by t more).events ≡ xs ++ (more None v).events
joined_events t more xs v quit is = ap (λ (w : Transcript). w.events) (goes_on_with t more quit) ∙ (ap (λ (l : List Event). l ++ (more t.fate t.view).events) (sym is.events) ∙ ap (λ (w : Transcript). xs ++ w.events) (follows t more xs v is))

joined_whole : (t : Transcript) (more : Fate → View → Transcript) (xs ys : List Event) (v w : View) → t.quit ≡ false → IsWhole t xs v → IsWhole (more None v) ys w → IsWhole (followed_by t more) (xs ++ ys) w
joined_whole t more xs ys v w quit first second = record {
  events = ap (λ (l : List Event). xs ++ l) second.events ∙ sym (joined_events t more xs v quit first);
  view = second.view ∙ (ap (λ (u : Transcript). u.view) (sym (follows t more xs v first)) ∙ sym (ap (λ (u : Transcript). u.view) (goes_on_with t more quit)));
  fate = ap (λ (u : Transcript). u.fate) (goes_on_with t more quit) ∙ (ap (λ (u : Transcript). u.fate) (follows t more xs v first) ∙ second.fate);
}

-- bytes that were taken are those that replies show
taken_is : (x y : List ℕ) (replies : List Reply) → Tells output_in (Some x) (Some y) replies [] → x ++ shown_in replies ≡ y
taken_is x y replies told = sym (told_whole output_in (Some x) (Some y) replies told)

-- a failure was counted
some_failed : (before now : ℕ) → HasFailed before now → 0 < now
some_failed before now h = ⊎_elim (λ (lt : _). omega (arith, lt)) (λ (le : _). omega (arith, le)) h

no_fate : (f : Fate) → is_none f ≡ true → f ≡ None
no_fate None kept = refl
no_fate (Some n) kept = cc

module _ {D : Type 0} {g : Ghosts D} where
  -- the session is the same
  pub does_nothing : (t : Transcript) (bytes : List ℕ) (s : Session D g) → t.events ≡ [] → t.view ≡ view_of s → t.fate ≡ None → Does t bytes bytes s s
  does_nothing t bytes s events view fate = record {
    accepted = [];
    part = nothing_begins t.events;
    goes_on = λ honest p events from has. taken_still p events [] from bytes s s has refl (no_more p events s has.represents);
    acknowledged = omega arith;
    run = λ _. record { events = sym events; view = sym view; fate = fate };
    after_failure = λ was. (refl, was, refl);
    well = λ is. is;
    failed = λ is. inl is;
    honest = λ is. is;
    named_stop = refl;
  }

  -- WHAT A COMMAND MAKES OF A SESSION, AND OF THE OUTPUT THAT WAS TAKEN

  -- what a command gets where its device fails no call
  unfailed : (t : Fate → View → Transcript) (quit : Bool) (told : List Reply → List Reply → Type 0) (s u : Session D g) → (answers : Answers t quit told s u) → u.failed ≡ false → t None (view_of s) ≡ preceded_by answers.piece.replies answers.piece.accepted (ends quit u None)
  unfailed t quit told s u answers well =
      let before = no_fate (answers.piece.before None) (answers.piece.kept None) in
      ap (λ (f : Fate). t f (view_of s)) (sym before) ∙ answers.goes_on tt None (λ fails. let no : true ≡ false = sym fails ∙ well in absurd (cc))

  -- and whatever fails
  whatever_fails : (t : Fate → View → Transcript) (quit : Bool) (told : List Reply → List Reply → Type 0) (s u : Session D g) → (answers : Answers t quit told s u) → t (answers.piece.before (Some zero)) (view_of s) ≡ preceded_by answers.piece.replies answers.piece.accepted (ends quit u (Some zero))
  whatever_fails t quit told s u answers = answers.goes_on tt (Some zero) (λ fails. refl)

  pub does_answered : (t : Fate → View → Transcript) (quit : Bool) (x y : List ℕ) (s u : Session D g) → ((f : Fate) → IsBeginningOf (t f (view_of s)).events (t None (view_of s)).events) → Answers t quit (Tells output_in (Some x) (Some y)) s u → Does (t None (view_of s)) x y s u
  does_answered t quit x y s u few answers =
      let piece = answers.piece in
      let accepts = answers.piece.accepts in
      record {
        accepted = piece.accepted;
        part = subst (λ (l : List Event). IsBeginningOf l (t None (view_of s)).events) (ap (λ (w : Transcript). w.events) (whatever_fails t quit (Tells output_in (Some x) (Some y)) s u answers) ∙ append-nil piece.accepted) (few (piece.before (Some zero)));
        goes_on = λ honest p events from has. subst (λ (l : List ℕ). HasTaken p (events ++ piece.accepted) from l u) (taken_is x y piece.replies piece.tells) (answers.taken honest p events from x has);
        acknowledged = accepts.acknowledged;
        run = λ well.
            let is = unfailed t quit (Tells output_in (Some x) (Some y)) s u answers well in
            record {
              events = sym (ap (λ (w : Transcript). w.events) is ∙ append-nil piece.accepted);
              view = sym (ap (λ (w : Transcript). w.view) is);
              fate = ap (λ (w : Transcript). w.fate) is;
            };
        after_failure = accepts.after_failure;
        well = λ is. (accepts.well is).0;
        failed = λ is. ⊎_elim (λ (was : _). inl was) (λ (grew : _). inr (some_failed (g.failures s.disk) (g.failures u.disk) grew)) (accepts.failed is);
        honest = accepts.honest;
        named_stop = accepts.named_stop;
      }

  -- whether a command is a quit
  pub quit_answered : (command : Command) (quit : Bool) (told : List Reply → List Reply → Type 0) (s u : Session D g) → Answers (respond (Ok command)) quit told s u → quit ≡ (respond (Ok command) None (view_of s)).quit
  quit_answered command quit told s u answers =
      sym (ap (λ (w : Transcript). w.quit) (whatever_fails (respond (Ok command)) quit told s u answers)) ∙ quits_alike command (answers.piece.before (Some zero)) None (view_of s) (view_of s)

  -- a command leaves no released output where none was
  pub confirmed_answered : (command : Command) (quit : Bool) (told : List Reply → List Reply → Type 0) (s u : Session D g) → Answers (respond (Ok command)) quit told s u → IsConfirmed s → IsConfirmed u
  confirmed_answered command quit told s u answers was =
      subst (λ (v : View). IsAllConfirmed v) (ap (λ (w : Transcript). w.view) (whatever_fails (respond (Ok command)) quit told s u answers)) (confirmed_respond command (answers.piece.before (Some zero)) (view_of s) was)

  pub output_answered : (told : List Reply → List Reply → Type 0) (s u : Session D g) → Answers output false told s u → IsConfirmed u
  output_answered told s u answers = subst (λ (v : View). IsAllConfirmed v) (ap (λ (w : Transcript). w.view) (whatever_fails output false told s u answers)) refl

  -- ONE PART AFTER ANOTHER

  -- a beginning of the events, and then one of those that follow
  part_at : (b : Bool) (xs ys all : List Event) (t : Transcript) (x y : List ℕ) (m u : Session D g) → m.failed ≡ b → (second : Does t x y m u) → second.accepted ≡ ys → IsBeginningOf xs all → (m.failed ≡ false → (rest : List Event) × (all ≡ xs ++ rest) × IsBeginningOf ys rest) → IsBeginningOf (xs ++ ys) all
  part_at true xs ys all t x y m u is second these part next =
      let none : ys ≡ [] = sym these ∙ (second.after_failure is).0 in
      let same : xs ≡ xs ++ ys = sym (append-nil xs) ∙ ap (λ (l : List Event). xs ++ l) (sym none) in
      subst (λ (l : List Event). IsBeginningOf l all) same part
  part_at false xs ys all t x y m u is second these part next =
      let k = next is in
      subst (λ (l : List Event). IsBeginningOf (xs ++ ys) l) (sym k.1) (begins_behind xs ys k.0 k.2)

  failed_more : (b : Bool) (t r : Transcript) (x y z : List ℕ) (s m u : Session D g) → m.failed ≡ b → Does t x y s m → Does r y z m u → u.failed ≡ true → (s.failed ≡ true) ⊎ (0 < g.failures u.disk)
  failed_more true t r x y z s m u is first second fails = ⊎_elim (λ (was : _). inl was) (λ (grew : _). inr (subst (λ d. 0 < g.failures d) (sym (second.after_failure is).2) grew)) (first.failed is)
  failed_more false t r x y z s m u is first second fails = ⊎_elim (λ (was : _). let no : true ≡ false = sym was ∙ is in absurd (cc)) (λ (grew : _). inr grew) (second.failed fails)

  pub does_more : (t : Transcript) (more : Fate → View → Transcript) (x y z : List ℕ) (s m u : Session D g) → t.quit ≡ false → Does t x y s m → Does (more None (view_of m)) y z m u → Does (followed_by t more) x z s u
  does_more t more x y z s m u quit first second = record {
    accepted = first.accepted ++ second.accepted;
    part = part_at m.failed first.accepted second.accepted (followed_by t more).events (more None (view_of m)) y z m u refl second refl
        (begins_more first.accepted t.events (unless_quit t.quit t.fate t.view more).events first.part)
        (λ well. ((more None (view_of m)).events, joined_events t more first.accepted (view_of m) quit (first.run well), second.part));
    goes_on = λ honest p events from has. subst (λ (l : List Event). HasTaken p l from z u) (append_assoc events first.accepted second.accepted) (second.goes_on honest p (events ++ first.accepted) from (first.goes_on (second.honest honest) p events from has));
    acknowledged = omega (arith, first.acknowledged, second.acknowledged);
    run = λ well. joined_whole t more first.accepted second.accepted (view_of m) (view_of u) quit (first.run (second.well well)) (second.run well);
    after_failure = λ was.
        let mid = first.after_failure was in
        let end = second.after_failure mid.1 in
        (ap (λ (l : List Event). l ++ second.accepted) mid.0 ∙ end.0, end.1, end.2 ∙ mid.2);
    well = λ is. first.well (second.well is);
    failed = failed_more m.failed t (more None (view_of m)) x y z s m u refl first second;
    honest = λ is. first.honest (second.honest is);
    named_stop = second.named_stop ∙ first.named_stop;
  }
