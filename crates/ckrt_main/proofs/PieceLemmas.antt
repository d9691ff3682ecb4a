-- Pieces, one after another.
use Rattle.std.proofs.Common.{◌≡◌, ℕ, ◌+◌, ◌≤◌, length, length-append, Bool, false, List, [], ◌++◌, Option, refl, sym, ◌∙◌, ap, subst, arith, append_assoc, append-nil}
use Rattle.std.specs.List.{AllByRecursion}
use Rattle.ckrt_disk.specs.declared.disk.Disk.{Ghosts}
use Rattle.ckrt_events.specs.declared.event.Event.{Event}
use Rattle.ckrt_stored.specs.Programs.{Program, output_after}
use Rattle.ckrt_recovery.specs.declared.session.Session.{Session}
use Rattle.ckrt_recovery.specs.Between.{StandsIn}
use Rattle.ckrt_disk.specs.Lists.{IsBeginningOf}
use Rattle.ckrt_main.specs.Replies.{Reply, shown_in, oks_of, acks_of, outs_of}
use Rattle.ckrt_recovery.specs.Represents.{Represents, acknowledged_of}
use Rattle.ckrt_recovery.specs.View.{View, view_of}
use Rattle.ckrt_main.specs.Transcript.{Fate, Transcript, preceded_by, unless_quit, followed_by}
use Rattle.ckrt_main.specs.Pieces.{Tells, Piece, Suits, Responds, Interrupted, ends, Answers, BreaksOff}
use Rattle.ckrt_main.specs.Outputs.{AreOutput}
use Rattle.ckrt_main.proofs.TellLemmas.{tells_more, tells_nothing}
use Rattle.ckrt_main.proofs.TakenLemmas.{taken_more, taken_nothing}
use Rattle.ckrt_main.proofs.ReplyLemmas.{all_weaker, all_more, oks-append, acks-append, outs-append, shown_more, stands_longer}
use Rattle.ckrt_disk.proofs.ListLemmas.{begins_behind, begins_more, taken_begins}
use Rattle.ckrt_recovery.proofs.AcceptLemmas.{accepts_kept, accepts_more, output_begins}

acks_more : (n m : ℕ) (xs ys zs : List Reply) → n ≤ m → AllByRecursion (λ k. k ≤ n) (acks_of (xs ++ [])) → AllByRecursion (λ k. k ≤ m) (acks_of (ys ++ zs)) → AllByRecursion (λ k. k ≤ m) (acks_of ((xs ++ ys) ++ zs))
acks_more n m xs ys zs le first second =
    let here : AllByRecursion (λ k. k ≤ n) (acks_of xs) = subst (λ (l : List Reply). AllByRecursion (λ k. k ≤ n) (acks_of l)) (append-nil xs) first in
    subst (AllByRecursion (λ k. k ≤ m)) (sym (ap acks_of (append_assoc xs ys zs) ∙ acks-append xs (ys ++ zs)))
    (all_more (λ k. k ≤ m) (acks_of xs) (acks_of (ys ++ zs)) (all_weaker (λ k. k ≤ n) (λ k. k ≤ m) (λ k h. omega (arith, h, le)) (acks_of xs) here) second)

oks_more : (n m k : ℕ) (xs ys zs : List Reply) → oks_of (xs ++ []) ≡ n → oks_of (ys ++ zs) ≡ m → k ≡ n + m → oks_of ((xs ++ ys) ++ zs) ≡ k
oks_more n m k xs ys zs first second sum =
    let here : oks_of xs ≡ n = ap oks_of (sym (append-nil xs)) ∙ first in
    let all : oks_of ((xs ++ ys) ++ zs) ≡ oks_of xs + oks_of (ys ++ zs) = ap oks_of (append_assoc xs ys zs) ∙ oks-append xs (ys ++ zs) in
    omega (arith, here, all, second, sum)

outs_more : (out all : List ℕ) (xs ys zs : List Reply) → IsBeginningOf out all → AllByRecursion (StandsIn out) (outs_of (xs ++ [])) → AllByRecursion (StandsIn all) (outs_of (ys ++ zs)) → AllByRecursion (StandsIn all) (outs_of ((xs ++ ys) ++ zs))
outs_more out all xs ys zs longer first second =
    let here : AllByRecursion (StandsIn out) (outs_of xs) = subst (λ (l : List Reply). AllByRecursion (StandsIn out) (outs_of l)) (append-nil xs) first in
    subst (AllByRecursion (StandsIn all)) (sym (ap outs_of (append_assoc xs ys zs) ∙ outs-append xs (ys ++ zs)))
    (all_more (StandsIn all) (outs_of xs) (outs_of (ys ++ zs)) (all_weaker (StandsIn out) (StandsIn all) (stands_longer out all longer) (outs_of xs) here) second)

pub preceded-preceded : (x : List Reply) (es : List Event) (y : List Reply) (fs : List Event) (t : Transcript) → preceded_by x es (preceded_by y fs t) ≡ preceded_by (x ++ y) (es ++ fs) t
preceded-preceded x es y fs t = rw (append_assoc x y t.replies, append_assoc es fs t.events) refl

module _ {D : Type 0} {g : Ghosts D} where
  outs_since : (p : Program) (events xs ys : List Event) (m u : Session D g) (first second broken : List Reply) → Represents p (events ++ xs) m → m.acknowledged ≤ u.acknowledged
      → AreOutput p (events ++ xs) m (first ++ []) → AreOutput p ((events ++ xs) ++ ys) u (second ++ broken) → AreOutput p (events ++ (xs ++ ys)) u ((first ++ second) ++ broken)
  outs_since p events xs ys m u first second broken reps le here there =
      let longer = output_begins p (acknowledged_of (events ++ xs) m) (acknowledged_of ((events ++ xs) ++ ys) u) (taken_begins m.acknowledged u.acknowledged (events ++ xs) ys reps.acknowledged le) in
      subst (λ (l : List Event). AreOutput p l u ((first ++ second) ++ broken)) (append_assoc events xs ys)
      (outs_more (output_after p (acknowledged_of (events ++ xs) m)) (output_after p (acknowledged_of ((events ++ xs) ++ ys) u)) first second broken longer here there)

  followed : (rs : List Reply) (es : List Event) (quit : Bool) (m : Session D g) (f : Fate) (more : Fate → View → Transcript) → followed_by (preceded_by rs es (ends quit m f)) more ≡ preceded_by rs es (unless_quit quit f (view_of m) more)
  followed rs es quit m f more = rw (append-nil rs, append-nil es) refl

module _ {D : Type 0} {g : Ghosts D} {text : Reply → List ℕ} where
  pub piece_more : (a b c : Option (List ℕ)) (s m u : Session D g) (broken : List Reply) → Piece (Tells text a b) s m [] → Piece (Tells text b c) m u broken → Piece (Tells text a c) s u broken
  piece_more a b c s m u broken first second = record {
    replies = first.replies ++ second.replies;
    accepted = first.accepted ++ second.accepted;
    tells = tells_more text a b c first.replies second.replies broken first.tells second.tells;
    acks = acks_more m.acknowledged u.acknowledged first.replies second.replies broken second.accepts.acknowledged first.acks second.acks;
    answered = oks_more (length first.accepted) (length second.accepted) (length (first.accepted ++ second.accepted)) first.replies second.replies broken first.answered second.answered (length-append first.accepted second.accepted);
    confirmed = shown_more s.progress.confirmed m.progress.confirmed u.progress.confirmed first.replies second.replies first.confirmed second.confirmed;
    accepts = accepts_more first.accepted second.accepted s m u first.accepts second.accepts;
    outs = λ honest p events reps.
        let mid = second.accepts.honest honest in
        let there = first.accepts.represents mid p events reps in
        outs_since p events first.accepted second.accepted m u first.replies second.replies broken there second.accepts.acknowledged (first.outs mid p events reps) (second.outs honest p (events ++ first.accepted) there);
    before = λ f. first.before (second.before f);
    kept = λ f. first.kept (second.before f) ∙ second.kept f;
    idle = λ was f. first.idle was (second.before f) ∙ second.idle (first.accepts.after_failure was).1 f;
  }

  suits_before : (b c : Option (List ℕ)) (m u : Session D g) (broken : List Reply) (second : Piece (Tells text b c) m u broken) (f : Fate) → Suits f u → Suits (second.before f) m
  suits_before b c m u broken second f suits was = second.idle was f ∙ suits (second.accepts.after_failure was).1

  -- a whole piece, and what the transcript goes on with
  pub responds_then : {I J : Type 0} (h : J → I) (all : J → Fate → Transcript) (t1 t2 : I → Fate → Transcript) (rest : J → Fate → Transcript) (a b c : Option (List ℕ)) (s m u : Session D g)
      → ((j : J) (f : Fate) → all j f ≡ t1 (h j) f) → Responds t1 t2 (Tells text a b) s m → Responds (λ j f. t2 (h j) f) rest (Tells text b c) m u → Responds all rest (Tells text a c) s u
  unfolding piece_more
  responds_then h all t1 t2 rest a b c s m u same first second = record {
    piece = piece_more a b c s m u [] first.piece second.piece;
    goes_on = λ j f suits. same j (first.piece.before (second.piece.before f)) ∙ (first.goes_on (h j) (second.piece.before f) (suits_before b c m u [] second.piece f suits)
        ∙ (ap (preceded_by first.piece.replies first.piece.accepted) (second.goes_on j f suits) ∙ preceded-preceded first.piece.replies first.piece.accepted second.piece.replies second.piece.accepted (rest j f)));
    taken = λ honest p events from bytes has.
        let mid = first.taken (second.piece.accepts.honest honest) p events from bytes has in
        taken_more p events first.piece.accepted second.piece.accepted from bytes first.piece.replies second.piece.replies u (second.taken honest p (events ++ first.piece.accepted) from (bytes ++ shown_in first.piece.replies) mid);
  }

  pub interrupted_then : {I J : Type 0} (h : J → I) (all : J → Fate → Transcript) (t1 t2 : I → Fate → Transcript) (a b c : Option (List ℕ)) (s m u : Session D g)
      → ((j : J) (f : Fate) → all j f ≡ t1 (h j) f) → Responds t1 t2 (Tells text a b) s m → Interrupted (λ j f. t2 (h j) f) (Tells text b c) m u → Interrupted all (Tells text a c) s u
  unfolding piece_more
  interrupted_then h all t1 t2 a b c s m u same first second =
      let xs = first.piece.replies in
      let ys = second.piece.replies in
      record {
        broken = second.broken;
        one = second.one;
        piece = piece_more a b c s m u second.broken first.piece second.piece;
        among = λ j f suits.
            let f2 = second.piece.before f in
            let e = same j (first.piece.before f2) ∙ first.goes_on (h j) f2 (suits_before b c m u second.broken second.piece f suits) in
            subst (λ (t : Transcript). IsBeginningOf ((first.piece.replies ++ second.piece.replies) ++ second.broken) t.replies) (sym e)
            (subst (λ (l : List Reply). IsBeginningOf l (first.piece.replies ++ (t2 (h j) (second.piece.before f)).replies)) (sym (append_assoc xs ys second.broken)) (begins_behind xs (ys ++ second.broken) (t2 (h j) f2).replies (second.among j f suits)));
        some = λ j f suits.
            let f2 = second.piece.before f in
            let e = same j (first.piece.before f2) ∙ first.goes_on (h j) f2 (suits_before b c m u second.broken second.piece f suits) in
            subst (λ (t : Transcript). IsBeginningOf (first.piece.accepted ++ second.piece.accepted) t.events) (sym e)
            (begins_behind first.piece.accepted second.piece.accepted (t2 (h j) f2).events (second.some j f suits));
      }

  -- the same piece, of transcripts that are the same
  pub responds_as : {I J : Type 0} (h : J → I) (all rest : J → Fate → Transcript) (t1 t2 : I → Fate → Transcript) (a b : Option (List ℕ)) (s u : Session D g)
      → ((j : J) (f : Fate) → all j f ≡ t1 (h j) f) → ((j : J) (f : Fate) → t2 (h j) f ≡ rest j f) → Responds t1 t2 (Tells text a b) s u → Responds all rest (Tells text a b) s u
  responds_as h all rest t1 t2 a b s u same end r = record {
    piece = r.piece;
    goes_on = λ j f suits. same j (r.piece.before f) ∙ (r.goes_on (h j) f suits ∙ ap (preceded_by r.piece.replies r.piece.accepted) (end j f));
    taken = r.taken;
  }

  pub interrupted_as : {I J : Type 0} (h : J → I) (all : J → Fate → Transcript) (t1 : I → Fate → Transcript) (a b : Option (List ℕ)) (s u : Session D g)
      → ((j : J) (f : Fate) → all j f ≡ t1 (h j) f) → Interrupted t1 (Tells text a b) s u → Interrupted all (Tells text a b) s u
  interrupted_as h all t1 a b s u same r = record {
    broken = r.broken;
    one = r.one;
    piece = r.piece;
    among = λ j f suits. subst (λ (t : Transcript). IsBeginningOf (r.piece.replies ++ r.broken) t.replies) (sym (same j (r.piece.before f))) (r.among (h j) f suits);
    some = λ j f suits. subst (λ (t : Transcript). IsBeginningOf r.piece.accepted t.events) (sym (same j (r.piece.before f))) (r.some (h j) f suits);
  }

  -- nothing was written, and the transcripts go on as they are
  pub silent : {I : Type 0} (all rest : I → Fate → Transcript) (a : Option (List ℕ)) (s : Session D g) → ((i : I) (f : Fate) → all i f ≡ rest i f) → Responds all rest (Tells text a a) s s
  silent all rest a s same = record {
    piece = record {
      replies = [];
      accepted = [];
      tells = tells_nothing text a;
      acks = tt;
      confirmed = omega arith;
      answered = refl;
      accepts = accepts_kept s s refl refl;
      outs = λ honest p events reps. tt;
      before = λ f. f;
      kept = λ f. refl;
      idle = λ was f. refl;
    };
    goes_on = λ i f suits. same i f;
    taken = λ honest p events from bytes has. taken_nothing p events from bytes s has;
  }

  -- WHAT FOLLOWS A COMMAND

  pub answers_followed : {I : Type 0} (t : Fate → View → Transcript) (more : I → Fate → View → Transcript) (quit : Bool) (a b : Option (List ℕ)) (s m : Session D g)
      → Answers t quit (Tells text a b) s m → Responds (λ (i : I) f. followed_by (t f (view_of s)) (more i)) (λ (i : I) f. unless_quit quit f (view_of m) (more i)) (Tells text a b) s m
  answers_followed t more quit a b s m h = record {
    piece = h.piece;
    goes_on = λ i f suits. ap (λ (x : Transcript). followed_by x (more i)) (h.goes_on tt f suits) ∙ followed h.piece.replies h.piece.accepted quit m f (more i);
    taken = h.taken;
  }

  pub broken_followed : {I : Type 0} (t : Fate → View → Transcript) (more : I → Fate → View → Transcript) (a b : Option (List ℕ)) (s m : Session D g)
      → BreaksOff t (Tells text a b) s m → Interrupted (λ (i : I) f. followed_by (t f (view_of s)) (more i)) (Tells text a b) s m
  broken_followed t more a b s m h = record {
    broken = h.broken;
    one = h.one;
    piece = h.piece;
    among = λ i f suits. let x : Transcript = t (h.piece.before f) (view_of s) in begins_more (h.piece.replies ++ h.broken) x.replies (unless_quit x.quit x.fate x.view (more i)).replies (h.among tt f suits);
    some = λ i f suits. let x : Transcript = t (h.piece.before f) (view_of s) in begins_more h.piece.accepted x.events (unless_quit x.quit x.fate x.view (more i)).events (h.some tt f suits);
  }

  -- a command's answer, and then another's
  pub answers_then : (t more : Fate → View → Transcript) (quit : Bool) (a b c : Option (List ℕ)) (s m u : Session D g) → Answers t false (Tells text a b) s m → Answers more quit (Tells text b c) m u → Answers (λ f v. followed_by (t f v) more) quit (Tells text a c) s u
  answers_then t more quit a b c s m u first second = responds_then (λ (i : Unit {0}). i) (λ _ f. followed_by (t f (view_of s)) more) (λ _ f. followed_by (t f (view_of s)) more) (λ _ f. unless_quit false f (view_of m) more) (λ _ f. ends quit u f) a b c s m u (λ _ f. refl)
      (answers_followed t (λ (_ : Unit {0}). more) false a b s m first) second

  pub broken_then : (t more : Fate → View → Transcript) (a b c : Option (List ℕ)) (s m u : Session D g) → Answers t false (Tells text a b) s m → BreaksOff more (Tells text b c) m u → BreaksOff (λ f v. followed_by (t f v) more) (Tells text a c) s u
  broken_then t more a b c s m u first second = interrupted_then (λ (i : Unit {0}). i) (λ _ f. followed_by (t f (view_of s)) more) (λ _ f. followed_by (t f (view_of s)) more) (λ _ f. unless_quit false f (view_of m) more) a b c s m u (λ _ f. refl)
      (answers_followed t (λ (_ : Unit {0}). more) false a b s m first) second
