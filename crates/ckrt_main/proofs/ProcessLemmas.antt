-- Lines as a session processes them, byte by byte, and what a whole service leaves.
use Rattle.std.proofs.Common.{◌≡◌, ◌≢◌, arith, ◌↔◌, ◌⊎◌, ⊎_elim, ℕ, zero, Bool, true, false, List, [], ◌∷◌, ◌++◌, length, Option, Some, None, refl, sym, ◌∙◌, ap, subst, append_assoc, append-nil, inl, inr}
use Rattle.std.specs.Prelude.{◌==◌, is_none}
use Rattle.std.specs.Str.Lines.{lines, strip_carriage_return}
use Rattle.std.specs.Io.KnownBytes.{Appends, Consumes, IsAtEnd, Keeps}
use Rattle.ckrt_disk.specs.Disk.{IsImage, HasFailed}
use Rattle.ckrt_disk.specs.declared.disk.Disk.{Ghosts}
use Rattle.ckrt_events.specs.declared.event.Event.{Event}
use Rattle.ckrt_events.specs.Line.{command_of}
use Rattle.ckrt_recovery.specs.declared.session.Session.{Session}
use Rattle.ckrt_main.specs.Replies.{Reply, line_of, text_of}
use Rattle.ckrt_recovery.specs.View.{view_of}
use Rattle.ckrt_main.specs.Transcript.{Fate, Transcript, transcript, view_after, unless_quit, followed_by, respond, respond_all, output}
use Rattle.ckrt_main.specs.Service.{Writes, rest_of, lines_behind, is_open, Served, Processed, ProcessedPart, ProcessedSoFar, Processes, Completes}
use Rattle.ckrt_main.specs.Pieces.{Suits, Responds, Interrupted, Answers, BreaksOff, ends}
use Rattle.ckrt_recovery.specs.Accepts.{Accepts}
use Rattle.ckrt_main.proofs.OutputLemmas.{Consumes-append}
use Rattle.ckrt_recovery.proofs.AcceptLemmas.{since_start, still_runs}
use Rattle.ckrt_main.proofs.FateLemmas.{events_of_fate}
use Rattle.ckrt_main.proofs.LineLemmas.{respond-newline, respond-last, respond-full, nothing_more}
use Rattle.ckrt_main.proofs.TellLemmas.{told_whole}
use Rattle.ckrt_main.proofs.PieceLemmas.{responds_then, interrupted_then, responds_as, interrupted_as, silent, answers_followed, broken_followed}
use Rattle.ckrt_disk.proofs.ListLemmas.{begins_through}

pub consumes_nothing : (r : Option (List ℕ)) → Consumes r r []
consumes_nothing None = tt
consumes_nothing (Some s) = refl

pub consumed_kept : (r s t : Option (List ℕ)) (x : List ℕ) → Consumes r s x → Keeps s t → Consumes r t x
consumed_kept None s t x p k = tt
consumed_kept (Some l) None t x p k = absurd p
consumed_kept (Some l) (Some m) None x p k = absurd k
consumed_kept (Some l) (Some m) (Some n) x p k = p ∙ ap (λ (y : List ℕ). x ++ y) (sym k)

pub consumed_at_end : (r s t : Option (List ℕ)) (x : List ℕ) → Consumes r s x → Consumes s t [] → Consumes r t x
consumed_at_end r s t x p q = subst (Consumes r t) (append-nil x) (Consumes-append r s t x [] p q)

-- no byte follows
abbrev from_all : Unit {0} → List ℕ
from_all i = []

-- FATES

-- the fate of a whole service: what is left of it is none, or the commit or checkpoint that failed
abbrev left_of : Bool → Fate
left_of true = Some zero
left_of false = None

some_fate : (f : Fate) → is_none f ≡ false → f ≡ None → ⊥
some_fate None h e = cc
some_fate (Some n) h e = absurd (cc)

no_fate : (f : Fate) → is_none f ≡ true → f ≡ None
no_fate None h = refl
no_fate (Some n) h = cc

module _ {D : Type 0} {g : Ghosts D} where
  left_suits : (b : Bool) (s : Session D g) → s.failed ≡ b → Suits (left_of b) s
  left_suits true s is fails = refl
  left_suits false s is fails = let no : true ≡ false = sym fails ∙ is in absurd (cc)

  fated_by : (b : Bool) (s : Session D g) (before : Fate → Fate) → s.failed ≡ b → ((f : Fate) → is_none (before f) ≡ is_none f) → (before (left_of b) ≡ None) ↔ (s.failed ≡ false)
  fated_by true s before is kept = (λ none. absurd (some_fate (before (Some zero)) (kept (Some zero)) none), λ runs. let no : true ≡ false = sym is ∙ runs in absurd (cc))
  fated_by false s before is kept = (λ none. is, λ runs. no_fate (before None) (kept None))

  -- A LINE FEED, ANOTHER BYTE, NO BYTE

  pub processed_newline : (a b : Option (List ℕ)) (line : List ℕ) (old new : Session D g) (quit : Bool) → is_open line ≡ true
      → Answers (respond (command_of (strip_carriage_return line))) quit (Writes a b) old new → Processed a b line (10 ∷ []) old new [] quit
  processed_newline a b line old new quit o h = responds_as (λ (more : List ℕ). more) (lines_behind old line (10 ∷ [])) (rest_of quit new [])
      (λ more f. followed_by (respond (command_of (strip_carriage_return line)) f (view_of old)) (respond_all (lines more))) (λ more f. unless_quit quit f (view_of new) (respond_all (lines more))) a b old new
      (λ more f. respond-newline f (view_of old) line more o) (λ more f. refl)
      (answers_followed (respond (command_of (strip_carriage_return line))) (λ (more : List ℕ). respond_all (lines more)) quit a b old new h)

  pub processed_newline_part : (a b : Option (List ℕ)) (line : List ℕ) (old new : Session D g) → is_open line ≡ true → BreaksOff (respond (command_of (strip_carriage_return line))) (Writes a b) old new → ProcessedPart a b line (10 ∷ []) old new
  processed_newline_part a b line old new o h = interrupted_as (λ (more : List ℕ). more) (lines_behind old line (10 ∷ []))
      (λ more f. followed_by (respond (command_of (strip_carriage_return line)) f (view_of old)) (respond_all (lines more))) a b old new
      (λ more f. respond-newline f (view_of old) line more o)
      (broken_followed (respond (command_of (strip_carriage_return line))) (λ (more : List ℕ). respond_all (lines more)) a b old new h)

  pub processed_byte : (a : Option (List ℕ)) (line : List ℕ) (b : ℕ) (old : Session D g) → Processed a a line (b ∷ []) old old (line ++ b ∷ []) false
  processed_byte a line b old = silent (lines_behind old line (b ∷ [])) (rest_of false old (line ++ b ∷ [])) a old
      (λ more f. ap (λ (l : List ℕ). respond_all (lines l) f (view_of old)) (sym (append_assoc line (b ∷ []) more)))

  pub processed_full : (a : Option (List ℕ)) (line : List ℕ) (b : ℕ) (old : Session D g) → is_open line ≡ true → length line ≡ 162 → (b == 10) ≡ false → Processed a a line (b ∷ []) old old line false
  processed_full a line b old o h e = silent (lines_behind old line (b ∷ [])) (rest_of false old line) a old (λ more f. respond-full f (view_of old) line b more o (omega (arith, h)) e)

  pub processed_nothing : (a : Option (List ℕ)) (line : List ℕ) (old : Session D g) → Processed a a line [] old old line false
  processed_nothing a line old = silent (lines_behind old line []) (rest_of false old line) a old (λ more f. refl)

  -- BYTES AFTER BYTES

  longer : (old : Session D g) (line bs x more : List ℕ) (f : Fate) → lines_behind old line (bs ++ x) more f ≡ lines_behind old line bs (x ++ more) f
  longer old line bs x more f = ap (λ (l : List ℕ). respond_all (lines (line ++ l)) f (view_of old)) (append_assoc bs x more)

  pub processed_more : (a b c : Option (List ℕ)) (line bs rest x last : List ℕ) (s m u : Session D g) (quit : Bool) → Processed a b line bs s m rest false → Processed b c rest x m u last quit → Processed a c line (bs ++ x) s u last quit
  processed_more a b c line bs rest x last s m u quit first second = responds_then (λ (more : List ℕ). x ++ more) (lines_behind s line (bs ++ x)) (lines_behind s line bs) (rest_of false m rest) (rest_of quit u last) a b c s m u
      (λ more f. longer s line bs x more f) first second

  pub processed_part_more : (a b c : Option (List ℕ)) (line bs rest x : List ℕ) (s m u : Session D g) → Processed a b line bs s m rest false → ProcessedPart b c rest x m u → ProcessedPart a c line (bs ++ x) s u
  processed_part_more a b c line bs rest x s m u first second = interrupted_then (λ (more : List ℕ). x ++ more) (lines_behind s line (bs ++ x)) (lines_behind s line bs) (rest_of false m rest) a b c s m u
      (λ more f. longer s line bs x more f) first second

  -- what follows a line quit
  pub processed_quit : (a b : Option (List ℕ)) (line bs rest x : List ℕ) (s u : Session D g) → Processed a b line bs s u rest true → Processed a b line (bs ++ x) s u rest true
  processed_quit a b line bs rest x s u h = responds_as (λ (more : List ℕ). x ++ more) (lines_behind s line (bs ++ x)) (rest_of true u rest) (lines_behind s line bs) (rest_of true u rest) a b s u
      (λ more f. longer s line bs x more f) (λ more f. refl) h

  pub processed_part_longer : (a b : Option (List ℕ)) (line bs x : List ℕ) (s u : Session D g) → ProcessedPart a b line bs s u → ProcessedPart a b line (bs ++ x) s u
  processed_part_longer a b line bs x s u h = interrupted_as (λ (more : List ℕ). x ++ more) (lines_behind s line (bs ++ x)) (lines_behind s line bs) a b s u (λ more f. longer s line bs x more f) h

  -- THE LAST LINE

  pub answers_last : (a b : Option (List ℕ)) (line : List ℕ) (old new : Session D g) (quit : Bool) → is_open line ≡ true → length line ≢ 0 → Answers (respond (command_of line)) quit (Writes a b) old new → Answers (respond_all (lines line)) quit (Writes a b) old new
  answers_last a b line old new quit o some h = responds_as (λ (i : Unit {0}). i) (λ _ f. respond_all (lines line) f (view_of old)) (λ _ f. ends quit new f)
      (λ _ f. followed_by (respond (command_of line) f (view_of old)) (respond_all [])) (λ _ f. unless_quit quit f (view_of new) (respond_all [])) a b old new
      (λ _ f. respond-last f (view_of old) line o some) (λ _ f. nothing_more quit f (view_of new))
      (answers_followed (respond (command_of line)) (λ (_ : Unit {0}). respond_all []) quit a b old new h)

  pub broken_last : (a b : Option (List ℕ)) (line : List ℕ) (old new : Session D g) → is_open line ≡ true → length line ≢ 0 → BreaksOff (respond (command_of line)) (Writes a b) old new → BreaksOff (respond_all (lines line)) (Writes a b) old new
  broken_last a b line old new o some h = interrupted_as (λ (i : Unit {0}). i) (λ _ f. respond_all (lines line) f (view_of old))
      (λ _ f. followed_by (respond (command_of line) f (view_of old)) (respond_all [])) a b old new
      (λ _ f. respond-last f (view_of old) line o some)
      (broken_followed (respond (command_of line)) (λ (_ : Unit {0}). respond_all []) a b old new h)

  -- ALL BYTES SO FAR

  pub so_far_start : (a b r : Option (List ℕ)) (old new : Session D g) → Answers output false (Writes a b) old new → ProcessedSoFar a b r r old new [] false
  so_far_start a b r old new h = record {
    read = [];
    consumed = consumes_nothing r;
    responds = answers_followed output (λ (more : List ℕ). respond_all (lines more)) false a b old new h;
  }

  further : (old : Session D g) (read x more : List ℕ) (f : Fate) → transcript f (view_of old) ((read ++ x) ++ more) ≡ transcript f (view_of old) (read ++ (x ++ more))
  further old read x more f = ap (λ (l : List ℕ). transcript f (view_of old) l) (append_assoc read x more)

  pub so_far_more : (a b c r s t : Option (List ℕ)) (old mid new : Session D g) (rest x last : List ℕ) (quit : Bool) → ProcessedSoFar a b r s old mid rest false → Consumes s t x → Processed b c rest x mid new last quit → ProcessedSoFar a c r t old new last quit
  so_far_more a b c r s t old mid new rest x last quit first got second =
      let read = first.read in
      record {
        read = first.read ++ x;
        consumed = Consumes-append r s t first.read x first.consumed got;
        responds = responds_then (λ (more : List ℕ). x ++ more) (λ more f. transcript f (view_of old) ((read ++ x) ++ more)) (λ more f. transcript f (view_of old) (read ++ more)) (rest_of false mid rest) (rest_of quit new last) a b c old mid new
            (λ more f. further old read x more f) first.responds second;
      }

  -- a read that failed took nothing
  pub so_far_kept : (a b r s t : Option (List ℕ)) (old new : Session D g) (rest : List ℕ) (quit : Bool) → ProcessedSoFar a b r s old new rest quit → Keeps s t → ProcessedSoFar a b r t old new rest quit
  so_far_kept a b r s t old new rest quit h kept = record { read = h.read; consumed = consumed_kept r s t h.read h.consumed kept; responds = h.responds }

  -- THE END

  no_further : (old : Session D g) (read : List ℕ) (f : Fate) → transcript f (view_of old) read ≡ transcript f (view_of old) (read ++ [])
  no_further old read f = ap (λ (l : List ℕ). transcript f (view_of old) l) (sym (append-nil read))

  -- all was read, and the last line was answered
  pub all_at_end : (a b c r s : Option (List ℕ)) (old mid new : Session D g) (rest : List ℕ) (quit : Bool) (first : ProcessedSoFar a b r s old mid rest false) → Answers (respond_all (lines rest)) quit (Writes b c) mid new
      → Responds (λ (_ : Unit {0}) f. transcript f (view_of old) first.read) (λ _ f. ends quit new f) (Writes a c) old new
  all_at_end a b c r s old mid new rest quit first second =
      let read = first.read in
      responds_then from_all (λ _ f. transcript f (view_of old) read) (λ more f. transcript f (view_of old) (read ++ more)) (rest_of false mid rest) (λ _ f. ends quit new f) a b c old mid new
      (λ _ f. no_further old read f) first.responds
      (responds_as (λ (i : Unit {0}). i) (λ _ f. rest_of false mid rest [] f) (λ _ f. ends quit new f) (λ _ f. respond_all (lines rest) f (view_of mid)) (λ _ f. ends quit new f) b c mid new
      (λ _ f. ap (λ (l : List ℕ). respond_all (lines l) f (view_of mid)) (append-nil rest)) (λ _ f. refl) second)

  pub part_at_end : (a b c r s : Option (List ℕ)) (old mid new : Session D g) (rest : List ℕ) (first : ProcessedSoFar a b r s old mid rest false) → BreaksOff (respond_all (lines rest)) (Writes b c) mid new
      → Interrupted (λ (_ : Unit {0}) f. transcript f (view_of old) first.read) (Writes a c) old new
  part_at_end a b c r s old mid new rest first second =
      let read = first.read in
      interrupted_then from_all (λ _ f. transcript f (view_of old) read) (λ more f. transcript f (view_of old) (read ++ more)) (rest_of false mid rest) a b c old mid new
      (λ _ f. no_further old read f) first.responds
      (interrupted_as (λ (i : Unit {0}). i) (λ _ f. rest_of false mid rest [] f) (λ _ f. respond_all (lines rest) f (view_of mid)) b c mid new
      (λ _ f. ap (λ (l : List ℕ). respond_all (lines l) f (view_of mid)) (append-nil rest)) second)

  -- a line quit ended it
  pub all_at_quit : (a b r s : Option (List ℕ)) (old new : Session D g) (rest : List ℕ) (h : ProcessedSoFar a b r s old new rest true) → Responds (λ (_ : Unit {0}) f. transcript f (view_of old) h.read) (λ _ f. ends true new f) (Writes a b) old new
  all_at_quit a b r s old new rest h = responds_as from_all (λ _ f. transcript f (view_of old) h.read) (λ _ f. ends true new f) (λ more f. transcript f (view_of old) (h.read ++ more)) (rest_of true new rest) a b old new
      (λ _ f. no_further old h.read f) (λ _ f. refl) h.responds

  -- a fault ended it between two pieces
  pub part_so_far : (a b r s : Option (List ℕ)) (old new : Session D g) (rest : List ℕ) (h : ProcessedSoFar a b r s old new rest false) → Interrupted (λ (_ : Unit {0}) f. transcript f (view_of old) h.read) (Writes a b) old new
  part_so_far a b r s old new rest h = record {
    broken = [];
    one = omega arith;
    piece = h.responds.piece;
    among = λ i f suits.
        let e = no_further old h.read (h.responds.piece.before f) ∙ h.responds.goes_on [] f suits in
        ((rest_of false new rest [] f).replies, ap (λ (t : Transcript). t.replies) e ∙ ap (λ (l : List Reply). l ++ (rest_of false new rest [] f).replies) (sym (append-nil h.responds.piece.replies)));
    some = λ i f suits.
        let e = no_further old h.read (h.responds.piece.before f) ∙ h.responds.goes_on [] f suits in
        ((rest_of false new rest [] f).events, ap (λ (t : Transcript). t.events) e);
  }

  -- the output before the first line was broken off
  pub part_at_start : (a b : Option (List ℕ)) (old new : Session D g) → BreaksOff output (Writes a b) old new → Interrupted (λ (_ : Unit {0}) f. transcript f (view_of old) []) (Writes a b) old new
  part_at_start a b old new h = broken_followed output (λ (_ : Unit {0}). respond_all (lines [])) a b old new h

  pub part_more : (a b c r s t : Option (List ℕ)) (old mid new : Session D g) (rest x : List ℕ) (first : ProcessedSoFar a b r s old mid rest false) → Consumes s t x → ProcessedPart b c rest x mid new
      → Interrupted (λ (_ : Unit {0}) f. transcript f (view_of old) (first.read ++ x)) (Writes a c) old new
  part_more a b c r s t old mid new rest x first got second =
      let read = first.read in
      interrupted_as from_all (λ _ f. transcript f (view_of old) (read ++ x)) (λ more f. transcript f (view_of old) ((read ++ x) ++ more)) a c old new
      (λ _ f. no_further old (read ++ x) f)
      (interrupted_then (λ (more : List ℕ). x ++ more) (λ more f. transcript f (view_of old) ((read ++ x) ++ more)) (λ more f. transcript f (view_of old) (read ++ more)) (rest_of false mid rest) a b c old mid new
      (λ more f. further old read x more f) first.responds second)

  -- a whole piece is one that nothing follows
  whole_part : (t : Fate → Transcript) (quit : Bool) (a b : Option (List ℕ)) (old new : Session D g) → Responds (λ (_ : Unit {0}) f. t f) (λ _ f. ends quit new f) (Writes a b) old new → Interrupted (λ (_ : Unit {0}) f. t f) (Writes a b) old new
  whole_part t quit a b old new h = record {
    broken = [];
    one = omega arith;
    piece = h.piece;
    among = λ i f suits. ([], ap (λ (x : Transcript). x.replies) (h.goes_on tt f suits) ∙ ap (λ (l : List Reply). l ++ []) (sym (append-nil h.piece.replies)));
    some = λ i f suits. ([], ap (λ (x : Transcript). x.events) (h.goes_on tt f suits));
  }

  module _ (law : (disk : D) (image : List ℕ) → g.is_honest disk → g.left_since disk (g.moment disk) image → IsImage (g.content disk) (g.pending disk) image) where
    pub processes : (a b r s : Option (List ℕ)) (old new : Session D g) (read : List ℕ) → Consumes r s read → Interrupted (λ (_ : Unit {0}) f. transcript f (view_of old) read) (Writes a b) old new → Processes a b r s old new
    processes a b r s old new read consumed h =
        let piece = h.piece in
        let left : Fate = left_of new.failed in
        let suits : Suits (left_of new.failed) new = left_suits new.failed new refl in
        let fate = piece.before left in
        record {
          read = read;
          consumed = consumed;
          fate = piece.before left;
          fated = fated_by new.failed new piece.before refl piece.kept;
          shows = record { replies = piece.replies; broken = h.broken; one = h.one; part = piece.tells.part; written = piece.tells.written; begun = piece.tells.begun; among = h.among tt left suits };
          acks = piece.acks;
          confirmed = piece.confirmed;
          accepted = piece.accepted;
          answered = piece.answered;
          some = h.some tt left suits;
          part = begins_through piece.accepted (transcript fate (view_of old) read).events (transcript None (view_of old) read).events (h.some tt left suits) (events_of_fate fate (view_of old) read);
          accepts = piece.accepts;
          outs = piece.outs;
          since_start = since_start law piece.accepted old new piece.accepts;
        }

    pub processes_whole : (a b r s : Option (List ℕ)) (old new : Session D g) (read : List ℕ) (quit : Bool) → Consumes r s read → Responds (λ (_ : Unit {0}) f. transcript f (view_of old) read) (λ _ f. ends quit new f) (Writes a b) old new → Processes a b r s old new
    processes_whole a b r s old new read quit consumed h = processes a b r s old new read consumed (whole_part (λ f. transcript f (view_of old) read) quit a b old new h)

  pub completes : (a b r s : Option (List ℕ)) (old new : Session D g) (read : List ℕ) (quit : Bool) → Consumes r s read → IsAtEnd s ⊎ (quit ≡ true) → Responds (λ (_ : Unit {0}) f. transcript f (view_of old) read) (λ _ f. ends quit new f) (Writes a b) old new → Completes a b r s old new
  completes a b r s old new read quit consumed ended h =
      let piece = h.piece in
      let left : Fate = left_of new.failed in
      let e = h.goes_on tt left (left_suits new.failed new refl) in
      let replies : (transcript (piece.before left) (view_of old) read).replies ≡ piece.replies = ap (λ (t : Transcript). t.replies) e ∙ append-nil piece.replies in
      let events : (transcript (piece.before left) (view_of old) read).events ≡ piece.accepted = ap (λ (t : Transcript). t.events) e ∙ append-nil piece.accepted in
      record {
        read = read;
        consumed = consumed;
        fate = piece.before left;
        fated = fated_by new.failed new piece.before refl piece.kept;
        ended = ⊎_elim (λ (end : _). inl end) (λ (is : _). inr (ap (λ (t : Transcript). t.quit) e ∙ is)) ended;
        written = subst (λ (l : List Reply). Appends a b (text_of l)) (sym replies) (told_whole line_of a b piece.replies piece.tells);
        view = sym (ap (λ (t : Transcript). t.view) e);
        accepts = subst (λ (l : List Event). Accepts l old new) (sym events) piece.accepts;
      }

  -- where no device fails
  pub served : (a b r s : Option (List ℕ)) (old new : Session D g) → Completes a b r s old new → old.failed ≡ false → ¬ HasFailed (g.failures old.disk) (g.failures new.disk)
      → (served : Served a b r s (view_of old)) × (view_of new ≡ view_after (view_of old) served.read)
  served a b r s old new h was none =
      let runs = still_runs (transcript h.fate (view_of old) h.read).events old new h.accepts was none in
      let e : h.fate ≡ None = h.fated.1 runs in (
        record {
          read = h.read;
          consumed = h.consumed;
          written = subst (λ f. Appends a b (text_of (transcript f (view_of old) h.read).replies)) e h.written;
          ended = subst (λ f. IsAtEnd s ⊎ ((transcript f (view_of old) h.read).quit ≡ true)) e h.ended;
        },
        h.view ∙ ap (λ f. (transcript f (view_of old) h.read).view) e,
      )
