-- What the lines of a service tell a reader is true.
use Rattle.std.proofs.Common.{◌≡◌, ◌<◌, ◌≤◌, ◌+◌, ℕ, List, ◌++◌, length, take, get_or, sym, ◌∙◌, ap, arith, append_assoc}
use Rattle.std.proofs.lemmas.List.{get_or_append_left, get_or-append-add}
use Rattle.ckrt_disk.specs.Disk.{IsImage}
use Rattle.ckrt_disk.specs.declared.disk.Disk.{Ghosts}
use Rattle.ckrt_events.specs.declared.event.Event.{Event}
use Rattle.ckrt_stored.specs.Programs.{Program}
use Rattle.ckrt_recovery.specs.declared.session.Session.{Session}
use Rattle.ckrt_recovery.specs.Between.{RecoversBetween, StandsIn}
use Rattle.ckrt_main.specs.Replies.{acks_of}
use Rattle.ckrt_recovery.specs.Represents.{Represents, acknowledged_of}
use Rattle.ckrt_recovery.specs.View.{view_of}
use Rattle.ckrt_main.specs.Told.{AcksAreDurable, LinesAgree}
use Rattle.ckrt_main.specs.Alike.{IsAlike}
use Rattle.ckrt_recovery.proofs.AcceptLemmas.{between_more, since_start}
use Rattle.ckrt_disk.proofs.ListLemmas.{begins_itself, fewer_begin}
use Rattle.ckrt_main.proofs.ReplyLemmas.{all_weaker}

module _ {D : Type 0} {g : Ghosts D} where
  pub acks_durable : (law : (disk : D) (image : List ℕ) → g.is_honest disk → g.left_since disk (g.moment disk) image → IsImage (g.content disk) (g.pending disk) image)
      (before after later : Session D g) → AcksAreDurable before after later
  acks_durable law before after later a b r s service more accepts honest p events reps image left =
      let all : List Event = events ++ service.accepted in
      let here = service.accepts.represents (accepts.honest honest) p events reps in
      let between = since_start law more after later accepts honest p (events ++ service.accepted) here image left in
      all_weaker (λ k. k ≤ after.acknowledged) (λ k. RecoversBetween p (take k (events ++ service.accepted)) ((events ++ service.accepted) ++ more) later.progress.confirmed image)
      (λ k le. between_more p (acknowledged_of all after) (take k all) (all ++ more) (all ++ more) later.progress.confirmed later.progress.confirmed image (fewer_begin k after.acknowledged all le) (begins_itself (all ++ more)) (omega arith) between)
      (acks_of (service.shows.replies ++ service.shows.broken)) service.acks

-- sessions that represent the same events, over whatever disks
pub same_events : {D E : Type 0} {g : Ghosts D} {h : Ghosts E} (p : Program) (events : List Event) (s : Session D g) (t : Session E h) → Represents p events s → Represents p events t → IsAlike (view_of s) (view_of t)
same_events p events s t x y = record { state = x.state ∙ sym y.state; count = x.count ∙ sym y.count }

byte_of : (out : List ℕ) (x : ℕ × List ℕ) (i : ℕ) → StandsIn out x → i < length x.1 → get_or x.1 i 0 ≡ get_or out (x.0 + i) 0
byte_of out x i s lt =
    sym (get_or_append_left x.1 s.1 0 i lt) ∙ (sym (get_or-append-add s.0 (x.1 ++ s.1) i 0) ∙ (ap (λ n. get_or (s.0 ++ (x.1 ++ s.1)) (n + i) 0) s.2 ∙ ap (λ (l : List ℕ). get_or l (x.0 + i) 0) (sym s.3)))

longer : (out more : List ℕ) (x : ℕ × List ℕ) → StandsIn out x → StandsIn (out ++ more) x
longer out more x s = (s.0, s.1 ++ more, s.2, ap (λ (l : List ℕ). l ++ more) s.3 ∙ (append_assoc s.0 (x.1 ++ s.1) more ∙ ap (λ (l : List ℕ). s.0 ++ l) (append_assoc x.1 s.1 more)))

pub lines_agree : (out more : List ℕ) → LinesAgree out more
lines_agree out more x y s t i j lti ltj same = byte_of (out ++ more) x i (longer out more x s) lti ∙ (ap (λ n. get_or (out ++ more) n 0) same ∙ sym (byte_of (out ++ more) y j t ltj))
