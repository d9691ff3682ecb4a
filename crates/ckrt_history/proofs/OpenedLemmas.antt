-- A history that is opened on a disk: what a stop meanwhile leaves, and what it has then.
use Rattle.std.proofs.Common.{◌≡◌, ◌&&◌, inl, inr, ⊎_elim, ℕ, ◌<◌, nat_eq, nat_le, Bool, true, false, List, ◌++◌, length, take, Ok, refl, sym, ◌∙◌, ap, subst, arith}
use Rattle.std.proofs.lemmas.List.{get_or-take}
use Rattle.ckrt_disk.specs.Disk.{IsImage}
use Rattle.ckrt_disk.specs.Frame.{MayBeLeft}
use Rattle.ckrt_disk.specs.Lists.{IsBeginningOf}
use Rattle.ckrt_disk.specs.declared.disk.Disk.{Ghosts}
use Rattle.ckrt_disk.proofs.Images.{wider_image}
use Rattle.ckrt_disk.proofs.ListLemmas.{begins_itself, begins_through}
use Rattle.ckrt_events.specs.declared.event.Event.{Event}
use Rattle.ckrt_look_recording.specs.Recording.{HasRecording, Recorded}
use Rattle.ckrt_look_recording.proofs.RecordedLemmas as recordings
use Rattle.ckrt_recovery.specs.Opening.{IsSettled}
use Rattle.ckrt_stored.specs.Layout.{is_open, number_at}
use Rattle.ckrt_stored.specs.Programs.{RecoversTo}
use Rattle.ckrt_stored.specs.Recorded.{HasRecorded, RecoversRecorded}
use Rattle.ckrt_drive.proofs.RecordedLemmas.{recorded_as_recovered}
use Rattle.ckrt_drive.specs.Together.{HoldsBetween, Past, StandTogether, StandsRecorded, past}
use Rattle.ckrt_drive.proofs.DriveLemmas.{itself}
use Rattle.ckrt_drive.proofs.FedSteps.{begins_once}
use Rattle.ckrt_history.specs.Appending.{EndsAt, open_of}
use Rattle.ckrt_history.specs.Beginning.{IsClosedOrBegun}
use Rattle.ckrt_history.specs.Completing.{IsGrownFrom, missing_of, with_events}
use Rattle.ckrt_history.specs.Either.{HasJoined, IsJoining, LeavesJoining, is_history}
use Rattle.ckrt_history.specs.Front.{MAGIC}
use Rattle.ckrt_history.specs.History.{HasHistory}
use Rattle.ckrt_history.specs.Many.{IsHistoryOf, StandBeside, Three}
use Rattle.ckrt_history.specs.Opening.{IsOpenedOn, IsOpening}
use Rattle.ckrt_history.specs.declared.fault.HistoryFault.TheVariants.{NotAHistory}
use Rattle.ckrt_history.specs.declared.joined.Joined.{Joined}
use Rattle.ckrt_history.specs.declared.joined.Joined.TheVariants.{Begun, Appended}
use Rattle.ckrt_history.specs.declared.kept.KeptHistory.{KeptHistory}
use Rattle.ckrt_history.specs.declared.opened.OpenHistory.{OpenHistory}
use Rattle.ckrt_history.proofs.BatchLemmas.{left_durable}
use Rattle.ckrt_history.proofs.BegunLemmas.{begun_has_recording}
use Rattle.ckrt_history.proofs.FrontLemmas.{history_by_front}
use Rattle.ckrt_history.proofs.HistoryLemmas as histories
use Rattle.ckrt_history.proofs.TheirsLemmas.{recordings_theirs}
use Rattle.ckrt_history.proofs.WhoseLemmas.{joined_front, joined_whole}

-- A CLOSED GATE

neither : (b : Bool) → (b && false) ≡ false
neither true = refl
neither false = refl

-- a file whose first gate isn't open is no history
closed_none : (image : List ℕ) (r : Recorded) → is_open image ≡ false → HasHistory image r → ⊥
closed_none image r closed has =
    let first : is_open (take 32 image) ≡ false = ap (λ x. nat_eq x 165) (get_or-take 32 image 0 0 (omega arith)) ∙ closed in
    let named = nat_eq (number_at 8 8 (take 32 image)) MAGIC in
    let none : is_history image ≡ false = ap (λ b. nat_le 32 (length image) && (b && named)) first ∙ neither (nat_le 32 (length image)) in
    histories.no_fault image r NotAHistory has (inl ((history_by_front image).0 none))

-- WHAT THE DISK HAS

module _ {D O K : Type 0} {d : Ghosts D} {o : Ghosts O} {k : Ghosts K} (h : Past) (x : Three D O K) (stand : StandBeside d o k h x) where
  abbrev pub content : List ℕ
  content = d.content x.disk

  -- its content has recorded the events to which it recovers
  abbrev pub held : HoldsBetween (HasRecorded h.program) h content
  held = stand.recorded content (itself d x.disk)

  abbrev pub opened : List Event
  opened = held.all

  -- as a look at it reads them
  abbrev ahead : (r : Recorded) × HasRecording content r × IsHistoryOf h.program opened r
  ahead = recordings_theirs h.program opened held.to content held.held

  -- what has no content but that stands, with just these acknowledged
  module _ (left : D) (is : (image : List ℕ) → MayBeLeft d left image → image ≡ content) where
    pub together_opened : (output : O) → ((image : List ℕ) → MayBeLeft o output image → MayBeLeft o x.output image) → ((i : ℕ) → o.pending output i → i < length (o.content output)) → StandTogether d o (past h.program h.old opened h.accepted) left output
    together_opened output outputs inside =
        let t = stand.together.images content (itself d x.disk) in
        let same : t.all ≡ opened = begins_once t.all opened h.accepted t.within held.within (recorded_as_recovered h.program t.all opened t.to content t.recovers held.held.1) in
        record {
          images = λ image may. record {
            all = t.all;
            begins = subst (λ (l : List Event). IsBeginningOf l t.all) same (begins_itself t.all);
            within = t.within;
            to = t.to;
            recovers = subst (λ (l : List ℕ). RecoversTo h.program t.all t.to l) (sym (is image may)) t.recovers;
            reached = t.reached;
            has = λ out might. t.has out (outputs out might);
            spares = λ out might. t.spares out (outputs out might);
          };
          inside = inside;
        }

    pub recorded_opened : StandsRecorded d (past h.program h.old opened h.accepted) left
    recorded_opened = λ image may. record {
      all = opened;
      begins = begins_itself opened;
      within = held.within;
      to = held.to;
      held = subst (λ (l : List ℕ). RecoversRecorded h.program opened held.to l) (sym (is image may)) held.held;
    }

  -- WHAT THE FILE HAS

  -- what it may have had before is a beginning of these
  had_before : (image : List ℕ) (r : Recorded) → MayBeLeft k x.file image → HasHistory image r → (kept : List Event) × IsBeginningOf kept opened × IsHistoryOf h.program kept r
  had_before image r left has =
      let before = stand.kept image r left has in
      (before.0, begins_through before.0 h.acknowledged opened before.1 held.begins, before.2)

  -- what both have goes on to a longer beginning
  had_grown : (image : List ℕ) (r : Recorded) → IsGrownFrom content (k.content x.file) image → HasHistory image r → (kept : List Event) × IsBeginningOf kept opened × IsHistoryOf h.program kept r
  had_grown image r grew has =
      let before = had_before (k.content x.file) grew.own (itself k x.file) grew.had in
      let same : ahead.0 ≡ grew.ahead = recordings.recorded_once content ahead.0 grew.ahead ahead.1 grew.has in
      let of : IsHistoryOf h.program opened grew.ahead = subst (λ (q : Recorded). IsHistoryOf h.program opened q) same ahead.2 in
      let joined = joined_front h.program opened before.0 grew.ahead grew.own of before.2 before.1 grew.goes_on.reaches grew.more.0 grew.more.1 in
      let is : r ≡ with_events grew.more.0 grew.own = histories.recorded_once image r (with_events grew.more.0 grew.own) has grew.more.2 in
      (before.0 ++ grew.more.0, joined.0, subst (λ (q : Recorded). IsHistoryOf h.program (before.0 ++ grew.more.0) q) (sym is) joined.1)

  had_begun : (image : List ℕ) (r : Recorded) → IsClosedOrBegun content image → HasHistory image r → (kept : List Event) × IsBeginningOf kept opened × IsHistoryOf h.program kept r
  had_begun image r (inl closed) has = absurd (closed_none image r closed has)
  had_begun image r (inr begun) has =
      let is : ahead.0 ≡ r = histories.recorded_once image ahead.0 r (begun_has_recording content image ahead.0 begun ahead.1) has in
      (opened, begins_itself opened, subst (λ (q : Recorded). IsHistoryOf h.program opened q) is ahead.2)

  had_joining : (was_history : Bool) (image : List ℕ) (r : Recorded) → LeavesJoining was_history content (k.content x.file) image → HasHistory image r → (kept : List Event) × IsBeginningOf kept opened × IsHistoryOf h.program kept r
  had_joining true image r leaves has = had_grown image r leaves has
  had_joining false image r leaves has = had_begun image r leaves has

  -- whatever a stop leaves of it has at most these
  pub had_opening : (image : List ℕ) (r : Recorded) → IsJoining content k x.file image → HasHistory image r → (kept : List Event) × IsBeginningOf kept opened × IsHistoryOf h.program kept r
  had_opening image r (inl left) has = had_before image r left has
  had_opening image r (inr leaves) has = had_joining (is_history (k.content x.file)) image r leaves has

  -- and where it was opened just these
  by_joined : (joined : Joined) (now : List ℕ) (place : OpenHistory) → HasJoined content (k.content x.file) joined now → open_of now ≡ Ok place → (r : Recorded) × EndsAt place now r × IsHistoryOf h.program opened r
  by_joined Begun now place has ends = (ahead.0, record { has = begun_has_recording content now ahead.0 has.1 ahead.1; place = ends }, ahead.2)
  by_joined (Appended n) now place has ends =
      let up = has.1.2 in
      let before = had_before (k.content x.file) up.own (itself k x.file) up.had in
      let same : ahead.0 ≡ up.ahead = recordings.recorded_once content ahead.0 up.ahead ahead.1 up.has in
      let of : IsHistoryOf h.program opened up.ahead = subst (λ (q : Recorded). IsHistoryOf h.program opened q) same ahead.2 in
      (with_events (missing_of up.ahead up.own) up.own, record { has = up.now; place = ends }, joined_whole h.program opened before.0 up.ahead up.own of before.2 before.1 up.goes_on.reaches)

  pub ends_opened : (it : KeptHistory K k) → IsOpenedOn content (k.content x.file) it → (r : Recorded) × EndsAt it.place (k.content it.file) r × IsHistoryOf h.program opened r
  ends_opened it is = by_joined is.joined (k.content it.file) it.place is.has is.place

-- BEHIND THE SYNC

module _ {D K : Type 0} {d : Ghosts D} {k : Ghosts K} (law : (disk : D) (image : List ℕ) → d.is_honest disk → d.left_since disk (d.moment disk) image → IsImage (d.content disk) (d.pending disk) image)
    (disk end : D) (before after : K) (opening : IsOpening d k disk end before after) (honest : d.is_honest end) (well : opening.failed ≡ false) where
  mid_honest : d.is_honest opening.mid
  mid_honest = opening.reads.1.same.honest honest

  -- nothing is pending there
  at_mid : (image : List ℕ) → MayBeLeft d opening.mid image → image ≡ d.content disk
  at_mid image may =
      let settled : IsSettled d disk opening.mid = opening.synced.settled well mid_honest in
      left_durable d opening.mid image settled.durable may ∙ settled.content

  -- so whatever a stop leaves reads as before
  pub since_sync : (image : List ℕ) → d.left_since end (d.moment opening.mid) image → image ≡ d.content disk
  since_sync image left = ⊎_elim (λ (past : _). at_mid image (law opening.mid image mid_honest past)) (λ (no : _). absurd no) ((opening.reads.1.any_moment honest).each (d.moment opening.mid) image (omega arith) left)

  pub at_end : (image : List ℕ) → MayBeLeft d end image → image ≡ d.content disk
  at_end image may =
      let reads = opening.reads.1 in
      at_mid image (wider_image (d.pending end) (d.pending opening.mid) (d.content opening.mid) image (λ i p. (reads.pending honest i).0 p)
      (subst (λ (l : List ℕ). IsImage l (d.pending end) image) (reads.content honest) may))
