-- What a disk holds once an event is committed, and what a stop leaves behind a service.
use Rattle.std.proofs.Common.{◌≡◌, ◌∙◌, ◌<◌, ℕ, true, false, [], ◌∷◌, ◌++◌, List, Option, None, Err, Result, Some, ap, inl, inr, refl, subst, sym, take}
use Rattle.std.specs.Prelude.{◌≤◌, ◌≢◌, ◌⊎◌, IfSome, is_err}
use Rattle.ckrt_recovery.specs.Accepts.{Accepts}
use Rattle.ckrt_disk.specs.Disk.{IsImage}
use Rattle.ckrt_disk.specs.declared.disk.Disk.{Ghosts}
use Rattle.ckrt_drive.proofs.LeftLemmas.{starts_formatted}
use Rattle.ckrt_events.specs.declared.event.Event.{Event}
use Rattle.ckrt_cli_disk.specs.Printing.{HoldsEvents}
use Rattle.ckrt_cli_disk.specs.Running.{IsOfStream, IsUnrecovered, Serves}
use Rattle.ckrt_main.specs.Service.{Processes}
use Rattle.ckrt_cli_reports.specs.declared.fault.JobFault.{JobFault}
use Rattle.ckrt_cli_reports.specs.declared.fault.JobFault.TheVariants.{Recover}
use Rattle.ckrt_recovery.specs.Opening.{IsSyncedAndRead}
use Rattle.ckrt_recovery.specs.Represents.{Represents, RepresentsDisk, RepresentsOneMore, RepresentsSame}
use Rattle.ckrt_recovery.specs.View.{View, committed, view_of}
use Rattle.ckrt_recovery.specs.declared.session.Session.{Session}
use Rattle.ckrt_stored.specs.Programs.{Program, RecoversTo, RecoversToStart}
use Rattle.ckrt_stored.specs.Reads.{is_device}
use Rattle.ckrt_stored.specs.declared.fault.RecoverFault.{RecoverFault}
use Rattle.ckrt_stored.specs.declared.fault.RecoverFault.TheVariants.{Device}
use Rattle.ckrt_witness.specs.Printed.{ToldWitness, UnrecoveredWitness}
use Rattle.ckrt_witness.proofs.PowerLemmas.{on_ok}
use Rattle.ckrt_witness.proofs.WitnessLemmas.{only_image}

module _ {D : Type 0} {g : Ghosts D} (p : Program) (disk : D) where
  -- the disk of a session that has committed its one event
  pub holds_one : {X E : Type 0} (result : Result X E) (e : Event) (first old new : Session D g) → is_err result ≡ false → RepresentsDisk disk first → RepresentsOneMore first e result old → RepresentsSame old new
      → view_of new ≡ committed (view_of old) → g.is_honest first.disk → RecoversToStart p (g.content disk) → HoldsEvents g p (e ∷ []) new.disk
  holds_one result e first old new fine given more same ok honest start =
      let none : Represents p [] first = given honest p [] 0 (starts_formatted p (g.content disk) start) in
      let one : Represents p (e ∷ []) old = on_ok result (Represents p (e ∷ []) old) fine (more p [] none) in
      let held : Represents p (e ∷ []) new = same p (e ∷ []) one in
      let well : new.failed ≡ false = ap (λ (v : View). v.failed) ok in
      let all : new.acknowledged ≡ 1 = ap (λ (v : View). v.acknowledged) ok ∙ one.count in
      λ image may. record {
        all = e ∷ [];
        begins = ([], refl);
        limit = new.progress.confirmed;
        to = subst (λ n. RecoversTo p (take n (e ∷ [])) new.progress.confirmed image) all (held.images well image may).to;
      }

  -- a stop behind the second of two services
  pub told : (counts : (x : D) (t : ℕ) (image : List ℕ) → g.is_honest x → t ≤ g.moment x → IsImage (g.content x) (g.pending x) image → g.left_since x t image)
      → (reads : (x : D) → g.is_honest x → IsImage (g.content x) (g.pending x) (g.content x))
      → (before after later : Session D g) (lines text left : List ℕ) (more : List Event) → RepresentsDisk disk before → Processes (Some []) (Some text) (Some lines) (Some left) before after → text ≢ []
      → before.acknowledged < after.acknowledged → before.progress.confirmed < after.progress.confirmed → Accepts more after later → after.acknowledged < later.acknowledged → g.is_honest later.disk
      → RecoversToStart p (g.content disk) → ToldWitness g p
  told counts reads before after later lines text left more given service some committed printed goes_on committed_later honest start =
      let honest_after : g.is_honest after.disk = goes_on.honest honest in
      let none : Represents p [] before = given (service.accepts.honest honest_after) p [] 0 (starts_formatted p (g.content disk) start) in
      let all : Represents p ([] ++ service.accepted) after = service.accepts.represents honest_after p [] none in
      record {
        events = [];
        before = before;
        represents = none;
        after = after;
        lines = lines;
        text = text;
        some_text = some;
        left = left;
        service = service;
        committed = committed;
        printed = printed;
        more = more;
        later = later;
        goes_on = goes_on;
        committed_later = committed_later;
        honest_after = honest_after;
        honest = honest;
        image = g.content later.disk;
        left_then = counts later.disk (g.moment after.disk) (g.content later.disk) honest (goes_on.any_moment honest p ([] ++ service.accepted) all).later (reads later.disk honest);
      }

-- the same, where there is a second
pub told_where_some : {D : Type 0} {g : Ghosts D} (disk : D) → (counts : (x : D) (t : ℕ) (image : List ℕ) → g.is_honest x → t ≤ g.moment x → IsImage (g.content x) (g.pending x) image → g.left_since x t image)
    → (reads : (x : D) → g.is_honest x → IsImage (g.content x) (g.pending x) (g.content x))
    → (before after : Session D g) (lines text left : List ℕ) (second : Option (Session D g)) → RepresentsDisk disk before → Processes (Some []) (Some text) (Some lines) (Some left) before after → text ≢ []
    → before.acknowledged < after.acknowledged → before.progress.confirmed < after.progress.confirmed
    → IfSome second (λ later. ((more : List Event) × Accepts more after later) × (after.acknowledged < later.acknowledged))
    → IfSome second (λ later. g.is_honest later.disk → (p : Program) → RecoversToStart p (g.content disk) → ToldWitness g p)
told_where_some disk counts reads before after lines text left None given service some committed printed goes_on = goes_on
told_where_some disk counts reads before after lines text left (Some later) given service some committed printed goes_on =
    λ honest p start. told p disk counts reads before after later lines text left goes_on.0.0 given service some committed printed goes_on.0.1 goes_on.1 honest start

-- another disk with the bytes of one holds what that one held
pub holds_again : {D E : Type 0} (d : Ghosts D) (o : Ghosts E) (p : Program) (events : List Event) (disk : D) (other : E) → HoldsEvents d p events disk → o.content other ≡ d.content disk
    → ((i : ℕ) → ¬ o.pending other i) → HoldsEvents o p events other
holds_again d o p events disk other held same settled = λ image may.
    let is : image ≡ d.content disk = only_image o other image settled may ∙ same in
    held image (subst (IsImage (d.content disk) (d.pending disk)) (sym is) (record { size = refl; same = λ i out. refl }))

-- a run whose recovery the disk failed
pub failed : {D : Type 0} {d : Ghosts D} (p : Program) (start end : D) (lines text left : List ℕ) (fault : JobFault) → fault ≡ Recover Device
    → IsUnrecovered d start end (Some []) (Some text) (Some lines) (Some left) fault ⊎ (Serves d start end (Some []) (Some text) (Some lines) (Some left) × IsOfStream fault) → lines ≢ [] → d.is_honest end
    → (before : List Event) → before ≢ [] → HoldsEvents d p before start → UnrecoveredWitness d p
failed {d = d} p start end lines text left fault is (inl run) some honest before some_before holds =
    let why : run.why ≡ Device = let same : Recover run.why ≡ Recover Device = sym run.is ∙ is in cc in
    let read : IsSyncedAndRead d start end true = subst (λ (w : RecoverFault). IsSyncedAndRead d start end (is_device {X = Unit {0}} (Err w))) why run.disk in
    let unwritten : IsUnrecovered d start end (Some []) (Some []) (Some lines) (Some left) fault = subst (λ b. IsUnrecovered d start end (Some []) b (Some lines) (Some left) fault) run.unwritten run in
    let unread : IsUnrecovered d start end (Some []) (Some []) (Some lines) (Some lines) fault = subst (λ s. IsUnrecovered d start end (Some []) (Some []) (Some lines) s fault) run.unread unwritten in
    record {
      before = before;
      some_before = some_before;
      start = start;
      holds = holds;
      end = end;
      honest = honest;
      failed = read.fault refl;
      lines = lines;
      some_lines = some;
      unrecovered = subst (λ (f : JobFault). IsUnrecovered d start end (Some []) (Some []) (Some lines) (Some lines) f) is unread;
    }
failed p start end lines text left fault is (inr (serves, inl other)) some honest before some_before holds = let no = sym other ∙ is in absurd (cc)
failed p start end lines text left fault is (inr (serves, inr other)) some honest before some_before holds = let no = sym other ∙ is in absurd (cc)
