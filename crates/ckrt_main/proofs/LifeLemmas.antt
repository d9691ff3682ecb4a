-- A life as a whole, from what its session did.
use Rattle.std.proofs.Common.{◌≡◌, inl, ⊎_elim, ℕ, ◌≤◌, ◌<◌, Bool, true, false, List, [], ◌++◌, length, take, drop, Some, Option, Ok, Err, Result, refl, sym, ◌∙◌, ap, subst, arith, length-drop, length-take, length-take-le}
use Rattle.std.proofs.lemmas.List.{take_all, drop_all, take_at}
use Rattle.ckrt_disk.specs.Disk.{IsImage}
use Rattle.ckrt_disk.specs.declared.disk.Disk.{Ghosts}
use Rattle.ckrt_events.specs.declared.event.Event.{Event}
use Rattle.ckrt_machine.specs.Events.{output_of}
use Rattle.ckrt_stored.specs.Programs.{Program, RecoversTo, state_after, output_after}
use Rattle.ckrt_stored.specs.Progress.{recovered_of}
use Rattle.ckrt_stored.specs.declared.fault.RecoverFault.{RecoverFault}
use Rattle.ckrt_stored.specs.declared.fault.RecoverFault.TheVariants.{NotFormatted, Version, Damaged, Device, OutOfMemory}
use Rattle.ckrt_stored.specs.Recovery.{AgreesOnFault, Recovered, Recovers}
use Rattle.ckrt_stored.proofs.RecoverLemmas.{recovers_once}
use Rattle.ckrt_recovery.specs.Opening.{IsSyncedAndRead}
use Rattle.std.proofs.lemmas.Grind.{same_number_lists}
use Rattle.ckrt_recovery.specs.declared.session.Session.{Session}
use Rattle.ckrt_recovery.specs.Represents.{Represents, RecoversToEither, acknowledged_of}
use Rattle.ckrt_recovery.specs.View.{View, view_of, opened}
use Rattle.ckrt_main.specs.Transcript.{Transcript}
use Rattle.ckrt_recovery.proofs.SessionLemmas.{output_all}
use Rattle.ckrt_main.specs.declared.life.Life.{Life}
use Rattle.ckrt_main.specs.declared.life.LifeReport.{LifeReport}
use Rattle.ckrt_main.specs.Commands.{commands_of_life}
use Rattle.ckrt_main.specs.Lives.{IsLeftBy, IsUnbroken, HasRecovered, released_to}
use Rattle.ckrt_main.specs.LifePieces.{Does, HasRun}
use Rattle.ckrt_main.specs.Pieces.{HasTaken}

-- what is left recovers to a beginning of the list that has the acknowledged events
pub record LeavesPart (p : Program) (events : List Event) (acknowledged limit : ℕ) (image : List ℕ) : Type 0 where
  pub many : ℕ
  pub holds : acknowledged ≤ many
  pub no_more : many ≤ length events
  pub to : RecoversTo p (take many events) limit image

module _ {D : Type 0} {g : Ghosts D} where
  leaves_part : (p : Program) (events : List Event) (s : Session D g) (image : List ℕ) → Represents p events s → RecoversToEither p events s image → LeavesPart p events s.acknowledged s.progress.confirmed image
  leaves_part p events s image reps either = ⊎_elim
      (λ (few : _). record { many = s.acknowledged; holds = omega arith; no_more = reps.acknowledged; to = few })
      (λ (all : _). record { many = length events; holds = reps.acknowledged; no_more = omega arith; to = subst (λ (l : List Event). RecoversTo p l s.progress.confirmed image) (sym (take_all (length events) events (omega arith))) all })
      either

  -- what a session's own images recover to
  represented_by : (b : Bool) (p : Program) (events : List Event) (s : Session D g) (image : List ℕ) → s.failed ≡ b → Represents p events s → IsImage (g.content s.disk) (g.pending s.disk) image → RecoversToEither p events s image
  represented_by true p events s image is reps left = reps.failed is image left
  represented_by false p events s image is reps left = inl (reps.images is image left).to

  pub represented : (p : Program) (events : List Event) (s : Session D g) (image : List ℕ) → Represents p events s → IsImage (g.content s.disk) (g.pending s.disk) image → RecoversToEither p events s image
  represented p events s image reps left = represented_by s.failed p events s image refl reps left

  -- nothing is taken at first
  taken_first : (p : Program) (events : List Event) (s : Session D g) → Represents p events s → HasTaken p events s.progress.confirmed [] s
  taken_first p events s reps = record {
    represents = reps;
    start = omega arith;
    taken = sym (drop_all s.progress.confirmed (take s.progress.confirmed (output_after p events)) (let long : length (take s.progress.confirmed (output_after p events)) ≤ s.progress.confirmed = length-take-short s.progress.confirmed (output_after p events) in long));
  }
    where
      length-take-short : (n : ℕ) (xs : List ℕ) → length (take n xs) ≤ n
      length-take-short n xs = omega (arith, length-take n xs)

  -- all that is released once everything is confirmed
  all_taken : (p : Program) (events : List Event) (from : ℕ) (bytes : List ℕ) (s : Session D g) → HasTaken p events from bytes s → s.progress.confirmed ≡ s.released → bytes ≡ drop from (output_after p (acknowledged_of events s))
  all_taken p events from bytes s has confirmed =
      let out = output_after p (acknowledged_of events s) in
      let more = output_of (drop s.acknowledged events) (state_after p (take s.acknowledged events)) in
      has.taken ∙ ap (drop from) (ap (take s.progress.confirmed) (output_all p events s has.represents) ∙ take_at out more s.progress.confirmed (sym (confirmed ∙ has.represents.released)))

  never_failed : (b : Bool) (t : Transcript) (x y : List ℕ) (s u : Session D g) → u.failed ≡ b → Does t x y s u → s.failed ≡ false → ¬ (0 < g.failures u.disk) → u.failed ≡ false
  never_failed false t x y s u is does was none = is
  never_failed true t x y s u is does was none = ⊎_elim (λ (had : _). let no : true ≡ false = sym had ∙ was in absurd (cc)) (λ (grew : _). absurd (none grew)) (does.failed is)

  -- A life whose session began with these events.
  module _ (p : Program) (before : List Event) (n : ℕ) (le : n ≤ length before) (life : Life) (report : LifeReport) (image : List ℕ) (old new : Session D g)
      (recovers : Recovers image (Ok (recovered_of old.progress))) (view : view_of old ≡ opened (recovered_of old.progress)) (reps : Represents p (take n before) old)
      (honest : g.is_honest new.disk) (stop : g.named_stop old.disk ≡ Some life.stop_at) (has_run : HasRun life.commands.items report old new) where
    abbrev pub r : Recovered
    r = recovered_of old.progress

    abbrev pub t : Transcript
    t = commands_of_life life.commands.items (opened r)

    pub does : Does t [] report.released.items old new
    does = subst (λ (v : View). Does (commands_of_life life.commands.items v) [] report.released.items old new) view has_run.does

    abbrev pub events : List Event
    events = take n before ++ does.accepted

    count : old.progress.count ≡ n
    count = reps.count ∙ length-take-le n before le

    all_acknowledged : old.acknowledged ≡ old.progress.count
    all_acknowledged = ap (λ (v : View). v.acknowledged) view

    has : HasTaken p events old.progress.confirmed report.released.items new
    has = does.goes_on honest p (take n before) old.progress.confirmed (taken_first p (take n before) old reps)

    abbrev pub out : List ℕ
    out = output_after p (acknowledged_of events new)

    released : report.released.items ≡ drop old.progress.confirmed out
    released = all_taken p events old.progress.confirmed report.released.items new has has_run.confirmed

    size : new.progress.confirmed ≡ length out
    size = has_run.confirmed ∙ has.represents.released

    end : released_to report ≡ new.progress.confirmed
    end = omega (arith, ap length released, length-drop old.progress.confirmed out, size, has.start, has_run.released_from)

    part_left : LeavesPart p events new.acknowledged new.progress.confirmed (g.content new.disk)
    part_left = leaves_part p events new (g.content new.disk) has.represents (has_run.recovers honest p events has.represents)

    left_by : new.failed ≡ false → (v : View) → view_of new ≡ v → IsLeftBy v report.left.items
    left_by well v is =
        let like = has.represents.images well (g.content new.disk) (record { size = refl; same = λ i _. refl }) in
        record {
          recovered = like.to.recovered;
          recovers = subst (λ (l : List ℕ). Recovers l (ok like.to.recovered)) (sym has_run.left) like.to.recovers;
          count = like.to.has_events.count ∙ (length-take-le new.acknowledged events has.represents.acknowledged ∙ ap (λ (w : View). w.acknowledged) is);
          area = like.area ∙ ap (λ (w : View). w.recovered.area) is;
          generation = like.generation ∙ ap (λ (w : View). w.recovered.generation) is;
          journal = like.journal ∙ ap (λ (w : View). w.recovered.journal) is;
        }
      where
        ok : Recovered → Result Recovered RecoverFault
        ok x = Ok x

    unbroken : life.stop_at ≡ 0 → IsUnbroken t does.accepted report
    unbroken none =
        let named : g.named_stop new.disk ≡ Some 0 = does.named_stop ∙ (stop ∙ ap (λ (k : ℕ). some k) none) in
        let well : new.failed ≡ false = never_failed new.failed t [] report.released.items old new refl does (ap (λ (v : View). v.failed) view) (has_run.never named) in
        let whole = does.run well in
        record {
          events = whole.events;
          acknowledged = has_run.acknowledged ∙ ap (λ (v : View). v.acknowledged) whole.view;
          released = end ∙ ap (λ (v : View). v.recovered.confirmed) whole.view;
          left = left_by well t.view whole.view;
        }
      where
        some : ℕ → Option ℕ
        some k = Some k

    pub has_recovered : HasRecovered p life report image before events
    has_recovered = record {
      opening = r;
      recovers = recovers;
      recovered = has_run.recovered ∙ ap (λ (k : ℕ). some k) all_acknowledged;
      released_from = has_run.released_from;
      among = omega (arith, count, le);
      accepted = does.accepted;
      list = ap (λ (k : ℕ). take k before ++ does.accepted) (sym count);
      part = does.part;
      at_least = omega (arith, all_acknowledged, does.acknowledged, has_run.acknowledged);
      acknowledged = omega (arith, has.represents.acknowledged, has_run.acknowledged);
      released = subst (λ (k : ℕ). report.released.items ≡ drop k (output_after p (take report.acknowledged events))) (sym has_run.released_from)
          (subst (λ (k : ℕ). report.released.items ≡ drop old.progress.confirmed (output_after p (take k events))) (sym has_run.acknowledged) released);
      within = subst (λ (k : ℕ). report.released_from ≤ length (output_after p (take k events))) (sym has_run.acknowledged) (omega (arith, size, has.start, has_run.released_from));
      many = part_left.many;
      holds = omega (arith, part_left.holds, has_run.acknowledged);
      no_more = part_left.no_more;
      left = subst (λ (l : List ℕ). RecoversTo p (take part_left.many events) (released_to report) l) (sym has_run.left)
          (subst (λ (k : ℕ). RecoversTo p (take part_left.many events) k (g.content new.disk)) (sym end) part_left.to);
      unbroken = unbroken;
    }
      where
        some : ℕ → Option ℕ
        some k = Some k

    pub has_lived : (events : List Event) × HasRecovered p life report image before events
    has_lived = (events, has_recovered)

-- RECOVERY

-- a recovery over a disk on which nothing is pending leaves its content
pub untouched : {D : Type 0} (g : Ghosts D) (old new : D) (failed : Bool) → IsSyncedAndRead g old new failed → g.is_honest new → ((i : ℕ) → ¬ g.pending old i) → g.content new ≡ g.content old
untouched g old new failed synced honest none = ⊎_elim
    (λ (settled : _). settled.content)
    (λ (torn : _). same_number_lists (g.content new) (g.content old) torn.content.size (λ k _. torn.content.same k (none k)))
    (synced.torn honest)

no_fault : (image : List ℕ) (r : Recovered) (fault : RecoverFault) → Recovers image (Ok r) → Recovers image (Err fault) → ⊥
no_fault image r fault is found =
    let both : ◌≡◌ {A = Result Recovered RecoverFault} (Ok r) (Err fault) = recovers_once image _ _ is found in
    absurd (cc)

-- nothing but the device and want of memory keeps an image that recovers from being recovered
pub only_device_or_memory : (image : List ℕ) (r : Recovered) (fault : RecoverFault) → Recovers image (Ok r) → AgreesOnFault fault (Recovers image) → (fault ≡ Device → ⊥) → (fault ≡ OutOfMemory → ⊥) → ⊥
only_device_or_memory image r NotFormatted is found device memory = no_fault image r NotFormatted is found
only_device_or_memory image r Version is found device memory = no_fault image r Version is found
only_device_or_memory image r Damaged is found device memory = no_fault image r Damaged is found
only_device_or_memory image r Device is found device memory = device refl
only_device_or_memory image r OutOfMemory is found device memory = memory refl
