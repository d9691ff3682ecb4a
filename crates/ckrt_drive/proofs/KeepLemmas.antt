-- What a session keeps of its events, over its calls, by what an image has of them; and so what they took of the input.
use Rattle.std.proofs.Common.{◌≡◌, ◌⊎◌, inl, inr, ⊎_elim, ℕ, ◌+◌, ◌-◌, ◌≤◌, true, false, List, ◌++◌, length, take, Some, Ok, refl, sym, ◌∙◌, ap, subst, arith}
use Rattle.std.proofs.lemmas.Bool.{cases_lt}
use Rattle.std.proofs.lemmas.List.{take-append-drop, take-append-le, take_all, length-take-le}
use Rattle.std.proofs.lemmas.Grind.{same_number_lists}
use Rattle.ckrt_disk.specs.Disk.{IsWithin, LeavesOnly}
use Rattle.ckrt_disk.specs.Frame.{IsSameOutside, MayBeLeft}
use Rattle.ckrt_disk.specs.declared.disk.Disk.{Ghosts}
use Rattle.ckrt_disk.proofs.Images.{wider_image}
use Rattle.ckrt_disk.proofs.Moments.{goes_on, started, weaker}
use Rattle.ckrt_events.specs.declared.event.Event.{Event}
use Rattle.ckrt_events.specs.Bytes.{events_in}
use Rattle.ckrt_journal.specs.Append.{HasAppended, IsAppending, MayHaveAppended}
use Rattle.ckrt_journal.specs.declared.journal.Journal.{Journal}
use Rattle.ckrt_stored.specs.declared.config.Config.{Config}
use Rattle.ckrt_stored.specs.Layout.{area_at, area_size, journal_at, size_needed}
use Rattle.ckrt_stored.specs.Write.{WritesAt}
use Rattle.ckrt_stored.proofs.PickLemmas.{area_end}
use Rattle.ckrt_stored.specs.Frame.{BelongsTo, in_other_area}
use Rattle.ckrt_stored.specs.Programs.{Program, RecoversTo}
use Rattle.ckrt_stored.specs.Progress.{RecoversToOldOrNew, recovered_of}
use Rattle.ckrt_stored.specs.Recovery.{Recovered, Recovers}
use Rattle.ckrt_stored.proofs.GrowthLemmas.{area_0_or_1, journal_spared}
use Rattle.ckrt_recovery.specs.Represents.{RecoversToEither, Represents, acknowledged_of}
use Rattle.ckrt_recovery.specs.View.{View, view_of}
use Rattle.ckrt_recovery.specs.declared.session.Session.{Session}
use Rattle.ckrt_recovery.proofs.CommitLemmas.{decoded, now_like}
use Rattle.ckrt_recovery.proofs.SpareLemmas.{AtRisk, recovers_spared}
use Rattle.ckrt_schedule.specs.Taken.{taken_by}
use Rattle.ckrt_drive.specs.declared.slot.Slot.{Slot}
use Rattle.ckrt_drive.specs.Slot.{slot_at, slot_of, slot_offset}
use Rattle.ckrt_drive.specs.Fed.{IsFed}
use Rattle.ckrt_drive.specs.Keeping.{KeepsInput, KeepsOf}
use Rattle.ckrt_drive.proofs.FedLemmas.{appended_fed, appending_fed, as_recovered, one_of_two, slot_fed, stays_fed}
use Rattle.ckrt_drive.proofs.RecordedLemmas.{written_belongs}
use Rattle.ckrt_drive.proofs.SlotLemmas.{slot_stays}

-- MOMENTS

-- what each image has of two things
pub both : {D : Type 0} (moment : D → ℕ) (left_since : D → ℕ → List ℕ → Type 0) (old new : D) (P Q : List ℕ → Type 0) → LeavesOnly moment left_since old new P → LeavesOnly moment left_since old new Q
    → LeavesOnly moment left_since old new (λ image. P image × Q image)
both moment left_since old new P Q first second = record {
  later = first.later;
  each = λ t image le left. ⊎_elim (λ past. inl past) (λ p. ⊎_elim (λ past. inl past) (λ q. inr (p, q)) (second.each t image le left)) (first.each t image le left);
}

-- what holds of each image that a stop may leave since a call began, holds of what one may leave now
pub since_call : {D : Type 0} (g : Ghosts D) (old new : D) (P : List ℕ → Type 0) → ((image : List ℕ) → g.left_since old (g.moment old) image → MayBeLeft g old image) → ((image : List ℕ) → MayBeLeft g old image → P image)
    → LeavesOnly g.moment g.left_since old new P → (image : List ℕ) → g.left_since new (g.moment old) image → P image
since_call g old new P only_now before so image left = ⊎_elim (λ past. before image (only_now image past)) (λ q. q) (so.each (g.moment old) image (omega arith) left)

-- of a disk that wasn't called
pub uncalled : {D : Type 0} (moment : D → ℕ) (left_since : D → ℕ → List ℕ → Type 0) (old new : D) (P : List ℕ → Type 0) → new ≡ old → LeavesOnly moment left_since old new P
uncalled moment left_since old new P same = subst (λ d. LeavesOnly moment left_since old d P) (sym same) (started moment left_since old P)

-- WHAT AN IMAGE HAS OF EVENTS

-- Images have this of lists of events: of as many as they recover to, and more as batches are appended, and writes of the other area's slot leave it.
pub record IsKept (p : Program) (Has : List Event → List ℕ → Type 0) : Type 0 where
  pub as_many : (xs ys : List Event) (limit : ℕ) (image : List ℕ) → RecoversTo p xs limit image → Has ys image → length xs ≡ length ys
  pub appending : (events : List Event) (before image : List ℕ) (r : Recovered) (batch : List ℕ) → Recovers before (Ok r) → Has events before → MayHaveAppended r.journal batch before image
      → Has events image ⊎ Has (events ++ events_in batch) image
  pub appended : (events : List Event) (before image : List ℕ) (r : Recovered) (batch : List ℕ) → Recovers before (Ok r) → Has events before → HasAppended r.journal batch before image → Has (events ++ events_in batch) image
  pub spared : (events : List Event) (before image : List ℕ) (r : Recovered) → Recovers before (Ok r) → Recovers image (Ok r) → IsSameOutside (IsWithin (slot_at r.config (1 - r.area)) 40) before image → Has events before → Has events image

-- it has it of the acknowledged ones of these events, or of all
abbrev pub EitherOf : {D : Type 0} {g : Ghosts D} → (Has : List Event → List ℕ → Type 0) → List Event → Session D g → (image : List ℕ) → Type 0
EitherOf Has events s image = Has (acknowledged_of events s) image ⊎ Has events image

-- and it recovers to just these
abbrev pub RecoversHaving : {D : Type 0} {g : Ghosts D} → Program → (Has : List Event → List ℕ → Type 0) → List Event → Session D g → (image : List ℕ) → Type 0
RecoversHaving p Has events s image =
    (RecoversTo p (acknowledged_of events s) s.progress.confirmed image × Has (acknowledged_of events s) image)
    ⊎ (RecoversTo p events s.progress.confirmed image × Has events image)

whole_front : (n : ℕ) (xs : List Event) → length (take n xs) ≡ length xs → take n xs ≡ xs
whole_front n xs same = elim (cases_lt n (length xs)) [
  | inl few ↦ absurd (let short : length (take n xs) ≡ n = length-take-le n xs (omega (arith, few)) in omega (arith, few, short, same))
  | inr all ↦ take_all n xs all
]

-- what is had is of the list that it recovers to
pub either_having : {D : Type 0} {g : Ghosts D} (p : Program) (Has : List Event → List ℕ → Type 0) → IsKept p Has → (events : List Event) (s : Session D g) (image : List ℕ) → RecoversToEither p events s image → EitherOf Has events s image → RecoversHaving p Has events s image
either_having p Has kept events s image to is = ⊎_elim
    (λ (few : _). ⊎_elim (λ (h : _). inl (few, h))
    (λ (h : _). inl (few, subst (λ (es : List Event). Has es image) (sym (whole_front s.acknowledged events (kept.as_many (acknowledged_of events s) events s.progress.confirmed image few h))) h)) is)
    (λ (all : _). ⊎_elim (λ (h : _). inr (all, subst (λ (es : List Event). Has es image) (whole_front s.acknowledged events (sym (kept.as_many events (acknowledged_of events s) s.progress.confirmed image all h))) h))
    (λ (h : _). inr (all, h)) is) to

-- what a stop leaves of a call behind one that leaves the session as it is seen
pub moments_back : {D : Type 0} {g : Ghosts D} (p : Program) (Has : List Event → List ℕ → Type 0) (events : List Event) (old mid new : Session D g) → view_of mid ≡ view_of old
    → LeavesOnly g.moment g.left_since old.disk mid.disk (RecoversHaving p Has events old) → LeavesOnly g.moment g.left_since mid.disk new.disk (RecoversHaving p Has events mid) → LeavesOnly g.moment g.left_since old.disk new.disk (RecoversHaving p Has events old)
moments_back {g = g} p Has events old mid new view first second = goes_on g.moment g.left_since old.disk mid.disk new.disk (RecoversHaving p Has events old) first
    (weaker g.moment g.left_since mid.disk new.disk (RecoversHaving p Has events mid) (RecoversHaving p Has events old) second
    (λ image q. subst (λ (v : View). (RecoversTo p (take v.acknowledged events) v.recovered.confirmed image × Has (take v.acknowledged events) image) ⊎ (RecoversTo p events v.recovered.confirmed image × Has events image)) view q))

-- WHERE THINGS LIE

-- a header, a journal and a slot lie apart from what a write behind the format changes, but for the slot itself
header_before : (c : Config) (area at : ℕ) → (area ≡ 0) ⊎ (area ≡ 1) → size_needed c ≤ at → (n i : ℕ) → IsWithin (area_at c area) 40 i → ¬ IsWithin at n i
header_before c area at which behind n i w v = omega (arith, w.1, v.0, behind, area_end c area which)

other_slot : (c : Config) (area i : ℕ) → (area ≡ 0) ⊎ (area ≡ 1) → IsWithin (slot_at c area) 40 i → ¬ IsWithin (slot_at c (1 - area)) 40 i
other_slot c area i which w v = ⊎_elim
    (λ (is : area ≡ 0). let a = subst (λ k. IsWithin (slot_at c k) 40 i) is w in let b = subst (λ k. IsWithin (slot_at c (1 - k)) 40 i) is v in omega (arith, a.1, b.0))
    (λ (is : area ≡ 1). let a = subst (λ k. IsWithin (slot_at c k) 40 i) is w in let b = subst (λ k. IsWithin (slot_at c (1 - k)) 40 i) is v in omega (arith, a.0, b.1)) which

other_of : (area : ℕ) → (area ≡ 0) ⊎ (area ≡ 1) → (1 - area ≡ 0) ⊎ (1 - area ≡ 1)
other_of area which = ⊎_elim (λ (is : area ≡ 0). inr (omega (arith, is))) (λ (is : area ≡ 1). inl (omega (arith, is))) which

-- what belongs to an area lies before the slots
before_slot : (c : Config) (area slot i : ℕ) → (area ≡ 0) ⊎ (area ≡ 1) → IsWithin (slot_at c slot) 40 i → ¬ BelongsTo c area i
before_slot c area slot i which w b = ⊎_elim (λ (inside : _). omega (arith, inside.1, w.0, area_end c area which)) (λ (j : _). journal_spared c area which i j (omega (arith, w.0))) b

-- OVER CALLS

-- the places that a checkpoint may write, and what was pending
abbrev pub Written : {D : Type 0} {g : Ghosts D} → Session D g → ℕ → Type 0
Written {g = g} old i = g.pending old.disk i ⊎ WritesAt old.progress.config (1 - old.progress.area) i

-- the slot that is written before one
abbrev pub next_slot : {D : Type 0} {g : Ghosts D} → List Event → Session D g → Slot
next_slot events old = record { generation = old.progress.generation + 1; count = old.progress.count; taken = taken_by events }

module _ {D : Type 0} {g : Ghosts D} (p : Program) (events : List Event) (old : Session D g) (reps : Represents p events old) (running : old.failed ≡ false) where
  -- what the disk recovers to
  abbrev pub now : Recovered
  now = (now_like p events old reps running).to.recovered

  -- so it does
  pub recovers : Recovers (g.content old.disk) (Ok now)
  recovers = (now_like p events old reps running).to.recovers

  config : now.config ≡ old.progress.config
  config = (now_like p events old reps running).to.has_events.config ∙ sym reps.config

  area : now.area ≡ old.progress.area
  area = (now_like p events old reps running).area

  -- the area in use is one of two
  pub which : (old.progress.area ≡ 0) ⊎ (old.progress.area ≡ 1)
  which = subst (λ n. (n ≡ 0) ⊎ (n ≡ 1)) area (one_of_two (g.content old.disk) now recovers)

  -- what the disk recovers to has the configuration and the area of the session
  pub place : ◌≡◌ {A = Config × ℕ} (now.config, now.area) (old.progress.config, old.progress.area)
  place = let c = config in let a = area in cc

  -- the acknowledged events and the pending ones
  pub front_back : acknowledged_of events old ++ events_in old.pending.items ≡ events
  front_back = ap (λ (es : List Event). acknowledged_of events old ++ es) (decoded p events old reps old.pending.items refl) ∙ take-append-drop old.acknowledged events

  -- nothing was pending: a write of the other area's slot changes that alone
  pub spared_alone : (image : List ℕ) → IsSameOutside (AtRisk p events old reps running (slot_offset (1 - old.progress.area)) 40) (g.content old.disk) image → IsSameOutside (IsWithin (slot_at now.config (1 - now.area)) 40) (g.content old.disk) image
  spared_alone image same = subst (λ (u : Config × ℕ). IsSameOutside (IsWithin (slot_at u.0 (1 - u.1)) 40) (g.content old.disk) image) (sym place)
      (wider_image (AtRisk p events old reps running (slot_offset (1 - old.progress.area)) 40) (IsWithin (slot_at old.progress.config (1 - old.progress.area)) 40) (g.content old.disk) image (λ i. ⊎_elim (λ had. absurd (reps.settled running i had)) (λ w. w)) same)

  -- and a checkpoint the other area alone
  pub written_alone : (image : List ℕ) → IsSameOutside (Written old) (g.content old.disk) image → IsSameOutside (WritesAt old.progress.config (1 - old.progress.area)) (g.content old.disk) image
  written_alone image same = wider_image (Written old) (WritesAt old.progress.config (1 - old.progress.area)) (g.content old.disk) image (λ i. ⊎_elim (λ had. absurd (reps.settled running i had)) (λ w. w)) same

module _ {D : Type 0} {g : Ghosts D} (p : Program) (Has : List Event → List ℕ → Type 0) (kept : IsKept p Has) (events : List Event) (old : Session D g) (reps : Represents p events old) (keeps : KeepsOf Has events old) (running : old.failed ≡ false) where
  -- what the content has
  pub had_now : Has (acknowledged_of events old) (g.content old.disk)
  had_now = keeps.running running (g.content old.disk) (record { size = refl; same = λ i out. refl })

  -- a write of the other area's slot
  pub spared_having : (image : List ℕ) → IsSameOutside (AtRisk p events old reps running (slot_offset (1 - old.progress.area)) 40) (g.content old.disk) image → Has (acknowledged_of events old) image
  spared_having image same = kept.spared (acknowledged_of events old) (g.content old.disk) image (now p events old reps running) (recovers p events old reps running) (recovers_spared p events old reps running (slot_offset (1 - old.progress.area)) 40 image same)
      (spared_alone p events old reps running image same) had_now

  -- a commit at any moment
  pub committing_having : (image : List ℕ) → IsAppending old.progress.journal old.pending.items g old.disk image → EitherOf Has events old image
  committing_having image q =
      let like = reps.images running q.0 q.1 in
      let may : MayHaveAppended like.to.recovered.journal old.pending.items q.0 image = subst (λ (j : Journal). MayHaveAppended j old.pending.items q.0 image) (sym like.journal) q.2 in
      ⊎_elim (λ (h : _). inl h) (λ (h : _). inr (subst (λ (es : List Event). Has es image) (front_back p events old reps running) h))
      (kept.appending (acknowledged_of events old) q.0 image like.to.recovered old.pending.items like.to.recovers (keeps.running running q.0 q.1) may)

  -- and behind it
  pub committed_having : (image : List ℕ) → HasAppended old.progress.journal old.pending.items (g.content old.disk) image → Has events image
  committed_having image has =
      let like = now_like p events old reps running in
      let there : HasAppended like.to.recovered.journal old.pending.items (g.content old.disk) image = subst (λ (j : Journal). HasAppended j old.pending.items (g.content old.disk) image) (sym like.journal) has in
      subst (λ (es : List Event). Has es image) (front_back p events old reps running) (kept.appended (acknowledged_of events old) (g.content old.disk) image like.to.recovered old.pending.items like.to.recovers had_now there)

-- THE INPUT

-- header, journal and slot of the area in use lie apart from the other area's slot
fed_spared : (events : List Event) (before image : List ℕ) (r : Recovered) → Recovers before (Ok r) → Recovers image (Ok r) → IsSameOutside (IsWithin (slot_at r.config (1 - r.area)) 40) before image → IsFed events before → IsFed events image
fed_spared events before image r recovered still same is =
    let one = one_of_two before r recovered in
    stays_fed events before image r recovered still (IsWithin (slot_at r.config (1 - r.area)) 40) same
    (λ i w. header_before r.config r.area (slot_at r.config (1 - r.area)) one (omega arith) 40 i w)
    (λ i w v. journal_spared r.config r.area one i w (omega (arith, v.0)))
    (λ i w. other_slot r.config r.area i one w) is

-- what the events took is kept so
pub fed_kept : (p : Program) → IsKept p IsFed
fed_kept p = record { as_many = as_recovered p; appending = appending_fed; appended = appended_fed; spared = fed_spared }

module _ {D : Type 0} {g : Ghosts D} (p : Program) (events : List Event) (old : Session D g) (reps : Represents p events old) (keeps : KeepsInput events old) (running : old.failed ≡ false) where
  written_apart : (i : ℕ) → Written old i → (¬ IsWithin (area_at old.progress.config old.progress.area) (area_size old.progress.config) i) × (¬ IsWithin (journal_at old.progress.config old.progress.area) old.progress.config.journal i)
  written_apart i w = ⊎_elim (λ had. absurd (reps.settled running i had))
      (λ v. let a = area_0_or_1 old.progress.config old.progress.area (1 - old.progress.area) (which p events old reps running) refl i (written_belongs old.progress (1 - old.progress.area) i v) in (a.1, a.2)) w

  slots_apart : (slot i : ℕ) → IsWithin (slot_at old.progress.config slot) 40 i → ¬ Written old i
  slots_apart slot i w = ⊎_elim (reps.settled running i)
      (λ v. before_slot old.progress.config (1 - old.progress.area) slot i (other_of old.progress.area (which p events old reps running)) w (written_belongs old.progress (1 - old.progress.area) i v))

  -- a checkpoint: the program as it is, in the other area
  pub checkpointed_fed : (image : List ℕ) → slot_of old.progress.config (1 - old.progress.area) (g.content old.disk) ≡ Some (next_slot events old) → IsSameOutside (Written old) (g.content old.disk) image
      → Recovers image (Ok (in_other_area (recovered_of old.progress))) → IsFed events image
  checkpointed_fed image slot same saved = slot_fed image (in_other_area (recovered_of old.progress)) saved refl events reps.count
      (slot_stays old.progress.config (1 - old.progress.area) (Written old) (g.content old.disk) image same (slots_apart (1 - old.progress.area)) ∙ slot)

  -- header, journal and slot of the area in use stay
  unsaved_fed : (image : List ℕ) → Recovers image (Ok (now p events old reps running)) → IsSameOutside (Written old) (g.content old.disk) image → IsFed (acknowledged_of events old) image
  unsaved_fed image still same =
      let there = sym (place p events old reps running) in
      stays_fed (acknowledged_of events old) (g.content old.disk) image (now p events old reps running) (recovers p events old reps running) still (Written old) same
      (subst (λ (u : Config × ℕ). (i : ℕ) → IsWithin (area_at u.0 u.1) 40 i → ¬ Written old i) there (λ i w v. (written_apart i v).0 (w.0, omega (arith, w.1))))
      (subst (λ (u : Config × ℕ). (i : ℕ) → IsWithin (journal_at u.0 u.1) u.0.journal i → ¬ Written old i) there (λ i w v. (written_apart i v).1 w))
      (subst (λ (u : Config × ℕ). (i : ℕ) → IsWithin (slot_at u.0 u.1) 40 i → ¬ Written old i) there (slots_apart old.progress.area))
      (had_now p IsFed (fed_kept p) events old reps keeps running)

  -- at any moment of one
  pub checkpointing_fed : (image : List ℕ) → slot_of old.progress.config (1 - old.progress.area) (g.content old.disk) ≡ Some (next_slot events old) → IsSameOutside (Written old) (g.content old.disk) image
      → RecoversToOldOrNew old.progress (now p events old reps running) image → EitherOf IsFed events old image
  checkpointing_fed image slot same to = ⊎_elim (λ (still : _). inl (unsaved_fed image still same)) (λ (saved : _). inr (checkpointed_fed image slot same saved)) to

-- WHERE THE DISK STAYS

-- the disk of a session on which nothing is pending has one image
pub one_image : {D : Type 0} (g : Ghosts D) (disk : D) (image : List ℕ) → ((i : ℕ) → ¬ g.pending disk i) → MayBeLeft g disk image → image ≡ g.content disk
one_image g disk image durable left = same_number_lists image (g.content disk) left.size (λ k _. left.same k (durable k))

-- a session that is seen as before, with the same disk, keeps the same
pub keeps_same : {D : Type 0} {g : Ghosts D} (Has : List Event → List ℕ → Type 0) (events : List Event) (old new : Session D g) → new.acknowledged ≡ old.acknowledged → new.failed ≡ old.failed → new.disk ≡ old.disk → KeepsOf Has events old → KeepsOf Has events new
keeps_same {g = g} Has events old new acknowledged failed disk keeps = record {
  running = λ is image left. subst (λ n. Has (take n events) image) (sym acknowledged) (keeps.running (sym failed ∙ is) image (subst (λ d. MayBeLeft g d image) disk left));
  failed = λ is image left. subst (λ n. Has (take n events) image ⊎ Has events image) (sym acknowledged) (keeps.failed (sym failed ∙ is) image (subst (λ d. MayBeLeft g d image) disk left));
}

-- with one event more that isn't acknowledged
pub keeps_more : {D : Type 0} {g : Ghosts D} (Has : List Event → List ℕ → Type 0) (events more : List Event) (old new : Session D g) → old.acknowledged ≤ length events → new.acknowledged ≡ old.acknowledged → new.failed ≡ old.failed → old.failed ≡ false → new.disk ≡ old.disk
    → KeepsOf Has events old → KeepsOf Has (events ++ more) new
keeps_more {g = g} Has events more old new within acknowledged failed running disk keeps = record {
  running = λ is image left. subst (λ (es : List Event). Has es image) (sym (ap (λ n. take n (events ++ more)) acknowledged ∙ take-append-le old.acknowledged events more within))
      (keeps.running running image (subst (λ d. MayBeLeft g d image) disk left));
  failed = λ is. let other : true ≡ false = sym is ∙ (failed ∙ running) in absurd (cc);
}

-- a session that hasn't failed, on whose disk nothing is pending, keeps what its content does
pub keeps_content : {D : Type 0} {g : Ghosts D} {Has : List Event → List ℕ → Type 0} (events : List Event) (s : Session D g) → s.failed ≡ false → ((i : ℕ) → ¬ g.pending s.disk i) → Has (acknowledged_of events s) (g.content s.disk) → KeepsOf Has events s
keeps_content {g = g} {Has = Has} events s running durable is = record {
  running = λ _ image left. subst (λ (l : List ℕ). Has (acknowledged_of events s) l) (sym (one_image g s.disk image durable left)) is;
  failed = λ was. let other : true ≡ false = sym was ∙ running in absurd (cc);
}

-- one that has keeps what each image does
pub keeps_images : {D : Type 0} {g : Ghosts D} (Has : List Event → List ℕ → Type 0) (events : List Event) (s : Session D g) → s.failed ≡ true → ((image : List ℕ) → MayBeLeft g s.disk image → EitherOf Has events s image) → KeepsOf Has events s
keeps_images Has events s failed is = record {
  running = λ was. let other : true ≡ false = sym failed ∙ was in absurd (cc);
  failed = λ _. is;
}
