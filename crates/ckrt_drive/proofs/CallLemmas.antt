-- What a session keeps of its events, over commits, writes of a slot and checkpoints, by what the session says of them.
use Rattle.std.proofs.Common.{◌≡◌, ◌⊎◌, inl, inr, ⊎_elim, ℕ, ◌-◌, ◌≤◌, ◌<◌, Bool, true, false, List, [], ◌∷◌, ◌++◌, length, take, Option, Some, None, Result, Ok, Err, refl, sym, ◌∙◌, ap, subst, arith}
use Rattle.std.specs.Prelude.{MatchOption, IfErr, unwrap_or}
use Rattle.std.proofs.lemmas.List.{take_all, append-nil}
use Rattle.ckrt_disk.specs.Disk.{LeavesOnly}
use Rattle.ckrt_disk.specs.Frame.{IsSameOutside, MayBeLeft}
use Rattle.ckrt_disk.specs.declared.disk.Disk.{Ghosts}
use Rattle.ckrt_disk.proofs.Moments.{weaker}
use Rattle.ckrt_events.specs.declared.event.Event.{Event}
use Rattle.ckrt_events.specs.Bytes.{events_in}
use Rattle.ckrt_events.proofs.EventLemmas.{events_of-encodings}
use Rattle.ckrt_stored.specs.Frame.{in_other_area}
use Rattle.ckrt_stored.specs.Programs.{Program}
use Rattle.ckrt_stored.specs.Progress.{IsOtherLeft, RecoversToOldOrNew, recovered_of}
use Rattle.ckrt_stored.specs.Recovery.{Recovers}
use Rattle.ckrt_recovery.specs.Calls.{Checkpoints, Saves, WritesOtherArea, WritesSpare, checkpoint_refusal}
use Rattle.ckrt_recovery.specs.Represents.{RecoversToEither, Represents, RepresentsSame, acknowledged_of}
use Rattle.ckrt_recovery.specs.View.{View, view_of}
use Rattle.ckrt_recovery.specs.declared.fault.CommitFault.{CommitFault}
use Rattle.ckrt_recovery.specs.declared.fault.CommitFault.TheVariants.{Failed, Device, GenerationsUsed}
use Rattle.ckrt_recovery.specs.declared.session.Session.{Session}
use Rattle.ckrt_recovery.proofs.CommitLemmas.{behind_now}
use Rattle.ckrt_recovery.proofs.SpareLemmas.{AtRisk}
use Rattle.ckrt_drive.specs.Keeping.{IsCommit, KeepsOf}
use Rattle.ckrt_drive.specs.Slot.{slot_offset}
use Rattle.ckrt_drive.proofs.KeepLemmas.{EitherOf, IsKept, RecoversHaving, Written, both, committed_having, committing_having, either_having, front_back, had_now, keeps_content, keeps_images, keeps_same, now, since_call, spared_having, uncalled}

module _ {D : Type 0} {g : Ghosts D} (p : Program) (Has : List Event → List ℕ → Type 0) (kept : IsKept p Has) (events : List Event) (old new : Session D g) (reps : Represents p events old) (keeps : KeepsOf Has events old) (honest : g.is_honest new.disk)
    (only_now : (image : List ℕ) → g.left_since old.disk (g.moment old.disk) image → MayBeLeft g old.disk image) (counts_now : (image : List ℕ) → g.moment old.disk ≤ g.moment new.disk → MayBeLeft g new.disk image → g.left_since new.disk (g.moment old.disk) image)
    (any : LeavesOnly g.moment g.left_since old.disk new.disk (RecoversToEither p events old)) where
  -- with what is kept at any moment
  pub together : LeavesOnly g.moment g.left_since old.disk new.disk (EitherOf Has events old) → LeavesOnly g.moment g.left_since old.disk new.disk (RecoversHaving p Has events old)
  together had = weaker g.moment g.left_since old.disk new.disk _ (RecoversHaving p Has events old) (both g.moment g.left_since old.disk new.disk (RecoversToEither p events old) (EitherOf Has events old) any had)
      (λ image q. either_having p Has kept events old image q.0 q.1)

  -- a session that hasn't called its disk
  untouched_moment : new.disk ≡ old.disk → LeavesOnly g.moment g.left_since old.disk new.disk (RecoversHaving p Has events old)
  untouched_moment same = uncalled g.moment g.left_since old.disk new.disk (RecoversHaving p Has events old) same

  -- a session that the device failed
  failed_keeps : old.failed ≡ false → view_of new ≡ record (view_of old) { failed = true } → LeavesOnly g.moment g.left_since old.disk new.disk (EitherOf Has events old) → KeepsOf Has events new
  failed_keeps running view had =
      let acknowledged : new.acknowledged ≡ old.acknowledged = ap (λ (v : View). v.acknowledged) view in
      keeps_images Has events new (ap (λ (v : View). v.failed) view) (λ image left. subst (λ n. Has (take n events) image ⊎ Has events image) (sym acknowledged)
      (since_call g old.disk new.disk (EitherOf Has events old) only_now (λ i l. inl (keeps.running running i l)) had image (counts_now image had.later left)))

  -- a session all of whose events are acknowledged
  all_keeps : Represents p events new → new.failed ≡ false → new.acknowledged ≡ old.progress.count → Has events (g.content new.disk) → KeepsOf Has events new
  all_keeps again running acknowledged had = keeps_content events new running (again.settled running)
      (subst (λ (es : List Event). Has es (g.content new.disk)) (sym (take_all new.acknowledged events (omega (arith, acknowledged, reps.count)))) had)

  -- COMMITS

  commit_having : old.failed ≡ false → (result : Result ℕ CommitFault) → IsCommit old result new → LeavesOnly g.moment g.left_since old.disk new.disk (EitherOf Has events old)
  commit_having running result is = weaker g.moment g.left_since old.disk new.disk _ (EitherOf Has events old) (is.journals.any_moment honest) (committing_having p Has kept events old reps keeps running)

  commit_untouched : old.failed ≡ true → (result : Result ℕ CommitFault) → IsCommit old result new → new.disk ≡ old.disk
  commit_untouched failed result is = is.commits.no_call (inl failed)

  -- at any moment of one
  pub commit_moment : (result : Result ℕ CommitFault) → IsCommit old result new → LeavesOnly g.moment g.left_since old.disk new.disk (RecoversHaving p Has events old)
  commit_moment result is = by_failed old.failed refl
    where
      by_failed : (b : Bool) → old.failed ≡ b → LeavesOnly g.moment g.left_since old.disk new.disk (RecoversHaving p Has events old)
      by_failed true failed = untouched_moment (commit_untouched failed result is)
      by_failed false running = together (commit_having running result is)

  no_events : events_in [] ≡ []
  no_events = ap (λ (o : Option (List Event)). unwrap_or o []) (events_of-encodings [] tt)

  -- the pending events, if there are any
  commit_ok : old.failed ≡ false → (n : ℕ) → IsCommit old (Ok n) new → (pending : List ℕ) → old.pending.items ≡ pending → Has events (g.content new.disk)
  commit_ok running n is [] none =
      let all : acknowledged_of events old ≡ events = sym (append-nil (acknowledged_of events old)) ∙ ap (λ (es : List Event). acknowledged_of events old ++ es) (sym no_events ∙ ap events_in (sym none)) ∙ front_back p events old reps running in
      subst (λ d. Has events (g.content d)) (sym (is.commits.no_call (inr none))) (subst (λ (es : List Event). Has es (g.content old.disk)) all (had_now p Has kept events old reps keeps running))
  commit_ok running n is (b ∷ bs) some = committed_having p Has kept events old reps keeps running (g.content new.disk) (is.journals.ok (subst (λ (l : List ℕ). 0 < length l) (sym some) (omega arith)) honest)

  -- and behind it
  pub commit_keeps : (result : Result ℕ CommitFault) → IsCommit old result new → KeepsOf Has events new
  commit_keeps result is = by_failed old.failed refl
    where
      by_result : old.failed ≡ false → (r : Result ℕ CommitFault) → IsCommit old r new → KeepsOf Has events new
      by_result running (Ok n) is = all_keeps (is.represents honest p events reps) (ap (λ (v : View). v.failed) is.commits.ok) (ap (λ (v : View). v.acknowledged) is.commits.ok) (commit_ok running n is old.pending.items refl)
      by_result running (Err Failed) is = let other : true ≡ false = sym (is.commits.refused.0 refl) ∙ running in absurd (cc)
      by_result running (Err Device) is = failed_keeps running is.commits.err (commit_having running (Err Device) is)
      by_result running (Err GenerationsUsed) is = absurd (⊎_elim (λ (other : _). absurd (cc)) (λ (other : _). absurd (cc)) is.commits.errors)

      by_refusal : old.failed ≡ true → (r : Result ℕ CommitFault) → r ≡ Err Failed → IsCommit old r new → KeepsOf Has events new
      by_refusal failed (Ok n) other is = absurd (cc)
      by_refusal failed (Err e) other is = keeps_same Has events old new (ap (λ (v : View). v.acknowledged) is.commits.err) (ap (λ (v : View). v.failed) is.commits.err ∙ sym failed) (commit_untouched failed (Err e) is) keeps

      by_failed : (b : Bool) → old.failed ≡ b → KeepsOf Has events new
      by_failed true failed = by_refusal failed result (is.commits.refused.1 failed) is
      by_failed false running = by_result running result is

  -- A WRITE OF THE OTHER AREA'S SLOT

  module _ (bytes : List ℕ) (size : length bytes ≡ 40) where
    abbrev offset : ℕ
    offset = slot_offset (1 - old.progress.area)

    slot_having : old.failed ≡ false → (result : Result (Unit {0}) CommitFault) → WritesSpare old offset bytes result new → LeavesOnly g.moment g.left_since old.disk new.disk (EitherOf Has events old)
    slot_having running result is = weaker g.moment g.left_since old.disk new.disk _ (EitherOf Has events old) (is.within.any_moment honest)
        (λ image same. inl (spared_having p Has kept events old reps keeps running image
        (subst (λ n. IsSameOutside (AtRisk p events old reps running offset n) (g.content old.disk) image) size same)))

    -- at any moment of one
    pub slot_moment : (result : Result (Unit {0}) CommitFault) → WritesSpare old offset bytes result new → LeavesOnly g.moment g.left_since old.disk new.disk (RecoversHaving p Has events old)
    slot_moment result is = by_failed old.failed refl
      where
        by_failed : (b : Bool) → old.failed ≡ b → LeavesOnly g.moment g.left_since old.disk new.disk (RecoversHaving p Has events old)
        by_failed true failed = untouched_moment (ap (λ (s : Session D g). s.disk) (is.unchanged (is.refused.1 failed)))
        by_failed false running = together (slot_having running result is)

    -- and behind it
    pub slot_keeps : (result : Result (Unit {0}) CommitFault) → WritesSpare old offset bytes result new → RepresentsSame old new → KeepsOf Has events new
    slot_keeps result is same = by_failed old.failed refl
      where
        by_result : old.failed ≡ false → (r : Result (Unit {0}) CommitFault) → WritesSpare old offset bytes r new → KeepsOf Has events new
        by_result running (Ok x) is =
            let failed : new.failed ≡ false = ap (λ (v : View). v.failed) is.ok ∙ running in
            let acknowledged : new.acknowledged ≡ old.acknowledged = ap (λ (v : View). v.acknowledged) is.ok in
            let there : IsSameOutside (AtRisk p events old reps running offset 40) (g.content old.disk) (g.content new.disk) =
            subst (λ n. IsSameOutside (AtRisk p events old reps running offset n) (g.content old.disk) (g.content new.disk)) size (is.within.torn honest) in
            keeps_content events new failed ((same p events reps).settled failed)
            (subst (λ n. Has (take n events) (g.content new.disk)) (sym acknowledged) (spared_having p Has kept events old reps keeps running (g.content new.disk) there))
        by_result running (Err Failed) is = let other : true ≡ false = sym (is.refused.0 refl) ∙ running in absurd (cc)
        by_result running (Err Device) is = failed_keeps running (is.err refl) (slot_having running (Err Device) is)
        by_result running (Err GenerationsUsed) is = absurd (⊎_elim (λ (other : _). absurd (cc)) (λ (other : _). absurd (cc)) is.errors)

        by_failed : (b : Bool) → old.failed ≡ b → KeepsOf Has events new
        by_failed true failed = subst (λ (s : Session D g). KeepsOf Has events s) (sym (is.unchanged (is.refused.1 failed))) keeps
        by_failed false running = by_result running result is

  -- A CHECKPOINT, where this is so of images that it may leave and of the one that it leaves

  module _ (running : old.failed ≡ false)
      (saving : (image : List ℕ) → IsSameOutside (Written old) (g.content old.disk) image → IsOtherLeft old.progress (g.content old.disk) image → RecoversToOldOrNew old.progress (now p events old reps running) image → EitherOf Has events old image)
      (saved : (image : List ℕ) → IsSameOutside (Written old) (g.content old.disk) image → Recovers image (Ok (in_other_area (recovered_of old.progress))) → Has events image) where
    save_having : (result : Result ℕ CommitFault) → Saves old result new → WritesOtherArea old result new → LeavesOnly g.moment g.left_since old.disk new.disk (EitherOf Has events old)
    save_having result saves writes =
        let to = saves.any_moment (now p events old reps running) (behind_now p events old reps running) (reps.settled running) honest in
        let outside = both g.moment g.left_since old.disk new.disk _ _ (writes.within.any_moment honest) (saves.other (reps.settled running) honest) in
        weaker g.moment g.left_since old.disk new.disk _ (EitherOf Has events old) (both g.moment g.left_since old.disk new.disk _ _ outside to) (λ image q. saving image q.0.0 q.0.1 q.1)

    -- at any moment of one
    pub save_moment : (result : Result ℕ CommitFault) → Saves old result new → WritesOtherArea old result new → LeavesOnly g.moment g.left_since old.disk new.disk (RecoversHaving p Has events old)
    save_moment result saves writes = together (save_having result saves writes)

    reason_leaves : (reason : Option CommitFault) (fault : CommitFault) → (fault ≡ Device → ⊥) → MatchOption reason (IfErr {T = ℕ} (Err fault) (λ e. e ≡ Device)) (λ f. ◌≡◌ {A = Result ℕ CommitFault} (Err fault) (Err f)) → MatchOption reason (Unit {0}) (λ _. new ≡ old) → new ≡ old
    reason_leaves None fault other why same = absurd (other why)
    reason_leaves (Some f) fault other why same = same

    -- and behind it
    pub save_keeps : (result : Result ℕ CommitFault) → Saves old result new → WritesOtherArea old result new → Checkpoints old result new → RepresentsSame old new → KeepsOf Has events new
    save_keeps (Ok n) saves writes is same = all_keeps (same p events reps) (ap (λ (v : View). v.failed) is.ok) (ap (λ (v : View). v.acknowledged) is.ok)
        (saved (g.content new.disk) (writes.within.torn honest) (saves.ok honest _ (behind_now p events old reps running)))
    save_keeps (Err Device) saves writes is same = failed_keeps running (is.err refl) (save_having (Err Device) saves writes)
    save_keeps (Err Failed) saves writes is same = subst (λ (s : Session D g). KeepsOf Has events s) (sym (reason_leaves (checkpoint_refusal (view_of old)) Failed (λ e. absurd (cc)) is.refused is.unchanged)) keeps
    save_keeps (Err GenerationsUsed) saves writes is same = subst (λ (s : Session D g). KeepsOf Has events s) (sym (reason_leaves (checkpoint_refusal (view_of old)) GenerationsUsed (λ e. absurd (cc)) is.refused is.unchanged)) keeps
