-- A write of the other area's slot, and a checkpoint behind it, as one call.
use Rattle.std.proofs.Common.{◌≡◌, inl, inr, ⊎_elim, ℕ, ◌+◌, ◌-◌, ◌≤◌, ◌<◌, ◌^◌, Bool, true, false, if◌then◌else◌, nat_eq, List, length, take, Option, Some, None, Result, Ok, Err, refl, sym, ◌∙◌, ap, subst, arith}
use Rattle.std.specs.Prelude.{MatchOption, is_some}
use Rattle.std.proofs.lemmas.Bool.Decides.{nat_tests}
use Rattle.ckrt_disk.specs.Disk.{IsOverwritten, IsWithin, LeavesOnly}
use Rattle.ckrt_disk.specs.Frame.{WritesWithin}
use Rattle.ckrt_disk.specs.declared.disk.Disk.{Ghosts}
use Rattle.ckrt_disk.proofs.FrameLemmas.{failed_within, wider, writes_on}
use Rattle.ckrt_disk.proofs.Moments.{goes_on, weaker}
use Rattle.ckrt_stored.specs.declared.config.Config.{Config}
use Rattle.ckrt_stored.specs.Write.{WritesAt, dirty_pages}
use Rattle.ckrt_events.specs.declared.event.Event.{Event}
use Rattle.ckrt_machine.specs.Events.{Machine, memory_in}
use Rattle.ckrt_stored.specs.Programs.{Program}
use Rattle.ckrt_recovery.specs.Calls.{Checkpoints, WritesOtherArea, WritesSpare, checkpoint_calls, checkpoint_refusal, dirty_of, is_device}
use Rattle.ckrt_recovery.specs.Represents.{RecoversToEither}
use Rattle.ckrt_recovery.specs.View.{View, view_of}
use Rattle.ckrt_recovery.specs.declared.fault.CommitFault.{CommitFault}
use Rattle.ckrt_recovery.specs.declared.fault.CommitFault.TheVariants.{Failed, Device, GenerationsUsed}
use Rattle.ckrt_recovery.specs.declared.session.Session.{Session}
use Rattle.ckrt_recovery.proofs.SessionLemmas.{recovers_either}
use Rattle.ckrt_schedule.specs.Taken.{taken_by}
use Rattle.ckrt_drive.specs.declared.slot.Slot.{Slot}
use Rattle.ckrt_drive.specs.Fed.{IsFed}
use Rattle.ckrt_drive.specs.Keeping.{RecordsAt, RecoversFedEither, WritesRecord}
use Rattle.ckrt_drive.specs.SlotLaws.{IsInRange}
use Rattle.ckrt_drive.specs.Slot.{TAKEN_LIMIT, slot_at, slot_bytes, slot_of, slot_offset}
use Rattle.ckrt_drive.proofs.KeepLemmas.{moments_back, next_slot}
use Rattle.ckrt_drive.proofs.SlotLemmas.{written_slot}

-- REASONS

abbrev by_tests : (failed last : Bool) → Option CommitFault
by_tests failed last = if failed then Some Failed else if last then Some GenerationsUsed else None

some_reason : (failed last : Bool) → last ≡ true → is_some (by_tests failed last) ≡ true
some_reason true last is = refl
some_reason false true is = refl
some_reason false false is = absurd (cc)

failed_reason : (failed last : Bool) → failed ≡ true → is_some (by_tests failed last) ≡ true
failed_reason true last is = refl
failed_reason false last is = absurd (cc)

no_reason : (failed last : Bool) → failed ≡ false → last ≡ false → by_tests failed last ≡ None
no_reason false false f l = refl
no_reason false true f l = absurd (cc)
no_reason true last f l = absurd (cc)

-- the last generation is a reason
pub last_refused : {D : Type 0} {g : Ghosts D} (s : Session D g) → s.progress.generation ≡ 2 ^ 64 - 1 → is_some (checkpoint_refusal (view_of s)) ≡ true
last_refused s is = some_reason s.failed (nat_eq s.progress.generation (2 ^ 64 - 1)) (grind (arith, nat_tests, is))

pub failed_refused : {D : Type 0} {g : Ghosts D} (s : Session D g) → s.failed ≡ true → is_some (checkpoint_refusal (view_of s)) ≡ true
failed_refused s is = failed_reason s.failed (nat_eq s.progress.generation (2 ^ 64 - 1)) is

pub none_refused : {D : Type 0} {g : Ghosts D} (s : Session D g) → s.failed ≡ false → ¬ (s.progress.generation ≡ 2 ^ 64 - 1) → checkpoint_refusal (view_of s) ≡ None
none_refused s running more = no_reason s.failed (nat_eq s.progress.generation (2 ^ 64 - 1)) running (grind (arith, nat_tests, more))

by_reason : {D : Type 0} {g : Ghosts D} (old new : Session D g) (reason : Option CommitFault) → is_some reason ≡ true → MatchOption reason (Unit {0}) (λ _. new ≡ old) → new ≡ old
by_reason old new (Some f) is same = same
by_reason old new None is same = absurd (cc)

-- a reason leaves the session as it is
pub refused_same : {D : Type 0} {g : Ghosts D} (old new : Session D g) (result : Result ℕ CommitFault) → is_some (checkpoint_refusal (view_of old)) ≡ true → Checkpoints old result new → new ≡ old
refused_same old new result reason is = by_reason old new (checkpoint_refusal (view_of old)) reason is.unchanged

-- THE DISK

abbrev calls_by : Bool → Bool → ℕ → ℕ
calls_by refused was_open dirty = if refused then 0 else (if was_open then 2 else 0) + dirty + 6

not_both : (b : Bool) → b ≡ true → b ≡ false → ⊥
not_both b is not = let e : true ≡ false = sym is ∙ not in absurd (cc)

module _ {D : Type 0} {g : Ghosts D} (old : Session D g) where
  abbrev region : ℕ → Type 0
  region = RecordsAt old

  abbrev none_open : ℕ
  none_open = if is_some (checkpoint_refusal (view_of old)) then 0 else checkpoint_calls (view_of old) (dirty_of old) false + 2

  -- a checkpoint that is refused
  pub refused_record : (new : Session D g) (result : Result ℕ CommitFault) → is_some (checkpoint_refusal (view_of old)) ≡ true → WritesOtherArea old result new → WritesRecord old result new
  refused_record new result reason writes = record {
    was_open = writes.was_open;
    calls = checkpoint_calls (view_of old) (dirty_of old) writes.was_open;
    many = λ none. absurd (not_both (is_some (checkpoint_refusal (view_of old))) reason none);
    none = λ some. ap (λ b. calls_by b writes.was_open (dirty_of old)) some;
    within = wider g _ region _ old.disk new.disk (is_device result) (λ i w. inr w) writes.within;
  }

  -- a slot that wasn't written
  pub unwritten_record : (mid : Session D g) (bytes : List ℕ) (fault : CommitFault) → length bytes ≡ 40 → WritesSpare old (slot_offset (1 - old.progress.area)) bytes (Err fault) mid → WritesRecord old (Err fault) mid
  unwritten_record mid bytes Failed size is =
      let failed : old.failed ≡ true = is.refused.0 refl in
      let none : (if old.failed then 0 else 2) ≡ 0 = ap (λ (b : Bool). if b then 0 else 2) failed in
      record {
        was_open = false;
        calls = 0;
        many = λ none. absurd (not_both (is_some (checkpoint_refusal (view_of old))) (failed_refused old failed) none);
        none = λ _. refl;
        within = wider g _ region 0 old.disk mid.disk false (λ i w. inl w) (subst (λ k. WritesWithin g (IsWithin (slot_at old.progress.config (1 - old.progress.area)) 40) k old.disk mid.disk false) none
            (subst (λ n. WritesWithin g (IsWithin (slot_at old.progress.config (1 - old.progress.area)) n) (if old.failed then 0 else 2) old.disk mid.disk false) size is.within));
      }
  unwritten_record mid bytes Device size is = record {
    was_open = false;
    calls = none_open;
    many = λ is. ap (λ (b : Bool). if b then 0 else checkpoint_calls (view_of old) (dirty_of old) false + 2) is;
    none = λ is. ap (λ (b : Bool). if b then 0 else checkpoint_calls (view_of old) (dirty_of old) false + 2) is;
    within = failed_within g region _ none_open old.disk mid.disk true refl
        (wider g _ region _ old.disk mid.disk true (λ i w. inl w) (subst (λ n. WritesWithin g (IsWithin (slot_at old.progress.config (1 - old.progress.area)) n) (if old.failed then 0 else 2) old.disk mid.disk true) size is.within));
  }
  unwritten_record mid bytes GenerationsUsed size is = absurd (⊎_elim (λ (other : _). absurd (cc)) (λ (other : _). absurd (cc)) is.errors)

  -- A SLOT, AND A CHECKPOINT BEHIND IT

  module _ (mid new : Session D g) (bytes : List ℕ) (size : length bytes ≡ 40) (x : Unit {0}) (written : WritesSpare old (slot_offset (1 - old.progress.area)) bytes (Ok x) mid) (result : Result ℕ CommitFault) (more : ¬ (old.progress.generation ≡ 2 ^ 64 - 1)) where
    view : view_of mid ≡ view_of old
    view = written.ok

    running_by : (b : Bool) → old.failed ≡ b → old.failed ≡ false
    running_by false is = is
    running_by true is = let other : ◌≡◌ {A = Result (Unit {0}) CommitFault} (Ok x) (Err Failed) = written.refused.1 is in absurd (cc)

    pub running : old.failed ≡ false
    running = running_by old.failed refl

    acknowledged : mid.acknowledged ≡ old.acknowledged
    acknowledged = ap (λ (v : View). v.acknowledged) view

    confirmed : mid.progress.confirmed ≡ old.progress.confirmed
    confirmed = ap (λ (v : View). v.recovered.confirmed) view

    config : mid.progress.config ≡ old.progress.config
    config = ap (λ (v : View). v.recovered.config) view

    area : mid.progress.area ≡ old.progress.area
    area = ap (λ (v : View). v.recovered.area) view

    count : mid.progress.count ≡ old.progress.count
    count = ap (λ (v : View). v.recovered.count) view

    generation : mid.progress.generation ≡ old.progress.generation
    generation = ap (λ (v : View). v.recovered.generation) view

    pub running_mid : mid.failed ≡ false
    running_mid = ap (λ (v : View). v.failed) view ∙ running

    none : checkpoint_refusal (view_of old) ≡ None
    none = none_refused old running more

    place : ◌≡◌ {A = Config × ℕ} (mid.progress.config, mid.progress.area) (old.progress.config, old.progress.area)
    place = let c = config in let a = area in cc

    same_calls : (was_open : Bool) → checkpoint_calls (view_of mid) (dirty_of mid) was_open ≡ checkpoint_calls (view_of old) (dirty_of old) was_open
    same_calls was_open =
        ap (λ (v : View). checkpoint_calls v (dirty_of mid) was_open) view
        ∙ ap (λ (u : Config × ℕ). checkpoint_calls (view_of old) (dirty_pages u.0 (1 - u.1) (memory_in mid.progress.machine)) was_open) place
        ∙ ap (λ (m : Machine). checkpoint_calls (view_of old) (dirty_pages old.progress.config (1 - old.progress.area) (memory_in m)) was_open) written.machine

    -- the disk
    pub written_record : WritesOtherArea mid result new → WritesRecord old result new
    written_record writes =
        let n = checkpoint_calls (view_of mid) (dirty_of mid) writes.was_open in
        let slot = IsWithin (slot_at old.progress.config (1 - old.progress.area)) in
        let first : WritesWithin g (slot 40) 2 old.disk mid.disk false =
        subst (λ k. WritesWithin g (slot 40) k old.disk mid.disk false) (ap (λ (b : Bool). if b then 0 else 2) running) (subst (λ k. WritesWithin g (slot k) (if old.failed then 0 else 2) old.disk mid.disk false) size written.within) in
        let second : WritesWithin g (WritesAt old.progress.config (1 - old.progress.area)) n mid.disk new.disk (is_device result) =
        subst (λ (u : Config × ℕ). WritesWithin g (WritesAt u.0 (1 - u.1)) n mid.disk new.disk (is_device result)) place writes.within in
        record {
          was_open = writes.was_open;
          calls = 2 + n;
          many = λ _. omega (arith, same_calls writes.was_open);
          none = λ some. absurd (not_both (is_some (checkpoint_refusal (view_of old))) some (ap is_some none));
          within = writes_on g region 2 n old.disk mid.disk new.disk (is_device result) (wider g (slot 40) region 2 old.disk mid.disk false (λ i w. inl w) first)
              (wider g (WritesAt old.progress.config (1 - old.progress.area)) region n mid.disk new.disk (is_device result) (λ i w. inr w) second);
        }

    -- what an image recovers to, said of either
    either_back : (p : Program) (events : List Event) (image : List ℕ) → RecoversToEither p events mid image → RecoversToEither p events old image
    either_back p events image to = recovers_either p events events mid old image (ap (λ n. take n events) (sym acknowledged)) (omega (arith, confirmed)) refl to

    pub any_back : (p : Program) (events : List Event) → LeavesOnly g.moment g.left_since old.disk mid.disk (RecoversToEither p events old) → LeavesOnly g.moment g.left_since mid.disk new.disk (RecoversToEither p events mid)
        → LeavesOnly g.moment g.left_since old.disk new.disk (RecoversToEither p events old)
    any_back p events first second = goes_on g.moment g.left_since old.disk mid.disk new.disk (RecoversToEither p events old) first
        (weaker g.moment g.left_since mid.disk new.disk _ (RecoversToEither p events old) second (either_back p events))

    pub fed_back : (p : Program) (events : List Event) → LeavesOnly g.moment g.left_since old.disk mid.disk (RecoversFedEither p events old) → LeavesOnly g.moment g.left_since mid.disk new.disk (RecoversFedEither p events mid)
        → LeavesOnly g.moment g.left_since old.disk new.disk (RecoversFedEither p events old)
    fed_back p events first second = moments_back p IsFed events old mid new view first second

    -- the slot that stands there then
    pub slot_there : (events : List Event) (taken : ℕ) → taken ≡ taken_by events → taken < TAKEN_LIMIT → old.progress.generation < 2 ^ 64
        → bytes ≡ slot_bytes (record { generation = old.progress.generation + 1; count = old.progress.count; taken = taken })
        → slot_at old.progress.config (1 - old.progress.area) + 40 ≤ length (g.content old.disk) → g.is_honest mid.disk
        → slot_of mid.progress.config (1 - mid.progress.area) (g.content mid.disk) ≡ Some (next_slot events mid)
    slot_there events taken same few small is room honest =
        let s : Slot = record { generation = old.progress.generation + 1; count = old.progress.count; taken = taken } in
        let counted = old.progress.bounded_count in
        let fit : IsInRange s = record { generation = omega (arith, small, more); count = omega (arith, counted); taken = few } in
        let there : IsOverwritten (g.content old.disk) (slot_at old.progress.config (1 - old.progress.area)) (slot_bytes s) (g.content mid.disk) =
        subst (λ (l : List ℕ). IsOverwritten (g.content old.disk) (slot_at old.progress.config (1 - old.progress.area)) l (g.content mid.disk)) is (written.written honest) in
        let fields : ◌≡◌ {A = ℕ × ℕ × ℕ} (old.progress.generation, old.progress.count, taken) (mid.progress.generation, mid.progress.count, taken_by events) =
        let a = generation in let b = count in cc in
        ap (λ (u : Config × ℕ). slot_of u.0 (1 - u.1) (g.content mid.disk)) place
        ∙ written_slot old.progress.config (1 - old.progress.area) s (g.content old.disk) (g.content mid.disk) fit room there
        ∙ ap (λ (u : ℕ × ℕ × ℕ). Some (record { generation = u.0 + 1; count = u.1; taken = u.2 })) fields
