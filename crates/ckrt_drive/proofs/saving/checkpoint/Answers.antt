use Rattle.std.proofs.Common.{◌≡◌, ◌+◌, ◌-◌, ◌^◌, ◌<◌, ◌≤◌, ℕ, length, List, Ok, Err, sym, ◌∙◌, ap, subst, rules, arith}
use Rattle.ckrt_disk.specs.Frame.{MayBeLeft}
use Rattle.ckrt_disk.proofs.Moments.{started}
use Rattle.ckrt_recovery.specs.Calls.{WritesSpare}
use Rattle.ckrt_drive.specs.Keeping.{IsSaved, RecoversFedEither, WritesRecord}
use Rattle.ckrt_drive.specs.Slot.{slot_at, slot_bytes, slot_offset}
use Rattle.ckrt_drive.specs.Fed.{IsFed}
use Rattle.ckrt_drive.proofs.CallLemmas.{save_keeps, save_moment, slot_keeps, slot_moment}
use Rattle.ckrt_drive.proofs.KeepLemmas.{checkpointed_fed, checkpointing_fed, fed_kept}
use Rattle.ckrt_drive.proofs.RecordLemmas.{checkpoint_records, records_on, slot_records}
use Rattle.ckrt_drive.proofs.SavingLemmas.{any_back, fed_back, last_refused, refused_record, refused_same, running_mid, slot_there, unwritten_record, written_record}
use Rattle.ckrt_drive.proofs.saving.checkpoint.Goals as goal

pub returns-then-generation-clause-saves : goal.returns-then-generation-clause-saves
returns-then-generation-clause-saves g c = λ honest p events fed same.
    let d = g.D.Disk in
    let old = c.args.session.now in
    let last : old.progress.generation ≡ 2 ^ 64 - 1 = search rules in
    subst (λ s. IsSaved p events old s) (sym (refused_same old c.checkpoint.new.self c.checkpoint.result (last_refused old last) c.checkpoint.ensures.checkpoints))
    (record { any_moment = started d.moment d.left_since old.disk (RecoversFedEither p events old); after = fed })

pub returns-then-generation-clause-disk : goal.returns-then-generation-clause-disk
returns-then-generation-clause-disk g c =
    let old = c.args.session.now in
    let last : old.progress.generation ≡ 2 ^ 64 - 1 = search rules in
    refused_record old c.checkpoint.new.self c.checkpoint.result (last_refused old last) c.checkpoint.ensures.disk

pub returns-in_err-write_spare-clause-saves : goal.returns-in_err-write_spare-clause-saves
returns-in_err-write_spare-clause-saves g c = λ honest p events fed same.
    let d = g.D.Disk in
    let old = c.args.session.now in
    let mid = c.write_spare.new.self in
    let bytes = c.as_slice.result.now in
    let size : length bytes ≡ 40 = ap length (c.as_slice.ensures.value ∙ c.slot_bytes.ensures) in
    let writes = subst (λ a. WritesSpare old (slot_offset (1 - a)) bytes c.write_spare.result mid) c.area.ensures.value c.write_spare.ensures.writes in
    let honest-0 : d.is_honest old.disk = writes.within.same.honest honest in
    let stays = c.write_spare.ensures.represents honest in
    let any = c.write_spare.ensures.any_moment honest p events fed.0 in
    let only : (image : List ℕ) → d.left_since old.disk (d.moment old.disk) image → MayBeLeft d old.disk image = λ image left. g.met.D.Disk.only_now old.disk image honest-0 left in
    let counts : (image : List ℕ) → d.moment old.disk ≤ d.moment mid.disk → MayBeLeft d mid.disk image → d.left_since mid.disk (d.moment old.disk) image = λ image le left. g.met.D.Disk.counts_now mid.disk (d.moment old.disk) image honest le left in
    record {
      any_moment = slot_moment p IsFed (fed_kept p) events old mid fed.0 fed.1 honest only counts any bytes size c.write_spare.result writes;
      after = (stays p events fed.0, slot_keeps p IsFed (fed_kept p) events old mid fed.0 fed.1 honest only counts any bytes size c.write_spare.result writes stays);
    }

pub returns-in_err-write_spare-clause-disk : goal.returns-in_err-write_spare-clause-disk
returns-in_err-write_spare-clause-disk g c =
    let old = c.args.session.now in
    let mid = c.write_spare.new.self in
    let bytes = c.as_slice.result.now in
    let size : length bytes ≡ 40 = ap length (c.as_slice.ensures.value ∙ c.slot_bytes.ensures) in
    let writes = subst (λ a. WritesSpare old (slot_offset (1 - a)) bytes c.write_spare.result mid) c.area.ensures.value c.write_spare.ensures.writes in
    let fault = c.in_err-write_spare.field-0.0 in
    let was : c.write_spare.result ≡ Err fault = search rules in
    let is : c.from_residual.result ≡ Err fault = search rules in
    subst (λ r. WritesRecord old r mid) (sym is) (unwritten_record old mid bytes fault size (subst (λ r. WritesSpare old (slot_offset (1 - old.progress.area)) bytes r mid) was writes))

pub returns-clause-disk : goal.returns-clause-disk
returns-clause-disk g c =
    let old = c.args.session.now in
    let mid = c.write_spare.new.self in
    let bytes = c.as_slice.result.now in
    let size : length bytes ≡ 40 = ap length (c.as_slice.ensures.value ∙ c.slot_bytes.ensures) in
    let writes = subst (λ a. WritesSpare old (slot_offset (1 - a)) bytes c.write_spare.result mid) c.area.ensures.value c.write_spare.ensures.writes in
    let x = c.in_ok-write_spare.field-0 in
    let was : c.write_spare.result ≡ Ok x = search rules in
    let written = subst (λ r. WritesSpare old (slot_offset (1 - old.progress.area)) bytes r mid) was writes in
    let more : ¬ (old.progress.generation ≡ 2 ^ 64 - 1) = search rules in
    written_record old mid c.checkpoint-2.new.self bytes size x written c.checkpoint-2.result more c.checkpoint-2.ensures.disk

pub returns-clause-any_moment : goal.returns-clause-any_moment
returns-clause-any_moment g c = λ honest p events reps.
    let d = g.D.Disk in
    let old = c.args.session.now in
    let mid = c.write_spare.new.self in
    let bytes = c.as_slice.result.now in
    let size : length bytes ≡ 40 = ap length (c.as_slice.ensures.value ∙ c.slot_bytes.ensures) in
    let writes = subst (λ a. WritesSpare old (slot_offset (1 - a)) bytes c.write_spare.result mid) c.area.ensures.value c.write_spare.ensures.writes in
    let x = c.in_ok-write_spare.field-0 in
    let was : c.write_spare.result ≡ Ok x = search rules in
    let written = subst (λ r. WritesSpare old (slot_offset (1 - old.progress.area)) bytes r mid) was writes in
    let more : ¬ (old.progress.generation ≡ 2 ^ 64 - 1) = search rules in
    let honest-1 : d.is_honest mid.disk = c.checkpoint-2.ensures.disk.within.same.honest honest in
    any_back old mid c.checkpoint-2.new.self bytes size x written c.checkpoint-2.result more p events (c.write_spare.ensures.any_moment honest-1 p events reps)
    (c.checkpoint-2.ensures.any_moment honest p events (c.write_spare.ensures.represents honest-1 p events reps))

pub returns-clause-saves : goal.returns-clause-saves
returns-clause-saves g c = λ honest p events fed same.
    let d = g.D.Disk in
    let old = c.args.session.now in
    let mid = c.write_spare.new.self in
    let new = c.checkpoint-2.new.self in
    let bytes = c.as_slice.result.now in
    let is : bytes ≡ slot_bytes (record { generation = old.progress.generation + 1; count = old.progress.count; taken = c.args.taken }) = search rules in
    let size : length bytes ≡ 40 = ap length is in
    let writes = subst (λ a. WritesSpare old (slot_offset (1 - a)) bytes c.write_spare.result mid) c.area.ensures.value c.write_spare.ensures.writes in
    let x = c.in_ok-write_spare.field-0 in
    let was : c.write_spare.result ≡ Ok x = search rules in
    let written = subst (λ r. WritesSpare old (slot_offset (1 - old.progress.area)) bytes r mid) was writes in
    let more : ¬ (old.progress.generation ≡ 2 ^ 64 - 1) = search rules in
    let honest-1 : d.is_honest mid.disk = c.checkpoint-2.ensures.disk.within.same.honest honest in
    let honest-0 : d.is_honest old.disk = written.within.same.honest honest-1 in
    let stays = c.write_spare.ensures.represents honest-1 in
    let reps = stays p events fed.0 in
    let any = c.write_spare.ensures.any_moment honest-1 p events fed.0 in
    let any-1 = c.checkpoint-2.ensures.any_moment honest p events reps in
    let only : (image : List ℕ) → d.left_since old.disk (d.moment old.disk) image → MayBeLeft d old.disk image = λ image left. g.met.D.Disk.only_now old.disk image honest-0 left in
    let counts : (image : List ℕ) → d.moment old.disk ≤ d.moment mid.disk → MayBeLeft d mid.disk image → d.left_since mid.disk (d.moment old.disk) image = λ image le left. g.met.D.Disk.counts_now mid.disk (d.moment old.disk) image honest-1 le left in
    let only-1 : (image : List ℕ) → d.left_since mid.disk (d.moment mid.disk) image → MayBeLeft d mid.disk image = λ image left. g.met.D.Disk.only_now mid.disk image honest-1 left in
    let counts-1 : (image : List ℕ) → d.moment mid.disk ≤ d.moment new.disk → MayBeLeft d new.disk image → d.left_since new.disk (d.moment mid.disk) image = λ image le left. g.met.D.Disk.counts_now new.disk (d.moment mid.disk) image honest le left in
    let keeps = slot_keeps p IsFed (fed_kept p) events old mid fed.0 fed.1 honest-1 only counts any bytes size c.write_spare.result writes stays in
    let running = running_mid old mid new bytes size x written c.checkpoint-2.result more in
    let room : slot_at old.progress.config (1 - old.progress.area) + 40 ≤ length (d.content old.disk) = omega (arith, g.met.D.Disk.whole old.disk honest-0, c.requires.room) in
    let small : old.progress.generation < 2 ^ 64 = search rules in
    let there = slot_there old mid new bytes size x written c.checkpoint-2.result more events c.args.taken same c.requires.taken small is room honest-1 in
    let again = c.checkpoint-2.ensures.represents honest in
    record {
      any_moment = fed_back old mid new bytes size x written c.checkpoint-2.result more p events
          (slot_moment p IsFed (fed_kept p) events old mid fed.0 fed.1 honest-1 only counts any bytes size c.write_spare.result writes)
          (save_moment p IsFed (fed_kept p) events mid new reps keeps honest only-1 counts-1 any-1 running
          (λ image outside other. checkpointing_fed p events mid reps keeps running image there outside) (λ image outside to. checkpointed_fed p events mid reps keeps running image there outside to)
          c.checkpoint-2.result c.checkpoint-2.ensures.saves c.checkpoint-2.ensures.disk);
      after = (
        again p events reps,
        save_keeps p IsFed (fed_kept p) events mid new reps keeps honest only-1 counts-1 any-1 running
            (λ image outside other. checkpointing_fed p events mid reps keeps running image there outside) (λ image outside to. checkpointed_fed p events mid reps keeps running image there outside to)
            c.checkpoint-2.result c.checkpoint-2.ensures.saves c.checkpoint-2.ensures.disk c.checkpoint-2.ensures.checkpoints again,
      );
    }

pub returns-then-generation-clause-records : goal.returns-then-generation-clause-records
returns-then-generation-clause-records g c =
    let f = c.checkpoint.ensures in
    checkpoint_records c.args.session.now c.checkpoint.new.self g.met.D.Disk.only_now g.met.D.Disk.counts_now c.checkpoint.result f.any_moment f.represents f.saves f.disk f.checkpoints

pub returns-in_err-write_spare-clause-records : goal.returns-in_err-write_spare-clause-records
returns-in_err-write_spare-clause-records g c =
    let old = c.args.session.now in
    let mid = c.write_spare.new.self in
    let bytes = c.as_slice.result.now in
    let size : length bytes ≡ 40 = ap length (c.as_slice.ensures.value ∙ c.slot_bytes.ensures) in
    let writes = subst (λ a. WritesSpare old (slot_offset (1 - a)) bytes c.write_spare.result mid) c.area.ensures.value c.write_spare.ensures.writes in
    slot_records old mid g.met.D.Disk.only_now g.met.D.Disk.counts_now bytes size c.write_spare.result c.write_spare.ensures.any_moment c.write_spare.ensures.represents writes

pub returns-clause-records : goal.returns-clause-records
returns-clause-records g c =
    let old = c.args.session.now in
    let mid = c.write_spare.new.self in
    let new = c.checkpoint-2.new.self in
    let f = c.checkpoint-2.ensures in
    let bytes = c.as_slice.result.now in
    let size : length bytes ≡ 40 = ap length (c.as_slice.ensures.value ∙ c.slot_bytes.ensures) in
    let writes = subst (λ a. WritesSpare old (slot_offset (1 - a)) bytes c.write_spare.result mid) c.area.ensures.value c.write_spare.ensures.writes in
    let x = c.in_ok-write_spare.field-0 in
    let was : c.write_spare.result ≡ Ok x = search rules in
    let written = subst (λ r. WritesSpare old (slot_offset (1 - old.progress.area)) bytes r mid) was writes in
    records_on old mid new f.disk.within.same.honest written.ok
    (slot_records old mid g.met.D.Disk.only_now g.met.D.Disk.counts_now bytes size c.write_spare.result c.write_spare.ensures.any_moment c.write_spare.ensures.represents writes)
    (checkpoint_records mid new g.met.D.Disk.only_now g.met.D.Disk.counts_now c.checkpoint-2.result f.any_moment f.represents f.saves f.disk f.checkpoints)
