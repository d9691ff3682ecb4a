-- What recovery makes of a disk: a sync, and then reads.
use Rattle.std.proofs.Common.{◌≡◌, ◌+◌, ◌-◌, ◌^◌, ◌↔◌, inl, inr, ℕ, Bool, true, false, Result, Ok, Err, OnOk, OnErr, is_err, refl, ◌∙◌, ap, subst, arith}
use Rattle.std.proofs.lemmas.Bool.{cases_lt}
use Rattle.ckrt_disk.specs.Disk.{IsImage, Elapses, CountsFault, HasFailed, IsStopped, StopsAt}
use Rattle.ckrt_disk.specs.Frame.{IsSameDisk, IsOnlyRead}
use Rattle.ckrt_disk.specs.declared.disk.Disk.{Ghosts}
use Rattle.ckrt_disk.proofs.FrameLemmas.{same_on}
use Rattle.ckrt_disk.proofs.Moments.{over_call, goes_on, weaker}
use Rattle.ckrt_recovery.specs.Opening.{IsSettled, IsSyncedAndRead}

-- the failures grew
a_failure : {T E : Type 0} (before now : ℕ) (e : E) (result : Result T E) → result ≡ Err e → CountsFault before now result → HasFailed before now
a_failure before now e result is count =
    let now_is = count.err (ap is_err is) in
    elim (cases_lt before (2 ^ 64 - 1)) [ inl lt ↦ inl (omega arith) | inr le ↦ inr (omega arith) ]

module _ {D : Type 0} (d : Ghosts D) where
  -- the sync
  pub synced : {T E : Type 0} (old new : D) (result : Result T E)
      → OnOk result (d.is_honest new → d.content new ≡ d.content old)
      → OnOk result (d.is_honest new → (i : ℕ) → ¬ d.pending new i)
      → OnErr result (d.is_honest new → IsImage (d.content old) (d.pending old) (d.content new))
      → OnErr result (d.is_honest new → (i : ℕ) → (d.pending new i ↔ d.pending old i))
      → (d.is_honest new → Elapses (d.moment old) (d.moment new) (d.left_since old) (d.left_since new) (IsImage (d.content old) (d.pending old)))
      → IsSameDisk d old new
      → CountsFault (d.failures old) (d.failures new) result
      → d.calls new ≡ d.calls old + 1
      → StopsAt (d.named_stop old) (d.calls old + 1) result
      → IsSyncedAndRead d old new (is_err result)
  synced old new (Ok x) content durable torn pending time same failures calls stop = record {
    any_moment = λ h. over_call d.moment d.left_since old new _ _ (time h) (λ image left. left);
    settled = λ _ h. record { content = content h; durable = durable h };
    torn = λ h. inl (record { content = content h; durable = durable h });
    same = same;
    calls = calls;
    well = λ _. failures.ok refl;
    fault = λ e. absurd (cc);
    stop = stop;
  }
  synced old new (Err x) content durable torn pending time same failures calls stop = record {
    any_moment = λ h. over_call d.moment d.left_since old new _ _ (time h) (λ image left. left);
    settled = λ e. absurd (cc);
    torn = λ h. inr (record { content = torn h; pending = pending h });
    same = same;
    calls = calls;
    well = λ e. absurd (cc);
    fault = λ _. a_failure (d.failures old) (d.failures new) x (Err x) refl failures;
    stop = stop;
  }

  -- and then reads
  pub then_read : (old mid new : D) (failed : Bool) → IsSyncedAndRead d old mid false → IsOnlyRead d mid new failed → IsSyncedAndRead d old new failed
  then_read old mid new failed first reads = record {
    any_moment = λ h. goes_on d.moment d.left_since old mid new _ (first.any_moment (reads.same.honest h)) (weaker d.moment d.left_since mid new (λ _. ⊥) _ (reads.any_moment h) (λ image no. absurd no));
    settled = λ _ h. still h;
    torn = λ h. inl (still h);
    same = same_on d old mid new first.same reads.same;
    calls = reads.calls ∙ first.calls;
    well = λ e. reads.well e ∙ first.well refl;
    fault = λ e. subst (λ n. HasFailed n (d.failures new)) (first.well refl) (reads.fault e);
    stop = λ s named. (
      λ e. subst (λ n. IsStopped s n) first.calls (reads.never s (first.same.named_stop ∙ named) e),
      λ is. let no : false ≡ true = (first.stop s named).1 is in absurd (cc),
    );
  }
    where
      still : d.is_honest new → IsSettled d old new
      still h =
          let before = first.settled refl (reads.same.honest h) in
          record { content = reads.content h ∙ before.content; durable = λ i p. before.durable i ((reads.pending h i).0 p) }
