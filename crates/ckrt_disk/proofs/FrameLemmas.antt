-- What calls leave of a disk: how the words for it go on over one more call, join, and widen.
use Rattle.std.proofs.Common.{◌≡◌, ◌⊎◌, inl, inr, ⊎_elim, ℕ, ◌+◌, ◌-◌, ◌^◌, ◌≤◌, Bool, true, false, List, length, get_or, Result, Ok, Err, Some, OnOk, OnErr, is_ok, is_err, refl, sym, ◌∙◌, subst, arith}
use Rattle.std.proofs.lemmas.Bool.{cases_lt}
use Rattle.ckrt_disk.specs.Disk.{IsImage, IsOverwritten, IsWithin, Elapses, CountsFault, HasFailed, IsStopped, LeavesOnly}
use Rattle.ckrt_disk.specs.Frame.{IsSameDisk, IsOnlyRead, WritesWithin}
use Rattle.ckrt_disk.specs.Synced.{WritesSyncedOrFails}
use Rattle.ckrt_disk.specs.declared.disk.Disk.{Ghosts}
use Rattle.ckrt_disk.proofs.Images.{wider_image, written_image}
use Rattle.ckrt_disk.proofs.Moments.{started, weaker, goes_on, over_call}

-- ONE CALL

-- no failure was counted, where it didn't fail
no_failure : {T E : Type 0} (before now : ℕ) (result : Result T E) → CountsFault before now result → is_err result ≡ false → now ≡ before
no_failure before now (Ok x) count fine = count.ok refl
no_failure before now (Err e) count fine = absurd (cc)

-- the failures grew, where it failed
a_failure : {T E : Type 0} (before now : ℕ) (result : Result T E) → CountsFault before now result → is_err result ≡ true → HasFailed before now
a_failure before now result count failed =
    let now_is = count.err failed in
    elim (cases_lt before (2 ^ 64 - 1)) [ inl lt ↦ inl (omega arith) | inr le ↦ inr (omega arith) ]

-- what holds on Ok, where it didn't fail
pub where_ok : {T E P : Type 0} (result : Result T E) → OnOk result P → is_err result ≡ false → P
where_ok (Ok x) holds fine = holds
where_ok (Err e) holds fine = absurd (cc)

-- either way
on_either : {T E P Q R : Type 0} (result : Result T E) → OnOk result P → OnErr result Q → (P → R) → (Q → R) → R
on_either (Ok x) p q f g = f p
on_either (Err e) p q f g = g q

module _ {D : Type 0} (d : Ghosts D) where
  -- THE SAME DISK

  pub same_disk : (disk : D) → IsSameDisk d disk disk
  same_disk disk = record { honest = λ h. h; size = refl; named_stop = refl }

  pub same_on : (old mid new : D) → IsSameDisk d old mid → IsSameDisk d mid new → IsSameDisk d old new
  same_on old mid new first second = record {
    honest = λ h. first.honest (second.honest h);
    size = second.size ∙ first.size;
    named_stop = second.named_stop ∙ first.named_stop;
  }

  -- READS

  pub unread : (disk : D) → IsOnlyRead d disk disk false
  unread disk = record {
    any_moment = λ h. started d.moment d.left_since disk (λ _. ⊥);
    content = λ h. refl;
    pending = λ h i. (λ p. p, λ p. p);
    same = same_disk disk;
    calls = refl;
    well = λ e. refl;
    fault = λ e. absurd (cc);
    never = λ s named e. absurd (cc);
  }

  -- some reads, and then others
  pub read_on : (old mid new : D) (failed : Bool) → IsOnlyRead d old mid false → IsOnlyRead d mid new failed → IsOnlyRead d old new failed
  read_on old mid new failed first second = record {
    any_moment = λ h. goes_on d.moment d.left_since old mid new (λ _. ⊥) (first.any_moment (second.same.honest h)) (second.any_moment h);
    content = λ h. second.content h ∙ first.content (second.same.honest h);
    pending = λ h i. let now = second.pending h i in let before = first.pending (second.same.honest h) i in (λ p. before.0 (now.0 p), λ p. now.1 (before.1 p));
    same = same_on old mid new first.same second.same;
    calls = second.calls ∙ first.calls;
    well = λ e. second.well e ∙ first.well refl;
    fault = λ e. subst (λ n. HasFailed n (d.failures new)) (first.well refl) (second.fault e);
    never = λ s named e. subst (λ n. IsStopped s n) first.calls (second.never s (first.same.named_stop ∙ named) e);
  }

  -- WRITES

  -- what may have changed: what was pending, and the region
  abbrev AtRisk : D → (ℕ → Type 0) → ℕ → Type 0
  AtRisk disk region i = d.pending disk i ⊎ region i

  pub untouched : (region : ℕ → Type 0) (disk : D) → WritesWithin d region 0 disk disk false
  untouched region disk = record {
    any_moment = λ h. started d.moment d.left_since disk (IsImage (d.content disk) (AtRisk disk region));
    content = λ e h. record { size = refl; same = λ i out. refl };
    torn = λ h. record { size = refl; same = λ i out. refl };
    pending = λ h i p. inl p;
    same = same_disk disk;
    calls = λ e. omega arith;
    well = λ e. refl;
    fault = λ e. absurd (cc);
  }

  -- calls that write in a region write in a larger one
  pub wider : (small large : ℕ → Type 0) (n : ℕ) (old new : D) (failed : Bool) → ((i : ℕ) → small i → large i) → WritesWithin d small n old new failed → WritesWithin d large n old new failed
  wider small large n old new failed more calls =
      let at_risk : (i : ℕ) → AtRisk old small i → AtRisk old large i = λ i. ⊎_elim (λ p. inl p) (λ r. inr (more i r)) in
      record {
        any_moment = λ h. weaker d.moment d.left_since old new _ _ (calls.any_moment h) (λ image left. wider_image (AtRisk old small) (AtRisk old large) (d.content old) image at_risk left);
        content = λ e h. wider_image small large (d.content old) (d.content new) more (calls.content e h);
        torn = λ h. wider_image (AtRisk old small) (AtRisk old large) (d.content old) (d.content new) at_risk (calls.torn h);
        pending = λ h i p. at_risk i (calls.pending h i p);
        same = calls.same;
        calls = calls.calls;
        well = calls.well;
        fault = calls.fault;
      }

  -- some calls, and then others
  pub writes_on : (region : ℕ → Type 0) (m n : ℕ) (old mid new : D) (failed : Bool) → WritesWithin d region m old mid false → WritesWithin d region n mid new failed → WritesWithin d region (m + n) old new failed
  writes_on region m n old mid new failed first second =
      let image_of : (image : List ℕ) → d.is_honest mid → IsImage (d.content mid) (AtRisk mid region) image → IsImage (d.content old) (AtRisk old region) image = λ image h left.
      let so_far = first.content refl h in
      record {
        size = left.size ∙ so_far.size;
        same = λ i out. left.same i (⊎_elim (λ p. out (first.pending h i p)) (λ r. out (inr r))) ∙ so_far.same i (λ r. out (inr r));
      } in
      record {
        any_moment = λ h. goes_on d.moment d.left_since old mid new (IsImage (d.content old) (AtRisk old region)) (first.any_moment (second.same.honest h))
            (weaker d.moment d.left_since mid new _ _ (second.any_moment h) (λ image left. image_of image (second.same.honest h) left));
        content = λ e h. let now = second.content e h in let so_far = first.content refl (second.same.honest h) in record { size = now.size ∙ so_far.size; same = λ i out. now.same i out ∙ so_far.same i out };
        torn = λ h. image_of (d.content new) (second.same.honest h) (second.torn h);
        pending = λ h i p. ⊎_elim (λ had. first.pending (second.same.honest h) i had) (λ r. inr r) (second.pending h i p);
        same = same_on old mid new first.same second.same;
        calls = λ e. let now = second.calls e in let so_far = first.calls refl in omega arith;
        well = λ e. second.well e ∙ first.well refl;
        fault = λ e. subst (λ k. HasFailed k (d.failures new)) (first.well refl) (second.fault e);
      }

  -- some calls in a region, and then others in a part of it
  pub writes_on_within : (region part : ℕ → Type 0) (m n : ℕ) (old mid new : D) (failed : Bool) → ((i : ℕ) → part i → region i) → WritesWithin d region m old mid false → WritesWithin d part n mid new failed → WritesWithin d region (m + n) old new failed
  writes_on_within region part m n old mid new failed inside first second = writes_on region m n old mid new failed first (wider part region n mid new failed inside second)

  -- where the last call failed, the number of calls isn't said
  pub failed_within : (region : ℕ → Type 0) (m n : ℕ) (old new : D) (failed : Bool) → failed ≡ true → WritesWithin d region m old new true → WritesWithin d region n old new failed
  failed_within region m n old new failed is calls = record {
    any_moment = calls.any_moment;
    content = λ e. absurd (cc);
    torn = calls.torn;
    pending = calls.pending;
    same = calls.same;
    calls = λ e. absurd (cc);
    well = λ e. absurd (cc);
    fault = λ e. calls.fault refl;
  }

  -- reads write nowhere
  pub reads_within : (region : ℕ → Type 0) (old new : D) (failed : Bool) → IsOnlyRead d old new failed → WritesWithin d region 0 old new failed
  reads_within region old new failed reads =
      let as_before : d.is_honest new → IsImage (d.content old) region (d.content new) = λ h. subst (λ (l : List ℕ). IsImage (d.content old) region l) (sym (reads.content h)) (record { size = refl; same = λ i out. refl }) in
      record {
        any_moment = λ h. weaker d.moment d.left_since old new (λ _. ⊥) _ (reads.any_moment h) (λ image no. absurd no);
        content = λ e h. as_before h;
        torn = λ h. wider_image region (AtRisk old region) (d.content old) (d.content new) (λ i r. inr r) (as_before h);
        pending = λ h i p. inl ((reads.pending h i).0 p);
        same = reads.same;
        calls = λ e. let same = reads.calls in omega arith;
        well = reads.well;
        fault = reads.fault;
      }

  -- A BYTE THAT STAYS

  -- a byte outside the region that isn't pending reads as before, isn't pending after, and no stop since leaves another there
  module _ (region : ℕ → Type 0) (n : ℕ) (old new : D) (failed : Bool) (calls : WritesWithin d region n old new failed) (honest : d.is_honest new) (i : ℕ) (durable : ¬ d.pending old i) (outside : ¬ region i) where
    spared : ¬ AtRisk old region i
    spared = ⊎_elim durable outside

    pub byte_reads : get_or (d.content new) i 0 ≡ get_or (d.content old) i 0
    byte_reads = (calls.torn honest).same i spared

    pub byte_durable : ¬ d.pending new i
    byte_durable p = spared (calls.pending honest i p)

    pub byte_left : LeavesOnly d.moment d.left_since old new (λ image. get_or image i 0 ≡ get_or (d.content old) i 0)
    byte_left = weaker d.moment d.left_since old new _ _ (calls.any_moment honest) (λ image left. left.same i spared)

  -- a call of `write`, by its clauses
  pub wrote : {E : Type 0} (old new : D) (at : ℕ) (bytes : List ℕ) (result : Result (Unit {0}) E) → at + length bytes ≤ d.size old → (d.is_honest old → length (d.content old) ≡ d.size old)
      → OnOk result (d.is_honest new → IsOverwritten (d.content old) at bytes (d.content new)) → OnErr result (d.is_honest new → IsImage (d.content old) (d.pending new) (d.content new))
      → (d.is_honest new → (i : ℕ) → (d.pending new i → d.pending old i ⊎ IsWithin at (length bytes) i) × (d.pending old i ⊎ IsWithin at (length bytes) i → d.pending new i))
      → (d.is_honest new → Elapses (d.moment old) (d.moment new) (d.left_since old) (d.left_since new) (IsImage (d.content old) (d.pending new)))
      → (d.is_honest new → d.is_honest old) → d.size new ≡ d.size old → d.named_stop new ≡ d.named_stop old → d.calls new ≡ d.calls old + 1 → CountsFault (d.failures old) (d.failures new) result
      → WritesWithin d (IsWithin at (length bytes)) 1 old new (is_err result)
  wrote old new at bytes result room whole written torn pending time honest size named_stop calls failures =
      let region : ℕ → Type 0 = IsWithin at (length bytes) in
      let marked : d.is_honest new → (image : List ℕ) → IsImage (d.content old) (d.pending new) image → IsImage (d.content old) (AtRisk old region) image =
      λ h image left. wider_image (d.pending new) (AtRisk old region) (d.content old) image (λ i p. (pending h i).0 p) left in
      let there : d.is_honest new → IsOverwritten (d.content old) at bytes (d.content new) → IsImage (d.content old) region (d.content new) =
      λ h is. written_image (d.content old) at bytes (d.content new) is (let long = whole (honest h) in omega arith) region (λ i w. w) in
      record {
        any_moment = λ h. over_call d.moment d.left_since old new _ _ (time h) (marked h);
        content = λ e h. there h (where_ok result written e h);
        torn = λ h. on_either result written torn (λ is. wider_image region (AtRisk old region) (d.content old) (d.content new) (λ i r. inr r) (there h (is h))) (λ left. marked h (d.content new) (left h));
        pending = λ h i p. (pending h i).0 p;
        same = record { honest = honest; size = size; named_stop = named_stop };
        calls = λ e. calls;
        well = no_failure (d.failures old) (d.failures new) result failures;
        fault = a_failure (d.failures old) (d.failures new) result failures;
      }

  -- a call of `sync`, by its clauses
  pub synced : {E : Type 0} (old new : D) (result : Result (Unit {0}) E)
      → OnOk result (d.is_honest new → (i : ℕ) → ¬ d.pending new i) → OnOk result (d.is_honest new → d.content new ≡ d.content old) → OnErr result (d.is_honest new → IsImage (d.content old) (d.pending old) (d.content new))
      → OnErr result (d.is_honest new → (i : ℕ) → (d.pending new i → d.pending old i) × (d.pending old i → d.pending new i))
      → (d.is_honest new → Elapses (d.moment old) (d.moment new) (d.left_since old) (d.left_since new) (IsImage (d.content old) (d.pending old)))
      → (d.is_honest new → d.is_honest old) → d.size new ≡ d.size old → d.named_stop new ≡ d.named_stop old → d.calls new ≡ d.calls old + 1 → CountsFault (d.failures old) (d.failures new) result
      → (region : ℕ → Type 0) → WritesWithin d region 1 old new (is_err result)
  synced old new result nothing_pending same torn pending time honest size named_stop calls failures region =
      let marked : (image : List ℕ) → IsImage (d.content old) (d.pending old) image → IsImage (d.content old) (AtRisk old region) image =
      λ image left. wider_image (d.pending old) (AtRisk old region) (d.content old) image (λ i p. inl p) left in
      let as_before : (at_risk : ℕ → Type 0) → d.content new ≡ d.content old → IsImage (d.content old) at_risk (d.content new) =
      λ at_risk is. subst (λ (l : List ℕ). IsImage (d.content old) at_risk l) (sym is) (record { size = refl; same = λ i out. refl }) in
      record {
        any_moment = λ h. over_call d.moment d.left_since old new _ _ (time h) marked;
        content = λ e h. as_before region (where_ok result same e h);
        torn = λ h. on_either result same torn (λ is. as_before (AtRisk old region) (is h)) (λ left. marked (d.content new) (left h));
        pending = λ h i p. on_either result nothing_pending pending (λ none. absurd (none h i p)) (λ had. inl ((had h i).0 p));
        same = record { honest = honest; size = size; named_stop = named_stop };
        calls = λ e. calls;
        well = no_failure (d.failures old) (d.failures new) result failures;
        fault = a_failure (d.failures old) (d.failures new) result failures;
      }

  -- a call of `sync` behind a write that went well
  pub synced_behind : {E : Type 0} (at : ℕ) (bytes : List ℕ) (a written b : D) (r : Result (Unit {0}) E) → d.write_gives a at bytes true written → d.sync_gives written (is_ok r) b → WritesSyncedOrFails d at bytes a b (is_err r)
  synced_behind at bytes a written b (Ok x) write sync = record { written = written; write = write; sync = sync }
  synced_behind at bytes a written b (Err e) write sync = inr (written, write, sync)

  -- a call of `read`, by its clauses
  pub read_once : {E : Type 0} (old new : D) (result : Result (Unit {0}) E) → (d.is_honest new → d.content new ≡ d.content old)
      → (d.is_honest new → (i : ℕ) → (d.pending new i → d.pending old i) × (d.pending old i → d.pending new i))
      → (d.is_honest new → Elapses (d.moment old) (d.moment new) (d.left_since old) (d.left_since new) (λ _. ⊥))
      → (d.is_honest new → d.is_honest old) → d.size new ≡ d.size old → d.named_stop new ≡ d.named_stop old → d.calls new ≡ d.calls old → CountsFault (d.failures old) (d.failures new) result
      → ((s : ℕ) → d.named_stop old ≡ Some s → is_err result ≡ true → IsStopped s (d.calls old)) → IsOnlyRead d old new (is_err result)
  read_once old new result content pending time honest size named_stop calls failures never = record {
    any_moment = λ h. over_call d.moment d.left_since old new _ _ (time h) (λ image no. absurd no);
    content = content;
    pending = pending;
    same = record { honest = honest; size = size; named_stop = named_stop };
    calls = calls;
    well = no_failure (d.failures old) (d.failures new) result failures;
    fault = a_failure (d.failures old) (d.failures new) result failures;
    never = never;
  }
