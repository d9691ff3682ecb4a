-- Which schedule an image notes, once bytes of it have changed; and what a stop of noting one leaves.
use Rattle.std.proofs.Common.{◌≡◌, ◌⊎◌, inl, inr, ⊎_elim, ℕ, ◌+◌, ◌-◌, ◌≤◌, ◌<◌, ◌^◌, min, ◌&&◌, not, Bool, true, false, cond, nat_eq, nat_lt, List, [], ◌∷◌, ◌++◌, length, get_or, take, drop, Option, Some, None, lit<, refl, sym, ◌∙◌, ap, subst, arith}
use Rattle.std.proofs.lemmas.Bool.{cases_lt}
use Rattle.std.proofs.lemmas.Bool.Decides.{nat_tests}
use Rattle.std.proofs.lemmas.Grind.{common_steps}
use Rattle.std.proofs.lemmas.List.{get_or-take, get_or-drop, get_or_past}
use Rattle.byteorder.specs.Endian.{little_bytes, little_number}
use Rattle.ckrt_disk.specs.Disk.{IsImage, IsOverwritten, IsWithin, LeavesOnly}
use Rattle.ckrt_disk.specs.Frame.{IsOnlyRead, IsSameOutside, MayBeLeft, Nowhere, WritesWithin}
use Rattle.ckrt_disk.specs.declared.disk.Disk.{Ghosts}
use Rattle.ckrt_disk.proofs.Images.{get_part, part_same, wider_image, written_size, written_elsewhere, written_there}
use Rattle.ckrt_disk.proofs.FrameLemmas.{wider, writes_on_within}
use Rattle.ckrt_disk.proofs.Moments.{goes_on, weaker}
use Rattle.ckrt_stored.specs.AreaFields.{HasBytes}
use Rattle.ckrt_stored.specs.Layout.{number_at}
use Rattle.ckrt_stored.specs.Schedules.{IsNoting, NotesAt, is_first_used, mark_of, noted_after, pick_of, place_of, schedule_at, schedule_by, schedule_bytes, schedule_in, schedule_of, seed_of, takes_notes}
use Rattle.ckrt_stored.specs.Superblock.{MAGIC, has_notes}
use Rattle.ckrt_stored.specs.declared.schedule.ScheduleNote.{ScheduleNote}
use Rattle.ckrt_stored.proofs.ByteLemmas.{number_is, part_in}

-- A NOTE READS BACK

by_seed : (turn : ℕ) (seed : Option ℕ) → 1 ≤ turn → schedule_by turn (mark_of seed) (seed_of seed) ≡ Some (record { turn = turn; seed = seed })
by_seed turn None some =
    let no : nat_eq turn 0 ≡ false = grind (arith, nat_tests, some) in
    ap (λ b. cond b None (Some (record { turn = turn; seed = None }))) no
by_seed turn (Some x) some =
    let no : nat_eq turn 0 ≡ false = grind (arith, nat_tests, some) in
    ap (λ b. cond b None (Some (record { turn = turn; seed = Some x }))) no

small_mark : (seed : Option ℕ) → mark_of seed < 256 ^ 8
small_mark None = lit< tt
small_mark (Some x) = lit< tt

-- the note of a schedule is that schedule
pub reads_back : (image : List ℕ) (at : ℕ) (s : ScheduleNote) → 1 ≤ s.turn → s.turn < 256 ^ 8 → seed_of s.seed < 256 ^ 8 → at + 24 ≤ 4096 → HasBytes image at (schedule_bytes s) → schedule_at at (take 4096 image) ≡ Some s
reads_back image at s some turn seed room has =
    let p : List ℕ = take 4096 image in
    ap (λ n. schedule_by n (number_at 8 (at + 8) p) (number_at 8 (at + 16) p)) (number_is 8 at 4096 s.turn image at 0 (schedule_bytes s) (omega arith) (omega (arith, room)) (omega arith) has refl turn)
    ∙ ap (λ n. schedule_by s.turn n (number_at 8 (at + 16) p)) (number_is 8 (at + 8) 4096 (mark_of s.seed) image at 8 (schedule_bytes s) refl (omega (arith, room)) (omega arith) has refl (small_mark s.seed))
    ∙ ap (λ n. schedule_by s.turn (mark_of s.seed) n) (number_is 8 (at + 16) 4096 (seed_of s.seed) image at 16 (schedule_bytes s) refl (omega (arith, room)) (omega arith) has refl seed)
    ∙ by_seed s.turn s.seed some

-- WHAT A PAGE SAYS OF ITS DISK

is_long : (size : ℕ) (image : List ℕ) → length image ≡ size → 4096 ≤ size → nat_lt (length image) 4096 ≡ false
is_long size image whole long = grind (arith, nat_tests, whole, long)

pub of_page : (size : ℕ) (image page : List ℕ) → length image ≡ size → 4096 ≤ size → page ≡ take 4096 image → schedule_in page ≡ schedule_of image
of_page size image page whole long is =
    ap (λ (l : List ℕ). schedule_in l) is ∙ sym (ap (λ b. cond b None (schedule_in (take 4096 image))) (is_long size image whole long))

pub takes_by_page : (size : ℕ) (image page : List ℕ) → length image ≡ size → 4096 ≤ size → page ≡ take 4096 image → takes_notes image ≡ has_notes page
takes_by_page size image page whole long is =
    ap (λ b. not b && has_notes (take 4096 image)) (is_long size image whole long) ∙ ap (λ (l : List ℕ). has_notes l) (sym is)

-- where the disk takes no notes, or notes the schedule, it notes what it would after noting that
noted_already : (b : Bool) (s : ScheduleNote) (image : List ℕ) → takes_notes image ≡ b → (takes_notes image ≡ false) ⊎ (schedule_of image ≡ Some s) → schedule_of image ≡ cond b (Some s) None
noted_already true s image is (inl never) = let false_is : true ≡ false = sym is ∙ never in absurd (cc)
noted_already true s image is (inr same) = same
noted_already false s image is either = not_taken (nat_lt (length image) 4096) refl (has_notes (take 4096 image)) refl
  where
    not_taken : (a : Bool) → nat_lt (length image) 4096 ≡ a → (h : Bool) → has_notes (take 4096 image) ≡ h → schedule_of image ≡ None
    not_taken true long h has = ap (λ b. cond b None (schedule_in (take 4096 image))) long
    not_taken false long true has = let never : true ≡ false = sym (ap (λ b. not b && has_notes (take 4096 image)) long ∙ has) ∙ is in absurd (cc)
    not_taken false long false has = ap (λ b. cond b None (schedule_in (take 4096 image))) long ∙ ap (λ b. cond b (schedule_at (place_of (is_first_used (take 4096 image))) (take 4096 image)) None) has

pub already : (s : ScheduleNote) (old new : List ℕ) → new ≡ old → (takes_notes old ≡ false) ⊎ (schedule_of old ≡ Some s) → schedule_of new ≡ noted_after s old
already s old new same either = ap schedule_of same ∙ noted_already (takes_notes old) s old refl either

-- BYTES THAT STAY

place_room : (b : Bool) → (2560 ≤ place_of b) × (place_of b + 24 ≤ 3096)
place_room true = (omega arith, omega arith)
place_room false = (omega arith, omega arith)

module _ (before image : List ℕ) (region : ℕ → Type 0) (same : IsSameOutside region before image) where
  number_stays : (n k : ℕ) → k + n ≤ 4096 → ((i : ℕ) → IsWithin k n i → ¬ region i) → number_at n k (take 4096 image) ≡ number_at n k (take 4096 before)
  unfolding number_at
  number_stays n k room out = ap (λ (l : List ℕ). little_number n l) (part_in image 4096 k n room ∙ part_same n k image before same.size (λ i w. same.same i (out i w)) ∙ sym (part_in before 4096 k n room))

  byte_stays : (k : ℕ) → k < 4096 → ¬ region k → get_or (take 4096 image) k 0 ≡ get_or (take 4096 before) k 0
  byte_stays k lt out = get_or-take 4096 image k 0 lt ∙ same.same k out ∙ sym (get_or-take 4096 before k 0 lt)

  head_stays : ((i : ℕ) → region i → 72 ≤ i) → has_notes (take 4096 image) ≡ has_notes (take 4096 before)
  head_stays behind =
      let p : List ℕ = take 4096 image in let q : List ℕ = take 4096 before in
      ap (λ x. nat_eq x 165 && (nat_eq (number_at 8 8 p) MAGIC && nat_eq (number_at 4 16 p) 3)) (byte_stays 0 (omega arith) (λ r. omega (arith, behind 0 r)))
      ∙ ap (λ n. nat_eq (get_or q 0 0) 165 && (nat_eq n MAGIC && nat_eq (number_at 4 16 p) 3)) (number_stays 8 8 (omega arith) (λ i w r. omega (arith, w.1, behind i r)))
      ∙ ap (λ n. nat_eq (get_or q 0 0) 165 && (nat_eq (number_at 8 8 q) MAGIC && nat_eq n 3)) (number_stays 4 16 (omega arith) (λ i w r. omega (arith, w.1, behind i r)))

  note_stays : (at : ℕ) → at + 24 ≤ 4096 → ((i : ℕ) → IsWithin at 24 i → ¬ region i) → schedule_at at (take 4096 image) ≡ schedule_at at (take 4096 before)
  note_stays at room out =
      let p : List ℕ = take 4096 image in let q : List ℕ = take 4096 before in
      ap (λ n. schedule_by n (number_at 8 (at + 8) p) (number_at 8 (at + 16) p)) (number_stays 8 at (omega (arith, room)) (λ i w. out i (w.0, omega (arith, w.1))))
      ∙ ap (λ n. schedule_by (number_at 8 at q) n (number_at 8 (at + 16) p)) (number_stays 8 (at + 8) (omega (arith, room)) (λ i w. out i (omega (arith, w.0), omega (arith, w.1))))
      ∙ ap (λ n. schedule_by (number_at 8 at q) (number_at 8 (at + 8) q) n) (number_stays 8 (at + 16) (omega (arith, room)) (λ i w. out i (omega (arith, w.0), omega (arith, w.1))))

  -- so an image notes the same schedule, where neither the head, nor the pick, nor the note in use has changed
  schedule_stays : ((i : ℕ) → region i → 72 ≤ i) → ¬ region 2048 → ((i : ℕ) → IsWithin (place_of (is_first_used (take 4096 before))) 24 i → ¬ region i) → schedule_of image ≡ schedule_of before
  schedule_stays behind pick note =
      let p : List ℕ = take 4096 image in let q : List ℕ = take 4096 before in
      ap (λ n. cond (nat_lt n 4096) None (cond (has_notes p) (schedule_at (place_of (is_first_used p)) p) None)) same.size
      ∙ ap (λ b. cond (nat_lt (length before) 4096) None (cond b (schedule_at (place_of (is_first_used p)) p) None)) (head_stays behind)
      ∙ ap (λ x. cond (nat_lt (length before) 4096) None (cond (has_notes q) (schedule_at (place_of (nat_eq x 1)) p) None)) (byte_stays 2048 (omega arith) pick)
      ∙ ap (λ s. cond (nat_lt (length before) 4096) None (cond (has_notes q) s None)) (note_stays (place_of (is_first_used q)) (omega (arith, (place_room (is_first_used q)).1)) note)

-- the other note isn't the one in use
apart : (u first : Bool) → first ≡ not u → (i : ℕ) → IsWithin (place_of u) 24 i → ¬ IsWithin (place_of first) 24 i
apart true true is i w v = absurd (cc)
apart true false is i w v = omega (arith, w.1, v.0)
apart false true is i w v = omega (arith, w.0, v.1)
apart false false is i w v = absurd (cc)

-- writing the note that isn't in use leaves the schedule
pub old_stays : (before image : List ℕ) (first : Bool) → first ≡ not (is_first_used (take 4096 before)) → IsSameOutside (IsWithin (place_of first) 24) before image → schedule_of image ≡ schedule_of before
old_stays before image first free same =
    schedule_stays before image (IsWithin (place_of first) 24) same (λ i w. omega (arith, w.0, (place_room first).0)) (λ w. omega (arith, w.0, (place_room first).0))
    (apart (is_first_used (take 4096 before)) first free)

-- PUTTING A NOTE IN USE

takes_parts : (a b : Bool) → (not a && b) ≡ true → (a ≡ false) × (b ≡ true)
takes_parts true b is = absurd (cc)
takes_parts false true is = (refl, refl)
takes_parts false false is = absurd (cc)

pub still_takes : (before image : List ℕ) (region : ℕ → Type 0) → ((i : ℕ) → region i → 72 ≤ i) → IsSameOutside region before image → takes_notes image ≡ takes_notes before
still_takes before image region behind same =
    ap (λ n. not (nat_lt n 4096) && has_notes (take 4096 image)) same.size
    ∙ ap (λ b. not (nat_lt (length before) 4096) && b) (head_stays before image region same behind)

-- writing the note that isn't in use leaves the head
pub still_takes_noted : (old settled put : List ℕ) (first : Bool) → settled ≡ old → IsSameOutside (IsWithin (place_of first) 24) settled put → takes_notes old ≡ true → takes_notes put ≡ true
still_takes_noted old settled put first same noted takes =
    still_takes settled put (IsWithin (place_of first) 24) (λ i w. omega (arith, w.0, (place_room first).0)) noted ∙ (ap takes_notes same ∙ takes)

which : (x first u : Bool) → first ≡ not u → (x ≡ first) ⊎ (x ≡ u)
which true true u free = inl refl
which false false u free = inl refl
which true false true free = inr refl
which true false false free = absurd (cc)
which false true true free = absurd (cc)
which false true false free = inr refl

module _ (mid image : List ℕ) (takes : takes_notes mid ≡ true) (same : IsSameOutside (IsWithin 2048 1) mid image) where
  -- the schedule of an image that differs in the pick alone
  read_by : (x : Bool) → is_first_used (take 4096 image) ≡ x → schedule_of image ≡ schedule_at (place_of x) (take 4096 mid)
  read_by x is =
      let p : List ℕ = take 4096 image in
      let t = takes_parts (nat_lt (length mid) 4096) (has_notes (take 4096 mid)) takes in
      ap (λ n. cond (nat_lt n 4096) None (cond (has_notes p) (schedule_at (place_of (is_first_used p)) p) None)) same.size
      ∙ ap (λ b. cond b None (cond (has_notes p) (schedule_at (place_of (is_first_used p)) p) None)) t.0
      ∙ ap (λ b. cond b (schedule_at (place_of (is_first_used p)) p) None) (head_stays mid image (IsWithin 2048 1) same (λ i w. omega (arith, w.0)) ∙ t.1)
      ∙ ap (λ b. schedule_at (place_of b) p) is
      ∙ note_stays mid image (IsWithin 2048 1) same (place_of x) (omega (arith, (place_room x).1)) (λ i w v. omega (arith, w.0, v.1, (place_room x).0))

  -- whatever the pick is, it notes the old schedule or the new one
  pub old_or_new : (first : Bool) (s : ScheduleNote) → first ≡ not (is_first_used (take 4096 mid)) → schedule_at (place_of first) (take 4096 mid) ≡ Some s → (schedule_of image ≡ schedule_of mid) ⊎ (schedule_of image ≡ Some s)
  old_or_new first s free new = ⊎_elim
      (λ (is : is_first_used (take 4096 image) ≡ first). inr (read_by first is ∙ new))
      (λ (is : is_first_used (take 4096 image) ≡ is_first_used (take 4096 mid)). inl (read_by (is_first_used (take 4096 mid)) is ∙ sym (as_used (takes_parts (nat_lt (length mid) 4096) (has_notes (take 4096 mid)) takes))))
      (which (is_first_used (take 4096 image)) first (is_first_used (take 4096 mid)) free)
    where
      as_used : (nat_lt (length mid) 4096 ≡ false) × (has_notes (take 4096 mid) ≡ true) → schedule_of mid ≡ schedule_at (place_of (is_first_used (take 4096 mid))) (take 4096 mid)
      as_used t =
          ap (λ b. cond b None (cond (has_notes (take 4096 mid)) (schedule_at (place_of (is_first_used (take 4096 mid))) (take 4096 mid)) None)) t.0
          ∙ ap (λ b. cond b (schedule_at (place_of (is_first_used (take 4096 mid))) (take 4096 mid)) None) t.1

pick_is : (b : Bool) → nat_eq (pick_of b) 1 ≡ b
pick_is true = refl
pick_is false = refl

-- with its own pick it notes the new one
pub picked : (mid image : List ℕ) (first : Bool) (s : ScheduleNote) → takes_notes mid ≡ true → 4096 ≤ length mid → IsOverwritten mid 2048 (pick_of first ∷ []) image → schedule_at (place_of first) (take 4096 mid) ≡ Some s → schedule_of image ≡ Some s
picked mid image first s takes long written new =
    let room : 2048 + 1 ≤ length mid = omega (arith, long) in
    let same : IsSameOutside (IsWithin 2048 1) mid image = record { size = written_size mid 2048 (pick_of first ∷ []) image written room; same = λ i out. written_elsewhere mid 2048 (pick_of first ∷ []) image written room i out } in
    let byte : get_or (take 4096 image) 2048 0 ≡ pick_of first =
    get_or-take 4096 image 2048 0 (omega arith) ∙ sym (get_or-drop 2048 image 0 0) ∙ sym (get_or-take 1 (drop 2048 image) 0 0 (omega arith)) ∙ ap (λ (l : List ℕ). get_or l 0 0) (written_there mid 2048 (pick_of first ∷ []) image written room) in
    read_by mid image takes same first (ap (λ x. nat_eq x 1) byte ∙ pick_is first) ∙ new

-- MOMENTS

module _ {D : Type 0} (d : Ghosts D) (s : ScheduleNote) where
  -- calls that write nowhere leave what a stop before might have left
  pub in_sync : (old synced : D) (failed : Bool) → d.is_honest synced → WritesWithin d Nowhere 1 old synced failed → LeavesOnly d.moment d.left_since old synced (IsNoting s d old)
  in_sync old synced failed honest calls = weaker d.moment d.left_since old synced _ _ (calls.any_moment honest)
      (λ image left. inl (wider_image _ (d.pending old) (d.content old) image (λ i either. ⊎_elim (λ p. p) (λ no. absurd no) either) left))

  -- what is left of a region alone, of a disk on which nothing is pending
  alone : (region : ℕ → Type 0) (disk : D) (image : List ℕ) → ((i : ℕ) → ¬ d.pending disk i) → IsSameOutside (λ i. d.pending disk i ⊎ region i) (d.content disk) image → IsSameOutside region (d.content disk) image
  alone region disk image durable left = record { size = left.size; same = λ i out. left.same i (λ either. ⊎_elim (durable i) out either) }

  module _ (first : Bool) (old synced : D) (same : d.content synced ≡ d.content old) (durable : (i : ℕ) → ¬ d.pending synced i) (free : first ≡ not (is_first_used (take 4096 (d.content old))))
      (so_far : LeavesOnly d.moment d.left_since old synced (IsNoting s d old)) where
    stays_as : (image : List ℕ) → IsSameOutside (IsWithin (place_of first) 24) (d.content synced) image → schedule_of image ≡ schedule_of (d.content old)
    stays_as image left = old_stays (d.content old) image first free (subst (λ (l : List ℕ). IsSameOutside (IsWithin (place_of first) 24) l image) same left)

    pub in_put : (put : D) (failed : Bool) → d.is_honest put → WritesWithin d (IsWithin (place_of first) 24) 2 synced put failed → LeavesOnly d.moment d.left_since old put (IsNoting s d old)
    in_put put failed honest calls = goes_on d.moment d.left_since old synced put _ so_far
        (weaker d.moment d.left_since synced put _ (IsNoting s d old) (calls.any_moment honest) (λ image left. inr (inl (stays_as image (alone _ synced image durable left)))))

    module _ (put : D) (whole : d.is_honest put) (calls : WritesWithin d (IsWithin (place_of first) 24) 2 synced put false) (settled : (i : ℕ) → ¬ d.pending put i) (takes : takes_notes (d.content old) ≡ true)
        (new : schedule_at (place_of first) (take 4096 (d.content put)) ≡ Some s) where
      at_put : IsSameOutside (IsWithin (place_of first) 24) (d.content synced) (d.content put)
      at_put = calls.content refl whole

      from_old : IsSameOutside (IsWithin (place_of first) 24) (d.content old) (d.content put)
      from_old = subst (λ (l : List ℕ). IsSameOutside (IsWithin (place_of first) 24) l (d.content put)) same at_put

      pub takes_there : takes_notes (d.content put) ≡ true
      takes_there = still_takes (d.content old) (d.content put) (IsWithin (place_of first) 24) (λ i w. omega (arith, w.0, (place_room first).0)) from_old ∙ takes

      free_there : first ≡ not (is_first_used (take 4096 (d.content put)))
      free_there = free ∙ ap (λ x. not (nat_eq x 1)) (sym (byte_stays (d.content old) (d.content put) (IsWithin (place_of first) 24) from_old 2048 (omega arith) (λ w. omega (arith, w.0, (place_room first).0))))

      pub in_pick : (end : D) (failed : Bool) → d.is_honest end → WritesWithin d (IsWithin 2048 1) 2 put end failed → LeavesOnly d.moment d.left_since old end (IsNoting s d old)
      in_pick end failed honest last = goes_on d.moment d.left_since old put end _ (in_put put false whole calls)
          (weaker d.moment d.left_since put end _ (IsNoting s d old) (last.any_moment honest) (λ image left.
          inr (⊎_elim (λ (was : schedule_of image ≡ schedule_of (d.content put)). inl (was ∙ stays_as (d.content put) at_put)) (λ is. inr is)
          (old_or_new (d.content put) image takes_there (alone _ put image settled left) first s free_there new))))

module _ {D : Type 0} (d : Ghosts D) (s : ScheduleNote) where
  -- so it is behind reads
  pub behind_read : (old read new : D) → d.is_honest read → IsOnlyRead d old read false → (d.is_honest new → LeavesOnly d.moment d.left_since read new (IsNoting s d read)) → d.is_honest new → LeavesOnly d.moment d.left_since old new (IsNoting s d old)
  behind_read old read new was reads noting honest =
      let content = reads.content was in
      goes_on d.moment d.left_since old read new _ (weaker d.moment d.left_since old read _ (IsNoting s d old) (reads.any_moment was) (λ image no. absurd no))
      (weaker d.moment d.left_since read new _ (IsNoting s d old) (noting honest) (λ image left. ⊎_elim
      (λ (may : MayBeLeft d read image). inl (record {
        size = may.size ∙ ap length content;
        same = λ i out. may.same i (λ is. out ((reads.pending was i).0 is)) ∙ ap (λ (l : List ℕ). get_or l i 0) content;
      }))
      (λ noted. inr (⊎_elim (λ (kept : schedule_of image ≡ schedule_of (d.content read)). inl (kept ∙ ap schedule_of content)) (λ is. inr is) noted)) left))

-- the new note stands where it was written
pub new_there : (before put bytes : List ℕ) (at : ℕ) (first : Bool) (s : ScheduleNote) → at ≡ place_of first → bytes ≡ schedule_bytes s → IsOverwritten before at bytes put → 4096 ≤ length before → 1 ≤ s.turn → s.turn < 256 ^ 8 → seed_of s.seed < 256 ^ 8
    → schedule_at (place_of first) (take 4096 put) ≡ Some s
new_there before put bytes at first s there is written long some turn seed =
    let few : length (schedule_bytes s) ≡ 24 = omega arith in
    let inside = (place_room first).1 in
    let has : HasBytes put at bytes = written_there before at bytes put written (omega (arith, there, inside, ap length is, few, long)) in
    reads_back put (place_of first) s some turn seed (omega (arith, inside)) (subst (λ n. HasBytes put n (schedule_bytes s)) there (subst (λ (l : List ℕ). HasBytes put at l) is has))

-- WHERE IT WRITES

note_inside : (b : Bool) (i : ℕ) → IsWithin (place_of b) 24 i → NotesAt i
note_inside true i w = (omega (arith, w.0), omega (arith, w.1))
note_inside false i w = (omega (arith, w.0), omega (arith, w.1))

module _ {D : Type 0} (d : Ghosts D) where
  pub as_note : (first : Bool) (at n : ℕ) (old new : D) (failed : Bool) → at ≡ place_of first → n ≡ 24 → WritesWithin d (IsWithin at n) 2 old new failed → WritesWithin d (IsWithin (place_of first) 24) 2 old new failed
  as_note first at n old new failed there long = wider d (IsWithin at n) (IsWithin (place_of first) 24) 2 old new failed (λ i w. (omega (arith, w.0, there), omega (arith, w.1, there, long)))

  pub first_call : (old mid : D) (failed : Bool) → WritesWithin d Nowhere 1 old mid failed → WritesWithin d NotesAt 1 old mid failed
  first_call old mid failed = wider d Nowhere NotesAt 1 old mid failed (λ i no. absurd no)

  pub then_note : (first : Bool) (old mid new : D) (failed : Bool) → WritesWithin d Nowhere 1 old mid false → WritesWithin d (IsWithin (place_of first) 24) 2 mid new failed → WritesWithin d NotesAt 3 old new failed
  then_note first old mid new failed settled noted = writes_on_within d NotesAt (IsWithin (place_of first) 24) 1 2 old mid new failed (note_inside first) (first_call old mid false settled) noted

  pub then_pick : (first : Bool) (old mid put new : D) (failed : Bool) → WritesWithin d Nowhere 1 old mid false → WritesWithin d (IsWithin (place_of first) 24) 2 mid put false → WritesWithin d (IsWithin 2048 1) 2 put new failed → WritesWithin d NotesAt 5 old new failed
  then_pick first old mid put new failed settled noted picks =
      writes_on_within d NotesAt (IsWithin 2048 1) 3 2 old put new failed (λ i w. (w.0, omega (arith, w.1))) (then_note first old mid put false settled noted) picks

-- WHAT A DISK MIGHT HAVE LEFT BEFORE

length_taken : (n at : ℕ) (c : List ℕ) → length (take n (drop at c)) ≡ min n (length c - at)
length_taken n at c = grind (arith, common_steps)

-- the same image with its own bytes where notes stand
module _ (content image : List ℕ) (size : length image ≡ length content) (long : 2048 ≤ length image) where
  abbrev part : List ℕ
  part = take 2048 (drop 2048 content)

  part_long : length part ≡ min 2048 (length content - 2048)
  part_long = length_taken 2048 2048 content

  room : 2048 + length part ≤ length image
  room = omega (arith, part_long, size, long)

  abbrev back : List ℕ
  back = take 2048 image ++ part ++ drop (2048 + length part) image

  written : IsOverwritten image 2048 part back
  written = refl

  back_size : length back ≡ length image
  back_size = written_size image 2048 part back written room

  back_there : (k : ℕ) → k < length part → get_or back (2048 + k) 0 ≡ get_or content (2048 + k) 0
  back_there k lt =
      sym (get_part (length part) 2048 back k 0 lt (omega (arith, back_size, room, lt)))
      ∙ ap (λ (l : List ℕ). get_or l k 0) (written_there image 2048 part back written room)
      ∙ get_part 2048 2048 content k 0 (omega (arith, part_long, lt)) (omega (arith, part_long, lt))

  back_elsewhere : (i : ℕ) → ¬ IsWithin 2048 (length part) i → get_or back i 0 ≡ get_or image i 0
  back_elsewhere i out = written_elsewhere image 2048 part back written room i out

  at_content : (i : ℕ) → NotesAt i → get_or back i 0 ≡ get_or content i 0
  at_content i notes = elim (cases_lt i (2048 + length part)) [
    | inl lt ↦
        (let k : 2048 + (i - 2048) ≡ i = omega (arith, notes.0) in
        subst (λ n. get_or back n 0 ≡ get_or content n 0) k (back_there (i - 2048) (omega (arith, lt, notes.0))))
    | inr past ↦
        (let short : length content ≤ i = omega (arith, past, part_long, notes.1) in
        get_or_past back i 0 (omega (arith, back_size, size, short)) ∙ sym (get_or_past content i 0 short))
  ]

  inside : (i : ℕ) → IsWithin 2048 (length part) i → NotesAt i
  inside i w = (w.0, omega (arith, w.1, part_long))

notes_or_not : (i : ℕ) → NotesAt i ⊎ (¬ NotesAt i)
notes_or_not i = elim (cases_lt i 2048) [
  | inl lt ↦ inr (λ notes. omega (arith, lt, notes.0))
  | inr from ↦ elim (cases_lt i 4096) [ inl below ↦ inl (from, omega (arith, below)) | inr past ↦ inr (λ notes. omega (arith, past, notes.1)) ]
]

-- what is left where bytes of the notes were written is what might have been left before, but for these
pub record IsLeftBefore {D : Type 0} (d : Ghosts D) (old : D) (image : List ℕ) : Type 0 where
  pub was : List ℕ
  pub might : MayBeLeft d old was
  pub same : IsSameOutside NotesAt was image

pub left_before : {D : Type 0} (d : Ghosts D) (old : D) (image : List ℕ) → IsSameOutside (λ i. d.pending old i ⊎ NotesAt i) (d.content old) image → IsLeftBefore d old image
left_before d old image left = elim (cases_lt (length image) 2048) [
  | inl short ↦ record {
    was = image;
    might = record {
      size = left.size;
      same = λ i durable. elim (cases_lt i 2048) [
        | inl lt ↦ left.same i (λ either. ⊎_elim durable (λ (notes : NotesAt i). omega (arith, notes.0, lt)) either)
        | inr past ↦ get_or_past image i 0 (omega (arith, short, past)) ∙ sym (get_or_past (d.content old) i 0 (omega (arith, left.size, short, past)))
      ];
    };
    same = record { size = refl; same = λ i out. refl };
  }
  | inr long ↦
      (let content : List ℕ = d.content old in
      record {
        was = back content image left.size long;
        might = record {
          size = back_size content image left.size long ∙ left.size;
          same = λ i durable. elim (notes_or_not i) [
            | inl notes ↦ at_content content image left.size long i notes
            | inr out ↦ back_elsewhere content image left.size long i (λ w. out (inside content image left.size long i w)) ∙ left.same i (λ either. ⊎_elim durable out either)
          ];
        };
        same = record { size = sym (back_size content image left.size long); same = λ i out. sym (back_elsewhere content image left.size long i (λ w. out (inside content image left.size long i w))) };
      })
]
