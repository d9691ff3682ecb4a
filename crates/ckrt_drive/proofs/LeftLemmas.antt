-- What is left of a device, and of a disk and an output that a drive begins with.
use Rattle.std.proofs.Common.{◌≡◌, inl, inr, ⊎_elim, ℕ, ◌≤◌, ◌<◌, Bool, List, [], ◌∷◌, length, get_or, refl, sym, ◌∙◌, ap, subst, arith}
use Rattle.std.proofs.lemmas.List.{same_lists}
use Rattle.std.proofs.lemmas.Grind.{get_or_default_zero}
use Rattle.ckrt_disk.specs.Disk.{IsImage}
use Rattle.ckrt_disk.specs.Frame.{MayBeLeft}
use Rattle.ckrt_disk.specs.declared.disk.Disk.{Ghosts}
use Rattle.ckrt_stored.specs.Programs.{Program, RecoversTo, RecoversToStart, formatted}
use Rattle.ckrt_recovery.specs.Opening.{IsSyncedAndRead}
use Rattle.ckrt_drive.specs.Stages.{Stage}
use Rattle.ckrt_drive.specs.Drives.{StopLeaves}
use Rattle.ckrt_drive.specs.Together.{IsLeftSince, StandTogether, past}

-- before the first event
pub starts_formatted : (p : Program) (image : List ℕ) → RecoversToStart p image → RecoversTo p [] 0 image
starts_formatted p image made = record {
  recovered = formatted p;
  recovers = made;
  has_events = record { config = refl; accepted = tt; count = refl; state = refl; held = refl; within = omega arith };
  held_from = omega arith;
}

-- then any output will do of which nothing is pending
pub stands_formatted : {D O : Type 0} (d : Ghosts D) (o : Ghosts O) (p : Program) (disk : D) (output : O) → ((image : List ℕ) → MayBeLeft d disk image → RecoversToStart p image) → ((i : ℕ) → ¬ o.pending output i)
    → StandTogether d o (past p (o.content output) [] []) disk output
stands_formatted d o p disk output made settled = record {
  images = λ image may. record {
    all = [];
    begins = ([], refl);
    within = ([], refl);
    to = 0;
    recovers = starts_formatted p image (made image may);
    reached = omega arith;
    has = λ other might. λ i le lt. absurd (omega (arith, lt));
    spares = λ other might. λ i le. might.same i (settled i);
  };
  inside = λ i is. absurd (settled i is);
}

module _ {D : Type 0} (d : Ghosts D) where
  -- a process was killed: the device itself
  pub left_itself : ((disk : D) (t : ℕ) (image : List ℕ) → d.is_honest disk → t ≤ d.moment disk → IsImage (d.content disk) (d.pending disk) image → d.left_since disk t image)
      → (old new : D) → d.is_honest new → d.moment old ≤ d.moment new → ((i : ℕ) → d.pending new i → i < length (d.content new)) → IsLeftSince d old new new
  left_itself law old new honest le inside = record { images = λ image may. law new (d.moment old) image honest le may; inside = inside }

  -- power was lost: a device with one image
  pub left_image : (old new left : D) (image : List ℕ) → d.left_since new (d.moment old) image → d.content left ≡ image → ((i : ℕ) → ¬ d.pending left i) → IsLeftSince d old new left
  left_image old new left image had is none = record {
    images = λ other may.
        let same : other ≡ image = same_lists other image (may.size ∙ ap length is) (λ i x lt.
        let there : get_or other i 0 ≡ get_or image i 0 = may.same i (none i) ∙ ap (λ (l : List ℕ). get_or l i 0) is in
        let long : i < length image = omega (arith, lt, may.size, ap length is) in
        get_or_default_zero other i x lt ∙ (there ∙ sym (get_or_default_zero image i x long))) in
        subst (λ l. d.left_since new (d.moment old) l) (sym same) had;
    inside = λ i is_pending. absurd (none i is_pending);
  }

  -- what is left of what was left was left
  pub left_again : (law : (disk : D) (image : List ℕ) → d.is_honest disk → d.left_since disk (d.moment disk) image → IsImage (d.content disk) (d.pending disk) image)
      → (old new start left : D) → d.is_honest start → IsLeftSince d old new start → IsLeftSince d start start left → IsLeftSince d old new left
  left_again law old new start left honest first second = record { images = λ image may. first.images image (law start image honest (second.images image may)); inside = second.inside }

  -- and so is what a stop within recovery leaves of it
  pub left_by_recovery : (law : (disk : D) (image : List ℕ) → d.is_honest disk → d.left_since disk (d.moment disk) image → IsImage (d.content disk) (d.pending disk) image)
      → (old new start end left : D) (failed : Bool) → IsSyncedAndRead d start end failed → d.is_honest end → IsLeftSince d old new start → IsLeftSince d start end left → IsLeftSince d old new left
  left_by_recovery law old new start end left failed read honest first second = record {
    images = λ image may. first.images image (⊎_elim
        (λ (past : _). law start image (read.same.honest honest) past)
        (λ (meant : _). meant)
        ((read.any_moment honest).each (d.moment start) image (omega arith) (second.images image may)));
    inside = second.inside;
  }

module _ {D O : Type 0} (d : Ghosts D) (o : Ghosts O) (law : (disk : D) (image : List ℕ) → d.is_honest disk → d.left_since disk (d.moment disk) image → IsImage (d.content disk) (d.pending disk) image)
    (output_law : (disk : O) (image : List ℕ) → o.is_honest disk → o.left_since disk (o.moment disk) image → IsImage (o.content disk) (o.pending disk) image) where
  pub stop_in_recovery : (stages : List (Stage d o)) (x at : Stage d o) (start end left : D) (output other : O) (failed : Bool) → StopLeaves stages x at start output → IsSyncedAndRead d start end failed → d.is_honest end → o.is_honest output
      → IsLeftSince d start end left → IsLeftSince o output output other → StopLeaves stages x at left other
  stop_in_recovery [] x at start end left output other failed h read honest whole there same =
      (h.0, left_by_recovery d law x.session.disk x.session.disk start end left failed read honest h.1 there, left_again o output_law x.output x.output output other whole h.2 same)
  stop_in_recovery (z ∷ more) x at start end left output other failed (inl h) read honest whole there same =
      inl (h.0, left_by_recovery d law x.session.disk z.session.disk start end left failed read honest h.1 there, left_again o output_law x.output z.output output other whole h.2 same)
  stop_in_recovery (z ∷ more) x at start end left output other failed (inr h) read honest whole there same = inr (stop_in_recovery more z at start end left output other failed h read honest whole there same)
