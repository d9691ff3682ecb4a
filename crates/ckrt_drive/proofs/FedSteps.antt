-- Steps of a drive: what a stop within one leaves has what the disk is to have beside its events, as what these took of the input.
use Rattle.std.proofs.Common.{◌≡◌, inl, inr, ⊎_elim, ℕ, ◌≤◌, Bool, true, false, Option, Some, None, List, ◌++◌, length, take, drop, refl, sym, ◌∙◌, ap, subst, arith}
use Rattle.std.specs.Prelude.{IfSome}
use Rattle.std.proofs.lemmas.List.{take-append-drop, take-append-le, take_all}
use Rattle.ckrt_disk.specs.Disk.{IsImage, LeavesOnly}
use Rattle.ckrt_disk.specs.Frame.{MayBeLeft}
use Rattle.ckrt_disk.specs.declared.disk.Disk.{Ghosts}
use Rattle.ckrt_events.specs.declared.event.Event.{Event}
use Rattle.ckrt_stored.specs.Programs.{Program}
use Rattle.ckrt_drive.specs.Fed.{IsFed}
use Rattle.ckrt_drive.specs.Keeping.{KeepsInput, KeepsOf}
use Rattle.ckrt_drive.proofs.KeepLemmas.{IsKept, RecoversHaving, either_having, fed_kept}
use Rattle.ckrt_disk.specs.Lists.{IsBeginningOf}
use Rattle.ckrt_recovery.specs.Represents.{Represents, acknowledged_of}
use Rattle.ckrt_recovery.specs.declared.session.Session.{Session}
use Rattle.ckrt_disk.proofs.ListLemmas.{begins_itself, begins_through}
use Rattle.ckrt_drive.specs.Feeding.{FeedsIfRecorded}
use Rattle.ckrt_drive.specs.Given.{record_of}
use Rattle.ckrt_drive.specs.Drives.{IsTold}
use Rattle.ckrt_drive.specs.Together.{HoldsBetween, IsLeftSince, StandsFed, past}

-- BEGINNINGS OF LISTS

pub take_begins : (n : ℕ) (events : List Event) → IsBeginningOf (take n events) events
take_begins n events = (drop n events, sym (take-append-drop n events))

pub begins_same : (events all : List Event) (n : ℕ) → n ≤ length events → IsBeginningOf events all → take n all ≡ take n events
begins_same events all n le h = ap (take n) h.1 ∙ take-append-le n events h.0 le

-- a list has one beginning of a length
beginning_is : (xs all : List Event) → IsBeginningOf xs all → take (length xs) all ≡ xs
beginning_is xs all h = begins_same xs all (length xs) (omega arith) h ∙ take_all (length xs) xs (omega arith)

pub begins_once : (xs ys all : List Event) → IsBeginningOf xs all → IsBeginningOf ys all → length xs ≡ length ys → xs ≡ ys
begins_once xs ys all h k same = sym (beginning_is xs all h) ∙ (ap (λ n. take n all) same ∙ beginning_is ys all k)

-- A SESSION

module _ {D : Type 0} {g : Ghosts D} (p : Program) (Has : List Event → List ℕ → Type 0) (kept : IsKept p Has) (events : List Event) (s : Session D g) where
  -- what a stop now leaves
  pub now_has : (b : Bool) → s.failed ≡ b → Represents p events s → KeepsOf Has events s → (image : List ℕ) → MayBeLeft g s.disk image → RecoversHaving p Has events s image
  now_has true is reps keeps image left = either_having p Has kept events s image (reps.failed is image left) (keeps.failed is image left)
  now_has false is reps keeps image left = inl ((reps.images is image left).to, keeps.running is image left)

  -- lies between what is acknowledged and a list that goes on behind
  front_same : (all : List Event) (n : ℕ) → Represents p events s → IsBeginningOf events all → n ≡ s.acknowledged → take n all ≡ acknowledged_of events s
  front_same all n reps more same = ap (λ k. take k all) same ∙ begins_same events all s.acknowledged reps.acknowledged more

  between_has : (old : List ℕ) (all : List Event) (n : ℕ) → Represents p events s → IsBeginningOf events all → n ≡ s.acknowledged → (image : List ℕ) → RecoversHaving p Has events s image → HoldsBetween Has (past p old (take n all) all) image
  between_has old all n reps more same image (inl is) = record {
    all = acknowledged_of events s;
    begins = subst (λ (l : List Event). IsBeginningOf l (acknowledged_of events s)) (sym (front_same all n reps more same)) (begins_itself (acknowledged_of events s));
    within = begins_through (acknowledged_of events s) events all (take_begins s.acknowledged events) more;
    to = s.progress.confirmed;
    held = is;
  }
  between_has old all n reps more same image (inr is) = record {
    all = events;
    begins = subst (λ (l : List Event). IsBeginningOf l events) (sym (front_same all n reps more same)) (take_begins s.acknowledged events);
    within = more;
    to = s.progress.confirmed;
    held = is;
  }

-- A STEP

module _ {D : Type 0} {g : Ghosts D} (p : Program) (Has : List Event → List ℕ → Type 0) (kept : IsKept p Has) (events : List Event) (s t : Session D g) (reps : Represents p events s) where
  -- what a stop since s leaves
  abbrev pub SinceHas : Type 0
  SinceHas = (image : List ℕ) → g.left_since t.disk (g.moment s.disk) image → RecoversHaving p Has events s image

  -- lies between what is acknowledged in s and a list that goes on behind
  pub stop_has : (old : List ℕ) (all : List Event) (n : ℕ) (disk : D) → IsBeginningOf events all → n ≡ s.acknowledged → IsLeftSince g s.disk t.disk disk → SinceHas
      → (image : List ℕ) → MayBeLeft g disk image → HoldsBetween Has (past p old (take n all) all) image
  stop_has old all n disk more same left since = λ image may. between_has p Has kept events s old all n reps more same image (since image (left.images image may))

  pub since_has : ((disk : D) (image : List ℕ) → g.is_honest disk → g.left_since disk (g.moment disk) image → IsImage (g.content disk) (g.pending disk) image) → g.is_honest s.disk
      → LeavesOnly g.moment g.left_since s.disk t.disk (RecoversHaving p Has events s) → KeepsOf Has events s → SinceHas
  since_has law was leaves keeps image left = ⊎_elim
      (λ (before : _). now_has p Has kept events s s.failed refl reps keeps image (law s.disk image was before))
      (λ (meant : _). meant)
      (leaves.each (g.moment s.disk) image (omega arith) left)

-- between two steps
pub still_has : {D : Type 0} {g : Ghosts D} (law : (disk : D) (image : List ℕ) → g.is_honest disk → g.left_since disk (g.moment disk) image → IsImage (g.content disk) (g.pending disk) image)
    (p : Program) (Has : List Event → List ℕ → Type 0) (kept : IsKept p Has) (events : List Event) (s : Session D g) (reps : Represents p events s) → g.is_honest s.disk → KeepsOf Has events s → SinceHas p Has kept events s s reps
still_has law p Has kept events s reps honest keeps = λ image left. now_has p Has kept events s s.failed refl reps keeps image (law s.disk image honest left)

-- WITH AN INPUT

module _ {D : Type 0} {g : Ghosts D} (p : Program) (events : List Event) (s t : Session D g) (reps : Represents p events s) where
  -- what a stop since s leaves
  abbrev pub SinceFed : Type 0
  SinceFed = SinceHas p IsFed (fed_kept p) events s t reps

  pub stop_fed : (file : Option (List ℕ)) (old : List ℕ) (all : List Event) (n : ℕ) (disk : D) → IsBeginningOf events all → n ≡ s.acknowledged → IsLeftSince g s.disk t.disk disk → IfSome file (λ bytes. SinceFed)
      → StandsFed g file (past p old (take n all) all) disk
  stop_fed (Some bytes) old all n disk more same left since = stop_has p IsFed (fed_kept p) events s t reps old all n disk more same left since
  stop_fed None old all n disk more same left since = tt

  module _ (file : Option (List ℕ)) (accepted : List Event) (taken : ℕ) (recorded : Option ℕ) (honest : g.is_honest t.disk) where
    pub fed_after : recorded ≡ record_of file taken → FeedsIfRecorded accepted s t recorded → IfSome file (λ bytes. KeepsInput events s) → IsTold file taken events → IfSome file (λ bytes. KeepsInput (events ++ accepted) t)
    fed_after is feeds keeps told = by file (subst (λ r. FeedsIfRecorded accepted s t r) is feeds) keeps told
      where
        by : (f : Option (List ℕ)) → FeedsIfRecorded accepted s t (record_of f taken) → IfSome f (λ bytes. KeepsInput events s) → IsTold f taken events → IfSome f (λ bytes. KeepsInput (events ++ accepted) t)
        by (Some bytes) feeds keeps told = (feeds.after honest p events (reps, keeps) told).1
        by None feeds keeps told = tt

    module _ (law : (disk : D) (image : List ℕ) → g.is_honest disk → g.left_since disk (g.moment disk) image → IsImage (g.content disk) (g.pending disk) image) (was : g.is_honest s.disk) where
      pub since_fed : recorded ≡ record_of file taken → FeedsIfRecorded accepted s t recorded → IfSome file (λ bytes. KeepsInput events s) → IsTold file taken events → IfSome file (λ bytes. SinceFed)
      since_fed is feeds keeps told = by file (subst (λ r. FeedsIfRecorded accepted s t r) is feeds) keeps told
        where
          by : (f : Option (List ℕ)) → FeedsIfRecorded accepted s t (record_of f taken) → IfSome f (λ bytes. KeepsInput events s) → IsTold f taken events → IfSome f (λ bytes. SinceFed)
          by (Some bytes) feeds keeps told = since_has p IsFed (fed_kept p) events s t reps law was (feeds.any_moment honest p events (reps, keeps) told) keeps
          by None feeds keeps told = tt

-- between two steps
module _ {D : Type 0} {g : Ghosts D} (law : (disk : D) (image : List ℕ) → g.is_honest disk → g.left_since disk (g.moment disk) image → IsImage (g.content disk) (g.pending disk) image) (p : Program) (events : List Event) (s : Session D g) (reps : Represents p events s) (honest : g.is_honest s.disk) where
  pub still_fed : (file : Option (List ℕ)) → IfSome file (λ bytes. KeepsInput events s) → IfSome file (λ bytes. SinceFed p events s s reps)
  still_fed (Some bytes) keeps = still_has law p IsFed (fed_kept p) events s reps honest keeps
  still_fed None keeps = tt
