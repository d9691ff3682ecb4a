-- A write behind the bytes of the format leaves what a session represents.
use Rattle.std.proofs.Common.{◌≡◌, ◌⊎◌, inl, inr, ⊎_elim, ℕ, ◌≤◌, true, false, List, length, take, drop, Ok, refl, sym, ◌∙◌, ap, subst, arith}
use Rattle.ckrt_disk.specs.Disk.{IsWithin, LeavesOnly}
use Rattle.ckrt_disk.specs.Frame.{IsSameOutside, WritesWithin}
use Rattle.ckrt_disk.specs.declared.disk.Disk.{Ghosts}
use Rattle.ckrt_disk.proofs.Images.{wider_image}
use Rattle.ckrt_disk.proofs.Moments.{weaker}
use Rattle.ckrt_stored.specs.declared.config.Config.{Config}
use Rattle.ckrt_stored.specs.Layout.{journal_at}
use Rattle.ckrt_stored.proofs.SlotLemmas.{journal_stand}
use Rattle.ckrt_events.specs.declared.event.Event.{Event}
use Rattle.ckrt_events.specs.Bytes.{encodings_of}
use Rattle.ckrt_machine.specs.Events.{memory_in}
use Rattle.ckrt_stored.specs.declared.progress.Progress.{Progress}
use Rattle.ckrt_stored.specs.Frame.{IsSpare}
use Rattle.ckrt_stored.specs.Progress.{PagesStand}
use Rattle.ckrt_stored.specs.Programs.{Program, output_after, state_after}
use Rattle.ckrt_stored.specs.Recovery.{Recovers, is_replayable}
use Rattle.ckrt_stored.proofs.GrowthLemmas.{spare_free}
use Rattle.ckrt_recovery.specs.declared.session.Session.{Session}
use Rattle.ckrt_recovery.specs.Calls.{spare_at}
use Rattle.ckrt_recovery.specs.Represents.{RecoversLike, RecoversToEither, Represents}
use Rattle.ckrt_recovery.specs.View.{View, view_of}
use Rattle.ckrt_recovery.proofs.CommitLemmas.{now_like}
use Rattle.ckrt_recovery.proofs.SessionLemmas.{recovers_like}

-- the slots of the pages lie before it
pub pages_spared : (p : Progress) (at n : ℕ) (content image : List ℕ) → journal_at p.config 0 ≤ at → IsSameOutside (IsWithin at n) content image → PagesStand p content → PagesStand p image
pages_spared p at n content image behind same stand = λ area low.
    journal_stand p.config area 0 (memory_in p.machine) (IsWithin at n) content image low (λ i w. omega (arith, behind, w.0)) same (stand area low)

module _ {D : Type 0} {g : Ghosts D} (p : Program) (events : List Event) (old : Session D g) (reps : Represents p events old) (running : old.failed ≡ false) (offset n : ℕ) where
  -- where a stop may leave other bytes
  abbrev pub AtRisk : ℕ → Type 0
  AtRisk i = g.pending old.disk i ⊎ IsWithin (spare_at old offset) n i

  -- an image that has others there alone recovers to the same
  pub recovers_spared : (image : List ℕ) → IsSameOutside AtRisk (g.content old.disk) image → Recovers image (Ok (now_like p events old reps running).to.recovered)
  recovers_spared image same =
      let like = now_like p events old reps running in
      let config : like.to.recovered.config ≡ old.progress.config = like.to.has_events.config ∙ sym reps.config in
      let spare : (i : ℕ) → AtRisk i → IsSpare old.progress.config i = λ i. ⊎_elim (λ had. absurd (reps.settled running i had)) (λ w. omega (arith, w.0)) in
      let outside : IsSameOutside (IsSpare old.progress.config) (g.content old.disk) image = wider_image AtRisk (IsSpare old.progress.config) (g.content old.disk) image spare same in
      spare_free (g.content old.disk) image like.to.recovered like.to.recovers (subst (λ (c : Config). IsSameOutside (IsSpare c) (g.content old.disk) image) (sym config) outside)

  like_spared : (image : List ℕ) → IsSameOutside AtRisk (g.content old.disk) image → RecoversLike p events old image
  like_spared image same =
      let like = now_like p events old reps running in
      record {
        to = record { recovered = like.to.recovered; recovers = recovers_spared image same; has_events = like.to.has_events; held_from = like.to.held_from };
        area = like.area;
        generation = like.generation;
        journal = like.journal;
      }

  -- at any moment of the write
  pub spared_moment : (new : D) → LeavesOnly g.moment g.left_since old.disk new (IsSameOutside AtRisk (g.content old.disk)) → LeavesOnly g.moment g.left_since old.disk new (RecoversToEither p events old)
  spared_moment new so = weaker g.moment g.left_since old.disk new _ (RecoversToEither p events old) so (λ image same. inl (like_spared image same).to)

  -- and behind it
  pub represents_spared : (new : Session D g) → view_of new ≡ view_of old → WritesWithin g (IsWithin (spare_at old offset) n) 2 old.disk new.disk false → g.is_honest new.disk → ((i : ℕ) → ¬ g.pending new.disk i) → Represents p events new
  represents_spared new view within honest durable = record {
    config = ap (λ (v : View). v.recovered.config) view ∙ reps.config;
    acknowledged = omega (arith, kept, reps.acknowledged);
    count = ap (λ (v : View). v.recovered.count) view ∙ reps.count;
    pending = ap (λ (v : View). v.pending) view ∙ reps.pending ∙ ap (λ k. encodings_of (drop k events)) (sym kept);
    accepted = reps.accepted;
    replayable = ap (λ k. is_replayable (drop k events) k (length (output_after p (take k events))) (state_after p (take k events))) kept ∙ reps.replayable;
    state = ap (λ (v : View). v.recovered.state) view ∙ reps.state;
    released = ap (λ (v : View). v.released) view ∙ reps.released ∙ ap (λ k. length (output_after p (take k events))) (sym kept);
    held = ap (λ (v : View). v.recovered.held) view ∙ reps.held ∙ ap (λ k. drop k (output_after p events)) (sym confirmed);
    settled = λ _. durable;
    images = λ _ image left.
        let now = within.content refl honest in
        let same : IsSameOutside AtRisk (g.content old.disk) image = record { size = left.size ∙ now.size; same = λ i out. left.same i (durable i) ∙ now.same i (λ w. out (inr w)) } in
        recovers_like p events events old new image (ap (λ k. take k events) kept) (omega (arith, confirmed)) (ap (λ (v : View). v.recovered.area) view) (ap (λ (v : View). v.recovered.generation) view) (ap (λ (v : View). v.recovered.journal) view)
        (like_spared image same);
    failed = λ is. let no : true ≡ false = sym is ∙ (ap (λ (v : View). v.failed) view ∙ running) in absurd (cc);
  }
    where
      kept : new.acknowledged ≡ old.acknowledged
      kept = ap (λ (v : View). v.acknowledged) view

      confirmed : new.progress.confirmed ≡ old.progress.confirmed
      confirmed = ap (λ (v : View). v.recovered.confirmed) view
