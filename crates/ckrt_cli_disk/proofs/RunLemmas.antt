-- A run of a disk: what a service of the session that its content recovers to makes of it.
use Rattle.std.proofs.Common.{◌≡◌, ◌≤◌, ◌∙◌, ℕ, zero, suc, Bool, true, false, List, [], ◌∷◌, ◌++◌, length, take, drop, Option, None, Ok, refl, sym, ap, subst, arith, inl, inr, append-nil, true≢false}
use Rattle.std.proofs.lemmas.List.{take-append-drop, take_all}
use Rattle.std.specs.Prelude.{◌⊎◌}
use Rattle.std.specs.Io.KnownBytes.{Appends, IsAtEnd}
use Rattle.ckrt_main.specs.Replies.{text_of}
use Rattle.ckrt_disk.specs.Disk.{HasFailed, IsImage}
use Rattle.ckrt_disk.specs.Frame.{MayBeLeft}
use Rattle.ckrt_disk.specs.declared.disk.Disk.{Ghosts}
use Rattle.ckrt_events.specs.declared.event.Event.{Event}
use Rattle.ckrt_stored.specs.Programs.{Program, RecoversTo}
use Rattle.ckrt_stored.specs.Progress.{recovered_of}
use Rattle.ckrt_stored.specs.Recovery.{Recovers}
use Rattle.ckrt_recovery.specs.Between.{RecoversBetween}
use Rattle.ckrt_disk.specs.Lists.{IsBeginningOf}
use Rattle.ckrt_recovery.specs.Opening.{IsSyncedAndRead}
use Rattle.ckrt_recovery.specs.Represents.{Represents, RecoversToEither}
use Rattle.ckrt_main.specs.Transcript.{Fate, transcript}
use Rattle.ckrt_recovery.specs.View.{View, opened, view_of}
use Rattle.ckrt_recovery.specs.declared.session.Session.{Session}
use Rattle.ckrt_main.specs.Service.{Completes, Processes, Shows}
use Rattle.ckrt_cli_disk.specs.Running.{IsFated, KeepsEvents, Serves, ServesAll}

front_of_taken : {A : Type 0} (n : ℕ) (xs : List A) → IsBeginningOf (take n xs) xs
front_of_taken n xs = (drop n xs, sym (take-append-drop n xs))

-- what a list begins with, it begins with up to any place behind it
beginning_taken : {A : Type 0} (xs ys : List A) (n : ℕ) → length xs ≤ n → IsBeginningOf xs (take n (xs ++ ys))
beginning_taken [] ys n long = (take n ys, refl)
beginning_taken (x ∷ xs) ys zero long = absurd (omega arith)
beginning_taken (x ∷ xs) ys (suc n) long =
    let rest = beginning_taken xs ys n (omega arith) in
    (rest.0, ap (λ zs. x ∷ zs) rest.1)

module _ {D : Type 0} (d : Ghosts D) (only_now : (disk : D) (image : List ℕ) → d.is_honest disk → d.left_since disk (d.moment disk) image → IsImage (d.content disk) (d.pending disk) image)
    (start : D) (old new : Session D d)
    (exact : d.is_honest old.disk → Recovers (d.content start) (Ok (recovered_of old.progress)))
    (view : view_of old ≡ opened (recovered_of old.progress))
    (represents : d.is_honest old.disk → (p : Program) (events : List Event) (limit : ℕ) → RecoversTo p events limit (d.content start) → Represents p events old)
    (disk : IsSyncedAndRead d start old.disk false) where
  fated : (fate : Fate) → ((fate ≡ None → new.failed ≡ false) × (new.failed ≡ false → fate ≡ None))
      → (new.failed ≡ true → (old.failed ≡ true) ⊎ HasFailed (d.failures old.disk) (d.failures new.disk))
      → (new.failed ≡ false → (old.failed ≡ false) × (d.failures new.disk ≡ d.failures old.disk)) → IsFated d start new.disk fate
  fated fate is failed well = record { well = λ none. (well (is.0 none)).1 ∙ disk.well refl; failed = λ some. go new.failed refl some }
    where
      go : (f : Bool) → new.failed ≡ f → (fate ≡ None → ⊥) → HasFailed (d.failures start) (d.failures new.disk)
      go false e some = absurd (some (is.1 e))
      go true e some = elim (failed e) [
        | inl before ↦ absurd (true≢false (sym before ∙ ap (λ (v : View). v.failed) view))
        | inr grew ↦ subst (λ n. HasFailed n (d.failures new.disk)) (disk.well refl) grew
      ]

  -- all that was recovered is acknowledged
  all_acknowledged : (p : Program) (events : List Event) → Represents p events old → old.acknowledged ≡ length events
  all_acknowledged p events at = ap (λ (v : View). v.acknowledged) view ∙ at.count

  module _ (a b r s : Option (List ℕ)) (ran : Processes a b r s old new) where
    -- the images of the disk that comes back
    left : (p : Program) (all : List Event) → Represents p all new → (image : List ℕ) → MayBeLeft d new.disk image
        → RecoversBetween p (take new.acknowledged all) all new.progress.confirmed image
    left p all at image may = go new.failed refl
      where
        either : RecoversToEither p all new image → RecoversBetween p (take new.acknowledged all) all new.progress.confirmed image
        either (inl to) = record { events = take new.acknowledged all; begins = ([], sym (append-nil _)); within = front_of_taken new.acknowledged all; to = to }
        either (inr to) = record { events = all; begins = front_of_taken new.acknowledged all; within = ([], sym (append-nil _)); to = to }

        go : (f : Bool) → new.failed ≡ f → RecoversBetween p (take new.acknowledged all) all new.progress.confirmed image
        go false e = either (inl (at.images e image may).to)
        go true e = either (at.failed e image may)

    keeps : d.is_honest new.disk → (p : Program) (events : List Event) → Represents p events old
        → KeepsEvents d start new.disk p events (take new.acknowledged (events ++ ran.accepted)) (events ++ ran.accepted) new.progress.confirmed
    keeps honest p events at = record {
      more = beginning_taken events ran.accepted new.acknowledged (omega (arith, all_acknowledged p events at, ran.accepts.acknowledged));
      since_start = since_start;
      left = left p (events ++ ran.accepted) (ran.accepts.represents honest p events at);
    }
      where
        before : d.is_honest old.disk
        before = ran.accepts.honest honest

        first : (image : List ℕ) → d.left_since old.disk (d.moment start) image → MayBeLeft d start image
        first image was = elim ((disk.any_moment before).each (d.moment start) image (omega arith) was) [
          | inl at_start ↦ only_now start image (disk.same.honest before) at_start
          | inr may ↦ may
        ]

        since_start : (image : List ℕ) → d.left_since new.disk (d.moment start) image
            → MayBeLeft d start image ⊎ RecoversBetween p events (events ++ ran.accepted) new.progress.confirmed image
        since_start image was = elim ((ran.accepts.any_moment honest p events at).each (d.moment start) image (disk.any_moment before).later was) [
          | inl earlier ↦ inl (first image earlier)
          | inr between ↦ inr (subst (λ xs. RecoversBetween p xs (events ++ ran.accepted) new.progress.confirmed image)
              (take_all old.acknowledged events (omega (arith, all_acknowledged p events at))) between)
        ]

    shows : Shows a b (transcript ran.fate (opened (recovered_of old.progress)) ran.read).replies
    shows = record {
      replies = ran.shows.replies;
      broken = ran.shows.broken;
      one = ran.shows.one;
      part = ran.shows.part;
      written = ran.shows.written;
      begun = ran.shows.begun;
      among = subst (λ v. IsBeginningOf (ran.shows.replies ++ ran.shows.broken) (transcript ran.fate v ran.read).replies) view ran.shows.among;
    }

    pub serves : Serves d start new.disk a b r s
    unfolding shows
    serves = record {
      recovered = recovered_of old.progress;
      recovers = λ honest. exact (ran.accepts.honest honest);
      read = ran.read;
      consumed = ran.consumed;
      fate = ran.fate;
      fated = fated ran.fate ran.fated ran.accepts.failed ran.accepts.well;
      shows = shows;
      acknowledged = new.acknowledged;
      acks = ran.acks;
      confirmed = new.progress.confirmed;
      shown = ran.confirmed;
      accepted = ran.accepted;
      answered = ran.answered;
      some = subst (λ v. IsBeginningOf ran.accepted (transcript ran.fate v ran.read).events) view ran.some;
      keeps = λ honest p events limit to. keeps honest p events (represents (ran.accepts.honest honest) p events limit to);
      outs = λ honest p events limit to. ran.outs honest p events (represents (ran.accepts.honest honest) p events limit to);
    }

  module _ (a b r s : Option (List ℕ)) (ran : Completes a b r s old new) where
    pub serves_all : ServesAll d start new.disk a b r s
    serves_all = record {
      recovered = recovered_of old.progress;
      recovers = λ honest. exact (ran.accepts.honest honest);
      read = ran.read;
      consumed = ran.consumed;
      fate = ran.fate;
      fated = fated ran.fate ran.fated ran.accepts.failed ran.accepts.well;
      ended = subst (λ v. IsAtEnd s ⊎ ((transcript ran.fate v ran.read).quit ≡ true)) view ran.ended;
      written = subst (λ v. Appends a b (text_of (transcript ran.fate v ran.read).replies)) view ran.written;
    }
