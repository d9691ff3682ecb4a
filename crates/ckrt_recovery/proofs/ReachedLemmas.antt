-- The public calls keep what a session represents.
use Rattle.std.proofs.Common.{◌≡◌, ◌++◌, List, [], ◌∷◌, Option, Some, None, refl, sym, subst}
use Rattle.std.proofs.lemmas.List.{append-nil, append_assoc}
use Rattle.ckrt_disk.specs.declared.disk.Disk.{Ghosts}
use Rattle.ckrt_events.specs.declared.event.Event.{Event}
use Rattle.ckrt_stored.specs.Programs.{Program}
use Rattle.ckrt_recovery.specs.Reached.{AreCalls, Call, Fits, IsReached, SurvivesCall, Takes, accepted_by, behind, event_and}
use Rattle.ckrt_recovery.specs.Represents.{RecoversAtAnyMoment, Represents}
use Rattle.ckrt_recovery.specs.declared.session.Session.{Session}

-- the event that a call accepted, and then those of more calls
joined : (o : Option Event) (events more : List Event) → events ++ event_and o [] ++ more ≡ events ++ event_and o more
joined None events more = subst (λ es. es ++ more ≡ events ++ more) (sym (append-nil events)) refl
joined (Some e) events more = append_assoc events (e ∷ []) more

module _ {D : Type 0} {g : Ghosts D} (p : Program) where
  -- one call
  taken : (o : Option Event) (events : List Event) (old new : Session D g) → g.is_honest new.disk → Takes old o new → Represents p events old
      → Represents p (events ++ event_and o []) new
  taken None events old new honest takes reps = subst (λ es. Represents p es new) (sym (append-nil events)) (takes honest p events reps)
  taken (Some e) events old new honest takes reps = takes p events reps

  -- calls one after another
  behind_represents : (calls : List (Call g)) (events : List Event) (s : Session D g) → AreCalls s calls → Represents p events s
      → Represents p (events ++ accepted_by calls) (behind s calls)
  behind_represents [] events s made reps = subst (λ es. Represents p es s) (sym (append-nil events)) reps
  behind_represents (c ∷ calls) events s made reps =
      let next = taken c.event events s c.after made.0 made.1.0 reps in
      subst (λ es. Represents p es (behind c.after calls)) (joined c.event events (accepted_by calls))
      (behind_represents calls (events ++ event_and c.event []) c.after made.1.1 next)

  pub reached_represents : (events : List Event) (s : Session D g) → IsReached p events s → Represents p events s
  reached_represents events s r =
      let first = r.given r.honest p r.recovered r.limit r.recovers in
      subst (λ es. Represents p es s) r.all (subst (λ x. Represents p (r.recovered ++ accepted_by r.calls) x) r.last (behind_represents r.calls r.recovered r.first r.made first))

  -- what it represents fits it
  pub represented_fits : (events : List Event) (s : Session D g) → Represents p events s → Fits p events s
  represented_fits events s r = record {
    config = r.config;
    acknowledged = r.acknowledged;
    count = r.count;
    pending = r.pending;
    accepted = r.accepted;
    state = r.state;
    released = r.released;
    held = r.held;
    images = r.images;
    failed = r.failed;
  }

pub survives : {D : Type 0} {g : Ghosts D} (old new : Session D g) → RecoversAtAnyMoment old new → SurvivesCall old new
survives old new any honest p events r = any honest p events (reached_represents p events old r)
