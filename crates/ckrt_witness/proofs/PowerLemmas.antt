-- A session that takes an event and commits or saves it.
use Rattle.std.proofs.Common.{◌≡◌, false, [], ◌∷◌, ◌++◌, take, Option, Some, None, Result, Ok, Err, refl, ◌∙◌, ap, subst, arith}
use Rattle.std.specs.Prelude.{MatchOption, OnOk, is_err}
use Rattle.ckrt_disk.specs.Disk.{IsImage}
use Rattle.ckrt_disk.specs.declared.disk.Disk.{Ghosts}
use Rattle.ckrt_events.specs.declared.event.Event.{Event}
use Rattle.ckrt_recovery.specs.Calls.{IsAfterEvent}
use Rattle.ckrt_recovery.specs.Reached.{Takes}
use Rattle.ckrt_recovery.specs.Represents.{RecoversAtAnyMoment, Represents, RepresentsDisk, RepresentsOneMore, RepresentsSame}
use Rattle.ckrt_recovery.specs.View.{View, after_event, committed, refusal_of, view_of}
use Rattle.ckrt_recovery.specs.declared.fault.SubmitFault.{SubmitFault}
use Rattle.ckrt_recovery.specs.declared.session.Session.{Session}
use Rattle.ckrt_stored.specs.Programs.{Program, RecoversTo, RecoversToStart}
use Rattle.ckrt_drive.proofs.LeftLemmas.{starts_formatted}
use Rattle.ckrt_witness.specs.Power.{PowerWitness}

pub on_ok : {X E : Type 0} (r : Result X E) (P : Type 0) → is_err r ≡ false → OnOk r P → P
on_ok (Ok x) P is h = h
on_ok (Err e) P is h = absurd (cc)

module _ {D : Type 0} {g : Ghosts D} (p : Program) (disk : D) (e : Event) (first old new : Session D g) where
  same_number : (refusal : Option SubmitFault) → MatchOption refusal (view_of old ≡ after_event (view_of first) e) (λ _. old ≡ first) → old.acknowledged ≡ first.acknowledged
  same_number None same = ap (λ (v : View). v.acknowledged) same
  same_number (Some fault) same = ap (λ (s : Session D g). s.acknowledged) same

  pub takes_one : {X E : Type 0} (result : Result X E) → is_err result ≡ false → RepresentsDisk disk first → IsAfterEvent first e old → RepresentsOneMore first e result old → old.disk ≡ first.disk
      → RecoversAtAnyMoment old new → (g.is_honest new.disk → g.is_honest old.disk) → new.acknowledged ≡ old.progress.count → g.is_honest new.disk → RecoversToStart p (g.content disk) → PowerWitness g p
  takes_one result fine given after more same call honest_before ok honest start =
      let honest_old : g.is_honest old.disk = honest_before honest in
      let honest_first : g.is_honest first.disk = subst g.is_honest same honest_old in
      let recovers : RecoversTo p [] 0 (g.content disk) = starts_formatted p (g.content disk) start in
      let reps : Represents p [] first = given honest_first p [] 0 recovers in
      let takes : Takes first (Some e) old = λ q es had. on_ok result (Represents q (es ++ e ∷ []) old) fine (more q es had) in
      record {
        events = e ∷ [];
        old = old;
        new = new;
        reached = record {
          disk = disk;
          recovered = [];
          limit = 0;
          recovers = recovers;
          first = first;
          honest = honest_first;
          given = given;
          calls = record { event = Some e; after = old } ∷ [];
          made = (honest_old, (takes, tt));
          last = refl;
          all = refl;
        };
        call = call;
        honest = honest;
        pending = omega (arith, reps.acknowledged, same_number (refusal_of (view_of first) e) after);
        acknowledges = ok ∙ (takes p [] reps).count;
      }

-- a session that has committed its one event represents it, and its disk recovers to it
module _ {D : Type 0} {g : Ghosts D} (p : Program) (disk : D) where
  pub represents_one : {X E : Type 0} (result : Result X E) (e : Event) (first old new : Session D g) → is_err result ≡ false → RepresentsDisk disk first → RepresentsOneMore first e result old → RepresentsSame old new
      → view_of new ≡ committed (view_of old) → ((x : D) → g.is_honest x → IsImage (g.content x) (g.pending x) (g.content x)) → g.is_honest first.disk → g.is_honest new.disk → RecoversToStart p (g.content disk)
      → Represents p (e ∷ []) new × RecoversTo p (e ∷ []) new.progress.confirmed (g.content new.disk)
  represents_one result e first old new fine given more same ok reads honest honest_new start =
      let none : Represents p [] first = given honest p [] 0 (starts_formatted p (g.content disk) start) in
      let one : Represents p (e ∷ []) old = on_ok result (Represents p (e ∷ []) old) fine (more p [] none) in
      let held : Represents p (e ∷ []) new = same p (e ∷ []) one in
      let well : new.failed ≡ false = ap (λ (v : View). v.failed) ok in
      let all : new.acknowledged ≡ 1 = ap (λ (v : View). v.acknowledged) ok ∙ one.count in
      (held, subst (λ n. RecoversTo p (take n (e ∷ [])) new.progress.confirmed (g.content new.disk)) all (held.images well (g.content new.disk) (reads new.disk honest_new)).to)
