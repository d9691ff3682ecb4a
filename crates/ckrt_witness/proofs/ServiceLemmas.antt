-- A service of a session that recovery gave.
use Rattle.std.proofs.Common.{◌≡◌, ◌≢◌, ◌∙◌, ◌+◌, ◌≤◌, ◌<◌, ℕ, false, Some, None, List, [], length, ap, sym, subst, refl, arith}
use Rattle.ckrt_disk.specs.Disk.{HasFailed}
use Rattle.ckrt_disk.specs.declared.disk.Disk.{Ghosts}
use Rattle.ckrt_main.specs.Transcript.{accepted_events, transcript, view_after}
use Rattle.ckrt_main.specs.Service.{Served}
use Rattle.ckrt_main.proofs.FoldLemmas.{count_grows}
use Rattle.ckrt_recovery.specs.Opening.{IsSyncedAndRead}
use Rattle.ckrt_recovery.specs.View.{View, opened, view_of}
use Rattle.ckrt_recovery.specs.declared.session.Session.{Session}
use Rattle.ckrt_stored.specs.Programs.{Program, RecoversToStart}
use Rattle.ckrt_stored.specs.Recovery.{Recovered}
use Rattle.ckrt_witness.specs.Service.{ServiceMade, ServiceWitness}

module _ {D : Type 0} {d : Ghosts D} (old new : Session D d) (lines text left : List ℕ) where
  -- as many events were accepted as the session counts
  pub made : (served : Served (Some []) (Some text) (Some lines) (Some left) (view_of old)) → view_of new ≡ view_after (view_of old) served.read → lines ≢ [] → text ≢ []
      → old.progress.count + 3 ≤ new.progress.count → old.acknowledged < new.acknowledged → old.progress.confirmed < new.progress.confirmed → ServiceMade old new lines text
  made served behind some_lines some_text many committed printed =
      let count : new.progress.count ≡ old.progress.count + length (accepted_events (view_of old) served.read) = ap (λ (v : View). v.recovered.count) behind ∙ count_grows None (view_of old) served.read in
      record {
        left = left;
        served = served;
        behind = behind;
        some_lines = some_lines;
        some_text = some_text;
        taken = omega (arith, count, many);
        committed = committed;
        printed = printed;
      }

pub served_once : {D : Type 0} {d : Ghosts D} (p : Program) (start : D) (old new : Session D d) (lines text : List ℕ) (r : Recovered) → RecoversToStart p (d.content start) → view_of old ≡ opened r
    → d.failures old.disk ≡ d.failures start → ¬ HasFailed (d.failures start) (d.failures new.disk) → d.is_honest new.disk → ServiceMade old new lines text → ServiceWitness d p
served_once {d = d} p start old new lines text r begins opens same well honest done = record {
  start = start;
  begins = begins;
  old = old;
  new = new;
  honest = honest;
  running = ap (λ (v : View). v.failed) opens;
  well = subst (λ n. ¬ HasFailed n (d.failures new.disk)) (sym same) well;
  lines = lines;
  text = text;
  made = done;
}
