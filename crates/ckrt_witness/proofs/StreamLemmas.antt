-- Services that a stream ended.
use Rattle.std.proofs.Common.{◌≡◌, ◌≢◌, ◌⊎◌, ⊎_elim, ◌∙◌, ◌<◌, ℕ, Bool, true, false, List, [], Some, ap, sym, subst, refl}
use Rattle.std.proofs.lemmas.Bool.{false≢true}
use Rattle.ckrt_disk.specs.Disk.{HasFailed}
use Rattle.ckrt_disk.specs.declared.disk.Disk.{Ghosts}
use Rattle.ckrt_drive.proofs.LeftLemmas.{starts_formatted}
use Rattle.ckrt_main.specs.Service.{Processes}
use Rattle.ckrt_main.specs.declared.fault.ServeFault.{ServeFault}
use Rattle.ckrt_main.specs.declared.fault.ServeFault.TheVariants.{Read, Write}
use Rattle.ckrt_recovery.specs.Represents.{RepresentsDisk}
use Rattle.ckrt_recovery.specs.View.{View, opened, view_of}
use Rattle.ckrt_recovery.specs.declared.session.Session.{Session}
use Rattle.ckrt_stored.specs.Programs.{Program, RecoversToStart}
use Rattle.ckrt_stored.specs.Recovery.{Recovered}
use Rattle.ckrt_witness.specs.Streams.{BrokenService}

still_running : (b : Bool) (P : Type 0) → (b ≡ true → P) → ¬ P → b ≡ false
still_running true P grew none = absurd (none (grew refl))
still_running false P grew none = refl

module _ {D : Type 0} {d : Ghosts D} (disk : D) (s t : Session D d) (lines text left : List ℕ) (fault : ServeFault) where
  pub broken : (fault ≡ Read) ⊎ (fault ≡ Write) → (r : Recovered) → view_of s ≡ opened r → RepresentsDisk disk s → d.failures s.disk ≡ d.failures disk → Processes (Some []) (Some text) (Some lines) (Some left) s t
      → (t.failed ≡ true → (s.failed ≡ true) ⊎ HasFailed (d.failures s.disk) (d.failures t.disk)) → lines ≢ [] → text ≢ [] → s.acknowledged < t.acknowledged
      → d.is_honest t.disk → ¬ HasFailed (d.failures disk) (d.failures t.disk) → (p : Program) → RecoversToStart p (d.content disk) → BrokenService d p fault
  broken of_streams r opens given same service fails some_lines some_text more honest none p start =
      let running : s.failed ≡ false = ap (λ (v : View). v.failed) opens in
      record {
        of_streams = of_streams;
        old = s;
        represents = given (service.accepts.honest honest) p [] 0 (starts_formatted p (d.content disk) start);
        running = running;
        new = t;
        honest = honest;
        still_running = still_running t.failed ((s.failed ≡ true) ⊎ HasFailed (d.failures s.disk) (d.failures t.disk)) fails
            (⊎_elim (λ was. false≢true (sym running ∙ was)) (λ grew. none (subst (λ n. HasFailed n (d.failures t.disk)) same grew)));
        committed = more;
        lines = lines;
        some_lines = some_lines;
        text = text;
        some_text = some_text;
        left = left;
        service = service;
      }
