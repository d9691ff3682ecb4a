-- A formatted disk that is made longer.
use Rattle.std.proofs.Common.{◌≡◌, ℕ, List, [], Some, refl, sym, subst}
use Rattle.ckrt_disk.specs.Frame.{MayBeLeft}
use Rattle.ckrt_disk.specs.declared.disk.Disk.{Ghosts}
use Rattle.ckrt_drive.specs.Lengthening.{IsReadied}
use Rattle.ckrt_drive.specs.Together.{past}
use Rattle.ckrt_drive.proofs.TakenLemmas.{formatted_fed}
use Rattle.ckrt_drive.proofs.LeftLemmas.{stands_formatted}
use Rattle.ckrt_drive.proofs.LengtheningLemmas.{zeros_only}
use Rattle.ckrt_stored.specs.Programs.{Program, RecoversToStart}
use Rattle.ckrt_witness.specs.Lengthened.{Lengthens, LongerWitness}
use Rattle.ckrt_witness.proofs.WitnessLemmas.{only_image}

pub longer_met : {D O : Type 0} (d : Ghosts D) (o : Ghosts O) (p : Program) (file : List ℕ) (old longer : D) (output : O) → Lengthens d p old longer → ((i : ℕ) → ¬ o.pending output i) → LongerWitness d o file
longer_met d o p file old longer output it durable =
    let made : (image : List ℕ) → MayBeLeft d old image → RecoversToStart p image = λ image may. subst (RecoversToStart p) (sym (only_image d old image it.settled may)) it.formatted in
    record {
      program = p;
      past = past p (o.content output) [] [];
      old = old;
      left = longer;
      output = output;
      disks = it;
      lengthened = record {
        images = λ image may. (d.content old, record { size = refl; same = λ i out. refl }, subst (IsReadied (d.content old)) (sym (only_image d longer image it.settled_longer may)) (zeros_only (d.content old) (d.content longer) it.zeros));
        inside = λ i is. absurd (it.settled_longer i is);
      };
      stands = stands_formatted d o p old output made durable;
      fed = formatted_fed d (Some file) p (o.content output) old made;
    }
