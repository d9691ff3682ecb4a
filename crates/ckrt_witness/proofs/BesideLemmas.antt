-- Two runs that kept a history, the second on what a stop behind the first left.
use Rattle.std.proofs.Common.{◌≡◌, inl, inr, ℕ, ◌≤◌, List, [], ◌∷◌, subst, sym}
use Rattle.ckrt_disk.specs.Disk.{IsImage}
use Rattle.ckrt_disk.specs.Frame.{MayBeLeft}
use Rattle.ckrt_disk.specs.declared.disk.Disk.{Ghosts}
use Rattle.ckrt_look_recording.specs.Recording.{Recorded}
use Rattle.ckrt_stored.specs.Programs.{Program, RecoversToStart}
use Rattle.ckrt_history.specs.History.{HasHistory}
use Rattle.ckrt_history.specs.Many.{IsKeepingRun, Three}
use Rattle.ckrt_witness.specs.Beside.{AreReopened, BesideWitness, RanBeside, RanTwice}
use Rattle.ckrt_witness.proofs.WitnessLemmas.{again, only_image}

-- what a disk leaves at a moment, and that it reads as one of that
abbrev pub CountsNow : {D : Type 0} → Ghosts D → Type 0
CountsNow {D} d = (disk : D) (t : ℕ) (image : List ℕ) → d.is_honest disk → t ≤ d.moment disk → IsImage (d.content disk) (d.pending disk) image → d.left_since disk t image

abbrev pub Reads : {D : Type 0} → Ghosts D → Type 0
Reads {D} d = (disk : D) → d.is_honest disk → IsImage (d.content disk) (d.pending disk) (d.content disk)

module _ {D O K : Type 0} (d : Ghosts D) (o : Ghosts O) (k : Ghosts K) (counts : CountsNow d) (reads : Reads d) (output_counts : CountsNow o) (output_reads : Reads o) (file_counts : CountsNow k) (file_reads : Reads k) where
  run_to : (x end next : Three D O K) → RanBeside d o k x end → AreReopened d o k end next → IsKeepingRun d o k x next
  run_to x end next ran opened = ran next (again d counts reads end.disk next.disk opened.disk) (again o output_counts output_reads end.output next.output opened.output) (again k file_counts file_reads end.file next.file opened.file)

  pub two_beside : (p : Program) → RanTwice d o k p → BesideWitness d o k
  two_beside p t = record {
    program = p;
    x = t.x;
    y = t.next;
    z = t.last;
    formatted = λ image may. subst (λ (l : List ℕ). RecoversToStart p l) (sym (only_image d t.x.disk image t.settled may)) t.formatted;
    durable = t.durable;
    none = λ image r may has. t.none r (subst (λ (l : List ℕ). HasHistory l r) (only_image k t.x.file image t.kept may) has);
    runs = (inr (inr (inl (run_to t.x t.end t.next t.one t.again))), (inr (inr (inl (run_to t.next t.whole t.last t.other t.behind))), tt));
  }
