-- Two drives, the second on what a stop behind the first left.
use Rattle.std.proofs.Common.{◌≡◌, inr, ℕ, ◌≤◌, ◌<◌, List, [], ◌∷◌, length, sym, ◌∙◌, subst, arith}
use Rattle.std.specs.Prelude.{◌≢◌}
use Rattle.std.proofs.lemmas.List.{same_lists}
use Rattle.std.proofs.lemmas.Grind.{get_or_default_zero}
use Rattle.ckrt_disk.specs.Disk.{IsImage}
use Rattle.ckrt_disk.specs.Frame.{MayBeLeft}
use Rattle.ckrt_disk.specs.declared.disk.Disk.{Ghosts}
use Rattle.ckrt_drive.specs.Stages.{GoesThrough, Stage}
use Rattle.ckrt_drive.specs.declared.options.Options.{Options}
use Rattle.ckrt_stored.specs.Programs.{Program, RecoversToStart}
use Rattle.ckrt_drive.specs.Drives.{StopLeaves}
use Rattle.ckrt_drive.specs.Together.{IsLeftSince}
use Rattle.ckrt_drive.proofs.LeftLemmas.{left_image}
use Rattle.ckrt_witness.specs.Drives.{DroveTwice, IsReopened, Witness}

-- a device of which nothing is pending has one image
pub only_image : {D : Type 0} (d : Ghosts D) (disk : D) (image : List ℕ) → ((i : ℕ) → ¬ d.pending disk i) → MayBeLeft d disk image → image ≡ d.content disk
only_image d disk image settled may = same_lists image (d.content disk) may.size (λ i x lt.
    let long : i < length (d.content disk) = omega (arith, lt, may.size) in
    get_or_default_zero image i x lt ∙ (may.same i (settled i) ∙ sym (get_or_default_zero (d.content disk) i x long)))

module _ {D : Type 0} (d : Ghosts D) (counts : (disk : D) (t : ℕ) (image : List ℕ) → d.is_honest disk → t ≤ d.moment disk → IsImage (d.content disk) (d.pending disk) image → d.left_since disk t image)
    (reads : (disk : D) → d.is_honest disk → IsImage (d.content disk) (d.pending disk) (d.content disk)) where
  -- a device that is made anew with the bytes as they read is what a power cut left
  pub again : (end next : D) → IsReopened d end next → IsLeftSince d end end next
  again end next is = left_image d end end next (d.content end) (counts end (d.moment end) (d.content end) is.honest (omega arith) (reads end is.honest)) is.same is.settled

module _ {D O : Type 0} (d : Ghosts D) (o : Ghosts O) where
  -- a stop behind the last step
  pub stop_at_end : (options : Options) (stages : List (Stage d o)) (x y : Stage d o) (disk : D) (output : O) → GoesThrough options stages x y
      → IsLeftSince d y.session.disk y.session.disk disk → IsLeftSince o y.output y.output output → StopLeaves stages x y disk output
  stop_at_end options [] x y disk output goes left out = (
    goes,
    subst (λ (q : Stage d o). IsLeftSince d q.session.disk q.session.disk disk) goes left,
    subst (λ (q : Stage d o). IsLeftSince o q.output q.output output) goes out,
  )
  stop_at_end options (z ∷ more) x y disk output goes left out = inr (stop_at_end options more z y disk output goes.1 left out)

  pub two : (counts : (disk : D) (t : ℕ) (image : List ℕ) → d.is_honest disk → t ≤ d.moment disk → IsImage (d.content disk) (d.pending disk) image → d.left_since disk t image)
      → (reads : (disk : D) → d.is_honest disk → IsImage (d.content disk) (d.pending disk) (d.content disk))
      → (output_counts : (disk : O) (t : ℕ) (image : List ℕ) → o.is_honest disk → t ≤ o.moment disk → IsImage (o.content disk) (o.pending disk) image → o.left_since disk t image)
      → (output_reads : (disk : O) → o.is_honest disk → IsImage (o.content disk) (o.pending disk) (o.content disk))
      → (p : Program) (file : List ℕ) → DroveTwice d o p file → Witness d o file
  two counts reads output_counts output_reads p file t =
      let v = t.one.drive in
      let w = t.other.drive in
      let disk_left : IsLeftSince d t.end t.end t.next = again d counts reads t.end t.next t.disk_again in
      let output_left : IsLeftSince o t.left t.left t.opened = again o output_counts output_reads t.left t.opened t.output_again in
      let disk : IsLeftSince d v.last.session.disk v.last.session.disk w.start = subst (λ (q : D). IsLeftSince d v.last.session.disk v.last.session.disk q) (sym t.other.begins) (subst (λ (q : D). IsLeftSince d q q t.next) (sym t.one.ends) disk_left) in
      let out : IsLeftSince o v.last.output v.last.output w.first.output = subst (λ (q : O). IsLeftSince o v.last.output v.last.output q) (sym t.other.opens) (subst (λ (q : O). IsLeftSince o q q t.opened) (sym t.one.leaves) output_left) in
      record {
        program = p;
        first = v;
        second = w;
        begin = record {
          formatted = subst (λ (q : D). (image : List ℕ) → MayBeLeft d q image → RecoversToStart p image) (sym t.one.begins)
              (λ image may. subst (λ (l : List ℕ). RecoversToStart p l) (sym (only_image d t.start image t.settled may)) t.formatted);
          durable = subst (λ (q : O). (i : ℕ) → ¬ o.pending q i) (sym t.one.opens) t.durable;
        };
        is = t.one.is;
        behind = (
          subst (λ (q : Stage d o). StopLeaves v.stages v.first q w.start w.first.output) (sym t.one.stops) (stop_at_end v.options v.stages v.first v.last w.start w.first.output t.one.is.goes disk out),
          t.other.is,
          tt,
        );
        fed = (t.one.fed, (t.other.fed, tt));
        told = (t.one.told, (t.other.told, tt));
        some_input = t.some_input;
        some_output = subst (λ (q : O). o.content q ≢ []) (sym t.one.opens) t.some_output;
      }
