use Rattle.std.proofs.Common.{sym, ◌∙◌, ap, subst}
use Rattle.ckrt_disk.specs.contracts.stopping.StoppingDiskDisk.TheImpl as stopping
use Rattle.ckrt_stored.specs.Programs.{RecoversToStart}
use Rattle.ckrt_witness.proofs.closed_drive_turns.turns.Goals as goal

pub returns : goal.returns
returns g c =
    let p = c.formatted.ensures in
    let start = c.stopping_disk-start in
    let output = c.memory_disk-output in
    let next = c.stopping_disk-next in
    let opened = c.memory_disk-opened in
    c.turn_twice.ensures p.0 (record {
      course = _;
      start = start.result;
      output = output.result;
      end = c.turned-one.result.session.disk;
      left = c.turned-one.result.output;
      one = c.turned-one.ensures.0;
      turns = c.turned-one.ensures.1;
      next = next.result;
      opened = opened.result;
      finish = _;
      whole = _;
      other = c.went_on-other.ensures;
      honest = λ x. tt;
      formatted = subst (RecoversToStart p.0) (sym start.ensures.content) p.1;
      settled = start.ensures.settled;
      durable = output.ensures.settled;
      disk_again = record { honest = tt; same = next.ensures.content ∙ c.into_image.ensures ∙ ap stopping.ghosts.content c.into_disk.ensures; settled = next.ensures.settled };
      output_again = record { honest = tt; same = opened.ensures.content ∙ c.into_image-2.ensures; settled = opened.ensures.settled };
    })
