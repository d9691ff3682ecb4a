use Rattle.std.proofs.Common.{refl, subst}
use Rattle.ckrt_look_calls.specs.declared.stretch.Stretch.{Stretch}
use Rattle.ckrt_cli_words.specs.Jobs.{core_making_of}
use Rattle.ckrt_cli_disk.specs.Near.{ReadsNear}
use Rattle.ckrt_cli_disk.proofs.CoreLemmas.{read_weaker}
use Rattle.ckrt_cli_disk.proofs.core_file.make_core_of_history.Goals as goal

-- the file of a snapshot is opened first, so less is known of the files that may be made behind it
pub returns : goal.returns
returns g c =
    let d = g.D.Disk in let job = c.args.job.now in let file = job.file.now in
    let old = g.S.Closes.openings c.args.sources.now in let mid = g.S.Closes.openings c.read_near-answer.new.sources in let made = g.S.Closes.openings c.make_core_of_read-made.new.sources in
    let near = c.read_near-answer.result in
    record {
      start = c.args.history;
      is_opened = refl;
      end = c.read_near-answer.new.history;
      near = near;
      openings = mid;
      reads = subst (λ (s : Stretch). ReadsNear d s c.args.history c.read_near-answer.new.history old mid near) c.moment_stretch-stretch.ensures c.read_near-answer.ensures.reads;
      made = made;
      cores = read_weaker d (g.S.Sources.fills c.read_near-answer.new.sources file) (g.S.Sources.fills c.args.sources.now file) (c.read_near-answer.ensures.same.disks file) c.make_core_of_read-made.result mid made (core_making_of job) near.answer
          c.make_core_of_read-made.ensures;
      closes = c.close_near.ensures;
    }
