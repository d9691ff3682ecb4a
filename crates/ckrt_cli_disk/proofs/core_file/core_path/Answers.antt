use Rattle.std.proofs.Common.{inr}
use Rattle.ckrt_cli_words.specs.Jobs.{core_making_of}
use Rattle.ckrt_cli_disk.proofs.CoreLemmas.{cores_of_opened}
use Rattle.ckrt_cli_disk.proofs.core_file.core_path.Goals as goal

-- what a core was made of is what was opened, and what is known of files is no more than before
pub returns-in-Ok : goal.returns-in-Ok
returns-in-Ok g c =
    let job = c.args.job.now in
    let file = job.file.now in
    let Fills = g.S.Sources.fills c.args.sources.now file in
    let then = g.S.Sources.fills c.look_at_disk.new.self file in
    let Opens = g.S.Sources.opens c.args.sources.now job.disk.now in
    record {
      cores = inr (cores_of_opened g.D.Disk then Fills (c.in-Ok.ensures.same.disks file) c.make_core_of_either.result Opens _ c.in-Ok.ensures.disk (core_making_of job) _ _ _ c.in-Ok.ensures.asked job.history c.make_core_of_either.ensures);
    }
