use Rattle.std.proofs.Common.{rules, ◌≡◌, []}
use Rattle.std.specs.Prelude.{◌≢◌}
use Rattle.ckrt_cli_reports.specs.declared.fault.JobFault.TheVariants.{Recover}
use Rattle.ckrt_stored.specs.declared.fault.RecoverFault.TheVariants.{Device}
use Rattle.ckrt_witness.proofs.PrintedLemmas.{failed}
use Rattle.ckrt_witness.proofs.printed.fail_one.Goals as goal

pub returns : goal.returns
returns g c = λ honest p before some holds.
    let is : c.in-Err.unserved.fault ≡ Recover Device = search rules in
    let runs = rw c.new-writer.ensures.items at c.in-Err.ensures.runs in
    let lines : c.args.lines.now ≢ [] = search rules in
    failed p c.args.disk c.in-Err.unserved.disk c.args.lines.now c.run_disk.new.writer.items c.run_disk.new.reader.now c.in-Err.unserved.fault is runs.ends lines honest before some holds
