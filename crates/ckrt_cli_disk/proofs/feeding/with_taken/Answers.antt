use Rattle.std.proofs.Common.{subst, inr}
use Rattle.ckrt_cli_disk.specs.Feeding.{SuppliesOpened}
use Rattle.ckrt_cli_disk.specs.declared.feeding.Intake.{Intake}
use Rattle.ckrt_cli_disk.proofs.DriveLemmas.{input_weaker}
use Rattle.ckrt_cli_disk.proofs.feeding.with_taken.Goals as goal

-- the input was opened, and what sources may give then is no more than before
pub returns-in-Ok-clause-ends : goal.returns-in-Ok-clause-ends
returns-in-Ok-clause-ends g c =
    let e = c.in-Ok.ensures in
    let gives = g.S.Sources.gives c.args.sources.now in
    let it : Intake g.row.D.Denot = record { file = c.in-Ok.file; taken = c.args.taken } in
    inr (record {
      input = c.in-Ok.file;
      is_opened = e.input;
      ends = subst (λ x. SuppliesOpened g.D.Disk gives.Longer c.args.disk it x (g.S.Closes.openings c.with_opened.new.sources) c.with_opened.result) e.asked
          (input_weaker g.D.Disk gives (g.S.Sources.gives c.open_input.new.self) e.same c.args.disk it (g.S.Closes.openings c.open_input.new.self) (g.S.Closes.openings c.with_opened.new.sources) c.with_opened.result c.with_opened.ensures.ends);
    })
