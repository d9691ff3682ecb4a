use Rattle.ckrt_drive.specs.PutOut.{is_output_fault}
use Rattle.ckrt_drive.proofs.StreamLemmas.{still_lent}
use Rattle.ckrt_cli_disk.proofs.driving.drive_streamed.Goals as goal

-- what the drive gives to a stream keeps its writer
pub returns-clause-lent : goal.returns-clause-lent
returns-clause-lent g c =
    let e = c.drive_session.ensures.drives in
    let u = c.drive_session.result in
    still_lent g.W.Write.contents _ (λ a at bytes ok b h. h) (λ a ok b h. h.0) e.runs.accepted c.args.session u.session c.args.stream u.output (is_output_fault e.ran) e.runs.puts
