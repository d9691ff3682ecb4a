use Rattle.std.proofs.Common.{◌≡◌, rules}
use Rattle.ckrt_cli_disk.specs.Driving.{driven_of}
use Rattle.ckrt_cli_disk.proofs.KeepingLemmas.{drives_keeping}
use Rattle.ckrt_cli_disk.proofs.undertaking.run_keeping.Goals as goal

-- all its events are left to the drive, and it keeps the history from where that ends
pub returns : goal.returns
returns g c =
    let d = c.with_feed-drive.ensures in
    let k = c.new-keeping.ensures in
    let ran = c.run-ran.result in
    let went = rw (k.drive, k.history, d.options, d.left, d.taken, d.session, d.output, d.feed) at c.run-ran.ensures.ran in
    let gives : c.driven_of-driven.result ≡ driven_of ran.session.progress.machine.state ran.answer = search rules in
    drives_keeping _ _ _ c.args.taken c.args.history c.args.session c.args.output ran went _ gives
