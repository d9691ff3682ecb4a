use Rattle.std.proofs.Common.{◌≡◌, ◌-◌, ◌^◌, refl, rules}
use Rattle.ckrt_cli_disk.specs.Driving.{driven_of, without_history}
use Rattle.ckrt_cli_disk.proofs.DriveLemmas.{err_kept}
use Rattle.ckrt_cli_disk.proofs.KeepingLemmas.{fails_alone, holds_alone, tells_alone}
use Rattle.ckrt_cli_disk.proofs.undertaking.run_alone.Goals as goal

-- all its events are left to the drive
pub returns : goal.returns
returns g c =
    let d = c.with_feed-drive.ensures in
    let p = c.into_parts-session.ensures in
    let end = c.run-answer.new.self in
    let ran = c.run-answer.result in
    let gives : c.driven_of-driven.result ≡ driven_of end.session.progress.machine.state (without_history ran) = search rules in
    let runs = rw (d.options, d.left, d.session, d.output) at c.run-answer.ensures.runs in
    let by_steps = rw (d.options, d.left, d.taken, d.session, d.output, d.feed) at c.run-answer.ensures.by_steps in
    let over = rw (d.options, d.feed) at c.run-answer.ensures.over in
    let failed = rw d.output at c.run-answer.ensures.output in
    rw (p.session, p.output, p.feed) (record {
      ran = ran;
      steps = 2 ^ 64 - 1;
      told = without_history ran;
      tells = tells_alone ran;
      left = end.left;
      taken = end.taken;
      runs = runs;
      by_steps = by_steps;
      over = over;
      gets = (refl, holds_alone ran);
      gives = gives;
      output = rw gives (err_kept end.session.progress.machine.state (without_history ran) _ (fails_alone ran _ failed));
    })
