use Rattle.std.proofs.Common.{◌≤◌, ◌∙◌, rules}
use Rattle.ckrt_stored.proofs.ScheduleLemmas.{of_page}
use Rattle.ckrt_stored.proofs.noting.read_schedule.Goals as goal

-- what was read is the page of the disk
pub returns-clause-exact : goal.returns-clause-exact
returns-clause-exact g c = λ honest.
    let d = g.D.Disk in
    let long : 4096 ≤ d.size c.args.disk.now = search rules in
    c.schedule_in.ensures ∙ of_page (d.size c.args.disk.now) (d.content c.args.disk.now) c.read.new.buf (g.met.D.Disk.whole c.args.disk.now (c.read.ensures.honest honest)) long (c.in_ok-read.ensures.bytes honest)
