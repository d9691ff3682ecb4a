use Rattle.std.proofs.Common.{refl}
use Rattle.std.proofs.lemmas.Result.{IfErr-weaker}
use Rattle.ckrt_stored.specs.Programs.{formatted_program}
use Rattle.ckrt_hunt_schedules.specs.KeptDisks.{IsReason}
use Rattle.ckrt_hunt_schedules.proofs.DiskLemmas.{reason_since, some_harts}
use Rattle.ckrt_hunt_schedules.proofs.disks.keep_seed.Goals as goal

pub returns-clause-kept : goal.returns-clause-kept
returns-clause-kept g c =
    let mid = c.format.new.disk in
    c.keep_recovered.ensures.kept (formatted_program c.args.config c.args.image.now)
    (λ also. ((c.in_default.ensures.made also).formatted (g.D.Disk.content mid) (g.met.D.Disk.readable mid also)).recovers)

pub returns-clause-why : goal.returns-clause-why
returns-clause-why g c = λ honest.
    let d = g.D.Disk in
    let p = c.args.plan.now in
    let program = formatted_program c.args.config c.args.image.now in
    let mid = c.format.new.disk in
    let made = c.in_default.ensures in
    let kept = c.keep_recovered.result in
    IfErr-weaker kept.result (IsReason d program p mid kept.disk) (IsReason d program p c.args.disk kept.disk) (λ f why. reason_since d program p c.args.disk mid kept.disk f (made.within.well refl) why)
    (c.keep_recovered.ensures.why program (some_harts (d.size c.args.disk) program made.refused) (λ also. ((made.made also).formatted (d.content mid) (g.met.D.Disk.readable mid also)).recovers) honest)
