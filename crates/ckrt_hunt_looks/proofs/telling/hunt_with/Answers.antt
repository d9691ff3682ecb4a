use Rattle.std.proofs.Common.{◌≡◌, subst}
use Rattle.std.specs.Prelude.{IfErr, IfOk}
use Rattle.ckrt_hunt_schedules.specs.Tallies.{Hunted, hunted_of}
use Rattle.ckrt_hunt_schedules.specs.declared.telling.HuntFault.TheVariants as fault
use Rattle.ckrt_hunt_looks.specs.Hunts.{IsCounted}
use Rattle.ckrt_hunt_looks.specs.Looks.{FillsSome}
use Rattle.ckrt_hunt_looks.proofs.NotedLemmas.{ready_for}
use Rattle.ckrt_hunt_looks.proofs.telling.hunt_with.Goals as goal

pub count_all-requires : goal.count_all-requires
count_all-requires g c = ready_for g.L.RunLook.looks _ _ c.in-Ok.hunt c.in-Ok.ensures.hunted

-- of this program
pub returns-in-Ok-clause-counted : goal.returns-in-Ok-clause-counted
returns-in-Ok-clause-counted g c =
    subst (λ (h : Hunted). IfOk c.count_all.result (IsCounted g.L.RunLook.looks h c.args.asked.now)) c.in-Ok.ensures.hunted.hunt c.count_all.ensures.counted

pub returns-in-Ok-clause-full : goal.returns-in-Ok-clause-full
returns-in-Ok-clause-full g c =
    let is = c.in-Ok.ensures.hunted in
    let program = hunted_of c.args.image.now c.args.asked.now.shape c.args.input in
    subst (λ n. IfErr c.count_all.result (λ e. e ≡ fault.ShadowFull → FillsSome g.L.RunLook.looks n program c.args.asked.now.seeds)) is.room
    (subst (λ (h : Hunted). IfErr c.count_all.result (λ e. e ≡ fault.ShadowFull → FillsSome g.L.RunLook.looks c.in-Ok.hunt.room h c.args.asked.now.seeds)) is.hunt c.count_all.ensures.full)
