use Rattle.std.proofs.Common.{subst, sym}
use Rattle.ckrt_hunt_schedules.specs.Tallies.{Hunted}
use Rattle.ckrt_hunt_looks.specs.Looks.{IsHuntOf, LookHunted}
use Rattle.ckrt_hunt_looks.proofs.hunt.LookHunt.note_seed.Goals as goal

-- the hunt is as it was
pub look_at-requires : goal.look_at-requires
look_at-requires g c =
    let k = g.L.RunLook.looks in
    let room = c.self.inside.room in
    let look = c.self.inside.look in
    let was = subst (λ (v : LookHunted g.row.L.Denot). IsHuntOf k v.room v.hunt v) (sym c.self.view_is) c.requires in
    subst (λ (h : Hunted). (let x : LookHunted g.row.L.Denot = record { hunt = h; room = room; look = look } in IsHuntOf k room h x)) (sym c.run_seed.ensures.same) was
