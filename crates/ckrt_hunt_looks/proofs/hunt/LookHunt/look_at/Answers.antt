use Rattle.std.proofs.Common.{◌∙◌, ap, subst, sym}
use Rattle.std.specs.Bool.{OnFalse, OnTrue}
use Rattle.ckrt_machine.specs.Events.{Machine}
use Rattle.ckrt_hunt_looks.specs.Looks.{IsHuntOf, IsLookedAt, LookHunted, SeedFills}
use Rattle.ckrt_hunt_looks.specs.Walks.{HasGoneOn, IsBegun}
use Rattle.ckrt_hunt_looks.proofs.ReadyLemmas.{begun_again, filled, has_begun, looked, of_seed, ready, room_at}
use Rattle.ckrt_hunt_looks.proofs.hunt.LookHunt.look_at.Goals as goal

pub put_aside-requires : goal.put_aside-requires
put_aside-requires g c = room_at c.self.inside.hunt.start c.self.inside.whole c.self.invariant.whole

pub put_aside-requires-2 : goal.put_aside-requires-2
put_aside-requires-2 g c = room_at c.self.inside.hunt.start c.self.inside.stepped c.self.invariant.stepped

pub watch_run-requires : goal.watch_run-requires
watch_run-requires g c =
    let i = c.self.invariant in
    let whole = ap (λ (m : Machine). m.state) c.put_aside.ensures.machine ∙ i.whole.state in
    let stepped = ap (λ (m : Machine). m.state) c.put_aside-2.ensures.machine ∙ i.stepped.state in
    has_begun c.self.inside.hunt.start _ _ whole stepped i.whole.room.some

pub begin_again-requires : goal.begin_again-requires
begin_again-requires g c = c.put_aside.ensures.aside.well_formed

pub begin_again-requires-2 : goal.begin_again-requires-2
begin_again-requires-2 g c = c.put_aside-2.ensures.aside.well_formed

-- the run of the seed was counted
pub returns-clause-looked_at : goal.returns-clause-looked_at
returns-clause-looked_at g c =
    let k = g.L.RunLook.looks in
    let h = c.self.inside.hunt in
    let room = c.self.inside.room in
    let start = ap (λ (m : Machine). m.state) c.put_aside.ensures.machine ∙ c.self.invariant.whole.state in
    let ready = subst (λ (v : LookHunted g.row.L.Denot). IsHuntOf k v.room v.hunt v) (sym c.self.view_is) c.requires in
    let fresh = c.forget.ensures room ready.events h.start ready.noted in
    let sees = of_seed k room h c.args.seed c.plan_of.result _ c.forget.new.self c.watch_run.new.look c.plan_of.ensures start fresh c.watch_run.ensures.seen in
    subst (λ (v : LookHunted g.row.L.Denot). OnTrue c.count.result (IsLookedAt k v.hunt c.args.seed c.args.counted.now c.count.new.counted)) c.self.view_is
    (looked k room h c.args.seed c.watch_run.new.look c.args.counted.now c.count.new.counted c.count.result sees c.count.ensures.counted)

-- or it fills the room
pub returns-clause-full : goal.returns-clause-full
returns-clause-full g c =
    let k = g.L.RunLook.looks in
    let h = c.self.inside.hunt in
    let room = c.self.inside.room in
    let start = ap (λ (m : Machine). m.state) c.put_aside.ensures.machine ∙ c.self.invariant.whole.state in
    let ready = subst (λ (v : LookHunted g.row.L.Denot). IsHuntOf k v.room v.hunt v) (sym c.self.view_is) c.requires in
    let fresh = c.forget.ensures room ready.events h.start ready.noted in
    let sees = of_seed k room h c.args.seed c.plan_of.result _ c.forget.new.self c.watch_run.new.look c.plan_of.ensures start fresh c.watch_run.ensures.seen in
    subst (λ (v : LookHunted g.row.L.Denot). OnFalse c.count.result (SeedFills k v.room v.hunt c.args.seed)) c.self.view_is
    (filled k room h c.args.seed c.watch_run.new.look c.count.result sees c.count.ensures.full)

-- and the look is ready for the next one
pub returns-clause-same : goal.returns-clause-same
returns-clause-same g c =
    let k = g.L.RunLook.looks in
    let h = c.self.inside.hunt in
    let room = c.self.inside.room in
    let start = ap (λ (m : Machine). m.state) c.put_aside.ensures.machine ∙ c.self.invariant.whole.state in
    let was = subst (λ (v : LookHunted g.row.L.Denot). IsHuntOf k v.room v.hunt v) (sym c.self.view_is) c.requires in
    let fresh = c.forget.ensures room was.events h.start was.noted in
    let sees = of_seed k room h c.args.seed c.plan_of.result _ c.forget.new.self c.watch_run.new.look c.plan_of.ensures start fresh c.watch_run.ensures.seen in
    subst (λ (v : LookHunted g.row.L.Denot). IsHuntOf k v.room v.hunt (record { hunt = h; room = room; look = c.watch_run.new.look })) c.self.view_is
    (ready k room h c.args.seed c.watch_run.new.look sees)

-- and so are both machines
pub invariant_of-self : goal.invariant_of-self
invariant_of-self g c =
    let h = c.self.inside.hunt in
    let i = c.self.invariant in
    let first : IsBegun h.start c.begin_again.new.self = begun_again h.start c.self.inside.whole c.put_aside.new.self c.watch_run.new.whole c.begin_again.new.self i.whole.state c.put_aside.ensures.aside
    (subst (λ (m : Machine). HasGoneOn m c.watch_run.new.whole) c.put_aside.ensures.machine c.watch_run.ensures.whole) c.begin_again.ensures in
    let second : IsBegun h.start c.begin_again-2.new.self = begun_again h.start c.self.inside.stepped c.put_aside-2.new.self c.watch_run.new.stepped c.begin_again-2.new.self i.stepped.state c.put_aside-2.ensures.aside
    (subst (λ (m : Machine). HasGoneOn m c.watch_run.new.stepped) c.put_aside-2.ensures.machine c.watch_run.ensures.stepped) c.begin_again-2.ensures in
    record { whole = first; stepped = second }
