-- All that looks at runs, ready for the next one.
use Rattle.std.proofs.Common.{◌≡◌, ◌≤◌, ◌∙◌, ℕ, Bool, true, false, List, refl, sym, subst}
use Rattle.std.specs.Bool.{OnFalse, OnTrue}
use Rattle.ckrt_events.specs.declared.event.Event.{Event}
use Rattle.ckrt_machine.specs.Events.{Machine}
use Rattle.ckrt_machine.specs.Steps.{State}
use Rattle.ckrt_hunt_schedules.specs.declared.plan.Plan.{Plan}
use Rattle.ckrt_hunt_schedules.specs.Tallies.{Hunted, IsRoomFor, plan_in}
use Rattle.ckrt_hunt_looks.specs.declared.beginning.Beginning.{Beginning}
use Rattle.ckrt_hunt_looks.specs.Looks.{IsBehind, IsHuntOf, IsLookedAt, LookHunted, Looking, SeedFills}
use Rattle.ckrt_hunt_looks.specs.Walks.{HasBegun, HasGoneOn, IsBegun, IsPutAside, Sees}

-- the room is that for the state of the machine
pub room_at : (s : State) (b : Beginning) → IsBegun s b → IsRoomFor b.machine.state b.memory b.tables
room_at s b begun = subst (λ (t : State). IsRoomFor t b.memory b.tables) (sym begun.state) begun.room

-- a run may begin
pub has_begun : (s whole stepped : State) → whole ≡ s → stepped ≡ s → 1 ≤ s.tables.threads.hart_count → HasBegun whole stepped
has_begun s whole stepped a b some = record {
  same = b ∙ sym a;
  harts = subst (λ (t : State). 1 ≤ t.tables.threads.hart_count) (sym a) some;
}

-- a machine that ran from its beginning is given that again
pub begun_again : (start : State) (was aside : Beginning) (ran : Machine) (new : Beginning) → was.machine.state ≡ start → IsPutAside was.machine.state aside → HasGoneOn was.machine ran
    → ((m : Machine) → IsPutAside m.state (record { machine = ran; memory = aside.memory; tables = aside.tables }) → HasGoneOn m ran → IsBegun m.state new) → IsBegun start new
begun_again start was aside ran new is put on again =
    subst (λ (s : State). IsBegun s new) is
    (again was.machine (record { memory = put.memory; tables = put.tables; well_formed = put.well_formed; some = put.some }) on)

-- THE RUN OF A SEED that was seen, from a look that had noted nothing on

pub of_seed : {L T : Type 0} (k : Looking L T) (room : ℕ) (h : Hunted) (seed : ℕ) (p : Plan) (s : State) (f l : L) → p ≡ plan_in h seed → s ≡ h.start → f ≡ k.fresh room h.start → Sees k p s f l → Sees k (plan_in h seed) h.start (k.fresh room h.start) l
of_seed k room h seed p s f l plan start fresh sees =
    subst (λ g. Sees k (plan_in h seed) h.start g l) fresh
    (subst (λ (t : State). Sees k (plan_in h seed) t f l) start (subst (λ (q : Plan). Sees k q s f l) plan sees))

-- it is counted
pub looked : {L T : Type 0} (k : Looking L T) (room : ℕ) (h : Hunted) (seed : ℕ) (l : L) (old new : T) (answer : Bool) → Sees k (plan_in h seed) h.start (k.fresh room h.start) l
    → OnTrue answer ((r : ℕ) (es : List Event) (t : State) → IsBehind k r es t l → k.Counts seed es t old new) → OnTrue answer (IsLookedAt k h seed old new)
looked k room h seed l old new true sees counts = record {
  run = sees.run;
  counted = counts room sees.run.events h.start sees.noted;
}
looked k room h seed l old new false sees counts = tt

-- or fills the room
pub filled : {L T : Type 0} (k : Looking L T) (room : ℕ) (h : Hunted) (seed : ℕ) (l : L) (answer : Bool) → Sees k (plan_in h seed) h.start (k.fresh room h.start) l
    → OnFalse answer ((r : ℕ) (es : List Event) (t : State) → IsBehind k r es t l → k.Fills r es t) → OnFalse answer (SeedFills k room h seed)
filled k room h seed l false sees fills = record {
  run = sees.run;
  fills = fills room sees.run.events h.start sees.noted;
}
filled k room h seed l true sees fills = tt

-- and the look is ready for the next one
pub ready : {L T : Type 0} (k : Looking L T) (room : ℕ) (h : Hunted) (seed : ℕ) (l : L) → Sees k (plan_in h seed) h.start (k.fresh room h.start) l → (let x : LookHunted L = record { hunt = h; room = room; look = l } in IsHuntOf k room h x)
ready k room h seed l sees = record {
  hunt = refl;
  room = refl;
  events = sees.run.events;
  noted = sees.noted;
}
