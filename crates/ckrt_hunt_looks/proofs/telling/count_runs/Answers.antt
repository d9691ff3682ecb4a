use Rattle.std.proofs.Common.{◌+◌, ◌-◌, refl, subst, sym}
use Rattle.ckrt_hunt_schedules.specs.Tallies.{AreNoted}
use Rattle.ckrt_hunt_looks.specs.Looks.{AreLookedAt}
use Rattle.ckrt_hunt_looks.proofs.telling.count_runs.Goals as goal

-- as many as were run
pub returns-clause-counted : goal.returns-clause-counted
returns-clause-counted g c =
    let h = c.args.hunt.now.hunt in
    let some = c.in-Some.seeds in
    let ensures = c.in-Some.ensures in
    let old = c.in_ok-tally.tally in
    let new = c.note_seeds-run.new.tally in
    let nothing = c.in_ok-tally.counted in
    let counted = c.note_seeds-run.new.counted in
    let first = sym ensures.begins.first in
    record {
      begins = ensures.begins;
      tally = record {
        begun = old;
        nothing = c.in_ok-tally.ensures.nothing;
        counted = new;
        noted = subst (λ n. AreNoted h n (some.last - n + 1) old new) first ensures.noted;
        told = c.take.ensures;
      };
      looked = record {
        begun = nothing;
        nothing = c.in_ok-tally.ensures.counted;
        looked = subst (λ n. AreLookedAt g.L.RunLook.looks h n (some.last - n + 1) nothing counted) first ensures.looked_at;
      };
    }

-- some run fills the room
pub returns-in_default-clause-full : goal.returns-in_default-clause-full
returns-in_default-clause-full g c = λ _. c.in_default.ensures.full refl
