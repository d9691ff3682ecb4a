use Rattle.std.proofs.Common.{◌+◌, ◌-◌, subst, sym}
use Rattle.ckrt_hunt_schedules.specs.Tallies.{AreNoted, Hunted}
use Rattle.ckrt_hunt_schedules.proofs.telling.hunt_seeds.Goals as goal

-- of this program, and as many as were run
pub returns-clause-hunted : goal.returns-clause-hunted
returns-clause-hunted g c =
    let all = c.args.asked.now.seeds in
    let some = c.note_seeds-seeds.result in
    let old = c.in_ok-tally.tally in
    let new = c.note_seeds-seeds.new.tally in
    let first = sym c.note_seeds-seeds.ensures.begins.first in
    record {
      begins = c.note_seeds-seeds.ensures.begins;
      tally = record {
        begun = old;
        nothing = c.in_ok-tally.ensures;
        counted = new;
        noted = subst (λ (h : Hunted). AreNoted h some.first (some.last - some.first + 1) old new) c.in_ok-hunt.ensures.hunted
            (subst (λ n. AreNoted c.in_ok-hunt.hunt n (some.last - n + 1) old new) first c.note_seeds-seeds.ensures.noted);
        told = c.take.ensures;
      };
    }
