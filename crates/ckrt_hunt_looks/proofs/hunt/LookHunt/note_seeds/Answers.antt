use Rattle.std.proofs.Common.{◌≡◌, ◌+◌, ◌-◌, subst, refl, arith}
use Rattle.ckrt_hunt_schedules.specs.Tallies.{AreNoted, Hunted}
use Rattle.ckrt_hunt_schedules.proofs.TallyLemmas.{noted_on}
use Rattle.ckrt_hunt_looks.specs.Looks.{AreLookedAt, IsLookedAt, IsSeedNoted}
use Rattle.ckrt_hunt_looks.proofs.NotedLemmas.{looked_on, ready_for, same_again, same_fills}
use Rattle.ckrt_hunt_schedules.proofs.TimeLemmas.{asked_on}
use Rattle.ckrt_hunt_looks.proofs.hunt.LookHunt.note_seeds.Goals as goal

pub note_seed-requires : goal.note_seed-requires
note_seed-requires g c = ready_for g.L.RunLook.looks _ _ c.loop-seed.self c.loop-seed.invariant.same

pub note_seed-requires-2 : goal.note_seed-requires-2
note_seed-requires-2 g c = ready_for g.L.RunLook.looks _ _ c.loop-seed.self c.loop-seed.invariant.same

pub loop-seed-preserved : goal.loop-seed-preserved
loop-seed-preserved g c =
    let k = g.L.RunLook.looks in
    let h = c.args.self.now.hunt in
    let seed = c.loop-seed.seed in
    let so_far = c.loop-seed.invariant in
    let n = subst (λ (h : Hunted). IsSeedNoted h seed c.loop-seed.tally c.note_seed.new.tally) so_far.same.hunt c.note_seed.ensures.noted in
    let l = subst (λ (h : Hunted). IsLookedAt k h seed c.loop-seed.counted c.note_seed.new.counted) so_far.same.hunt c.if-not-note_seed.ensures.looked_at in
    record {
      noted = noted_on h c.args.seeds.first seed n.run c.args.tally.now c.loop-seed.tally c.note_seed.new.tally (omega arith) so_far.noted n.ends n.noted;
      looked_at = looked_on k h c.args.seeds.first seed c.args.counted.now c.loop-seed.counted c.note_seed.new.counted (omega arith) so_far.looked_at l;
      same = same_again k _ _ c.loop-seed.self _ so_far.same c.note_seed.ensures.same;
      few = omega arith;
      asked = λ yes. asked_on g.O.HuntOnlooker.Answers c.args.seeds.first c.loop-seed.seed (c.loop-seed.invariant.asked yes) (c.if-is_over.ensures.on refl yes);
    }

-- it ends behind this seed
pub returns-then-is_over-clause-noted : goal.returns-then-is_over-clause-noted
returns-then-is_over-clause-noted g c =
    let h = c.args.self.now.hunt in
    let first = c.args.seeds.first in
    let seed = c.loop-seed.seed in
    let more : seed + 1 - first ≡ seed - first + 1 = omega arith in
    let n = subst (λ (h : Hunted). IsSeedNoted h seed c.loop-seed.tally c.note_seed.new.tally) c.loop-seed.invariant.same.hunt c.note_seed.ensures.noted in
    subst (λ n. AreNoted h first n c.args.tally.now c.note_seed.new.tally) more
    (noted_on h first seed n.run c.args.tally.now c.loop-seed.tally c.note_seed.new.tally (omega arith) c.loop-seed.invariant.noted n.ends n.noted)

pub returns-then-is_over-clause-looked_at : goal.returns-then-is_over-clause-looked_at
returns-then-is_over-clause-looked_at g c =
    let k = g.L.RunLook.looks in
    let h = c.args.self.now.hunt in
    let first = c.args.seeds.first in
    let seed = c.loop-seed.seed in
    let more : seed + 1 - first ≡ seed - first + 1 = omega arith in
    let l = subst (λ (h : Hunted). IsLookedAt k h seed c.loop-seed.counted c.note_seed.new.counted) c.loop-seed.invariant.same.hunt c.if-not-note_seed.ensures.looked_at in
    subst (λ n. AreLookedAt k h first n c.args.counted.now c.note_seed.new.counted) more
    (looked_on k h first seed c.args.counted.now c.loop-seed.counted c.note_seed.new.counted (omega arith) c.loop-seed.invariant.looked_at l)

pub returns-then-is_over-clause-same : goal.returns-then-is_over-clause-same
returns-then-is_over-clause-same g c = same_again g.L.RunLook.looks _ _ c.loop-seed.self _ c.loop-seed.invariant.same c.note_seed.ensures.same

pub returns-then-is_over-clause-ended : goal.returns-then-is_over-clause-ended
returns-then-is_over-clause-ended g c = record {
  went_on = c.loop-seed.invariant.asked;
  ended = λ less. (c.if-is_over.ensures.over refl).1;
}

-- the last seed comes behind all others
pub returns-then-note_seed-clause-noted : goal.returns-then-note_seed-clause-noted
returns-then-note_seed-clause-noted g c =
    let h = c.args.self.now.hunt in
    let s = c.args.seeds in
    let at : c.loop-seed.seed - s.first ≡ s.last - s.first = omega arith in
    let more : s.last + 1 - s.first ≡ s.last - s.first + 1 = omega (arith, s.ordered) in
    let before = subst (λ n. AreNoted h s.first n c.args.tally.now c.loop-seed.tally) at c.loop-seed.invariant.noted in
    let n = subst (λ (h : Hunted). IsSeedNoted h s.last c.loop-seed.tally c.note_seed-2.new.tally) c.loop-seed.invariant.same.hunt c.note_seed-2.ensures.noted in
    subst (λ n. AreNoted h s.first n c.args.tally.now c.note_seed-2.new.tally) more
    (noted_on h s.first s.last n.run c.args.tally.now c.loop-seed.tally c.note_seed-2.new.tally s.ordered before n.ends n.noted)

pub returns-then-note_seed-clause-looked_at : goal.returns-then-note_seed-clause-looked_at
returns-then-note_seed-clause-looked_at g c =
    let k = g.L.RunLook.looks in
    let h = c.args.self.now.hunt in
    let s = c.args.seeds in
    let at : c.loop-seed.seed - s.first ≡ s.last - s.first = omega arith in
    let more : s.last + 1 - s.first ≡ s.last - s.first + 1 = omega (arith, s.ordered) in
    let before = subst (λ n. AreLookedAt k h s.first n c.args.counted.now c.loop-seed.counted) at c.loop-seed.invariant.looked_at in
    let l = subst (λ (h : Hunted). IsLookedAt k h s.last c.loop-seed.counted c.note_seed-2.new.counted) c.loop-seed.invariant.same.hunt c.if-note_seed.ensures.looked_at in
    subst (λ n. AreLookedAt k h s.first n c.args.counted.now c.note_seed-2.new.counted) more
    (looked_on k h s.first s.last c.args.counted.now c.loop-seed.counted c.note_seed-2.new.counted s.ordered before l)

pub returns-then-note_seed-clause-same : goal.returns-then-note_seed-clause-same
returns-then-note_seed-clause-same g c = same_again g.L.RunLook.looks _ _ c.loop-seed.self _ c.loop-seed.invariant.same c.note_seed-2.ensures.same

-- the run of a seed of the range fills the room
pub returns-then-not-note_seed-clause-full : goal.returns-then-not-note_seed-clause-full
returns-then-not-note_seed-clause-full g c = λ none. record {
  seed = c.loop-seed.seed;
  first = omega arith;
  last = omega arith;
  fills = same_fills g.L.RunLook.looks _ _ c.loop-seed.self c.loop-seed.seed c.loop-seed.invariant.same c.if-not-note_seed.ensures.full;
}

pub returns-then-not-note_seed-clause-same : goal.returns-then-not-note_seed-clause-same
returns-then-not-note_seed-clause-same g c = same_again g.L.RunLook.looks _ _ c.loop-seed.self _ c.loop-seed.invariant.same c.note_seed.ensures.same

pub returns-else-note_seed-clause-full : goal.returns-else-note_seed-clause-full
returns-else-note_seed-clause-full g c = λ none. record {
  seed = c.args.seeds.last;
  first = c.args.seeds.ordered;
  last = omega arith;
  fills = same_fills g.L.RunLook.looks _ _ c.loop-seed.self c.args.seeds.last c.loop-seed.invariant.same c.if-note_seed.ensures.full;
}

pub returns-else-note_seed-clause-same : goal.returns-else-note_seed-clause-same
returns-else-note_seed-clause-same g c = same_again g.L.RunLook.looks _ _ c.loop-seed.self _ c.loop-seed.invariant.same c.note_seed-2.ensures.same
