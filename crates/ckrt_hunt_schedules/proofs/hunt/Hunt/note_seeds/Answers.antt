use Rattle.std.proofs.Common.{◌≡◌, ◌∙◌, ◌+◌, ◌-◌, subst, refl, arith}
use Rattle.ckrt_hunt_schedules.specs.Tallies.{AreNoted, Hunted, SeedEndsWith}
use Rattle.ckrt_hunt_schedules.proofs.TallyLemmas.{noted_on}
use Rattle.ckrt_hunt_schedules.proofs.TimeLemmas.{asked_on}
use Rattle.ckrt_hunt_schedules.proofs.hunt.Hunt.note_seeds.Goals as goal

pub loop-seed-preserved : goal.loop-seed-preserved
loop-seed-preserved g c = record {
  noted = noted_on c.args.self.now c.args.seeds.first c.loop-seed.seed c.run_seed.result c.args.tally.now c.loop-seed.tally c.note.new.self (omega arith) c.loop-seed.invariant.noted (subst (λ (h : Hunted). SeedEndsWith h c.loop-seed.seed c.run_seed.result) c.loop-seed.invariant.same c.run_seed.ensures.ends) c.note.ensures;
  same = c.run_seed.ensures.same ∙ c.loop-seed.invariant.same;
  few = omega arith;
  asked = λ yes. asked_on g.O.HuntOnlooker.Answers c.args.seeds.first c.loop-seed.seed (c.loop-seed.invariant.asked yes) (c.if-is_over.ensures.on refl yes);
}

-- it ends behind this seed
pub returns-then-is_over-clause-noted : goal.returns-then-is_over-clause-noted
returns-then-is_over-clause-noted g c =
    let more : c.loop-seed.seed + 1 - c.args.seeds.first ≡ c.loop-seed.seed - c.args.seeds.first + 1 = omega arith in
    subst (λ n. AreNoted c.args.self.now c.args.seeds.first n c.args.tally.now c.note.new.self) more
    (noted_on c.args.self.now c.args.seeds.first c.loop-seed.seed c.run_seed.result c.args.tally.now c.loop-seed.tally c.note.new.self (omega arith) c.loop-seed.invariant.noted (subst (λ (h : Hunted). SeedEndsWith h c.loop-seed.seed c.run_seed.result) c.loop-seed.invariant.same c.run_seed.ensures.ends) c.note.ensures)

pub returns-then-is_over-clause-same : goal.returns-then-is_over-clause-same
returns-then-is_over-clause-same g c = c.run_seed.ensures.same ∙ c.loop-seed.invariant.same

-- the last seed comes behind all others
pub returns-clause-noted : goal.returns-clause-noted
returns-clause-noted g c =
    let s = c.args.seeds in
    let at : c.loop-seed.seed - s.first ≡ s.last - s.first = omega arith in
    let more : s.last + 1 - s.first ≡ s.last - s.first + 1 = omega (arith, s.ordered) in
    let before = subst (λ n. AreNoted c.args.self.now s.first n c.args.tally.now c.loop-seed.tally) at c.loop-seed.invariant.noted in
    subst (λ n. AreNoted c.args.self.now s.first n c.args.tally.now c.note-2.new.self) more
    (noted_on c.args.self.now s.first s.last c.run_seed-2.result c.args.tally.now c.loop-seed.tally c.note-2.new.self s.ordered before (subst (λ (h : Hunted). SeedEndsWith h s.last c.run_seed-2.result) c.loop-seed.invariant.same c.run_seed-2.ensures.ends) c.note-2.ensures)

pub returns-clause-same : goal.returns-clause-same
returns-clause-same g c = c.run_seed-2.ensures.same ∙ c.loop-seed.invariant.same

pub returns-then-is_over-clause-ended : goal.returns-then-is_over-clause-ended
returns-then-is_over-clause-ended g c = record {
  went_on = c.loop-seed.invariant.asked;
  ended = λ less. (c.if-is_over.ensures.over refl).1;
}

pub returns-clause-ended : goal.returns-clause-ended
returns-clause-ended g c = record {
  went_on = λ yes n from below. c.loop-seed.invariant.asked yes n from (omega (arith, below));
  ended = λ less. absurd (omega (arith, less));
}
