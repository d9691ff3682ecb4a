use Rattle.std.proofs.Common.{◌≡◌, ◌≤◌, ◌<◌, ◌-◌, ℕ, true}
use Rattle.ckrt_hunt_schedules.specs.Tallies.{AreNoted}
use Rattle.ckrt_hunt_looks.specs.Looks.{AreLookedAt, IsHuntOf}
use Rattle.ckrt_hunt_looks.proofs.hunt.LookHunt.note_seeds.Given as goal

-- the seeds before it have been noted and looked at
abbrev pub invariant-loop-seed : goal.invariant-loop-seed
invariant-loop-seed g l = record {
  noted : AreNoted l.fn.self.hunt l.seeds.first (l.seed - l.seeds.first) l.fn.tally l.tally;
  looked_at : AreLookedAt g.L.RunLook.looks l.fn.self.hunt l.seeds.first (l.seed - l.seeds.first) l.fn.counted l.counted;
  same : IsHuntOf g.L.RunLook.looks l.fn.self.room l.fn.self.hunt l.self;
  few : l.seed - l.seeds.first ≤ l.seeds.last - l.seeds.first;
  asked : l.may_end ≡ true → (n : ℕ) → l.seeds.first ≤ n → n < l.seed → g.O.HuntOnlooker.Answers n true;
}
