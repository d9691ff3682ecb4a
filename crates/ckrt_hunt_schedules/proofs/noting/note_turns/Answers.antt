use Rattle.std.proofs.Common.{arith, refl, ◌∙◌}
use Rattle.ckrt_memory.proofs.FollowLemmas.{follows_itself, follows_on}
use Rattle.ckrt_hunt_schedules.proofs.noting.note_turns.Goals as goal

pub events-init : goal.events-init
events-init c = record {
  turns = grind (arith, c.nothing-made.ensures);
  harts = refl;
  follows = follows_itself _;
}

pub events-preserved : goal.events-preserved
events-preserved c = record {
  turns = c.note_event.ensures.turns;
  harts = c.note_event.ensures.harts ∙ c.events.invariant.harts;
  follows = follows_on _ _ _ c.events.invariant.follows c.note_event.ensures.follows;
}
