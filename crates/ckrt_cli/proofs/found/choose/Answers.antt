use Rattle.std.proofs.Common.{subst, sym}
use Rattle.ckrt_hunt_schedules.specs.Short.{IsChosen}
use Rattle.ckrt_hunt_schedules.specs.Tallies.{Hunted}
use Rattle.ckrt_cli.specs.Hunting.{IsAsDrawn}
use Rattle.ckrt_cli.proofs.found.choose.Goals as goal

-- that of the first seed
pub returns-then-is_drawn-clause-drawn : goal.returns-then-is_drawn-clause-drawn
returns-then-is_drawn-clause-drawn c =
    subst (λ b. IsAsDrawn c.args.hunt.now c.args.seeds.now.first b c.as_drawn.result) (sym c.if-is_drawn.true) (c.as_drawn.ensures.seed, c.as_drawn.ensures.drawn)

-- the shortest one
pub returns-clause-chosen : goal.returns-clause-chosen
returns-clause-chosen c = subst (λ (h : Hunted). IsChosen h c.args.seeds.now.first c.chosen.result) c.search.ensures c.chosen.ensures.chosen

pub returns-clause-drawn : goal.returns-clause-drawn
returns-clause-drawn c = subst (λ b. IsAsDrawn c.args.hunt.now c.args.seeds.now.first b c.chosen.result) (sym c.if-is_drawn.false) tt
