use Rattle.ckrt_hunt_schedules.proofs.turn.next.Goals as goal

pub returns-clause-fit : goal.returns-clause-fit
returns-clause-fit c =
    c.or_enough.ensures.fit c.args.plan.now c.args.made.now c.is_enough.ensures.limit (c.is_enough.ensures.events c.if-is_enough.false) c.given_or_next-next.ensures.within
