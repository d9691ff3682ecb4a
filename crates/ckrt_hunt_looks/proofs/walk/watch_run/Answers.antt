use Rattle.std.proofs.Common.{arith, sym, subst, refl}
use Rattle.ckrt_memory.proofs.FollowLemmas.{follows_itself}
use Rattle.ckrt_hunt_schedules.specs.declared.made.Made.{Made}
use Rattle.ckrt_hunt_looks.specs.Walks.{HasSeen, at_point}
use Rattle.ckrt_hunt_looks.proofs.WalkLemmas.{gone_further, seen_first, sees}
use Rattle.ckrt_hunt_looks.proofs.walk.watch_run.Goals as goal

pub events-init : goal.events-init
events-init g c =
    let k = g.L.RunLook.looks in
    let p = c.args.plan.now in
    let s = c.args.whole.now.state in
    let l = c.args.look.now in
    record {
      seen = subst (λ (m : Made). HasSeen k p s l (at_point m s) l) (sym c.nothing-made.ensures) (seen_first k p s l);
      alike = record { same = c.requires.same; turns = grind (arith, c.nothing-made.ensures); harts = c.requires.harts };
      whole = record { harts = refl; follows = follows_itself _ };
      stepped = record { harts = refl; follows = follows_itself _ };
    }

pub next-requires : goal.next-requires
next-requires g c = record { harts = c.events.invariant.alike.harts }

pub watch_next-requires : goal.watch_next-requires
watch_next-requires g c = record {
  scheduled = sym c.in-Submit.ensures.next;
  fit = c.in-Submit.ensures.fit;
  alike = c.events.invariant.alike;
}

pub events-preserved : goal.events-preserved
events-preserved g c = record {
  seen = c.watch_next.ensures.seen c.args.whole.now.state c.args.look.now c.events.invariant.seen;
  alike = c.watch_next.ensures.alike;
  whole = gone_further _ _ _ c.events.invariant.whole c.watch_next.ensures.whole;
  stepped = gone_further _ _ _ c.events.invariant.stepped c.watch_next.ensures.stepped;
}

pub events-smaller : goal.events-smaller
events-smaller g c = omega (arith, c.in-Submit.ensures.fit.events, c.watch_next.ensures.events)

pub returns-in-End-clause-seen : goal.returns-in-End-clause-seen
returns-in-End-clause-seen g c = sees g.L.RunLook.looks c.args.plan.now c.args.whole.now.state c.args.look.now c.events.made c.events.whole.state c.events.look _ c.events.invariant.seen (sym c.in-End.ensures.next)

pub returns-in-End-clause-whole : goal.returns-in-End-clause-whole
returns-in-End-clause-whole g c = c.events.invariant.whole

pub returns-in-End-clause-stepped : goal.returns-in-End-clause-stepped
returns-in-End-clause-stepped g c = c.events.invariant.stepped
