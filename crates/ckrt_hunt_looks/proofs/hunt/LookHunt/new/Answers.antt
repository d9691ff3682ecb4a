use Rattle.std.proofs.Common.{[], ap, refl, subst, sym, ◌∙◌}
use Rattle.ckrt_machine.specs.Steps.{State}
use Rattle.ckrt_hunt_schedules.specs.Tallies.{Hunted}
use Rattle.ckrt_hunt_looks.specs.Walks.{IsBegun}
use Rattle.ckrt_hunt_looks.proofs.hunt.LookHunt.new.Goals as goal

-- both machines begin the program that the hunt begins
pub invariant_of-result : goal.invariant_of-result
invariant_of-result g c =
    let start = sym (ap (λ (h : Hunted). h.start) c.in_ok-hunt.ensures.hunted) in
    record {
      whole = subst (λ (t : State). IsBegun t c.in_ok-whole.whole) start c.in_ok-whole.ensures.begun;
      stepped = subst (λ (t : State). IsBegun t c.in_ok-stepped.stepped) start c.in_ok-stepped.ensures.begun;
    }

-- and the look has noted nothing
pub returns-clause-hunted : goal.returns-clause-hunted
returns-clause-hunted g c = record {
  hunt = c.in_ok-hunt.ensures.hunted;
  room = refl;
  events = [];
  noted = c.in_ok-look.ensures ∙ ap (λ (t : State). g.L.RunLook.looks.fresh c.args.room t) c.in_ok-whole.ensures.begun.state;
}
