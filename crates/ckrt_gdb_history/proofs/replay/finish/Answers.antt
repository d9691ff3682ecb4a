use Rattle.std.proofs.Common.{◌≡◌, None, ap, ◌∙◌, sym, subst, arith}
use Rattle.ckrt_machine.specs.Events.{refusal_of, step}
use Rattle.ckrt_gdb_history.proofs.IntoLemmas.{unmoved, going, rest, ran}
use Rattle.ckrt_gdb_history.proofs.replay.finish.Goals as goal

pub step-requires-clause-in_range : goal.step-requires-clause-in_range
step-requires-clause-in_range c = c.requires.1.accepted.in_range

pub step-requires-clause-accepted : goal.step-requires-clause-accepted
step-requires-clause-accepted c =
    let s = c.requires.0 in let into = c.requires.1 in
    subst (λ z. refusal_of 0 c.args.event.now z ≡ None) (sym (unmoved c.args.made c.args.event.now s c.args.machine.now into c.if-made-eq0.true)) into.accepted.accepted

pub returns-then-made-eq0-clause-state : goal.returns-then-made-eq0-clause-state
returns-then-made-eq0-clause-state c = λ s into.
    ap (λ a. a.state) c.step.ensures.step
    ∙ ap (λ z. (step c.args.event.now z).state) (unmoved c.args.made c.args.event.now s c.args.machine.now into c.if-made-eq0.true)

pub go_on-requires : goal.go_on-requires
go_on-requires c =
    let is = sym c.run_in.ensures ∙ c.in-Some.is in
    going c.args.made c.args.event.now c.requires.0 c.args.machine.now c.requires.1 c.in-Some.hart c.in-Some.limit is (omega (arith, c.if-made-eq0.false))

pub returns-clause-state : goal.returns-clause-state
returns-clause-state c = λ s into.
    let is = sym c.run_in.ensures ∙ c.in-Some.is in
    ap (λ r. r.state) c.go_on.ensures.run
    ∙ ap (λ r. r.state) (rest c.args.made c.args.event.now s c.args.machine.now into c.in-Some.hart c.in-Some.limit is (omega (arith, c.if-made-eq0.false)))
    ∙ sym (ran c.args.event.now c.in-Some.hart c.in-Some.limit s is)
