use Rattle.std.proofs.Common.{◌≡◌, [], None, ap, ◌∙◌, sym, subst, arith}
use Rattle.ckrt_events.specs.declared.event.Event.TheVariants.{RunLong}
use Rattle.ckrt_machine.specs.Runs.{run_on}
use Rattle.ckrt_machine.specs.Events.{refusal_of}
use Rattle.ckrt_gdb_history.proofs.IntoLemmas.{unmoved, more_fewer, cut_in_range, cut_accepted, further, between, going}
use Rattle.ckrt_gdb_history.proofs.replay.go_into.Goals as goal

pub step-requires-clause-in_range : goal.step-requires-clause-in_range
step-requires-clause-in_range c =
    let into = c.requires.into.1 in
    let is = sym c.run_in.ensures ∙ c.in-Some.is in
    let fewer = more_fewer c.args.made c.args.event.now c.requires.into.0 c.args.machine.now into c.in-Some.hart c.in-Some._limit is c.args.steps c.requires.steps c.requires.into.2 in
    cut_in_range c.args.event.now c.in-Some.hart c.in-Some._limit c.args.steps into.accepted.in_range is (omega (arith, c.requires.steps)) fewer

pub step-requires-clause-accepted : goal.step-requires-clause-accepted
step-requires-clause-accepted c =
    let into = c.requires.into.1 in
    let is = sym c.run_in.ensures ∙ c.in-Some.is in
    subst (λ z. refusal_of 0 (RunLong c.in-Some.hart c.args.steps) z ≡ None) (sym (unmoved c.args.made c.args.event.now c.requires.into.0 c.args.machine.now into c.if-made-eq0.true))
    (cut_accepted c.args.event.now c.in-Some.hart c.in-Some._limit c.args.steps c.requires.into.0 into.accepted.accepted is)

pub returns-then-made-eq0-clause-into : goal.returns-then-made-eq0-clause-into
returns-then-made-eq0-clause-into c = λ s into more.
    let is = sym c.run_in.ensures ∙ c.in-Some.is in
    let at = unmoved c.args.made c.args.event.now s c.args.machine.now into c.if-made-eq0.true in
    further c.args.made c.args.event.now s c.args.machine.now into c.in-Some.hart c.in-Some._limit is c.args.steps c.requires.steps more c.step.new.self
    (ap (λ a. a.state) c.step.ensures.step ∙ ap (λ z. (run_on c.args.steps c.in-Some.hart z []).state) at)
    (ap (λ a. a.output) c.step.ensures.step ∙ ap (λ z. (run_on c.args.steps c.in-Some.hart z []).output) at)

pub go_on-requires : goal.go_on-requires
go_on-requires c =
    let is = sym c.run_in.ensures ∙ c.in-Some.is in
    going c.args.made c.args.event.now c.requires.into.0 c.args.machine.now c.requires.into.1 c.in-Some.hart c.in-Some._limit is (omega (arith, c.if-made-eq0.false))

pub returns-clause-into : goal.returns-clause-into
returns-clause-into c = λ s into more.
    let is = sym c.run_in.ensures ∙ c.in-Some.is in
    let on = between c.args.made c.args.event.now s c.args.machine.now into c.in-Some.hart c.in-Some._limit is c.args.steps c.requires.steps more (omega (arith, c.if-made-eq0.false)) in
    further c.args.made c.args.event.now s c.args.machine.now into c.in-Some.hart c.in-Some._limit is c.args.steps c.requires.steps more c.go_on.new.self
    (ap (λ r. r.state) (c.go_on.ensures.run ∙ on))
    (ap (λ r. r.output) (c.go_on.ensures.run ∙ on))
