use Rattle.std.proofs.Common.{◌≡◌, ◌+◌, ◌-◌, ◌<◌, ◌∙◌, false, sym, subst, arith}
use Rattle.ckrt_gdb_history.specs.Positions.{into_run, run_in}
use Rattle.ckrt_gdb_history.specs.Engine.{IsInto}
use Rattle.ckrt_gdb_history.specs.Search.{meets_in}
use Rattle.ckrt_gdb_history.proofs.IntoLemmas.{going, not_met, on}
use Rattle.ckrt_gdb_history.proofs.replay.go_into_until.Goals as goal

pub go_on_to-left-requires : goal.go_on_to-left-requires
go_on_to-left-requires g c =
    let is = sym c.run_in.ensures ∙ c.in-Some.is in
    going c.args.made c.args.event.now c.requires.into.0 c.args.machine.now c.requires.into.1 c.in-Some.hart c.in-Some._limit is c.requires.steps.0

pub returns-clause-into : goal.returns-clause-into
returns-clause-into g c = λ s into more.
    let is = sym c.run_in.ensures ∙ c.in-Some.is in let e = c.args.event.now in
    let begun = c.requires.steps.0 in let most = c.requires.steps.1 in let within = c.go_on_to-left.ensures.within in
    let j = c.args.steps - c.args.made - c.go_on_to-left.result.0 in
    let all : c.args.made + j ≡ c.args.steps - c.go_on_to-left.result.0 = omega (arith, most, within) in
    subst (λ k. IsInto k e s c.go_on_to-left.new.self) all
    (on c.args.made e s c.args.machine.now into c.in-Some.hart c.in-Some._limit is begun j (omega (arith, all, more)) c.go_on_to-left.new.self c.go_on_to-left.ensures.made.state c.go_on_to-left.ensures.made.output)

pub returns-clause-unmet : goal.returns-clause-unmet
returns-clause-unmet g c = λ s into k least less.
    let is = sym c.run_in.ensures ∙ c.in-Some.is in let e = c.args.event.now in
    let most = c.requires.steps.1 in let within = c.go_on_to-left.ensures.within in
    let j = k - c.args.made in
    let all : c.args.made + j ≡ k = omega (arith, least) in
    let few : j < c.args.steps - c.args.made - c.go_on_to-left.result.0 = omega (arith, least, less, most, within) in
    subst (λ i. meets_in (g.R.StopReason.meets c.args.reason.now) (run_in e) (into_run i (run_in e) s).state ≡ false) all
    (not_met c.args.made e s c.args.machine.now into c.in-Some.hart c.in-Some._limit is c.requires.steps.0 j (g.R.StopReason.meets c.args.reason.now) (c.go_on_to-left.ensures.made.unmet j few))
