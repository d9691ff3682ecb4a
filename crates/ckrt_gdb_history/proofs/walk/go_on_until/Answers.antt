use Rattle.std.proofs.Common.{◌≡◌, ◌<◌, ◌∙◌, length, slice_get, Some, refl, ap, sym, subst}
use Rattle.std.proofs.lemmas.Option.{slice_get_read}
use Rattle.ckrt_gdb_history.specs.Positions.{positions_after, state_before, steps_of}
use Rattle.ckrt_gdb_history.proofs.AtLemmas.{further_at, inside, into_of, not_met_at, steps_ahead}
use Rattle.ckrt_gdb_history.proofs.OrderLemmas.{within_event}
use Rattle.ckrt_gdb_history.proofs.walk.go_on_until.Goals as goal

pub go_into_until-steps-requires-clause-into : goal.go_into_until-steps-requires-clause-into
go_into_until-steps-requires-clause-into g c =
    let s = c.requires.at.0 in let at = c.requires.at.1 in let es = c.args.events.now in
    let from = c.args.from in let to = c.args.to in let e = c.index-events-from.result in
    let is : slice_get es from.events ≡ Some e = slice_get_read es (length es) from.events e refl (inside from es s at.position c.requires.steps.0) c.index-events-from.is in
    let all : positions_after to.events es s ≡ steps_of e (state_before from.events es s) =
    ap (λ k. positions_after k es s) (sym c.requires.event) ∙ steps_ahead from es s c.args.machine.now e at is in
    (state_before from.events es s, into_of from es s c.args.machine.now e at is, subst (λ n. to.steps < n) all c.requires.at.2.steps)

pub returns-clause-at : goal.returns-clause-at
returns-clause-at g c = λ s at one.
    let es = c.args.events.now in
    let from = c.args.from in let to = c.args.to in let e = c.index-events-from.result in
    let is : slice_get es from.events ≡ Some e = slice_get_read es (length es) from.events e refl (inside from es s at.position c.requires.steps.0) c.index-events-from.is in
    let all : positions_after to.events es s ≡ steps_of e (state_before from.events es s) =
    ap (λ k. positions_after k es s) (sym c.requires.event) ∙ steps_ahead from es s c.args.machine.now e at is in
    further_at from es s c.args.machine.now e at is c.go_into_until-steps.result c.go_into_until-steps.new.machine
    (c.go_into_until-steps.ensures.into (state_before from.events es s) (into_of from es s c.args.machine.now e at is) (subst (λ n. to.steps < n) all one.steps))

pub returns-clause-unmet : goal.returns-clause-unmet
returns-clause-unmet g c = λ s at r up before.
    let es = c.args.events.now in let from = c.args.from in let e = c.index-events-from.result in
    let is : slice_get es from.events ≡ Some e = slice_get_read es (length es) from.events e refl (inside from es s at.position c.requires.steps.0) c.index-events-from.is in
    let there = within_event from (record { events = from.events; steps = c.go_into_until-steps.result }) r refl up before in
    not_met_at from es s c.args.machine.now e at is (g.R.StopReason.meets c.args.reason.now) r there.0
    (c.go_into_until-steps.ensures.unmet (state_before from.events es s) (into_of from es s c.args.machine.now e at is) r.steps there.1 there.2)
