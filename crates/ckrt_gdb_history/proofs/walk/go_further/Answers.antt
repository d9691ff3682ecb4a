use Rattle.std.proofs.Common.{◌≡◌, ◌<◌, ◌∙◌, length, slice_get, Some, refl, ap, sym, subst, arith}
use Rattle.std.proofs.lemmas.Option.{slice_get_read}
use Rattle.ckrt_gdb_history.specs.Positions.{positions_after, state_before, steps_of}
use Rattle.ckrt_gdb_history.specs.Engine.{IsAt}
use Rattle.ckrt_gdb_history.proofs.AtLemmas.{further_at, inside, into_of, steps_ahead}
use Rattle.ckrt_gdb_history.proofs.OrderLemmas.{same_position}
use Rattle.ckrt_gdb_history.proofs.walk.go_further.Goals as goal

pub go_into-requires-clause-into : goal.go_into-requires-clause-into
go_into-requires-clause-into c =
    let s = c.requires.at.0 in let at = c.requires.at.1 in let es = c.args.events.now in
    let from = c.args.from in let to = c.args.to in let e = c.index-events-to.result in
    let some : 0 < to.steps = omega (arith, c.if-from-to.true) in
    let there : slice_get es to.events ≡ Some e = slice_get_read es (length es) to.events e refl (inside to es s c.requires.at.2 some) c.index-events-to.is in
    let is : slice_get es from.events ≡ Some e = ap (slice_get es) c.requires.event ∙ there in
    let all : positions_after to.events es s ≡ steps_of e (state_before from.events es s) =
    ap (λ k. positions_after k es s) (sym c.requires.event) ∙ steps_ahead from es s c.args.machine.now e at is in
    (state_before from.events es s, into_of from es s c.args.machine.now e at is, subst (λ n. to.steps < n) all c.requires.at.2.steps)

pub returns-then-from-to-clause-at : goal.returns-then-from-to-clause-at
returns-then-from-to-clause-at c = λ s at one.
    let es = c.args.events.now in
    let from = c.args.from in let to = c.args.to in let e = c.index-events-to.result in
    let some : 0 < to.steps = omega (arith, c.if-from-to.true) in
    let there : slice_get es to.events ≡ Some e = slice_get_read es (length es) to.events e refl (inside to es s one some) c.index-events-to.is in
    let is : slice_get es from.events ≡ Some e = ap (slice_get es) c.requires.event ∙ there in
    let all : positions_after to.events es s ≡ steps_of e (state_before from.events es s) =
    ap (λ k. positions_after k es s) (sym c.requires.event) ∙ steps_ahead from es s c.args.machine.now e at is in
    let into = c.go_into.ensures.into (state_before from.events es s) (into_of from es s c.args.machine.now e at is) (subst (λ n. to.steps < n) all one.steps) in
    subst (λ q. IsAt c.go_into.new.machine q es s) (same_position (record { events = from.events; steps = to.steps }) to c.requires.event refl)
    (further_at from es s c.args.machine.now e at is to.steps c.go_into.new.machine into)
