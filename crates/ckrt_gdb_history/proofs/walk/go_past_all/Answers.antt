use Rattle.std.proofs.Common.{◌≡◌, false, sym, subst, ◌∙◌}
use Rattle.ckrt_gdb_history.specs.Search.{may_stop}
use Rattle.ckrt_gdb_history.specs.Stops.{accesses_at}
use Rattle.ckrt_gdb_history.proofs.AccessLemmas.{neither_at, never_accesses}
use Rattle.ckrt_gdb_history.proofs.walk.go_past_all.Goals as goal

pub returns-then-not-sees_loads-clause-unseen : goal.returns-then-not-sees_loads-clause-unseen
returns-then-not-sees_loads-clause-unseen c = λ s at r up before. never_accesses c.args.stops.now.watches.items (sym c.sees_loads.ensures ∙ c.if-not-sees_loads.true) r c.args.events.now s

pub returns-clause-unmet : goal.returns-clause-unmet
returns-clause-unmet c = λ s at r up before.
    let passed = c.go_past-2.ensures.unmet s at r up before in
    let meets = may_stop c.args.sought.now.breakpoints.now c.args.sought.now.seen.now in
    record { others = passed.others; unmet = (neither_at _ meets r c.args.events.now s passed.unmet).0 }

pub returns-clause-unseen : goal.returns-clause-unseen
returns-clause-unseen c = λ s at r up before.
    let passed = c.go_past-2.ensures.unmet s at r up before in
    let meets = may_stop c.args.sought.now.breakpoints.now c.args.sought.now.seen.now in
    subst (λ ws. accesses_at ws r c.args.events.now s ≡ false) c.as_slice.ensures.value (neither_at _ meets r c.args.events.now s passed.unmet).1
