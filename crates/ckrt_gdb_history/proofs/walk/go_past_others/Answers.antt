use Rattle.std.proofs.Common.{◌≡◌, length, slice_get, IfSome, Some, refl, subst}
use Rattle.std.proofs.lemmas.Option.{slice_get_read}
use Rattle.ckrt_gdb_history.specs.Positions.{run_in}
use Rattle.ckrt_gdb_history.specs.Search.{IsOtherIn}
use Rattle.ckrt_gdb_history.proofs.AtLemmas.{inside}
use Rattle.ckrt_gdb_history.proofs.CalmLemmas.{passed}
use Rattle.ckrt_gdb_history.proofs.walk.go_past_others.Goals as goal

pub returns-clause-unmet : goal.returns-clause-unmet
returns-clause-unmet g c = λ s at r up before.
    let es = c.args.events.now in let from = c.args.from in let e = c.index-events-from.result in let m = c.args.machine.now in
    let is : slice_get es from.events ≡ Some e = slice_get_read es (length es) from.events e refl (inside from es s at.position c.requires.steps.0) c.index-events-from.is in
    let other : IsOtherIn c.args.thread c.in-Some._other (run_in e) m.state =
    subst (λ o. IfSome o (λ u. IsOtherIn c.args.thread u (run_in e) m.state)) c.in-Some.is c.other_on.ensures in
    passed (g.R.StopReason.meets c.args.reason.now) c.args.thread c.in-Some._other from es s m e at is c.requires.steps.0 other c.go_on_until.result r
    c.go_on_until.ensures.within.0 up before (c.go_on_until.ensures.unmet s at)
