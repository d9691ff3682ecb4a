use Rattle.std.proofs.Common.{◌≡◌, None, Err, sym, subst, rules}
use Rattle.ckrt_stored.specs.Recovery.{AgreesOnFault, Recovers}
use Rattle.ckrt_inspect.specs.Inspect.{AgreesAt, of_recovery}
use Rattle.ckrt_inspect.proofs.FaultLemmas.{fault_of_whole}
use Rattle.ckrt_inspect.proofs.inspecting.read_whole.Goals as goal

pub returns-in_err-progress-clause-exact : goal.returns-in_err-progress-clause-exact
returns-in_err-progress-clause-exact g c = λ honest.
    let d = g.D.Disk in
    let fault = c.in_err-progress.field-0.0 in
    let first : AgreesOnFault fault (Recovers (d.content c.args.disk.now)) = search rules in
    let is : c.from_residual.result ≡ Err (of_recovery fault) = search rules in
    subst (λ r. AgreesAt None (d.content c.args.disk.now) r) (sym is) (fault_of_whole None fault (d.content c.args.disk.now) first)
