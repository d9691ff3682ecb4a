use Rattle.std.proofs.Common.{◌≡◌, Some, Err, sym, subst, rules}
use Rattle.ckrt_stored.specs.Past.{HasPast}
use Rattle.ckrt_stored.specs.Recovery.{AgreesOnFault}
use Rattle.ckrt_inspect.specs.Inspect.{AgreesAt, of_recovery}
use Rattle.ckrt_inspect.proofs.FaultLemmas.{fault_of_past}
use Rattle.ckrt_inspect.proofs.inspecting.read_at.Goals as goal

pub returns-in_err-past-clause-exact : goal.returns-in_err-past-clause-exact
returns-in_err-past-clause-exact g c = λ honest.
    let d = g.D.Disk in
    let fault = c.in_err-past.field-0.0 in
    let first : AgreesOnFault fault (HasPast c.args.at (d.content c.args.disk.now)) = search rules in
    let is : c.from_residual.result ≡ Err (of_recovery fault) = search rules in
    subst (λ r. AgreesAt (Some c.args.at) (d.content c.args.disk.now) r) (sym is) (fault_of_past c.args.at fault (d.content c.args.disk.now) first)
