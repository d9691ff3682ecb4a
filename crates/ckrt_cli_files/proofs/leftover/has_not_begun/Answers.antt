use Rattle.std.proofs.Common.{◌≡◌, ap, subst}
use Rattle.std.specs.Prelude.{◌↔◌, IsTrue}
use Rattle.std.proofs.lemmas.Result.{IfOk-weaker}
use Rattle.ckrt_stored.specs.Progress.{recovered_of}
use Rattle.ckrt_recovery.specs.View.{View}
use Rattle.ckrt_cli_files.proofs.LeftoverLemmas.{begun_by, never_begun}
use Rattle.ckrt_cli_files.proofs.leftover.has_not_begun.Goals as goal

-- all events that were recovered are acknowledged
pub returns-in-Ok-clause-found : goal.returns-in-Ok-clause-found
returns-in-Ok-clause-found g c = λ honest.
    let s = c.in-Ok.session in
    let e = c.in-Ok.ensures in
    let found = c.is_at_start-found.result in
    let begun = subst (λ x. g.D.Disk.is_honest x) c.into_disk.ensures honest in
    let count : s.acknowledged ≡ (recovered_of s.progress).count = ap (λ (v : View). v.acknowledged) e.opened in
    begun_by (g.D.Disk.content c.args.disk) (recovered_of s.progress) found (e.exact begun)
    (subst (λ n. IsTrue found ↔ ((n ≡ 0) × (s.progress.generation ≡ 1))) count c.is_at_start-found.ensures)

pub returns-in-Err-clause-found : goal.returns-in-Err-clause-found
returns-in-Err-clause-found g c =
    let u = c.in-Err.unrecovered in
    IfOk-weaker c.no_start-is_in_making.result _ _
    (λ f is honest. never_begun (g.D.Disk.content c.args.disk) u.fault f is.0 is.1 (c.in-Err.ensures.exact honest))
    c.no_start-is_in_making.ensures
