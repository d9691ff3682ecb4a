use Rattle.std.proofs.Common.{sym, subst}
use Rattle.ckrt_stored.specs.Layout.{size_needed}
use Rattle.ckrt_cli.proofs.KeepLemmas.{keeps_made}
use Rattle.ckrt_cli.proofs.keeping.keep.Goals as goal

-- the disk that the run was kept on is the one that was made
pub returns-in-Ok : goal.returns-in-Ok
returns-in-Ok g c =
    let path = c.args.what.now.path.now in
    let filled = subst (λ n. g.S.Sources.fills c.args.sources.now path n c.in-Ok.disk) c.size_needed.ensures c.in-Ok.ensures.disk in
    let size = size_needed c.args.what.now.config in
    keeps_made g.D.Disk _ _ _ _ _ _ c.in-Ok.ensures.asked
    (λ disk is. subst (λ x. g.S.Sources.fills c.args.sources.now path size x) (sym is) filled) c.keep_on.ensures
