use Rattle.std.proofs.Common.{rules, ◌≡◌, ◌∙◌, ◌⊎◌, ◌+◌, arith, inr, subst, sym, Err}
use Rattle.ckrt_stored.specs.Layout.{size_needed}
use Rattle.ckrt_hunt_schedules.specs.Tallies.{Hunted}
use Rattle.ckrt_cli.specs.Hunting.{KeepsEach, KeptIfShown, LacksPath, NamesRow, folder_at, reached, sought_in}
use Rattle.ckrt_cli.proofs.KeepLemmas.{kept_on, stopped}
use Rattle.ckrt_cli.proofs.folder.keep_rows.Goals as goal

-- one outcome more
pub loop-place-preserved : goal.loop-place-preserved
loop-place-preserved g c =
    let at = c.args.at.now in
    let told = at.told in
    let place = c.loop-place.place in
    let first = g.S.Sources.fills c.args.sources.now in
    let fills = g.S.Sources.fills c.loop-place.sources in
    let old = reached (g.S.Closes.openings c.args.sources.now) (g.W.Write.contents c.args.writer.now) in
    let mid = reached (g.S.Closes.openings c.loop-place.sources) (g.W.Write.contents c.loop-place.writer) in
    let new = reached (g.S.Closes.openings c.keep_if_shown.new.sources) (g.W.Write.contents c.keep_if_shown.new.writer) in
    let kept = subst (λ (h : Hunted). KeptIfShown g.D.Disk (sought_in h told fills) (folder_at at) place (λ r. r ≡ mid) new) c.loop-place.invariant.same c.in_ok-keep_if_shown.ensures.kept in
    record {
      kept = kept_on g.D.Disk c.args.hunt.now told.first told.as_drawn told.config told.image.now (λ p. fills p (size_needed told.config)) (λ p. first p (size_needed told.config)) (folder_at at) place (place + 1) old mid new (omega arith) c.loop-place.invariant.kept kept;
      same = c.in_ok-keep_if_shown.ensures.same ∙ c.loop-place.invariant.same;
    }

-- one that isn't kept
pub returns-in_err-keep_if_shown : goal.returns-in_err-keep_if_shown
returns-in_err-keep_if_shown g c =
    let at = c.args.at.now in
    let told = at.told in
    let place = c.loop-place.place in
    let first = g.S.Sources.fills c.args.sources.now in
    let fills = g.S.Sources.fills c.loop-place.sources in
    let old = reached (g.S.Closes.openings c.args.sources.now) (g.W.Write.contents c.args.writer.now) in
    let mid = reached (g.S.Closes.openings c.loop-place.sources) (g.W.Write.contents c.loop-place.writer) in
    let new = reached (g.S.Closes.openings c.keep_if_shown.new.sources) (g.W.Write.contents c.keep_if_shown.new.writer) in
    let why = c.in_err-keep_if_shown.field-0.0 in
    let is : c.from_residual.result ≡ Err why = search rules in
    let stops = subst (λ (h : Hunted). LacksPath mid new (Err why) ⊎ ((named : NamesRow g.D.Disk (sought_in h told fills) (folder_at at) place mid new) × (named.result ≡ Err why))) c.loop-place.invariant.same c.in_err-keep_if_shown.ensures.stops in
    subst (λ r. KeepsEach g.D.Disk (sought_in c.args.hunt.now told first) (folder_at at) old new r) (sym is)
    (inr (stopped g.D.Disk c.args.hunt.now told.first told.as_drawn told.config told.image.now (λ p. fills p (size_needed told.config)) (λ p. first p (size_needed told.config)) (folder_at at) place old mid new (Err why) c.loop-place.invariant.kept stops))
