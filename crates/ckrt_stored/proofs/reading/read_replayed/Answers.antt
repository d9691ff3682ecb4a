use Rattle.std.proofs.Common.{◌≡◌, Err, sym, subst, rules}
use Rattle.ckrt_disk.specs.Frame.{IsOnlyRead}
use Rattle.ckrt_stored.specs.Reads.{is_device}
use Rattle.ckrt_disk.proofs.FrameLemmas.{read_on}
use Rattle.ckrt_stored.proofs.PageLemmas.{pages_follow}
use Rattle.ckrt_stored.proofs.reading.read_replayed.Goals as goal

pub returns-in_err-replay-in-Ok-clause-read : goal.returns-in_err-replay-in-Ok-clause-read
returns-in_err-replay-in-Ok-clause-read g c =
    let fault = c.in_err-replay-in-Ok.field-0.0 in
    let is : c.from_residual.result ≡ Err fault = search rules in
    subst (λ r. IsOnlyRead g.D.Disk c.args.disk.now c.replay.new.disk (is_device r)) (sym is)
    (read_on g.D.Disk c.args.disk.now c.read_state.new.disk c.replay.new.disk _ c.in-Ok.ensures.read c.in_err-replay-in-Ok.ensures.read)

pub returns-in-Ok-clause-pages : goal.returns-in-Ok-clause-pages
returns-in-Ok-clause-pages g c = λ honest.
    let before : g.D.Disk.is_honest c.read_state.new.disk = c.replay.ensures.read.same.honest honest in
    pages_follow c.in-Ok.progress c.replay.new.progress (g.D.Disk.content c.args.disk.now) c.replay.ensures.config c.replay.ensures.follows (c.in-Ok.ensures.pages before)

pub returns-in-Ok-clause-read : goal.returns-in-Ok-clause-read
returns-in-Ok-clause-read g c = read_on g.D.Disk c.args.disk.now c.read_state.new.disk c.replay.new.disk _ c.in-Ok.ensures.read c.in_ok-replay-in-Ok.ensures.read
