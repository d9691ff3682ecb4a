use Rattle.std.proofs.Common.{sym, ap, ◌∙◌, not}
use Rattle.ckrt_objects.proofs.InUse.{new_at_some, new_at_none}
use Rattle.ckrt_objects.proofs.in_use.is_new_at.Goals as goal

pub returns-in-Some : goal.returns-in-Some
returns-in-Some g c =
    ap not c.is_in_use_from.ensures
    ∙ sym (new_at_some g.T.Named.named c.args.waits.now c.args.entries.now c.args.place c.wait_at-wait.result c.in-Some.address c.wait_at-wait.ensures (sym c.in-Some.ensures))

pub returns-in-None : goal.returns-in-None
returns-in-None g c =
    sym (new_at_none g.T.Named.named c.args.waits.now c.args.entries.now c.args.place c.wait_at-wait.result c.wait_at-wait.ensures (sym c.in-None.ensures))
