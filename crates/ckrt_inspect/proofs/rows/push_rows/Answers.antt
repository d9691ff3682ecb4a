use Rattle.std.proofs.Common.{◌∙◌, ◌++◌, ap}
use Rattle.ckrt_inspect.proofs.PushLemmas.{pushed_row}
use Rattle.ckrt_inspect.proofs.rows.push_rows.Goals as goal

pub loop-row-preserved : goal.loop-row-preserved
loop-row-preserved g c =
    let x = c.row-item.result in
    pushed_row g.T.Row.text c.args.rows.now c.loop-row.row-index x c.args.out.now.items c.loop-row.out.items c.push_to.new.out.items c.loop-row-test.true c.loop-row.invariant
    (c.in_ok-push_to.ensures ∙ ap (λ r. c.loop-row.out.items ++ g.T.Row.text r) c.row-item.is)
