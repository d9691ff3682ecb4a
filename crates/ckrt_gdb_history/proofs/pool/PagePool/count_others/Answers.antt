use Rattle.std.proofs.Common.{◌-◌, arith}
use Rattle.ckrt_gdb_history.proofs.PoolLemmas.{named_in}
use Rattle.ckrt_gdb_history.proofs.pool.PagePool.count_others.Goals as goal

pub page-requires-clause-named : goal.page-requires-clause-named
page-requires-clause-named c =
    named_in c.args.self.now c.args.names.now (c.loop-page.page - 1) c.requires.named
    (omega (arith, c.requires.size, c.pages-page-end.ensures.size, c.loop-page-test.true, c.loop-page.auto.page))
