use Rattle.std.proofs.Common.{sym, ◌∙◌}
use Rattle.ckrt_thread.proofs.Taking.{exact_as, wait_exact}
use Rattle.ckrt_thread.proofs.table.Threads.append_wait.Goals as goal

pub returns-then-not-takes_wait-clause-exact : goal.returns-then-not-takes_wait-clause-exact
returns-then-not-takes_wait-clause-exact c = exact_as _ _ (sym c.if-not-takes_wait.true ∙ c.takes_wait.ensures) (wait_exact c.args.wait c.args.self.now c.known.ensures)

pub returns-clause-exact : goal.returns-clause-exact
returns-clause-exact c = exact_as _ _ (sym c.if-not-takes_wait.false ∙ c.takes_wait.ensures) (wait_exact c.args.wait c.args.self.now c.known.ensures)
