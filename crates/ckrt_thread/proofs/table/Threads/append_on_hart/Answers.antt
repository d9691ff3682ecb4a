use Rattle.std.proofs.Common.{sym, ◌∙◌}
use Rattle.ckrt_thread.proofs.Taking.{exact_as, hart_exact}
use Rattle.ckrt_thread.proofs.table.Threads.append_on_hart.Goals as goal

pub returns-then-not-takes_on_hart-clause-exact : goal.returns-then-not-takes_on_hart-clause-exact
returns-then-not-takes_on_hart-clause-exact c =
    exact_as _ _ (sym c.if-not-takes_on_hart.true ∙ c.takes_on_hart.ensures) (hart_exact c.args.hart c.args.thread c.args.self.now c.known.ensures)

pub returns-clause-exact : goal.returns-clause-exact
returns-clause-exact c = exact_as _ _ (sym c.if-not-takes_on_hart.false ∙ c.takes_on_hart.ensures) (hart_exact c.args.hart c.args.thread c.args.self.now c.known.ensures)
