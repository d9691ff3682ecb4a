use Rattle.std.proofs.Common.{sym, ◌∙◌}
use Rattle.std.proofs.lemmas.Bool.{ne_eqb}
use Rattle.ckrt_barrier.proofs.Table.{table_stored}
use Rattle.ckrt_barrier.proofs.barriers.Barriers.set_count.Goals as goal

pub invariant_of-self : goal.invariant_of-self
invariant_of-self c =
    rw c.store.ensures (table_stored c.args.address c.args.count _ (ne_eqb c.args.count 0 c.if-count-eq0.false) (rw (← c.self.view_is) at (sym c.is_full.ensures ∙ c.if-is_full.false)) c.self.invariant)
