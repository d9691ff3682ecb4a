use Rattle.std.proofs.Common.{Some, sym, ap, ◌∙◌}
use Rattle.ckrt_thread.proofs.Known.{absent_places, ended_live}
use Rattle.ckrt_thread.proofs.KeyLemmas.{no_value}
use Rattle.ckrt_thread.proofs.table.Threads.join.Goals as goal

pub set_slot-requires-clause-free : goal.set_slot-requires-clause-free
set_slot-requires-clause-free c =
    absent_places c.args.self.now c.args.id c.known.ensures (ended_live c.args.self.now c.args.id c.in-Ended.value (sym c.in-Some.ensures.thread ∙ ap (λ x. Some x) c.in-Ended.is))

pub set_slot-requires-clause-values : goal.set_slot-requires-clause-values
set_slot-requires-clause-values c = λ k _. no_value k
