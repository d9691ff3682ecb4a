use Rattle.std.proofs.Common.{sym, ◌∙◌}
use Rattle.ckrt_thread.specs.Contents.{ThreadRow}
use Rattle.ckrt_thread.proofs.Taking.{exact_as, thread_exact, taken_places, taken_joiners, taken_initial, taken_proper, taken_values}
use Rattle.ckrt_thread.proofs.table.Threads.append_thread.Goals as goal

pub returns-then-not-takes_thread-clause-exact : goal.returns-then-not-takes_thread-clause-exact
returns-then-not-takes_thread-clause-exact c =
    let row : ThreadRow = record { id = c.args.id; thread = c.args.thread } in
    exact_as _ _ (sym c.if-not-takes_thread.true ∙ c.takes_thread.ensures) (thread_exact row c.args.self.now c.known.ensures)

pub returns-clause-exact : goal.returns-clause-exact
returns-clause-exact c =
    let row : ThreadRow = record { id = c.args.id; thread = c.args.thread } in
    exact_as _ _ (sym c.if-not-takes_thread.false ∙ c.takes_thread.ensures) (thread_exact row c.args.self.now c.known.ensures)

pub set_slot-requires-clause-free : goal.set_slot-requires-clause-free
set_slot-requires-clause-free c =
    let row : ThreadRow = record { id = c.args.id; thread = c.args.thread } in
    taken_places row c.args.self.now c.known.ensures (sym c.takes_thread.ensures ∙ c.if-not-takes_thread.false)

pub set_slot-requires-clause-unjoined : goal.set_slot-requires-clause-unjoined
set_slot-requires-clause-unjoined c =
    let row : ThreadRow = record { id = c.args.id; thread = c.args.thread } in
    taken_joiners row c.args.self.now c.known.ensures (sym c.takes_thread.ensures ∙ c.if-not-takes_thread.false)

pub set_slot-requires-clause-initial : goal.set_slot-requires-clause-initial
set_slot-requires-clause-initial c =
    let row : ThreadRow = record { id = c.args.id; thread = c.args.thread } in
    taken_initial row c.args.self.now c.known.ensures (sym c.takes_thread.ensures ∙ c.if-not-takes_thread.false)

pub set_slot-requires-clause-values : goal.set_slot-requires-clause-values
set_slot-requires-clause-values c =
    let row : ThreadRow = record { id = c.args.id; thread = c.args.thread } in
    taken_values row c.args.self.now c.known.ensures (sym c.takes_thread.ensures ∙ c.if-not-takes_thread.false)

pub set_slot-requires-clause-proper : goal.set_slot-requires-clause-proper
set_slot-requires-clause-proper c =
    let row : ThreadRow = record { id = c.args.id; thread = c.args.thread } in
    taken_proper row c.args.self.now c.known.ensures (sym c.takes_thread.ensures ∙ c.if-not-takes_thread.false)
