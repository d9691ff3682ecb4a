use Rattle.std.proofs.Common.{sym, ◌∙◌}
use Rattle.ckrt_mutex.proofs.Table.{room_of_owned}
use Rattle.ckrt_mutex.proofs.mutexes.Mutexes.give_up.Goals as goal

pub put-requires-clause-room : goal.put-requires-clause-room
put-requires-clause-room c =
    room_of_owned c.args.address c.args.thread c.mutex-mutex.result c.args.self.now c.mutex-mutex.ensures.mutex (sym c.is_owned_by.ensures ∙ c.if-not-is_owned_by.false)

pub hand_over-requires : goal.hand_over-requires
hand_over-requires c =
    room_of_owned c.args.address c.args.thread c.mutex-mutex.result c.args.self.now c.mutex-mutex.ensures.mutex (sym c.is_owned_by.ensures ∙ c.if-not-is_owned_by.false)
