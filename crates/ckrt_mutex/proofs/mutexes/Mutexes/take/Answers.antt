use Rattle.std.proofs.Common.{sym, ◌∙◌}
use Rattle.ckrt_objects.proofs.Changes.{room_of_not_full}
use Rattle.ckrt_mutex.specs.Rows.{named}
use Rattle.ckrt_mutex.proofs.mutexes.Mutexes.take.Goals as goal

pub put-requires-clause-room : goal.put-requires-clause-room
put-requires-clause-room c =
    room_of_not_full named 256 c.args.address c.args.threads.now.waits c.args.self.now c.known.ensures.table.rising c.requires.few (sym c.has_no_room.ensures ∙ c.if-has_no_room.false)
