use Rattle.ckrt_rwlock.proofs.WellFormed.{room_of_reader}
use Rattle.ckrt_rwlock.proofs.locks.RwLocks.read_again.Goals as goal

pub read-requires-clause-room : goal.read-requires-clause-room
read-requires-clause-room c = room_of_reader c.args.address c.args.thread c.args.lock c.args.self.now c.requires.lock c.requires.reader
