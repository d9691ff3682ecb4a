use Rattle.ckrt_gdb_history.specs.declared.stop.Watch.{Watch}
use Rattle.ckrt_gdb_history.specs.declared.stop.WatchKind.TheVariants.{Changes}
use Rattle.ckrt_gdb_history.proofs.WatchLemmas.{less_room, more_watched}
use Rattle.ckrt_gdb_history.proofs.stop.watched.Goals as goal

pub loop-watch-preserved : goal.loop-watch-preserved
loop-watch-preserved c =
    let i = c.loop-watch.watch-index in let before = c.loop-watch.invariant in
    let now = c.loop-watch.bytes.items in let new = c.append_bytes.new.bytes.items in
    let nothing : Watch = record { kind = Changes; first = 0; last = 0 } in
    record {
      so = more_watched c.args.watches.now i nothing c.args.memory.now.bytes now new c.loop-watch-test.true c.append_bytes.ensures before.so;
      room = less_room c.args.watches.now i nothing c.args.memory.now.bytes now new c.loop-watch-test.true c.append_bytes.ensures before.room;
    }
