use Rattle.ckrt_gdb_history.specs.declared.stop.Watch.{Watch}
use Rattle.ckrt_gdb_history.specs.declared.stop.WatchKind.TheVariants.{Changes}
use Rattle.ckrt_gdb_history.proofs.SeenLemmas.{less_room_to_see, more_seen}
use Rattle.ckrt_gdb_history.proofs.reason.seen_under.Goals as goal

pub loop-watch-preserved : goal.loop-watch-preserved
loop-watch-preserved c =
    let i = c.loop-watch.watch-index in let before = c.loop-watch.invariant in
    let now = c.loop-watch.seen.items in let new = c.see.new.seen.items in
    let nothing : Watch = record { kind = Changes; first = 0; last = 0 } in
    record {
      so = more_seen c.args.watches.now i nothing c.args.bytes.now now new c.loop-watch-test.true c.see.ensures before.so;
      room = less_room_to_see c.args.watches.now i nothing c.args.bytes.now now new c.loop-watch-test.true c.see.ensures before.room;
    }
