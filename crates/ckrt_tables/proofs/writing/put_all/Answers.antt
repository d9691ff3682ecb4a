use Rattle.std.proofs.Common.{◌≡◌, [], length, get_or, subst, ap, arith}
use Rattle.ckrt_tables.specs.Writing.{IsPut}
use Rattle.ckrt_tables.proofs.Puts.{room_for, put_one}
use Rattle.ckrt_tables.proofs.writing.put_all.Goals as goal

pub put-end-requires : goal.put-end-requires
put-end-requires g c =
    let xs = c.args.records.now in
    let x = c.record-item.result in
    let room = room_for c.args.out.now c.args.at [] g.T.Record.encoding xs c.loop-record.record-index x c.loop-record.out c.loop-record.end c.loop-record-test.true c.loop-record.invariant c.requires in
    let size : length (g.T.Record.encoding x) ≡ length (g.T.Record.encoding (get_or xs c.loop-record.record-index x)) = ap (λ l. length (g.T.Record.encoding l)) c.record-item.is in
    omega (arith, room, size, c.loop-record.auto.out)

pub loop-record-preserved : goal.loop-record-preserved
loop-record-preserved g c =
    let xs = c.args.records.now in
    let x = c.record-item.result in
    put_one c.args.out.now c.args.at [] g.T.Record.encoding xs c.loop-record.record-index x c.loop-record.out c.loop-record.end c.put-end.new.out c.put-end.result c.loop-record-test.true c.loop-record.invariant
    (subst (λ l. IsPut c.loop-record.out c.loop-record.end (g.T.Record.encoding l) c.put-end.new.out c.put-end.result) c.record-item.is c.put-end.ensures)
