use Rattle.std.proofs.Common.{◌-◌, ◌^◌, None, refl}
use Rattle.ckrt_recovery.specs.Recovered.{IsRecovered}
use Rattle.ckrt_drive.specs.Stages.{stage}
use Rattle.ckrt_history.specs.Keeping.{keeping_stage}
use Rattle.ckrt_history.proofs.BesideLemmas.{AreHonest, all_honest}
use Rattle.ckrt_history.proofs.RanLemmas.{advances, end, is_drive, stages, stop_behind}
use Rattle.ckrt_witness.proofs.beside.keep_once.Goals as goal

pub returns-in-Ok-recover : goal.returns-in-Ok-recover
returns-in-Ok-recover g c = λ honest output_honest file_honest left disk output file.
    let d = g.D.Disk in let o = g.O.Disk in let k = g.K.Disk in
    let opening = c.in-Ok.ensures in
    let e = c.in-Ok-recover.ensures in
    let history = c.in-Ok.history in
    let first = stage o c.args.options.events 0 c.in-Ok-recover.session c.args.output in
    let x = keeping_stage k first history.file history.place in
    let recovered : IsRecovered d c.open_kept.new.disk c.in-Ok-recover.session = record { content = e.exact; view = e.opened; represents = e.represents; disk = e.disk } in
    let ran = c.keep.ensures in
    let last = end c.args.options (Unit {0}) None (2 ^ 64 - 1) x c.keep.result ran in
    let all = stages c.args.options (Unit {0}) None (2 ^ 64 - 1) x c.keep.result ran in
    let goes = advances c.args.options (Unit {0}) None (2 ^ 64 - 1) x c.keep.result ran in
    let drive = is_drive c.args.options (Unit {0}) None (2 ^ 64 - 1) x c.keep.result ran c.open_kept.new.disk last.stage recovered tt honest output_honest in
    let were : AreHonest x = all_honest c.args.options all x last goes (record { disk = honest; output = output_honest; file = file_honest }) in
    let was : d.is_honest c.open_kept.new.disk = e.disk.same.honest were.disk in
    record {
      disk = c.open_kept.new.disk;
      opened = history;
      opening = opening.opening.0;
      synced = opening.opening.1 refl;
      is_opened = opening.opened was were.file;
      durable = opening.durable were.file;
      options = c.args.options;
      input = None;
      first = first;
      output = refl;
      stages = all;
      last = last;
      at = last.stage;
      drive = drive;
      keeps = goes;
      honest = file_honest;
      stop = stop_behind c.args.options all x last left goes disk output file;
    }
