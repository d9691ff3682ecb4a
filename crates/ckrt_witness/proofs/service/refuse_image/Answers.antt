use Rattle.std.proofs.Common.{rules, ◌≡◌, [], Err, refl, sym, subst}
use Rattle.std.specs.Prelude.{◌≢◌}
use Rattle.ckrt_main.specs.Service.{IsStartFault}
use Rattle.ckrt_main.specs.declared.fault.ServeFault.TheVariants.{Format}
use Rattle.ckrt_witness.proofs.service.refuse_image.Goals as goal

pub returns : goal.returns
returns c = λ _.
    let e = c.in-Err-Format.ensures in
    let is = c.in-Err-Format.field-0-is in
    let start = subst IsStartFault (sym is) tt in
    let got : c.serve_image.result ≡ Err Format = search rules in
    let some : c.args.lines.now ≢ [] = search rules in
    record {
      refused = c.serve_image.ensures.format.0 got;
      fault = Format;
      start = tt;
      lines = c.args.lines.now;
      some_lines = some;
      text = c.serve_image.new.writer.items;
      left = c.serve_image.new.reader.now;
      part = rw c.new-writer.ensures.items at e.processed;
      unread = rw (e.unread start) refl;
      unwritten = rw (e.unwritten start) c.new-writer.ensures.items;
    }
