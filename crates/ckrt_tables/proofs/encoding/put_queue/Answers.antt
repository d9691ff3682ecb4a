use Rattle.std.proofs.Common.{◌++◌, length, length-append, sym, ap, ◌∙◌, subst}
use Rattle.byteorder.specs.Endian.{little_bytes}
use Rattle.ckrt_tables.specs.Writing.{IsPut}
use Rattle.ckrt_tables.proofs.Puts.{put_next}
use Rattle.ckrt_tables.proofs.encoding.put_queue.Goals as goal

pub returns : goal.returns
returns c =
    let xs = c.args.first.now in
    let ys = c.args.second.now in
    let number = little_bytes 2 (length (xs ++ ys)) in
    put_next c.args.out.now c.args.at number c.put-head.new.out c.put-head.result (xs ++ ys) c.put.new.out c.put.result
    (subst (λ b. IsPut c.args.out.now c.args.at b c.put-head.new.out c.put-head.result) (c.to_le_bytes.ensures ∙ ap (little_bytes 2) (sym (length-append xs ys))) c.put-head.ensures)
    (put_next c.put-head.new.out c.put-head.result xs c.put-middle.new.out c.put-middle.result ys c.put.new.out c.put.result c.put-middle.ensures c.put.ensures)
