use Rattle.std.proofs.Common.{arith}
use Rattle.ckrt_tables.proofs.Bounds.{encoding_size}
use Rattle.ckrt_tables.proofs.encoding.most_bytes.Goals as goal

pub returns : goal.returns
returns c = λ version.
    let size = encoding_size version c.args.tables.now c.args.held.now.items c.requires.well_formed in
    omega (arith, size, c.thread_count.ensures.count, c.wait_count.ensures.count, c.count-mutexes.ensures, c.count.ensures, c.count-2.ensures, c.len.ensures.len, c.len-2.ensures)
