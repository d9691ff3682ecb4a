use Rattle.std.proofs.Common.{arith}
use Rattle.ckrt_tables.proofs.Bounds.{encoding_bound}
use Rattle.ckrt_tables.proofs.encoding.encode_tables.Goals as goal

pub put_tables-requires-clause-room : goal.put_tables-requires-clause-room
put_tables-requires-clause-room c =
    let bound = encoding_bound 2 c.args.tables.now c.args.held.now.items c.requires.well_formed c.requires.held in
    omega (arith, bound, c.requires.room)

pub returns-clause-longest : goal.returns-clause-longest
returns-clause-longest c =
    let bound = encoding_bound 2 c.args.tables.now c.args.held.now.items c.requires.well_formed c.requires.held in
    omega (arith, bound, c.put_tables.ensures.size)
