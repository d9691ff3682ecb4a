use Rattle.std.proofs.Common.{ap, ◌∙◌, eqb}
use Rattle.ckrt_tables.specs.Records.{flag}
use Rattle.ckrt_tables.proofs.StatusRead.{closed_found}
use Rattle.ckrt_tables.proofs.ThreadsRead.{flag_fits}
use Rattle.ckrt_tables.proofs.reading.read_mark.Goals as goal

pub returns : goal.returns
returns c = λ b rest f e.
    let n = c.byte.ensures (flag 1 b) rest (flag_fits b) e in
    (ap (λ k. eqb k 1) n.0 ∙ closed_found b, n.1)
