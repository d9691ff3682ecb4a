use Rattle.std.proofs.Common.{sym, ◌∙◌}
use Rattle.ckrt_tables.specs.Records.{id_or_0}
use Rattle.ckrt_tables.proofs.Fields.{id_fits, none_found, some_found}
use Rattle.ckrt_tables.proofs.reading_objects.read_id.Goals as goal

pub returns-then-id-eq0 : goal.returns-then-id-eq0
returns-then-id-eq0 c = λ o rest f e.
    let i = c.byte-id.ensures (id_or_0 o) rest (id_fits o f) e in
    (none_found o f (sym i.0 ∙ c.if-id-eq0.true), i.1)

pub returns-else-id-eq0 : goal.returns-else-id-eq0
returns-else-id-eq0 c = λ o rest f e.
    let i = c.byte-id.ensures (id_or_0 o) rest (id_fits o f) e in
    (some_found o c.byte-id.result c.if-id-eq0.false i.0, i.1)
