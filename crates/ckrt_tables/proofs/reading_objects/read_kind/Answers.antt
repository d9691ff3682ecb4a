use Rattle.std.proofs.Common.{◌≡◌, rules, ap, ◌∙◌, unwrap_or}
use Rattle.ckrt_mutex.specs.declared.records.Kind.TheVariants as kind
use Rattle.ckrt_mutex.specs.Rows.{kind_of}
use Rattle.ckrt_tables.specs.Records.{mutex_kind_number}
use Rattle.ckrt_tables.proofs.Fields.{kind_fits, kind_found}
use Rattle.ckrt_tables.proofs.reading_objects.read_kind.Goals as goal

pub returns : goal.returns
returns c = λ k rest f e.
    let i = c.byte-number.ensures (mutex_kind_number k) rest (kind_fits k) e in
    let named : c.unwrap_or.result ≡ unwrap_or (kind_of c.byte-number.result) kind.Normal = search rules in
    (named ∙ ap (λ n. unwrap_or (kind_of n) kind.Normal) i.0 ∙ kind_found k, i.1)
