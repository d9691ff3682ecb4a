use Rattle.ckrt_stored.proofs.FieldlessLemmas.{fieldless_free}
use Rattle.ckrt_stored.proofs.laws.fieldless_bytes_are_free.Goals as goal

pub returns : goal.returns
returns c = fieldless_free
