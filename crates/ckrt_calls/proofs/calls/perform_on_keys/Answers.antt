use Rattle.std.proofs.Common.{refl}
use Rattle.ckrt_calls.proofs.calls.perform_on_keys.Goals as goal

pub returns-in-Delete-clause-tables : goal.returns-in-Delete-clause-tables
returns-in-Delete-clause-tables c = rw (c.key_delete.ensures.threads, c.get-a.ensures, c.in-Delete.is) refl
