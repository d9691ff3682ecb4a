use Rattle.std.proofs.Common.{sym, refl}
use Rattle.ckrt_mutex.specs.declared.records.Kind.TheVariants.{Normal}
use Rattle.ckrt_mutex.specs.Mutex.{free, is_proper}
use Rattle.ckrt_objects.proofs.AddressMap.{lookup_all}
use Rattle.ckrt_mutex.proofs.Kept.{mutex_kept}
use Rattle.ckrt_mutex.proofs.mutexes.Mutexes.mutex.Goals as goal

pub returns-clause-mutex : goal.returns-clause-mutex
returns-clause-mutex c = rw (c.mutex_of.ensures, c.as_slice.ensures.value, ← c.self.view_is) (sym (mutex_kept c.args.address c.self.inside.table.items c.self.invariant))

pub returns-clause-proper : goal.returns-clause-proper
returns-clause-proper c =
    rw (c.mutex_of.ensures, c.as_slice.ensures.value) (lookup_all is_proper c.args.address c.self.inside.table.items (free Normal) c.self.invariant.proper refl)
